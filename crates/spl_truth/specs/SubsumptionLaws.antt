-- Laws with their proofs, not definitions that a reader must believe: a clause whose parts are contained in those of another
-- one subsumes it.
use Rattle.std.proofs.Common.{◌≡◌, ℕ, zero, suc, ◌+◌, ◌<◌, Bool, true, false, if◌then◌else◌, List, [], ◌∷◌, length, take, Option, Some, None, refl, sym, ap, ◌∙◌, subst, arith}
use Rattle.std.specs.Prelude.{IsSomeAnd, count_by, nat_le}
use Rattle.std.specs.List.{slice_get, list_all}
use Rattle.std.proofs.lemmas.Bool.{le-leb, leb-true, and_parts, and_from}
use Rattle.std.proofs.lemmas.List.Sums.{sum_by-cons}
use Rattle.spl_terms.specs.declared.term.Term.{Term, Var}
use Rattle.spl_terms.specs.declared.atom.Atom.{Atom}
use Rattle.spl_terms.specs.declared.clause.Part.{Part}
use Rattle.spl_terms.specs.declared.clause.Part.TheVariants.{Constraint, Antecedent, Succedent}
use Rattle.spl_terms.specs.declared.clause.Clause.{Clause}
use Rattle.spl_terms.specs.Clauses.{is_same, replace_in_atom, part_of}
use Rattle.spl_terms.specs.InOrderLaws.{replace_in_atom-itself}
use Rattle.spl_terms.specs.SameLaws.{same_self, same_turned, same_joined}
use Rattle.spl_truth.specs.Redundancy.{MapsApart, Subsumes, is_contained, is_subclause}
use Rattle.std.proofs.lemmas.Option.{none-some, same_Some, slice_get_within}
use Rattle.spl_terms.specs.ListLaws.{get-there}
use Rattle.spl_terms.specs.BoolLaws.{equally}

-- ---- each variable replaced by itself

abbrev itself : ℕ → Term
itself v = Var v

same_tests : (a b x : Atom) → is_same a b ≡ true → is_same a x ≡ is_same b x
same_tests a b x e = equally (is_same a x) (is_same b x) (λ h. same_joined b a x (same_turned a b e) h) (λ h. same_joined a b x e h)

-- ---- counting

abbrev count : Atom → List Atom → ℕ
count a [] = 0
count a (b ∷ bs) = if is_same a b then suc (count a bs) else count a bs

one_more : (t : Bool) (n : ℕ) → (if t then 1 else 0) + n ≡ (if t then suc n else n)
one_more true n = omega arith
one_more false n = omega arith

counted : (a : Atom) (bs : List Atom) → count_by (is_same a) bs ≡ count a bs
counted a [] = refl
counted a (b ∷ bs) = sum_by-cons (λ x. if is_same a x then 1 else 0) b bs ∙ ap (λ n. (if is_same a b then 1 else 0) + n) (counted a bs) ∙ one_more (is_same a b) (count a bs)

count_same : (a b : Atom) (xs : List Atom) → is_same a b ≡ true → count a xs ≡ count b xs
count_same a b [] e = refl
count_same a b (x ∷ xs) e =
    ap (λ t. if t then suc (count a xs) else count a xs) (same_tests a b x e)
    ∙ ap (λ n. if is_same b x then suc n else n) (count_same a b xs e)

by_test : (P : ℕ → Type 0) (t : Bool) (x y : ℕ) → (t ≡ true → P x) → (t ≡ false → P y) → P (if t then x else y)
by_test P true x y h k = h refl
by_test P false x y h k = k refl

-- an atom that is the same as one at the place k counts after it
more_after : (b : Atom) (xs : List Atom) (k l : ℕ) (a : Atom) → slice_get xs k ≡ Some a → is_same b a ≡ true → k < l → count b (take k xs) < count b (take l xs)
more_after b [] k l a e s h = absurd (none-some a e)
more_after b (x ∷ xs) k zero a e s h = absurd (omega (arith, h))
more_after b (x ∷ xs) zero (suc l) a e s h =
    let here : is_same b x ≡ true = subst (λ y. is_same b y ≡ true) (sym (same_Some x a e)) s in
    omega (arith, ap (λ u. if u then (suc (count b (take l xs))) else (count b (take l xs))) here)
more_after b (x ∷ xs) (suc k) (suc l) a e s h =
    let more = more_after b xs k l a e s (omega (arith, h)) in
    step (is_same b x) more
  where
    step : (t : Bool) → count b (take k xs) < count b (take l xs) → (if t then suc (count b (take k xs)) else count b (take k xs)) < (if t then suc (count b (take l xs)) else count b (take l xs))
    step true more = omega (arith, more)
    step false more = more

taken_whole : (xs : List Atom) → take (length xs) xs ≡ xs
taken_whole [] = refl
taken_whole (x ∷ xs) = ap (λ ys. x ∷ ys) (taken_whole xs)

-- ---- the place of the atom that has so many same ones before it

place_of : ℕ → Atom → List Atom → ℕ
place_of r a [] = 0
place_of zero a (b ∷ bs) = if is_same a b then 0 else suc (place_of zero a bs)
place_of (suc r) a (b ∷ bs) = if is_same a b then suc (place_of r a bs) else suc (place_of (suc r) a bs)

record IsPlace (r : ℕ) (a : Atom) (bs : List Atom) (p : ℕ) : Type 0 where
  pub b : Atom
  pub found : slice_get bs p ≡ Some b
  pub same : is_same a b ≡ true
  pub before : count a (take p bs) ≡ r

passed : (r : ℕ) (a b : Atom) (bs : List Atom) (p : ℕ) → is_same a b ≡ false → IsPlace r a bs p → IsPlace r a (b ∷ bs) (suc p)
passed r a b bs p e w = record { b = w.b; found = w.found; same = w.same; before = ap (λ u. if u then (suc (count a (take p bs))) else (count a (take p bs))) e ∙ w.before }

counted_one : (r : ℕ) (a b : Atom) (bs : List Atom) (p : ℕ) → is_same a b ≡ true → IsPlace r a bs p → IsPlace (suc r) a (b ∷ bs) (suc p)
counted_one r a b bs p e w = record { b = w.b; found = w.found; same = w.same; before = ap (λ u. if u then (suc (count a (take p bs))) else (count a (take p bs))) e ∙ ap suc w.before }

is_place : (r : ℕ) (a : Atom) (bs : List Atom) → r < count a bs → IsPlace r a bs (place_of r a bs)
unfolding place_of
is_place r a [] h = absurd (omega (arith, h))
is_place zero a (b ∷ bs) h =
    by_test (IsPlace zero a (b ∷ bs)) (is_same a b) 0 (suc (place_of zero a bs))
    (λ e. record { b = b; found = refl; same = e; before = refl })
    (λ e. passed zero a b bs (place_of zero a bs) e (is_place zero a bs (omega (arith, h, ap (λ u. if u then (suc (count a bs)) else (count a bs)) e))))
is_place (suc r) a (b ∷ bs) h =
    by_test (IsPlace (suc r) a (b ∷ bs)) (is_same a b) (suc (place_of r a bs)) (suc (place_of (suc r) a bs))
    (λ e. counted_one r a b bs (place_of r a bs) e (is_place r a bs (omega (arith, h, ap (λ u. if u then (suc (count a bs)) else (count a bs)) e))))
    (λ e. passed (suc r) a b bs (place_of (suc r) a bs) e (is_place (suc r) a bs (omega (arith, h, ap (λ u. if u then (suc (count a bs)) else (count a bs)) e))))

-- ---- a list that is contained maps into the other one

place_for : List Atom → List Atom → ℕ → Option Atom → ℕ
place_for as' bs k (Some a) = place_of (count a (take k as')) a bs
place_for as' bs k None = 0

all_at : (p : Atom → Bool) (xs : List Atom) (k : ℕ) (a : Atom) → list_all p xs ≡ true → slice_get xs k ≡ Some a → p a ≡ true
all_at p [] k a e h = absurd (none-some a h)
all_at p (x ∷ xs) zero a e h = subst (λ y. p y ≡ true) (same_Some x a h) (and_parts _ _ e).0
all_at p (x ∷ xs) (suc k) a e h = all_at p xs k a (and_parts _ _ e).1 h

placed : (as' bs : List Atom) (k : ℕ) (a : Atom) → is_contained as' bs ≡ true → slice_get as' k ≡ Some a → IsPlace (count a (take k as')) a bs (place_of (count a (take k as')) a bs)
placed as' bs k a e h =
    let le = leb-true _ _ (all_at (λ a. nat_le (count_by (is_same a) as') (count_by (is_same a) bs)) as' k a e h) in
    let some = more_after a as' k (length as') a h (same_self a) (slice_get_within as' k a h) in
    is_place (count a (take k as')) a bs (omega (arith, le, counted a as', counted a bs, some, ap (count a) (taken_whole as')))

-- two atoms at the same place there stand at the same place here
one_place : (as' bs : List Atom) (k l : ℕ) (a b : Atom) → is_contained as' bs ≡ true → slice_get as' k ≡ Some a → slice_get as' l ≡ Some b → place_of (count a (take k as')) a bs ≡ place_of (count b (take l as')) b bs → k < l → ⊥
one_place as' bs k l a b e h i same less =
    let w = placed as' bs k a e h in
    let v = placed as' bs l b e i in
    let atoms : w.b ≡ v.b = same_Some w.b v.b (sym w.found ∙ ap (slice_get bs) same ∙ v.found) in
    let alike : is_same b a ≡ true = same_joined b v.b a v.same (subst (λ x. is_same x a ≡ true) atoms (same_turned a w.b w.same)) in
    let more = more_after b as' k l a h alike less in
    let one : count b (take k as') ≡ count a (take k as') = count_same b a (take k as') alike in
    let two : count b (take (place_of (count a (take k as')) a bs) bs) ≡ count a (take (place_of (count a (take k as')) a bs) bs) = count_same b a (take (place_of (count a (take k as')) a bs) bs) alike in
    omega (arith, more, one, two, w.before, v.before, ap (λ p. count b (take p bs)) same)

some_there : {A : Type 0} (P : A → Type 0) (o : Option A) (a : A) → o ≡ Some a → P a → IsSomeAnd o P
some_there P o a e h = subst (λ o. IsSomeAnd o P) (sym e) h

in_order_or : (k l : ℕ) → (k < l → ⊥) → (l < k → ⊥) → k ≡ l
in_order_or k l h i = omega (arith, h, i)

contained_maps : (as' bs : List Atom) → is_contained as' bs ≡ true → MapsApart itself as' bs
unfolding place_for
contained_maps as' bs e = record {
  place = λ k. place_for as' bs k (slice_get as' k);
  same = λ k a h.
      let w = placed as' bs k a e h in
      some_there (λ b. is_same (replace_in_atom itself a) b ≡ true) (slice_get bs (place_for as' bs k (slice_get as' k))) w.b (ap (λ o. slice_get bs (place_for as' bs k o)) h ∙ w.found) (subst (λ x. is_same x w.b ≡ true) (sym (replace_in_atom-itself a)) w.same);
  apart = λ k l hk hl same.
      let ak = get-there as' k hk in
      let al = get-there as' l hl in
      let is = sym (ap (place_for as' bs k) ak.1) ∙ same ∙ ap (place_for as' bs l) al.1 in
      in_order_or k l (one_place as' bs k l ak.0 al.0 e ak.1 al.1 is) (one_place as' bs l k al.0 ak.0 e al.1 ak.1 (sym is));
}

pub subclause_subsumes : (c d : Clause) → is_subclause c d ≡ true → Subsumes c d
subclause_subsumes c d e = record { by = itself; each = parts }
  where
    parts : (part : Part) → MapsApart itself (part_of c part) (part_of d part)
    parts Constraint = contained_maps c.constraint d.constraint (and_parts _ _ (and_parts _ _ e).0).0
    parts Antecedent = contained_maps c.antecedent d.antecedent (and_parts _ _ (and_parts _ _ e).0).1
    parts Succedent = contained_maps c.succedent d.succedent (and_parts _ _ e).1

-- ---- a clause is its own subclause

all_of : (p : Atom → Bool) → ((a : Atom) → p a ≡ true) → (xs : List Atom) → list_all p xs ≡ true
all_of p h [] = refl
all_of p h (x ∷ xs) = and_from _ _ (h x) (all_of p h xs)

contained_self : (xs : List Atom) → is_contained xs xs ≡ true
contained_self xs = all_of (λ a. nat_le (count_by (is_same a) xs) (count_by (is_same a) xs)) (λ a. le-leb (count_by (is_same a) xs) (count_by (is_same a) xs) (omega arith)) xs

subclause_self : (c : Clause) → is_subclause c c ≡ true
subclause_self c = and_from _ _ (and_from _ _ (contained_self c.constraint) (contained_self c.antecedent)) (contained_self c.succedent)

pub equal_subclause : (c d : Clause) → c ≡ d → is_subclause c d ≡ true
equal_subclause c d e = subst (λ x. is_subclause c x ≡ true) e (subclause_self c)

pub subsumes_itself : (c : Clause) → Subsumes c c
subsumes_itself c = subclause_subsumes c c (subclause_self c)
