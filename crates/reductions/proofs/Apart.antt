-- Atoms that are mapped apart: one mapping after another, an atom that changes, and what subsumes a clause in which its atoms
-- stand.
use Rattle.std.proofs.Common.{◌≡◌, ◌⊎◌, inl, inr, ℕ, zero, suc, ◌<◌, Bool, true, false, if◌then◌else◌, List, [], ◌∷◌, length, map, Option, Some, None, refl, sym, ap, subst, ◌∙◌, arith}
use Rattle.std.specs.Prelude.{slice_get, slice_index, option_map, IsSomeAnd}
use Rattle.std.proofs.lemmas.Bool.{false≢true, or_cases}
use Rattle.std.proofs.lemmas.Option.{none-some, same_Some, slice_get-map, slice_get_within}
use Rattle.spl_terms.specs.declared.term.Term.{Term, Var}
use Rattle.spl_terms.specs.declared.atom.Atom.{Atom}
use Rattle.spl_terms.specs.declared.clause.Part.{Part}
use Rattle.spl_terms.specs.declared.clause.Part.TheVariants.{Constraint, Antecedent, Succedent}
use Rattle.spl_terms.specs.declared.clause.Clause.{Clause}
use Rattle.spl_terms.specs.Terms.{replace}
use Rattle.spl_terms.specs.Clauses.{at_lists, clause_variables, distinct, firsts, in_order, is_same, part_of, renumbered, replace_in, replace_in_atom}
use Rattle.spl_terms.specs.InOrder.{are_different}
use Rattle.spl_terms.specs.InOrderLaws.{distinct-different, renumbered-undone}
use Rattle.spl_terms.specs.ListLaws.{get-there}
use Rattle.spl_terms.specs.SameLaws.{same_self, same_turned, same_joined, same-replace}
use Rattle.spl_truth.specs.InstanceLaws.{atom-replace-replace}
use Rattle.spl_truth.specs.MappingLaws.{different-at}
use Rattle.spl_truth.specs.Redundancy.{Maps, MapsApart, Subsumes}
use Rattle.proof_steps.specs.Spots.{changed_at}
use Rattle.proof_steps.specs.StepLaws.{some_and}
use Rattle.reductions.proofs.Members.{among, among_at, among_each, among_distinct}

-- ---- an atom of a list

-- the target has an atom there that is the same
abbrev HasSame : Atom → Option Atom → Type 0
HasSame a o = IsSomeAnd o (λ b. is_same a b ≡ true)

same_there : (a b : Atom) (o : Option Atom) → o ≡ Some b → is_same a b ≡ true → HasSame a o
same_there a b o is e = subst (HasSame a) (sym is) e

module _ {g : ℕ → Term} {xs ys : List Atom} (m : MapsApart g xs ys) where
  image_at : (k : ℕ) (a : Atom) → slice_get xs k ≡ Some a → (b : Atom) × (slice_get ys (m.place k) ≡ Some b) × (is_same (replace_in_atom g a) b ≡ true)
  image_at k a is = some_and (slice_get ys (m.place k)) (λ b. is_same (replace_in_atom g a) b ≡ true) (m.same k a is)

  image_within : (k : ℕ) → k < length xs → m.place k < length ys
  image_within k low = (let a = get-there xs k low in let b = image_at k a.0 a.1 in slice_get_within ys (m.place k) b.0 b.1)

-- ---- one after another

pub apart_joined : (g h : ℕ → Term) (xs ys zs : List Atom) → MapsApart g xs ys → MapsApart h ys zs → MapsApart (λ v. replace h (g v)) xs zs
apart_joined g h xs ys zs m n = record {
  place = λ k. n.place (m.place k);
  same = λ k a is.
      let x = image_at m k a is in
      let y = image_at n (m.place k) x.0 x.1 in
      let first : is_same (replace_in_atom (λ v. replace h (g v)) a) (replace_in_atom h x.0) ≡ true = ap (λ z. is_same z (replace_in_atom h x.0)) (sym (atom-replace-replace h g a)) ∙ same-replace h (replace_in_atom g a) x.0 x.2 in
      same_there (replace_in_atom (λ v. replace h (g v)) a) y.0 (slice_get zs (n.place (m.place k))) y.1 (same_joined (replace_in_atom (λ v. replace h (g v)) a) (replace_in_atom h x.0) y.0 first y.2);
  apart = λ k l low other e. m.apart k l low other (n.apart (m.place k) (m.place l) (image_within m k low) (image_within m l other) e);
}

pub subsumes_joined : (c d e : Clause) → Subsumes c d → Subsumes d e → Subsumes c e
subsumes_joined c d e s t = record { by = λ v. replace t.by (s.by v); each = λ p. apart_joined s.by t.by (part_of c p) (part_of d p) (part_of e p) (s.each p) (t.each p) }

-- ---- an atom changes

decide : (m n : ℕ) → (m ≡ n) ⊎ (m ≡ n → ⊥)
decide zero zero = inl refl
decide zero (suc n) = inr (λ e. omega (arith, e))
decide (suc m) zero = inr (λ e. omega (arith, e))
decide (suc m) (suc n) = elim (decide m n) [ inl e ↦ inl (ap suc e) | inr other ↦ inr (λ e. other (omega (arith, e))) ]

get_changed : {A : Type 0} (k : ℕ) (f : A → A) (xs : List A) (x : A) → slice_get xs k ≡ Some x → slice_get (changed_at k f xs) k ≡ Some (f x)
get_changed k f [] x is = absurd (none-some x is)
get_changed zero f (y ∷ xs) x is = ap (λ z. Some (f z)) (same_Some y x is)
get_changed (suc k) f (y ∷ xs) x is = get_changed k f xs x is

get_unchanged : {A : Type 0} (k m : ℕ) (f : A → A) (xs : List A) → (m ≡ k → ⊥) → slice_get (changed_at k f xs) m ≡ slice_get xs m
get_unchanged k m f [] other = refl
get_unchanged zero zero f (x ∷ xs) other = absurd (other refl)
get_unchanged zero (suc m) f (x ∷ xs) other = refl
get_unchanged (suc k) zero f (x ∷ xs) other = refl
get_unchanged (suc k) (suc m) f (x ∷ xs) other = get_unchanged k m f xs (λ e. other (ap suc e))

length-changed : {A : Type 0} (k : ℕ) (f : A → A) (xs : List A) → length (changed_at k f xs) ≡ length xs
length-changed k f [] = refl
length-changed zero f (x ∷ xs) = refl
length-changed (suc k) f (x ∷ xs) = ap suc (length-changed k f xs)

-- an atom and one that is the same as its image are both changed, so that they are still the same
module _ (g : ℕ → Term) (xs ys : List Atom) (k j : ℕ) (a b : Atom) (f f' : Atom → Atom)
    (here : slice_get xs k ≡ Some a) (there : slice_get ys j ≡ Some b) (same : is_same (replace_in_atom g a) b ≡ true) (still : is_same (replace_in_atom g (f a)) (f' b) ≡ true)
    (m : MapsApart g xs ys) where
  -- the atom goes to this place, and the one that went there goes where the atom went before
  pick : (l : ℕ) → (l ≡ k) ⊎ (l ≡ k → ⊥) → (m.place l ≡ j) ⊎ (m.place l ≡ j → ⊥) → ℕ
  pick l (inl e) d = j
  pick l (inr other) (inl e) = m.place k
  pick l (inr other) (inr away) = m.place l

  k_low : k < length xs
  k_low = slice_get_within xs k a here

  pick_same : (l : ℕ) (c : (l ≡ k) ⊎ (l ≡ k → ⊥)) (d : (m.place l ≡ j) ⊎ (m.place l ≡ j → ⊥)) (x : Atom) → slice_get (changed_at k f xs) l ≡ Some x → HasSame (replace_in_atom g x) (slice_get (changed_at j f' ys) (pick l c d))
  unfolding pick
  pick_same l (inl e) d x is =
      let now : f a ≡ x = same_Some (f a) x (sym (get_changed k f xs a here) ∙ ap (slice_get (changed_at k f xs)) (sym e) ∙ is) in
      same_there (replace_in_atom g x) (f' b) (slice_get (changed_at j f' ys) j) (get_changed j f' ys b there) (subst (λ y. is_same (replace_in_atom g y) (f' b) ≡ true) now still)
  pick_same l (inr other) (inl e) x is =
      let before : slice_get xs l ≡ Some x = sym (get_unchanged k l f xs other) ∙ is in
      let y = image_at m l x before in
      let z = image_at m k a here in
      let free : m.place k ≡ j → ⊥ = λ q. other (m.apart l k (slice_get_within xs l x before) k_low (e ∙ sym q)) in
      let one : y.0 ≡ b = same_Some y.0 b (sym y.1 ∙ ap (slice_get ys) e ∙ there) in
      let joined : is_same (replace_in_atom g x) (replace_in_atom g a) ≡ true = same_joined (replace_in_atom g x) b (replace_in_atom g a) (subst (λ w. is_same (replace_in_atom g x) w ≡ true) one y.2) (same_turned (replace_in_atom g a) b same) in
      same_there (replace_in_atom g x) z.0 (slice_get (changed_at j f' ys) (m.place k)) (get_unchanged j (m.place k) f' ys free ∙ z.1) (same_joined (replace_in_atom g x) (replace_in_atom g a) z.0 joined z.2)
  pick_same l (inr other) (inr away) x is =
      let y = image_at m l x (sym (get_unchanged k l f xs other) ∙ is) in
      same_there (replace_in_atom g x) y.0 (slice_get (changed_at j f' ys) (m.place l)) (get_unchanged j (m.place l) f' ys away ∙ y.1) y.2

  pick_apart : (l n : ℕ) (c : (l ≡ k) ⊎ (l ≡ k → ⊥)) (d : (m.place l ≡ j) ⊎ (m.place l ≡ j → ⊥)) (c' : (n ≡ k) ⊎ (n ≡ k → ⊥)) (d' : (m.place n ≡ j) ⊎ (m.place n ≡ j → ⊥)) → l < length xs → n < length xs → pick l c d ≡ pick n c' d' → l ≡ n
  unfolding pick
  pick_apart l n (inl e) d (inl e') d' low low' q = e ∙ sym e'
  pick_apart l n (inl e) d (inr o') (inl p') low low' q = e ∙ m.apart k n k_low low' (sym q ∙ sym p')
  pick_apart l n (inl e) d (inr o') (inr a') low low' q = absurd (a' (sym q))
  pick_apart l n (inr o) (inl p) (inl e') d' low low' q = m.apart l k low k_low (p ∙ sym q) ∙ sym e'
  pick_apart l n (inr o) (inl p) (inr o') (inl p') low low' q = m.apart l n low low' (p ∙ sym p')
  pick_apart l n (inr o) (inl p) (inr o') (inr a') low low' q = absurd (o' (sym (m.apart k n k_low low' q)))
  pick_apart l n (inr o) (inr a') (inl e') d' low low' q = absurd (a' q)
  pick_apart l n (inr o) (inr a') (inr o') (inl p') low low' q = absurd (o (m.apart l k low k_low q))
  pick_apart l n (inr o) (inr a') (inr o') (inr a'') low low' q = m.apart l n low low' q

  pub changed_apart : MapsApart g (changed_at k f xs) (changed_at j f' ys)
  changed_apart = record {
    place = λ l. pick l (decide l k) (decide (m.place l) j);
    same = λ l x is. pick_same l (decide l k) (decide (m.place l) j) x is;
    apart = λ l n low low' q.
        let as_many = length-changed k f xs in
        pick_apart l n (decide l k) (decide (m.place l) j) (decide n k) (decide (m.place n) j) (omega (arith, low, as_many)) (omega (arith, low', as_many)) q;
  }

-- ---- different images

-- the first atom that is the same
first_same : Atom → List Atom → ℕ
first_same a [] = 0
first_same a (x ∷ xs) = if is_same a x then 0 else suc (first_same a xs)

first_same-same : (a : Atom) (xs : List Atom) → among a xs ≡ true → HasSame a (slice_get xs (first_same a xs))
unfolding first_same
first_same-same a [] e = absurd (false≢true e)
first_same-same a (x ∷ xs) e = by_test (is_same a x) refl (first_same-same a xs)
  where
    by_test : (t : Bool) → is_same a x ≡ t → (among a xs ≡ true → HasSame a (slice_get xs (first_same a xs))) → HasSame a (slice_get (x ∷ xs) (if t then 0 else suc (first_same a xs)))
    by_test true q later = q
    by_test false q later = elim (or_cases (is_same a x) (among a xs) e) [
      | inl here ↦ absurd (false≢true (sym q ∙ here))
      | inr there ↦ later there
    ]

compared : (m n : ℕ) → (m < n) ⊎ ((n < m) ⊎ (m ≡ n))
compared zero zero = inr (inr refl)
compared zero (suc n) = inl (omega arith)
compared (suc m) zero = inr (inl (omega arith))
compared (suc m) (suc n) = elim (compared m n) [
  | inl less ↦ inl (omega (arith, less))
  | inr more ↦ elim more [ inl less ↦ inr (inl (omega (arith, less))) | inr e ↦ inr (inr (ap suc e)) ]
]

module _ (h : ℕ → Term) (atoms into : List Atom) (maps : Maps h atoms into) (different : are_different (map (replace_in_atom h) atoms) ≡ true) where
  abbrev image : Atom → Atom
  image = replace_in_atom h

  place_for : Option Atom → ℕ
  place_for None = 0
  place_for (Some a) = first_same (image a) into

  place_same : (k : ℕ) (a : Atom) → slice_get atoms k ≡ Some a → HasSame (image a) (slice_get into (place_for (slice_get atoms k)))
  unfolding place_for
  place_same k a is = subst (λ o. HasSame (image a) (slice_get into (place_for o))) (sym is) (first_same-same (image a) into (maps k a is))

  one_place : (k l : ℕ) → k < l → l < length atoms → place_for (slice_get atoms k) ≡ place_for (slice_get atoms l) → ⊥
  one_place k l less low e =
      let a = get-there atoms k (omega (arith, less, low)) in
      let b = get-there atoms l low in
      let x = some_and (slice_get into (place_for (slice_get atoms k))) (λ y. is_same (image a.0) y ≡ true) (place_same k a.0 a.1) in
      let y = some_and (slice_get into (place_for (slice_get atoms l))) (λ z. is_same (image b.0) z ≡ true) (place_same l b.0 b.1) in
      let one : x.0 ≡ y.0 = same_Some x.0 y.0 (sym x.1 ∙ ap (slice_get into) e ∙ y.1) in
      let same : is_same (image b.0) (image a.0) ≡ true = same_joined (image b.0) y.0 (image a.0) y.2 (ap (λ z. is_same z (image a.0)) (sym one) ∙ same_turned (image a.0) x.0 x.2) in
      false≢true (sym (different-at (map image atoms) k l (image a.0) (image b.0) different less (slice_get-map image atoms k ∙ ap (option_map image) a.1) (slice_get-map image atoms l ∙ ap (option_map image) b.1)) ∙ same)

  -- atoms whose images are different are mapped apart, wherever they are mapped
  pub different_apart : MapsApart h atoms into
  different_apart = record {
    place = λ k. place_for (slice_get atoms k);
    same = place_same;
    apart = λ k l low low' e. elim (compared k l) [
      | inl less ↦ absurd (one_place k l less low' e)
      | inr more ↦ elim more [ inl less ↦ absurd (one_place l k less low (sym e)) | inr same ↦ same ]
    ];
  }

-- ---- a clause whose atoms stand in another one

pub distinct_part : (c : Clause) (p : Part) → part_of (at_lists distinct c) p ≡ distinct (part_of c p)
distinct_part c Constraint = refl
distinct_part c Antecedent = refl
distinct_part c Succedent = refl

pub replaced_part : (h : ℕ → Term) (c : Clause) (p : Part) → part_of (replace_in h c) p ≡ map (replace_in_atom h) (part_of c p)
replaced_part h c Constraint = refl
replaced_part h c Antecedent = refl
replaced_part h c Succedent = refl

-- each atom of the clause is the same as one of that part of the other one
abbrev pub StandsIn : Clause → Clause → Type 0
StandsIn c d = (p : Part) (k : ℕ) (a : Atom) → slice_get (part_of c p) k ≡ Some a → among a (part_of d p) ≡ true

module _ (c d : Clause) (stands : StandsIn c d) where
  abbrev kept : Clause
  kept = at_lists distinct c

  abbrev back : ℕ → Term
  back v = Var (slice_index (firsts (clause_variables kept)) v)

  back_part : (p : Part) → map (replace_in_atom back) (part_of (renumbered kept) p) ≡ part_of kept p
  back_part p = sym (replaced_part back (renumbered kept) p) ∙ ap (λ x. part_of x p) (renumbered-undone kept)

  kept_stands : (p : Part) (a : Atom) → among a (part_of kept p) ≡ true → among a (part_of d p) ≡ true
  kept_stands p a e = among_each a (part_of c p) (part_of d p) (stands p) (sym (among_distinct a (part_of c p)) ∙ ap (among a) (sym (distinct_part c p)) ∙ e)

  back_maps : (p : Part) → Maps back (part_of (renumbered kept) p) (part_of d p)
  back_maps p k a is =
      let there : slice_get (part_of kept p) k ≡ Some (replace_in_atom back a) = ap (λ l. slice_get l k) (sym (back_part p)) ∙ slice_get-map (replace_in_atom back) (part_of (renumbered kept) p) k ∙ ap (option_map (replace_in_atom back)) is in
      kept_stands p (replace_in_atom back a) (among_at (replace_in_atom back a) (replace_in_atom back a) (part_of kept p) k there (same_self (replace_in_atom back a)))

  pub standing_subsumes : Subsumes (in_order c) d
  standing_subsumes = record {
    by = back;
    each = λ p. different_apart back (part_of (renumbered kept) p) (part_of d p) (back_maps p) (ap are_different (back_part p ∙ distinct_part c p) ∙ distinct-different (part_of c p));
  }

pub stands_itself : (c : Clause) → StandsIn c c
stands_itself c p k a is = among_at a a (part_of c p) k is (same_self a)
