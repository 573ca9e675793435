-- Atoms to map, part by part and in any order.
use Rattle.std.proofs.Common.{◌≡◌, ℕ, zero, suc, ◌+◌, ◌-◌, ◌<◌, ◌≤◌, Bool, true, false, ◌==◌, ◌||◌, if◌then◌else◌, List, [], ◌∷◌, ◌++◌, length, Option, Some, None, get_or, set, length-set, refl, sym, ap, subst, ◌∙◌, arith, eq-eqb, length-append}
use Rattle.std.specs.Prelude.{IsSomeAnd, slice_get, nat_lt, IsPermutation, MatchOption}
use Rattle.std.specs.List.{swap, AllByRecursion, flat_map}
use Rattle.std.proofs.Common.{get_or-set_same, get_or-set_other}
use Rattle.std.proofs.lemmas.Bool.{eqb-true, ltb-true, ltb-false, lt-ltb, false≢true}
use Rattle.std.proofs.lemmas.Option.{none-some, same_Some, slice_get_within, slice_get-get_or}
use Rattle.std.proofs.lemmas.List.Elements.{All-from_recursion, recursion_from_All}
use Rattle.std.proofs.lemmas.List.Edits.{swap_is, length-swap}
use Rattle.std.proofs.lemmas.List.Sorted.{IsPermutation-keeps, IsPermutation-sym, All-permutation}
use Rattle.spl_terms.specs.declared.term.Term.{Term}
use Rattle.spl_terms.specs.declared.atom.Atom.{Atom}
use Rattle.spl_terms.specs.declared.clause.Part.TheVariants.{Constraint, Antecedent, Succedent}
use Rattle.spl_terms.specs.declared.clause.Clause.{Clause}
use Rattle.spl_terms.specs.Terms.{term_variables}
use Rattle.spl_terms.specs.Clauses.{atom_terms, atom_variables, is_same, replace_in_atom}
use Rattle.spl_terms.specs.InOrder.{IsInOrder, variables}
use Rattle.spl_terms.specs.InOrderLaws.{variables-below, in_clause}
use Rattle.spl_terms.specs.ListLaws.{get-left, get-right, get-there}
use Rattle.spl_terms.specs.VariableLaws.{has, has-append-left, has-append-right, itself}
use Rattle.spl_truth.specs.Redundancy.{MapsApart, EachPart, Subsumes}
use Rattle.spl_truth.specs.Truth.{entry}
use Rattle.spl_truth.specs.declared.replace.Subst.{Subst}
use Rattle.spl_truth.specs.Unifiers.{HaveVariablesBelow}
use Rattle.subsume.specs.Subsuming.{SubsumesBy}
use Rattle.subsume.specs.Placing.{ToMap, to_map, all_to_map, AreWithin, CanGo, ArePlaced}

-- ---- one part

module _ (g : ℕ → Term) (into : List Atom) (first : ℕ) where
  -- an atom of the list that is to be mapped
  its_atom : (atoms : List Atom) (k : ℕ) (a : ToMap) → slice_get (to_map atoms into first) k ≡ Some a → (x : Atom) × (slice_get atoms k ≡ Some x) × (a ≡ (x, into, first))
  its_atom [] k a e = absurd (none-some a e)
  its_atom (x ∷ atoms) zero a e = (x, refl, sym (same_Some (x, into, first) a e))
  its_atom (x ∷ atoms) (suc k) a e = its_atom atoms k a e

  its_entry : (atoms : List Atom) (k : ℕ) (x : Atom) → slice_get atoms k ≡ Some x → slice_get (to_map atoms into first) k ≡ Some (x, into, first)
  its_entry [] k x e = absurd (none-some x e)
  its_entry (y ∷ atoms) zero x e = ap (λ z. Some (z, into, first)) (same_Some y x e)
  its_entry (y ∷ atoms) (suc k) x e = its_entry atoms k x e

  as_long : (atoms : List Atom) → length (to_map atoms into first) ≡ length atoms
  as_long [] = refl
  as_long (x ∷ atoms) = ap suc (as_long atoms)

  abbrev mapped_placed : (atoms : List Atom) → MapsApart g atoms into → ArePlaced g [] (to_map atoms into first)
  mapped_placed atoms m = record {
    place = λ k. first + m.place k;
    can = λ k a e.
        let t = its_atom atoms k a e in
        let same : first + m.place k - first ≡ m.place k = omega arith in
        subst (λ y. CanGo g y (first + m.place k)) (sym t.2) (omega arith, subst (λ n. IsSomeAnd (slice_get into n) (λ b. is_same (replace_in_atom g t.0) b ≡ true)) (sym same) (m.same k t.0 t.1));
    apart = λ k l hk hl e. m.apart k l (omega (arith, hk, as_long atoms)) (omega (arith, hl, as_long atoms)) (omega (arith, e));
    free = λ k h. refl;
  }

  placed_mapped : (atoms : List Atom) → ArePlaced g [] (to_map atoms into first) → MapsApart g atoms into
  placed_mapped atoms p = record {
    place = λ k. p.place k - first;
    same = λ k x e. (p.can k (x, into, first) (its_entry atoms k x e)).1;
    apart = λ k l hk hl e.
        let low : (n : ℕ) → n < length atoms → first ≤ p.place n = λ n h. let t = get-there atoms n h in (p.can n (t.0, into, first) (its_entry atoms n t.0 t.1)).0 in
        p.apart k l (omega (arith, hk, as_long atoms)) (omega (arith, hl, as_long atoms)) (omega (arith, e, low k hk, low l hl));
  }

  low_place : (atoms : List Atom) (m : MapsApart g atoms into) (k : ℕ) → k < length atoms → m.place k < length into
  low_place atoms m k h =
      let t = get-there atoms k h in
      within (slice_get into (m.place k)) refl (λ b. is_same (replace_in_atom g t.0) b ≡ true) (m.same k t.0 t.1)
    where
      within : (o : Option Atom) → slice_get into (m.place k) ≡ o → (P : Atom → Type 0) → IsSomeAnd o P → m.place k < length into
      within None e P h = absurd h
      within (Some b) e P h = slice_get_within into (m.place k) b e

-- ---- one part after another

-- placed, from one number up to another one
record PlacedBetween (g : ℕ → Term) (atoms : List ToMap) (low high : ℕ) : Type 0 where
  pub placed : ArePlaced g [] atoms
  pub from : (k : ℕ) → k < length atoms → low ≤ placed.place k
  pub upto : (k : ℕ) → k < length atoms → placed.place k < high

part_between : (g : ℕ → Term) (atoms into : List Atom) (first : ℕ) → MapsApart g atoms into → PlacedBetween g (to_map atoms into first) first (first + length into)
part_between g atoms into first m = record {
  placed = mapped_placed g into first atoms m;
  from = λ k h. omega arith;
  upto = λ k h. (let low = low_place g into first atoms m k (omega (arith, h, as_long g into first atoms)) in omega (arith, low));
}

by_order : (P : Type 0) (k n : ℕ) → (k < n → P) → (n ≤ k → P) → P
by_order P k n f h = by_test (nat_lt k n) refl
  where
    by_test : (t : Bool) → nat_lt k n ≡ t → P
    by_test true e = f (ltb-true k n e)
    by_test false e = h (ltb-false k n e)

module _ (g : ℕ → Term) (xs ys : List ToMap) (low mid high : ℕ) (p : PlacedBetween g xs low mid) (q : PlacedBetween g ys mid high) where
  both : ℕ → ℕ
  both k = if nat_lt k (length xs) then p.placed.place k else q.placed.place (k - length xs)

  both_left : (k : ℕ) → k < length xs → both k ≡ p.placed.place k
  unfolding both
  both_left k h = ap (λ b. if b then p.placed.place k else q.placed.place (k - length xs)) (lt-ltb k (length xs) h)

  both_right : (k : ℕ) → length xs ≤ k → both k ≡ q.placed.place (k - length xs)
  unfolding both
  both_right k h = ap (λ b. if b then p.placed.place k else q.placed.place (k - length xs)) (not_low (nat_lt k (length xs)) refl)
    where
      not_low : (b : Bool) → nat_lt k (length xs) ≡ b → nat_lt k (length xs) ≡ false
      not_low true e = absurd (let less = ltb-true k (length xs) e in omega (arith, less, h))
      not_low false e = e

  whole : length (xs ++ ys) ≡ length xs + length ys
  whole = length-append xs ys

  both_can : (k : ℕ) (a : ToMap) → slice_get (xs ++ ys) k ≡ Some a → CanGo g a (both k)
  both_can k a e = by_order (CanGo g a (both k)) k (length xs)
      (λ h. subst (CanGo g a) (sym (both_left k h)) (p.placed.can k a (sym (get-left xs ys k h) ∙ e)))
      (λ h.
      let at : length xs + (k - length xs) ≡ k = omega (arith, h) in
      subst (CanGo g a) (sym (both_right k h)) (q.placed.can (k - length xs) a (sym (ap (slice_get (xs ++ ys)) (sym at) ∙ get-right xs ys (k - length xs)) ∙ e)))

  both_apart : (k l : ℕ) → k < length (xs ++ ys) → l < length (xs ++ ys) → both k ≡ both l → k ≡ l
  both_apart k l hk hl e = by_order (k ≡ l) k (length xs)
      (λ a. by_order (k ≡ l) l (length xs)
      (λ b. p.placed.apart k l a b (sym (both_left k a) ∙ e ∙ both_left l b))
      (λ b. absurd (omega (arith, both_left k a, both_right l b, e, p.upto k a, q.from (l - length xs) (omega (arith, b, hl, whole))))))
      (λ a. by_order (k ≡ l) l (length xs)
      (λ b. absurd (omega (arith, both_left l b, both_right k a, e, p.upto l b, q.from (k - length xs) (omega (arith, a, hk, whole)))))
      (λ b. let same = q.placed.apart (k - length xs) (l - length xs) (omega (arith, a, hk, whole)) (omega (arith, b, hl, whole)) (sym (both_right k a) ∙ e ∙ both_right l b) in omega (arith, same, a, b)))

  joined : low ≤ mid → mid ≤ high → PlacedBetween g (xs ++ ys) low high
  joined one two = record {
    placed = record { place = both; can = both_can; apart = both_apart; free = λ k h. refl };
    from = λ k h. by_order (low ≤ both k) k (length xs)
        (λ a. omega (arith, both_left k a, p.from k a))
        (λ a. omega (arith, both_right k a, one, q.from (k - length xs) (omega (arith, a, h, whole))));
    upto = λ k h. by_order (both k < high) k (length xs)
        (λ a. omega (arith, both_left k a, two, p.upto k a))
        (λ a. omega (arith, both_right k a, q.upto (k - length xs) (omega (arith, a, h, whole))));
  }

pub subsumes_placed : (g : ℕ → Term) (c d : Clause) → EachPart (MapsApart g) c d → ArePlaced g [] (all_to_map c d)
subsumes_placed g c d m =
    let n = length d.constraint in
    let x = part_between g c.constraint d.constraint 0 (m Constraint) in
    let y = part_between g c.antecedent d.antecedent n (m Antecedent) in
    let z = part_between g c.succedent d.succedent (n + length d.antecedent) (m Succedent) in
    let zero_more : 0 + n ≡ n = omega arith in
    let x' : PlacedBetween g (to_map c.constraint d.constraint 0) 0 n = subst (PlacedBetween g (to_map c.constraint d.constraint 0) 0) zero_more x in
    let w = joined g (to_map c.constraint d.constraint 0) (to_map c.antecedent d.antecedent n) 0 n (n + length d.antecedent) x' y (omega arith) (omega arith) in
    (joined g (to_map c.constraint d.constraint 0 ++ to_map c.antecedent d.antecedent n) (to_map c.succedent d.succedent (n + length d.antecedent)) 0 (n + length d.antecedent) (n + length d.antecedent + length d.succedent) w z (omega arith) (omega arith)).placed

-- ---- back to the parts

placed_left : (g : ℕ → Term) (xs ys : List ToMap) → ArePlaced g [] (xs ++ ys) → ArePlaced g [] xs
placed_left g xs ys p = record {
  place = p.place;
  can = λ k a e. p.can k a (get-left xs ys k (slice_get_within xs k a e) ∙ e);
  apart = λ k l hk hl e. p.apart k l (omega (arith, hk, length-append xs ys)) (omega (arith, hl, length-append xs ys)) e;
  free = λ k h. refl;
}

placed_right : (g : ℕ → Term) (xs ys : List ToMap) → ArePlaced g [] (xs ++ ys) → ArePlaced g [] ys
placed_right g xs ys p = record {
  place = λ k. p.place (length xs + k);
  can = λ k a e. p.can (length xs + k) a (get-right xs ys k ∙ e);
  apart = λ k l hk hl e. (let same = p.apart (length xs + k) (length xs + l) (omega (arith, hk, length-append xs ys)) (omega (arith, hl, length-append xs ys)) e in omega (arith, same));
  free = λ k h. refl;
}

pub placed_subsumes : (g : ℕ → Term) (c d : Clause) → ArePlaced g [] (all_to_map c d) → EachPart (MapsApart g) c d
placed_subsumes g c d p = parts
  where
    x : List ToMap
    x = to_map c.constraint d.constraint 0

    y : List ToMap
    y = to_map c.antecedent d.antecedent (length d.constraint)

    z : List ToMap
    z = to_map c.succedent d.succedent (length d.constraint + length d.antecedent)

    parts : EachPart (MapsApart g) c d
    parts Constraint = placed_mapped g d.constraint 0 c.constraint (placed_left g x y (placed_left g (x ++ y) z p))
    parts Antecedent = placed_mapped g d.antecedent (length d.constraint) c.antecedent (placed_right g x y (placed_left g (x ++ y) z p))
    parts Succedent = placed_mapped g d.succedent (length d.constraint + length d.antecedent) c.succedent (placed_right g (x ++ y) z p)

-- ---- in another order

-- where the atom at a place stood before two of them were exchanged
abbrev stood : ℕ → ℕ → ℕ → ℕ
stood i j k = if k == j then i else if k == i then j else k

by_equal : (P : Type 0) (k n : ℕ) → (k ≡ n → P) → ((k ≡ n → ⊥) → P) → P
by_equal P k n f h = by_test (k == n) refl
  where
    by_test : (t : Bool) → (k == n) ≡ t → P
    by_test true e = f (eqb-true k n e)
    by_test false e = h (λ s. false≢true (sym e ∙ eq-eqb k n s))

eqb_not : (k n : ℕ) → (k ≡ n → ⊥) → (k == n) ≡ false
eqb_not k n other = by_test (k == n) refl
  where
    by_test : (t : Bool) → (k == n) ≡ t → (k == n) ≡ false
    by_test true e = absurd (other (eqb-true k n e))
    by_test false e = e

stood_last : (i j k : ℕ) → k ≡ j → stood i j k ≡ i
stood_last i j k e = ap (λ b. if b then i else if k == i then j else k) (eq-eqb k j e)

stood_first : (i j k : ℕ) → (k ≡ j → ⊥) → k ≡ i → stood i j k ≡ j
stood_first i j k o e = ap (λ b. if b then i else if k == i then j else k) (eqb_not k j o) ∙ ap (λ b. if b then j else k) (eq-eqb k i e)

stood_other : (i j k : ℕ) → (k ≡ j → ⊥) → (k ≡ i → ⊥) → stood i j k ≡ k
stood_other i j k o p = ap (λ b. if b then i else if k == i then j else k) (eqb_not k j o) ∙ ap (λ b. if b then j else k) (eqb_not k i p)

-- where the atom at a place stands: each of three cases
by_case : (P : Type 0) (i j k : ℕ) → (k ≡ j → stood i j k ≡ i → P) → ((k ≡ j → ⊥) → k ≡ i → stood i j k ≡ j → P) → ((k ≡ j → ⊥) → (k ≡ i → ⊥) → stood i j k ≡ k → P) → P
by_case P i j k a b c = by_equal P k j (λ e. a e (stood_last i j k e)) (λ o. by_equal P k i (λ e. b o e (stood_first i j k o e)) (λ p. c o p (stood_other i j k o p)))

stood_apart : (i j k l : ℕ) → stood i j k ≡ stood i j l → k ≡ l
stood_apart i j k l e = by_case (k ≡ l) i j k
    (λ a sa. by_case (k ≡ l) i j l
    (λ b sb. omega (arith, a, b))
    (λ o b sb. omega (arith, a, b, sa, sb, e))
    (λ o p sb. absurd (p (omega (arith, sa, sb, e)))))
    (λ o a sa. by_case (k ≡ l) i j l
    (λ b sb. omega (arith, a, b, sa, sb, e))
    (λ o' b sb. omega (arith, a, b))
    (λ o' p sb. absurd (o' (omega (arith, sa, sb, e)))))
    (λ o p sa. by_case (k ≡ l) i j l
    (λ b sb. absurd (p (omega (arith, sa, sb, e))))
    (λ o' b sb. absurd (o (omega (arith, sa, sb, e))))
    (λ o' p' sb. omega (arith, sa, sb, e)))

module _ (l : List ToMap) (i j : ℕ) (hi : i < length l) (hj : j < length l) where
  stood_low : (k : ℕ) → k < length l → stood i j k < length l
  stood_low k h = by_case (stood i j k < length l) i j k (λ e s. omega (arith, s, hi)) (λ o e s. omega (arith, s, hj)) (λ o p s. omega (arith, s, h))

  swapped_or : (k : ℕ) (d : ToMap) → get_or (swap l i j) k d ≡ get_or l (stood i j k) d
  swapped_or k d =
      ap (λ m. get_or m k d) (sym (swap_is l i j d hi hj))
      ∙ by_case (get_or (set (set l i (get_or l j d)) j (get_or l i d)) k d ≡ get_or l (stood i j k) d) i j k
      (λ e s. ap (λ n. get_or (set (set l i (get_or l j d)) j (get_or l i d)) n d) e ∙ get_or-set_same (set l i (get_or l j d)) j (get_or l i d) d (omega (arith, hj, length-set l i (get_or l j d))) ∙ ap (λ n. get_or l n d) (sym s))
      (λ o e s. get_or-set_other (set l i (get_or l j d)) j k (get_or l i d) d o ∙ ap (λ n. get_or (set l i (get_or l j d)) n d) e ∙ get_or-set_same l i (get_or l j d) d hi ∙ ap (λ n. get_or l n d) (sym s))
      (λ o p s. get_or-set_other (set l i (get_or l j d)) j k (get_or l i d) d o ∙ get_or-set_other l i k (get_or l j d) d p ∙ ap (λ n. get_or l n d) (sym s))

  swapped : (k : ℕ) (a : ToMap) → slice_get (swap l i j) k ≡ Some a → slice_get l (stood i j k) ≡ Some a
  swapped k a e =
      let low : k < length (swap l i j) = slice_get_within (swap l i j) k a e in
      let one : get_or (swap l i j) k a ≡ a = same_Some _ _ (sym (slice_get-get_or (swap l i j) k a low) ∙ e) in
      slice_get-get_or l (stood i j k) a (stood_low k (omega (arith, low, length-swap l i j))) ∙ ap Some (sym (swapped_or k a) ∙ one)

  swap_placed : (g : ℕ → Term) → ArePlaced g [] l → ArePlaced g [] (swap l i j)
  swap_placed g p = record {
    place = λ k. p.place (stood i j k);
    can = λ k a e. p.can (stood i j k) a (swapped k a e);
    apart = λ k m hk hm e. stood_apart i j k m (p.apart (stood i j k) (stood i j m) (stood_low k (omega (arith, hk, length-swap l i j))) (stood_low m (omega (arith, hm, length-swap l i j))) e);
    free = λ k h. refl;
  }

pub placed_in_order : (g : ℕ → Term) (xs ys : List ToMap) → IsPermutation xs ys → ArePlaced g [] xs → ArePlaced g [] ys
placed_in_order g xs ys h p = IsPermutation-keeps xs (λ l. ArePlaced g [] l) p (λ l i j hi hj q. swap_placed l i j hi hj g q) ys h

-- ---- variables and places

all_below : (n : ℕ) (vs : List ℕ) → ((v : ℕ) → has v vs ≡ true → v < n) → AllByRecursion (λ v. v < n) vs
all_below n [] h = tt
all_below n (v ∷ vs) h = (h v (has-append-left v (v ∷ []) vs (first v (itself v))), all_below n vs (λ w e. h w (has-append-right w (v ∷ []) vs e)))
  where
    first : (v : ℕ) → (v == v) ≡ true → has v (v ∷ []) ≡ true
    first v e = ap (λ b. b || false) e

part_within : (n count : ℕ) (atoms into : List Atom) (first : ℕ) → ((v : ℕ) → has v (flat_map atom_variables atoms) ≡ true → v < n) → first + length into ≤ count → AreWithin n count (to_map atoms into first)
part_within n count [] into first low h = tt
part_within n count (a ∷ atoms) into first low h = (
  (All-from_recursion (λ v. v < n) _ (all_below n (flat_map term_variables (atom_terms a)) (λ v e. low v (has-append-left v (atom_variables a) (flat_map atom_variables atoms) e))), h),
  part_within n count atoms into first (λ v e. low v (has-append-right v (atom_variables a) (flat_map atom_variables atoms) e)) h,
)

within_append : (n count : ℕ) (xs ys : List ToMap) → AreWithin n count xs → AreWithin n count ys → AreWithin n count (xs ++ ys)
within_append n count [] ys h k = k
within_append n count (x ∷ xs) ys h k = (h.0, within_append n count xs ys h.1 k)

pub all_within : (c d : Clause) (count : ℕ) → IsInOrder c → count ≡ length d.constraint + length d.antecedent + length d.succedent → AreWithin (variables c) count (all_to_map c d)
all_within c d count o e =
    let low = variables-below c o in
    within_append (variables c) count _ _
    (within_append (variables c) count _ _
    (part_within (variables c) count c.constraint d.constraint 0 (λ v h. low v (in_clause c Constraint v h)) (omega (arith, e)))
    (part_within (variables c) count c.antecedent d.antecedent (length d.constraint) (λ v h. low v (in_clause c Antecedent v h)) (omega (arith, e))))
    (part_within (variables c) count c.succedent d.succedent (length d.constraint + length d.antecedent) (λ v h. low v (in_clause c Succedent v h)) (omega (arith, e)))

pub within_in_order : (n count : ℕ) (xs ys : List ToMap) → IsPermutation xs ys → AreWithin n count xs → AreWithin n count ys
within_in_order n count xs ys h w =
    let P : ToMap → Type 0 = λ a. HaveVariablesBelow n (atom_terms a.0) × (a.2 + length a.1 ≤ count) in
    recursion_from_All P ys (All-permutation P xs ys h (All-from_recursion P xs w))

-- ---- the answer

pub subsumed : (c d : Clause) (vars : ℕ) (atoms : List ToMap) (o : Option Subst) → vars ≡ variables c → IsPermutation (all_to_map c d) atoms → MatchOption o ((g : ℕ → Term) → ArePlaced g [] atoms → ⊥) (λ s. (length s.terms ≡ vars) × ArePlaced (entry s.terms) [] atoms) → MatchOption o (Subsumes c d → ⊥) (λ s. SubsumesBy c d s.terms)
subsumed c d vars atoms None e order never = λ s. never s.by (placed_in_order s.by _ _ order (subsumes_placed s.by c d s.each))
subsumed c d vars atoms (Some s) e order h = record {
  as_many = h.0 ∙ e;
  maps = placed_subsumes (entry s.terms) c d (placed_in_order (entry s.terms) _ _ (IsPermutation-sym _ _ order) h.1);
}
