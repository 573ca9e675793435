-- One atom placed after another.
use Rattle.std.proofs.Common.{◌≡◌, ◌⊎◌, inl, inr, ℕ, zero, suc, ◌+◌, ◌-◌, ◌<◌, ◌≤◌, Bool, true, false, List, [], ◌∷◌, ◌++◌, length, take, drop, Option, Some, None, get_or, refl, sym, ap, subst, ◌∙◌, arith}
use Rattle.std.proofs.Common.{set, get_or-set_same, get_or-set_other}
use Rattle.std.specs.Prelude.{IsSomeAnd, slice_get, nat_lt}
use Rattle.std.specs.List.{list_any, flat_map}
use Rattle.std.proofs.lemmas.List.Elements.{recursion_from_All}
use Rattle.std.proofs.lemmas.Bool.{false≢true, ltb-true, ltb-false}
use Rattle.std.proofs.lemmas.Option.{none-some, same_Some, slice_get_within}
use Rattle.spl_terms.specs.declared.term.Symbol.{Symbol}
use Rattle.spl_terms.specs.declared.term.Term.{Term}
use Rattle.spl_terms.specs.declared.atom.Atom.{Atom}
use Rattle.spl_terms.specs.declared.atom.Atom.TheVariants.{Holds}
use Rattle.spl_terms.specs.Terms.{term_variables}
use Rattle.spl_terms.specs.Clauses.{is_same, replace_in_atom}
use Rattle.spl_terms.specs.SameLaws.{flipped, same_cases, same_self, same_flipped}
use Rattle.spl_truth.specs.Unifiers.{occurs, HaveVariablesBelow}
use Rattle.spl_truth.specs.OccurrenceLaws.{any-variables, any_of_all}
use Rattle.unify.specs.Bindings.{bound_to}
use Rattle.unify.specs.Matches.{Agrees, IsFound, FoundOrNot, IsExtended}
use Rattle.subsume.specs.declared.atoms.AtomToMap.{AtomToMap}
use Rattle.subsume.specs.Placing.{ToMap, plain_one, plain, AreWithin, CanGo, ArePlaced, AreFirstPlaced, AreFirstPlacedAs, turned_if, PlacedOrNot, AreBoundBelow, IsRestored}

-- ---- what is there

there : {X : Type 0} (P : X → Type 0) (o : Option X) → IsSomeAnd o P → (x : X) × (o ≡ Some x) × P x
there P None h = absurd h
there P (Some x) h = (x, refl, h)

at_there : {X : Type 0} (P : X → Type 0) (o : Option X) (x : X) → o ≡ Some x → P x → IsSomeAnd o P
at_there P o x e h = subst (λ o. IsSomeAnd o P) (sym e) h

-- ---- the first atom, and those behind it

turned_same : (turned : Bool) (a b : Atom) → turned_if turned a ≡ b → is_same a b ≡ true
turned_same true a b e = subst (λ x. is_same a x ≡ true) e (same_flipped a)
turned_same false a b e = subst (λ x. is_same a x ≡ true) e (same_self a)

-- the first one's place, and those of the others
abbrev before : ℕ → (ℕ → ℕ) → ℕ → ℕ
before q place zero = q
before q place (suc k) = place k

module _ (used : List Bool) (first : ToMap) (rest : List ToMap) (place : ℕ) (b : Atom) (low : first.2 + place < length used) (free : get_or used (first.2 + place) false ≡ false) (here : slice_get first.1 place ≡ Some b) where
  abbrev q : ℕ
  q = first.2 + place

  abbrev used_then : List Bool
  used_then = set used q true

  taken : (r : ℕ) → r ≡ q → get_or used_then r false ≡ true
  taken r e = ap (λ n. get_or used_then n false) e ∙ get_or-set_same used q true false low

  other_place : (r : ℕ) → get_or used_then r false ≡ false → r ≡ q → ⊥
  other_place r f e = false≢true (sym f ∙ taken r e)

  placed_before : (g : ℕ → Term) (turned : Bool) → turned_if turned (replace_in_atom g first.0) ≡ b → ArePlaced g used_then rest → AreFirstPlacedAs turned g used first rest place
  placed_before g turned becomes p = record {
    placed = record { placed = record { place = before q p.place; can = can; apart = apart; free = still_free }; is = refl };
    becomes = at_there (λ b. turned_if turned (replace_in_atom g first.0) ≡ b) (slice_get first.1 place) b here becomes;
  }
    where
      can : (k : ℕ) (a : ToMap) → slice_get (first ∷ rest) k ≡ Some a → CanGo g a (before q p.place k)
      can zero a e =
          let same : q - first.2 ≡ place = omega arith in
          let at : CanGo g first q = (omega arith, at_there (λ b. is_same (replace_in_atom g first.0) b ≡ true) (slice_get first.1 (q - first.2)) b (ap (slice_get first.1) same ∙ here) (turned_same turned (replace_in_atom g first.0) b becomes)) in
          subst (λ x. CanGo g x q) (same_Some first a e) at
      can (suc k) a e = p.can k a e

      apart : (k l : ℕ) → k < length (first ∷ rest) → l < length (first ∷ rest) → before q p.place k ≡ before q p.place l → k ≡ l
      apart zero zero hk hl e = refl
      apart zero (suc l) hk hl e = absurd (other_place (p.place l) (p.free l (omega (arith, hl))) (sym e))
      apart (suc k) zero hk hl e = absurd (other_place (p.place k) (p.free k (omega (arith, hk))) e)
      apart (suc k) (suc l) hk hl e = ap suc (p.apart k l (omega (arith, hk)) (omega (arith, hl)) e)

      still_free : (k : ℕ) → k < length (first ∷ rest) → get_or used (before q p.place k) false ≡ false
      still_free zero h = free
      still_free (suc k) h =
          let f = p.free k (omega (arith, h)) in
          sym (get_or-set_other used q (p.place k) true false (other_place (p.place k) f)) ∙ f

  placed_behind : (g : ℕ → Term) (p : AreFirstPlaced g used first rest place) → ArePlaced g used_then rest
  placed_behind g p =
      let whole = p.placed in
      record {
        place = λ k. whole.place (suc k);
        can = λ k a e. whole.can (suc k) a e;
        apart = λ k l hk hl e. pred (whole.apart (suc k) (suc l) (omega (arith, hk)) (omega (arith, hl)) e);
        free = λ k h. get_or-set_other used q (whole.place (suc k)) true false (λ e. never k (whole.apart (suc k) zero (omega (arith, h)) (omega arith) (e ∙ sym p.is))) ∙ whole.free (suc k) (omega (arith, h));
      }
    where
      pred : {k l : ℕ} → suc k ≡ suc l → k ≡ l
      pred e = omega (arith, e)

      never : (k : ℕ) → suc k ≡ zero → ⊥
      never k e = omega (arith, e)

  module _ (turned : Bool) (old mid new : List (ℕ × Term)) (inside : ℕ → Bool) (matched : Bool) (yes' : matched ≡ true) (h : FoundOrNot (λ g. turned_if turned (replace_in_atom g first.0) ≡ b) inside old mid matched) where
    found : IsFound (λ g. turned_if turned (replace_in_atom g first.0) ≡ b) inside old mid
    found = subst (FoundOrNot (λ g. turned_if turned (replace_in_atom g first.0) ≡ b) inside old mid) yes' h

    pub placed_on : (ok : Bool) → ok ≡ true → PlacedOrNot (λ g. ArePlaced g used_then rest) mid new ok → PlacedOrNot (λ g. AreFirstPlacedAs turned g used first rest place) old new true
    placed_on ok e k = λ g a.
        let m = (subst (PlacedOrNot (λ g. ArePlaced g used_then rest) mid new) e k) g a in
        (found.old_kept g m.0, placed_before g turned (found.done g m.0) m.1)

    pub not_placed_on : (ok : Bool) → ok ≡ false → PlacedOrNot (λ g. ArePlaced g used_then rest) mid new ok → (g : ℕ → Term) → Agrees g old → AreFirstPlacedAs turned g used first rest place → ⊥
    not_placed_on ok e k = λ g a p.
        let t = there (λ b. turned_if turned (replace_in_atom g first.0) ≡ b) (slice_get first.1 place) p.becomes in
        let same : t.0 ≡ b = same_Some t.0 b (sym t.1 ∙ here) in
        (subst (PlacedOrNot (λ g. ArePlaced g used_then rest) mid new) e k) g (found.onward g a (t.2 ∙ same)) (placed_behind g p.placed)

  pub not_matched : (turned : Bool) (old new : List (ℕ × Term)) (inside : ℕ → Bool) (matched : Bool) → matched ≡ false → FoundOrNot (λ g. turned_if turned (replace_in_atom g first.0) ≡ b) inside old new matched → (g : ℕ → Term) → Agrees g old → AreFirstPlacedAs turned g used first rest place → ⊥
  not_matched turned old new inside matched e h g a p =
      let t = there (λ b. turned_if turned (replace_in_atom g first.0) ≡ b) (slice_get first.1 place) p.becomes in
      let same : t.0 ≡ b = same_Some t.0 b (sym t.1 ∙ here) in
      (subst (FoundOrNot (λ g. turned_if turned (replace_in_atom g first.0) ≡ b) inside old new) e h) g a (t.2 ∙ same)

-- ---- one way or the other

placed_as : (g : ℕ → Term) (used : List Bool) (first : ToMap) (rest : List ToMap) (place : ℕ) → AreFirstPlaced g used first rest place → AreFirstPlacedAs false g used first rest place ⊎ AreFirstPlacedAs true g used first rest place
placed_as g used first rest place p =
    let can = p.placed.can zero first refl in
    let same : p.placed.place zero - first.2 ≡ place = omega (arith, p.is) in
    let t = there (λ b. is_same (replace_in_atom g first.0) b ≡ true) (slice_get first.1 (p.placed.place zero - first.2)) can.1 in
    let here : slice_get first.1 place ≡ Some t.0 = ap (slice_get first.1) (sym same) ∙ t.1 in
    elim (same_cases (replace_in_atom g first.0) t.0 t.2) [
      | inl e ↦ inl (record { placed = p; becomes = at_there (λ b. replace_in_atom g first.0 ≡ b) (slice_get first.1 place) t.0 here e })
      | inr e ↦ inr (record { placed = p; becomes = at_there (λ b. flipped (replace_in_atom g first.0) ≡ b) (slice_get first.1 place) t.0 here e })
    ]

-- no way to place the first atom and then the others
abbrev pub NotPlacedAs : Bool → List (ℕ × Term) → List Bool → ToMap → List ToMap → ℕ → Type 0
NotPlacedAs turned old used first rest place = (g : ℕ → Term) → Agrees g old → AreFirstPlacedAs turned g used first rest place → ⊥

pub not_placed : (old : List (ℕ × Term)) (used : List Bool) (first : ToMap) (rest : List ToMap) (place : ℕ) → NotPlacedAs false old used first rest place → NotPlacedAs true old used first rest place → (g : ℕ → Term) → Agrees g old → AreFirstPlaced g used first rest place → ⊥
not_placed old used first rest place straight turned g a p = elim (placed_as g used first rest place p) [
  | inl q ↦ straight g a q
  | inr q ↦ turned g a q
]

-- an atom that is no equation has no sides to exchange
pub not_turned : (old : List (ℕ × Term)) (used : List Bool) (first : ToMap) (rest : List ToMap) (place : ℕ) (x : Atom) → first.0 ≡ x → (flipped x ≡ x) → ((g : ℕ → Term) → flipped (replace_in_atom g x) ≡ replace_in_atom g x) → NotPlacedAs false old used first rest place → NotPlacedAs true old used first rest place
not_turned old used first rest place x is _ stays straight g a p =
    let t = there (λ b. flipped (replace_in_atom g first.0) ≡ b) (slice_get first.1 place) p.becomes in
    let one : replace_in_atom g first.0 ≡ t.0 = ap (replace_in_atom g) is ∙ sym (stays g) ∙ ap (λ y. flipped (replace_in_atom g y)) (sym is) ∙ t.2 in
    straight g a (record { placed = p.placed; becomes = at_there (λ b. replace_in_atom g first.0 ≡ b) (slice_get first.1 place) t.0 t.1 one })

-- ---- target by target

-- the first atom goes to none of its first targets
abbrev pub StartsAt : List (ℕ × Term) → List Bool → ToMap → List ToMap → ℕ → Type 0
StartsAt old used first rest place = (g : ℕ → Term) → Agrees g old → (p : ArePlaced g used (first ∷ rest)) → first.2 + place ≤ p.place 0

pub starts_first : (old : List (ℕ × Term)) (used : List Bool) (first : ToMap) (rest : List ToMap) → StartsAt old used first rest 0
starts_first old used first rest g a p = omega (arith, (p.can 0 first refl).0)

pub starts_next : (old : List (ℕ × Term)) (used : List Bool) (first : ToMap) (rest : List ToMap) (place : ℕ) → StartsAt old used first rest place → ((g : ℕ → Term) → Agrees g old → AreFirstPlaced g used first rest place → ⊥) → StartsAt old used first rest (place + 1)
starts_next old used first rest place before never g a p = by_test (nat_lt (first.2 + place) (p.place 0)) refl
  where
    by_test : (t : Bool) → nat_lt (first.2 + place) (p.place 0) ≡ t → first.2 + (place + 1) ≤ p.place 0
    by_test true e = let less = ltb-true (first.2 + place) (p.place 0) e in omega (arith, less)
    by_test false e =
        let le = ltb-false (first.2 + place) (p.place 0) e in
        absurd (never g a (record { placed = p; is = omega (arith, le, before g a p) }))

pub starts_nowhere : (old : List (ℕ × Term)) (used : List Bool) (first : ToMap) (rest : List ToMap) (place : ℕ) → length first.1 ≤ place → StartsAt old used first rest place → (g : ℕ → Term) → Agrees g old → ArePlaced g used (first ∷ rest) → ⊥
starts_nowhere old used first rest place all before g a p =
    let can = p.can 0 first refl in
    let t = there (λ b. is_same (replace_in_atom g first.0) b ≡ true) (slice_get first.1 (p.place 0 - first.2)) can.1 in
    omega (arith, all, before g a p, slice_get_within first.1 (p.place 0 - first.2) t.0 t.1)

-- ---- one step of the search

pub restored_from : (used used' : List Bool) (found found' : ℕ × List (ℕ × Term)) (ok : Bool) → ok ≡ false → IsRestored used used' found found' ok → (used' ≡ used) × (found' ≡ found)
restored_from used used' found found' ok e h = subst (IsRestored used used' found found') e h

module _ (old old' : ℕ × List (ℕ × Term)) (used used' : List Bool) (first : ToMap) (rest : List ToMap) (place : ℕ) (new : List (ℕ × Term)) (ok : Bool) (same_found : old' ≡ old) (same_used : used' ≡ used) (h : PlacedOrNot (λ g. AreFirstPlaced g used' first rest place) old'.1 new ok) where
  as_before : PlacedOrNot (λ g. AreFirstPlaced g used first rest place) old.1 new ok
  as_before = subst (λ (u : List Bool). PlacedOrNot (λ g. AreFirstPlaced g u first rest place) old.1 new ok) same_used (subst (λ (o : ℕ × List (ℕ × Term)). PlacedOrNot (λ g. AreFirstPlaced g used' first rest place) o.1 new ok) same_found h)

  pub placed_here : (atoms : List ToMap) → atoms ≡ first ∷ rest → ok ≡ true → PlacedOrNot (λ g. ArePlaced g used atoms) old.1 new true
  placed_here atoms is e = λ g a.
      let m = (subst (PlacedOrNot (λ g. AreFirstPlaced g used first rest place) old.1 new) e as_before) g a in
      (m.0, subst (ArePlaced g used) (sym is) m.1.placed)

  pub placed_later : ok ≡ false → StartsAt old.1 used first rest place → StartsAt old.1 used first rest (place + 1)
  placed_later e before = starts_next old.1 used first rest place before (subst (PlacedOrNot (λ g. AreFirstPlaced g used first rest place) old.1 new) e as_before)

pub placed_nowhere : (old : List (ℕ × Term)) (used : List Bool) (first : ToMap) (rest : List ToMap) (place : ℕ) (atoms : List ToMap) → atoms ≡ first ∷ rest → length first.1 ≤ place → StartsAt old used first rest place → (g : ℕ → Term) → Agrees g old → ArePlaced g used atoms → ⊥
placed_nowhere old used first rest place atoms is all before g a p = starts_nowhere old used first rest place all before g a (subst (ArePlaced g used) is p)

pub none_to_place : (g : ℕ → Term) (used : List Bool) (atoms : List AtomToMap) → length atoms < 1 → ArePlaced g used (plain atoms)
none_to_place g used [] h = record { place = λ k. k; can = λ k a e. absurd (none-some a e); apart = λ k l hk hl e. e; free = λ k h. absurd (omega (arith, h)) }
none_to_place g used (x ∷ xs) h = absurd (omega (arith, h))

taken_whole : (xs : List AtomToMap) (n : ℕ) → n ≡ length xs → take n xs ≡ xs
taken_whole [] zero e = refl
taken_whole [] (suc n) e = refl
taken_whole (x ∷ xs) zero e = absurd (omega (arith, e))
taken_whole (x ∷ xs) (suc n) e = ap (λ l. x ∷ l) (taken_whole xs n (omega (arith, e)))

pub first_and_rest : (atoms : List AtomToMap) (first : AtomToMap) → 1 ≤ length atoms → first ≡ get_or atoms 0 first → plain atoms ≡ plain_one first ∷ plain (take (length atoms - 1) (drop 1 atoms))
first_and_rest [] first h e = absurd (omega (arith, h))
first_and_rest (x ∷ xs) first h e =
    let whole : take (suc (length xs) - 1) xs ≡ xs = taken_whole xs (suc (length xs) - 1) (omega arith) in
    λ i. plain_one (sym e i) ∷ plain (sym whole i)

-- ---- what the search asks of the rest

pub rest_within : (vars vars' count count' : ℕ) (first : ToMap) (rest : List ToMap) → vars' ≡ vars → count' ≡ count → AreWithin vars count (first ∷ rest) → AreWithin vars' count' rest
rest_within vars vars' count count' first rest e f h = subst (λ n. AreWithin n count' rest) (sym e) (subst (λ n. AreWithin vars n rest) (sym f) h.1)

pub still_within : (vars vars' count count' : ℕ) (atoms atoms' : List ToMap) → vars' ≡ vars → count' ≡ count → atoms ≡ atoms' → AreWithin vars count atoms → AreWithin vars' count' atoms'
still_within vars vars' count count' atoms atoms' e f is h = subst (λ n. AreWithin n count' atoms') (sym e) (subst (λ n. AreWithin vars n atoms') (sym f) (subst (AreWithin vars count) is h))

occurs_low : (vars : ℕ) (ts : List Term) → HaveVariablesBelow vars ts → (v : ℕ) → list_any (occurs v) ts ≡ true → v < vars
occurs_low vars ts h v o = any_of_all vars v (flat_map term_variables ts) (recursion_from_All (λ v. v < vars) _ h) (any-variables v ts ∙ o)

pub bound_after : (vars vars' : ℕ) (asked : (ℕ → Term) → Type 0) (ts : List Term) (old new : List (ℕ × Term)) (ok : Bool) → vars' ≡ vars → ok ≡ true → HaveVariablesBelow vars ts → FoundOrNot asked (λ v. list_any (occurs v) ts) old new ok → AreBoundBelow vars old → AreBoundBelow vars' new
bound_after vars vars' asked ts old new ok same e low h before = subst (λ n. AreBoundBelow n new) (sym same) (λ v t here. by_test v t here (list_any (occurs v) ts) refl)
  where
    found : IsFound asked (λ v. list_any (occurs v) ts) old new
    found = subst (FoundOrNot asked (λ v. list_any (occurs v) ts) old new) e h

    by_test : (v : ℕ) (t : Term) → bound_to new v ≡ Some t → (b : Bool) → list_any (occurs v) ts ≡ b → v < vars
    by_test v t here true o = occurs_low vars ts low v o
    by_test v t here false o = before v t (sym (found.others v o) ∙ here)

-- ---- undoing

pub bindings_undone : (old mid new : ℕ × List (ℕ × Term)) (n : ℕ) → IsExtended old mid → n ≡ length old.1 → ((more before : List (ℕ × Term)) → mid.1 ≡ more ++ before → length before ≡ n → new ≡ (mid.0, before)) → new ≡ old
bindings_undone old mid new n grown count h = h grown.more old.1 grown.made (sym count) ∙ (λ i. (grown.as_many i, old.1))

pub place_freed : (used used' used'' : List Bool) (q : ℕ) → q < length used → get_or used q false ≡ false → used' ≡ set used q true → used'' ≡ set used' q false → used'' ≡ used
place_freed used used' used'' q low free e f = f ∙ ap (λ l. set l q false) e ∙ back used q low free
  where
    back : (xs : List Bool) (q : ℕ) → q < length xs → get_or xs q false ≡ false → set (set xs q true) q false ≡ xs
    back [] q h e = absurd (omega (arith, h))
    back (x ∷ xs) zero h e = ap (λ y. y ∷ xs) (sym e)
    back (x ∷ xs) (suc q) h e = ap (λ l. x ∷ l) (back xs q (omega (arith, h)) e)

-- ---- both ways round

pub placed_one_way : (turned : Bool) (old new : List (ℕ × Term)) (used : List Bool) (first : ToMap) (rest : List ToMap) (place : ℕ) (ok : Bool) → ok ≡ true → PlacedOrNot (λ g. AreFirstPlacedAs turned g used first rest place) old new ok → PlacedOrNot (λ g. AreFirstPlaced g used first rest place) old new true
placed_one_way turned old new used first rest place ok e h = λ g a. let m = (subst (PlacedOrNot (λ g. AreFirstPlacedAs turned g used first rest place) old new) e h) g a in (m.0, m.1.placed)

pub place_in_use : (used : List Bool) (first : ToMap) (rest : List ToMap) (place : ℕ) → get_or used (first.2 + place) false ≡ true → (g : ℕ → Term) → AreFirstPlaced g used first rest place → ⊥
place_in_use used first rest place e g p = false≢true (sym (p.placed.free 0 (omega arith)) ∙ ap (λ q. get_or used q false) p.is ∙ e)

pub placed_holds : (old new : List (ℕ × Term)) (used : List Bool) (first : ToMap) (rest : List ToMap) (place : ℕ) (ok : Bool) (p : Symbol) (ts : List Term) → first.0 ≡ Holds p ts → ok ≡ false → PlacedOrNot (λ g. AreFirstPlacedAs false g used first rest place) old new ok → (g : ℕ → Term) → Agrees g old → AreFirstPlaced g used first rest place → ⊥
placed_holds old new used first rest place ok p ts is e h =
    let never = subst (PlacedOrNot (λ g. AreFirstPlacedAs false g used first rest place) old new) e h in
    not_placed old used first rest place never (not_turned old used first rest place (Holds p ts) is refl (λ g. refl) never)

pub placed_turned : (old mid : ℕ × List (ℕ × Term)) (new : List (ℕ × Term)) (used used' : List Bool) (first : ToMap) (rest : List ToMap) (place : ℕ) (ok ok' : Bool) → ok ≡ false → IsRestored used used' old mid ok → PlacedOrNot (λ g. AreFirstPlacedAs false g used first rest place) old.1 mid.1 ok → PlacedOrNot (λ g. AreFirstPlacedAs true g used' first rest place) mid.1 new ok' → PlacedOrNot (λ g. AreFirstPlaced g used first rest place) old.1 new ok'
placed_turned old mid new used used' first rest place ok ok' e back straight turned = by_answer ok' again
  where
    same : (used' ≡ used) × (mid ≡ old)
    same = restored_from used used' old mid ok e back

    again : PlacedOrNot (λ g. AreFirstPlacedAs true g used first rest place) old.1 new ok'
    again = subst (λ (u : List Bool). PlacedOrNot (λ g. AreFirstPlacedAs true g u first rest place) old.1 new ok') same.0 (subst (λ (o : ℕ × List (ℕ × Term)). PlacedOrNot (λ g. AreFirstPlacedAs true g used' first rest place) o.1 new ok') same.1 turned)

    never : NotPlacedAs false old.1 used first rest place
    never = subst (PlacedOrNot (λ g. AreFirstPlacedAs false g used first rest place) old.1 mid.1) e straight

    by_answer : (b : Bool) → PlacedOrNot (λ g. AreFirstPlacedAs true g used first rest place) old.1 new b → PlacedOrNot (λ g. AreFirstPlaced g used first rest place) old.1 new b
    by_answer true h = λ g a. let m = h g a in (m.0, m.1.placed)
    by_answer false h = not_placed old.1 used first rest place never h
