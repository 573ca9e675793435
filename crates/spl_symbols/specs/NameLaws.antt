-- Laws with their proofs, not definitions that a reader must believe: names in a list of declarations, and with one more behind it.
use Rattle.std.proofs.Common.{◌≡◌, ◌⊎◌, inl, inr, ℕ, zero, suc, ◌+◌, ◌<◌, ◌≤◌, Bool, true, false, not, cond, List, [], ◌∷◌, ◌++◌, length, Option, Some, None, option_map, option_and_then, nat_lt, length-append, arith, refl, sym, ap, subst, ◌∙◌}
use Rattle.std.proofs.lemmas.Bool.{cases_Bool, ltb-true, ltb-false, lt-ltb}
use Rattle.std.proofs.lemmas.Slice.Eq.{bytes_eq-Decides}
use Rattle.std.specs.List.{slice_get, position_or_len}
use Rattle.std.specs.Str.{bytes_eq}
use Rattle.spl_terms.specs.declared.term.Symbol.{Symbol}
use Rattle.std.proofs.lemmas.Option.{none-some, same_Some}
use Rattle.spl_terms.specs.ListLaws.{get-there}
use Rattle.spl_symbols.specs.Symbols.{Declared, found, HasOwnNames}

-- ---- the first place that passes, before and after one more

module _ {X : Type 0} (p : X → Bool) where
  before : (xs : List X) (y : X) → position_or_len p xs < length xs → position_or_len p (xs ++ y ∷ []) ≡ position_or_len p xs
  before [] y h = absurd (omega (arith, h))
  before (x ∷ xs) y h = by_test (p x) h (λ k. before xs y k)
    where
      by_test : (b : Bool) → cond (not b) (1 + position_or_len p xs) 0 < suc (length xs) → (position_or_len p xs < length xs → position_or_len p (xs ++ y ∷ []) ≡ position_or_len p xs) → cond (not b) (1 + position_or_len p (xs ++ y ∷ [])) 0 ≡ cond (not b) (1 + position_or_len p xs) 0
      by_test true h more = refl
      by_test false h more = ap (λ n. 1 + n) (more (omega (arith, h)))

  at_end : (xs : List X) (y : X) → length xs ≤ position_or_len p xs → p y ≡ true → position_or_len p (xs ++ y ∷ []) ≡ length xs
  at_end [] y h e = ap (λ b. cond (not b) (1 + 0) 0) e
  at_end (x ∷ xs) y h e = by_test (p x) h (λ k. at_end xs y k e)
    where
      by_test : (b : Bool) → suc (length xs) ≤ cond (not b) (1 + position_or_len p xs) 0 → (length xs ≤ position_or_len p xs → position_or_len p (xs ++ y ∷ []) ≡ length xs) → cond (not b) (1 + position_or_len p (xs ++ y ∷ [])) 0 ≡ suc (length xs)
      by_test true h more = absurd (omega (arith, h))
      by_test false h more = let k = more (omega (arith, h)) in omega (arith, k)

-- ---- a name is found exactly at the first place that has it

module _ (name : List ℕ) (ds : List Declared) where
  abbrev place : ℕ
  place = position_or_len (λ d. bytes_eq name d.name) ds

  abbrev symbol_at : ℕ → Option Symbol
  symbol_at i = option_map (λ (d : Declared). record { number = i; kind = d.kind }) (slice_get ds i)

  found_at : (d : Declared) → place < length ds → slice_get ds place ≡ Some d → found name ds ≡ Some (record { number = place; kind = d.kind })
  found_at d h e =
      ap (λ b. option_and_then symbol_at (cond b (Some place) None)) (lt-ltb place (length ds) h)
      ∙ ap (option_map (λ (d : Declared). record { number = place; kind = d.kind })) e

  place_of : (i : ℕ) (s : Symbol) → found name ds ≡ Some s → (place ≡ s.number) × (place < length ds)
  place_of i s e = by_test (nat_lt place (length ds)) refl e
    where
      by_test : (b : Bool) → nat_lt place (length ds) ≡ b → option_and_then symbol_at (cond b (Some place) None) ≡ Some s → (place ≡ s.number) × (place < length ds)
      by_test false t e = absurd (none-some s e)
      by_test true t e =
          let h : place < length ds = ltb-true place (length ds) t in
          let d = get-there ds place h in
          let k : Some (record { number = place; kind = d.0.kind }) ≡ Some s = sym (ap (option_map (λ (d : Declared). record { number = place; kind = d.kind })) d.1) ∙ e in
          (ap (λ (t : Symbol). t.number) (same_Some _ s k), h)

  -- a name that isn't found passes nowhere
  pub passed : found name ds ≡ None → length ds ≤ place
  passed none = elim (cases_Bool (nat_lt place (length ds))) [
    | inl t ↦
        let h = ltb-true place (length ds) t in
        let d = get-there ds place h in
        absurd (none-some _ (sym none ∙ found_at d.0 h d.1))
    | inr f ↦ ltb-false place (length ds) f
  ]

-- ---- one more name

-- an entry of a longer list is an old one or the last
pub old_or_last : (ds : List Declared) (x : Declared) (i : ℕ) (d : Declared) → slice_get (ds ++ x ∷ []) i ≡ Some d → (slice_get ds i ≡ Some d) ⊎ ((i ≡ length ds) × (x ≡ d))
old_or_last [] x zero d e = inr (refl, same_Some x d e)
old_or_last [] x (suc i) d e = absurd (none-some d e)
old_or_last (y ∷ ds) x zero d e = inl e
old_or_last (y ∷ ds) x (suc i) d e = elim (old_or_last ds x i d e) [ inl h ↦ inl h | inr h ↦ inr (ap suc h.0, h.1) ]

-- each name is found at its own place after one more name too
pub one_more_name : (ds : List Declared) (x : Declared) → HasOwnNames ds → found x.name ds ≡ None → HasOwnNames (ds ++ x ∷ [])
one_more_name ds x own new i d e =
    elim (old_or_last ds x i d e) [
      | inl h ↦
          let p = place_of d.name ds i (record { number = i; kind = d.kind }) (own i d h) in
          let q : place d.name (ds ++ x ∷ []) ≡ i = before (λ d'. bytes_eq d.name d'.name) ds x p.1 ∙ p.0 in
          at_place q (omega (arith, p.1, p.0, length-append ds (x ∷ [])))
      | inr h ↦
          let same : bytes_eq d.name x.name ≡ true = (bytes_eq-Decides d.name x.name).1 (ap (λ (y : Declared). y.name) (sym h.1)) in
          let none : found d.name ds ≡ None = ap (λ (y : Declared). found y.name ds) (sym h.1) ∙ new in
          let q : place d.name (ds ++ x ∷ []) ≡ i = at_end (λ d'. bytes_eq d.name d'.name) ds x (passed d.name ds none) same ∙ sym h.0 in
          at_place q (omega (arith, h.0, length-append ds (x ∷ [])))
    ]
  where
    at_place : place d.name (ds ++ x ∷ []) ≡ i → i < length (ds ++ x ∷ []) → found d.name (ds ++ x ∷ []) ≡ Some (record { number = i; kind = d.kind })
    at_place q h =
        found_at d.name (ds ++ x ∷ []) d (subst (λ n. n < length (ds ++ x ∷ [])) (sym q) h) (ap (slice_get (ds ++ x ∷ [])) q ∙ e)
        ∙ ap (λ (n : ℕ). Some (record { number = n; kind = d.kind })) q
