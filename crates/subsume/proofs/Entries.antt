-- The answer of a search, as entries of variables.
use Rattle.std.proofs.Common.{◌≡◌, ℕ, zero, suc, ◌<◌, ◌≤◌, Bool, true, false, nat_lt, if◌then◌else◌, List, [], ◌∷◌, ◌++◌, length, get_or, Some, unwrap_or, refl, sym, ap, subst, ◌∙◌, arith}
use Rattle.std.proofs.lemmas.Bool.{ltb-true, lt-ltb}
use Rattle.spl_terms.specs.declared.term.Term.{Term, Var}
use Rattle.spl_truth.specs.Truth.{entry}
use Rattle.spl_truth.specs.Unifiers.{entries_below}
use Rattle.spl_truth.specs.EntryLaws.{length-entries_below, entry-entries_below}
use Rattle.unify.specs.Bindings.{bound_to, filled}
use Rattle.unify.specs.Matches.{Agrees}
use Rattle.subsume.specs.Placing.{ToMap, ArePlaced, PlacedOrNot, AreBoundBelow}

-- ---- entries below a number

-- the same below the number, and each other variable itself
abbrev cut : ℕ → (ℕ → Term) → ℕ → Term
cut n s v = if nat_lt v n then s v else Var v

cut_below : (n : ℕ) (s : ℕ → Term) (v : ℕ) → v < n → cut n s v ≡ s v
cut_below n s v h = ap (λ b. if b then s v else Var v) (lt-ltb v n h)

cut_beyond : (n : ℕ) (s : ℕ → Term) (v : ℕ) → n ≤ v → cut n s v ≡ Var v
cut_beyond n s v h = by_test (nat_lt v n) refl
  where
    by_test : (b : Bool) → nat_lt v n ≡ b → (if b then s v else Var v) ≡ Var v
    by_test true e = absurd (let less = ltb-true v n e in omega (arith, less, h))
    by_test false e = refl

cut_entries : (n m : ℕ) (s : ℕ → Term) → m ≤ n → entries_below m s ≡ entries_below m (cut n s)
cut_entries n zero s h = refl
cut_entries n (suc m) s h = (let rest = cut_entries n m s (omega (arith, h)) in let last = sym (cut_below n s m (omega (arith, h))) in λ i. rest i ++ last i ∷ [])

entry_below : (n : ℕ) (s : ℕ → Term) (v : ℕ) → v < n → entry (entries_below n s) v ≡ s v
entry_below n s v h =
    ap (λ l. entry l v) (cut_entries n n s (omega arith))
    ∙ ap (λ (g : ℕ → Term). g v) (entry-entries_below n (cut n s) (cut_beyond n s))
    ∙ cut_below n s v h

entries_agree : (n : ℕ) (made : List (ℕ × Term)) → AreBoundBelow n made → Agrees (entry (entries_below n (filled made))) made
entries_agree n made low v t e = entry_below n (filled made) v (low v t e) ∙ ap (λ o. unwrap_or o (Var v)) e

-- ---- no place in use

none_in_use : (g : ℕ → Term) (used : List Bool) (atoms : List ToMap) → ArePlaced g used atoms → ArePlaced g [] atoms
none_in_use g used atoms p = record { place = p.place; can = p.can; apart = p.apart; free = λ k h. refl }

all_free : (g : ℕ → Term) (used : List Bool) (atoms : List ToMap) → ((q : ℕ) → get_or used q false ≡ false) → ArePlaced g [] atoms → ArePlaced g used atoms
all_free g used atoms free p = record { place = p.place; can = p.can; apart = p.apart; free = λ k h. free (p.place k) }

pub one_more_free : (used : List Bool) → ((q : ℕ) → get_or used q false ≡ false) → (q : ℕ) → get_or (used ++ false ∷ []) q false ≡ false
one_more_free [] h zero = refl
one_more_free [] h (suc q) = refl
one_more_free (b ∷ used) h zero = h 0
one_more_free (b ∷ used) h (suc q) = one_more_free used (λ r. h (suc r)) q

-- ---- what the search answers

module _ (vars : ℕ) (start end : ℕ × List (ℕ × Term)) (used used' : List Bool) (atoms : List ToMap) (ok : Bool) (begins : start ≡ (vars, [])) (free : (q : ℕ) → get_or used q false ≡ false) (same : used' ≡ used) (h : PlacedOrNot (λ g. ArePlaced g used' atoms) start.1 end.1 ok) where
  answer : PlacedOrNot (λ g. ArePlaced g used atoms) start.1 end.1 ok
  answer = subst (λ (u : List Bool). PlacedOrNot (λ g. ArePlaced g u atoms) start.1 end.1 ok) same h

  pub placed_by : (entries : List Term) → ok ≡ true → AreBoundBelow start.0 end.1 → entries ≡ entries_below vars (filled end.1) → (length entries ≡ vars) × ArePlaced (entry entries) [] atoms
  placed_by entries e low is =
      let below : AreBoundBelow vars end.1 = subst (λ (b : ℕ × List (ℕ × Term)). AreBoundBelow b.0 end.1) begins low in
      let found = (subst (PlacedOrNot (λ g. ArePlaced g used atoms) start.1 end.1) e answer) (entry (entries_below vars (filled end.1))) (entries_agree vars end.1 below) in
      (ap length is ∙ length-entries_below vars (filled end.1), subst (λ l. ArePlaced (entry l) [] atoms) (sym is) (none_in_use (entry (entries_below vars (filled end.1))) used atoms found.1))

  pub placed_by_none : ok ≡ false → (g : ℕ → Term) → ArePlaced g [] atoms → ⊥
  placed_by_none e g p = (subst (PlacedOrNot (λ g. ArePlaced g used atoms) start.1 end.1) e answer) g (subst (λ (b : ℕ × List (ℕ × Term)). Agrees g b.1) (sym begins) (λ v x here. absurd (nothing v x here))) (all_free g used atoms free p)
    where
      nothing : (v : ℕ) (x : Term) → bound_to [] v ≡ Some x → ⊥
      nothing v x e = cc
