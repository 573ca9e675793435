-- Laws with their proofs, not definitions that a reader must believe: bindings as a list of entries.
use Rattle.std.proofs.Common.{◌≡◌, ℕ, zero, suc, ◌≤◌, ◌<◌, nat_lt, Bool, true, false, List, [], ◌∷◌, ◌++◌, length, Some, unwrap_or, refl, sym, ap, subst, ◌∙◌, arith}
use Rattle.std.specs.List.{slice_get}
use Rattle.std.proofs.lemmas.Bool.{ltb-true, ltb-false}
use Rattle.std.proofs.lemmas.Option.{slice_get_past}
use Rattle.spl_terms.specs.declared.term.Term.{Term, Var}
use Rattle.spl_truth.specs.Truth.{entry}
use Rattle.spl_terms.specs.ListLaws.{get-left}
use Rattle.spl_truth.specs.Unifiers.{entries_below}

get_last : (xs : List Term) (x : Term) → slice_get (xs ++ x ∷ []) (length xs) ≡ Some x
get_last [] x = refl
get_last (y ∷ xs) x = get_last xs x

pub length-entries_below : (n : ℕ) (s : ℕ → Term) → length (entries_below n s) ≡ n
length-entries_below zero s = refl
length-entries_below (suc n) s = length-last (entries_below n s) (s n) ∙ ap suc (length-entries_below n s)
  where
    length-last : (xs : List Term) (x : Term) → length (xs ++ x ∷ []) ≡ suc (length xs)
    length-last [] x = refl
    length-last (a ∷ xs) x = ap suc (length-last xs x)

get_below : (n : ℕ) (s : ℕ → Term) (v : ℕ) → v < n → slice_get (entries_below n s) v ≡ Some (s v)
get_below zero s v h = absurd (omega arith)
get_below (suc n) s v h = by_test (nat_lt v n) refl (get_below n s v)
  where
    by_test : (b : Bool) → nat_lt v n ≡ b → (v < n → slice_get (entries_below n s) v ≡ Some (s v)) → slice_get (entries_below n s ++ s n ∷ []) v ≡ Some (s v)
    by_test true e all =
        let lt : v < n = ltb-true v n e in
        get-left (entries_below n s) (s n ∷ []) v (omega (arith, length-entries_below n s)) ∙ all lt
    by_test false e all =
        let ge : n ≤ v = ltb-false v n e in
        let same : v ≡ n = omega arith in
        subst (λ w. slice_get (entries_below n s ++ s n ∷ []) w ≡ Some (s w)) (sym same) (subst (λ w. slice_get (entries_below n s ++ s n ∷ []) w ≡ Some (s n)) (length-entries_below n s) (get_last (entries_below n s) (s n)))

pub entry-entries_below : (n : ℕ) (u : ℕ → Term) → ((v : ℕ) → n ≤ v → u v ≡ Var v) → entry (entries_below n u) ≡ u
entry-entries_below n u beyond = λ i v. at v i
  where
    by_test : (v : ℕ) (b : Bool) → nat_lt v n ≡ b → entry (entries_below n u) v ≡ u v
    by_test v true e = ap (λ o. unwrap_or o (Var v)) (get_below n u v (ltb-true v n e))
    by_test v false e = let ge : n ≤ v = ltb-false v n e in ap (λ o. unwrap_or o (Var v)) (slice_get_past (entries_below n u) v (omega (arith, length-entries_below n u))) ∙ sym (beyond v ge)

    at : (v : ℕ) → entry (entries_below n u) v ≡ u v
    at v = by_test v (nat_lt v n) refl
