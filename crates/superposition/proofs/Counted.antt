-- Facts about symbols that are counted through bindings.
use Rattle.std.proofs.Common.{◌≡◌, ℕ, zero, suc, ◌+◌, ◌<◌, ◌≤◌, Bool, true, false, List, [], ◌∷◌, ◌++◌, drop, length, sum_by, Some, refl, sym, ap, ◌∙◌, arith}
use Rattle.std.specs.Prelude.{slice_get, unwrap_or, nat_lt}
use Rattle.std.proofs.lemmas.Bool.{ltb-true, ltb-false}
use Rattle.std.proofs.lemmas.List.Sums.{sum_by-cons}
use Rattle.std.proofs.lemmas.Option.{slice_get_past}
use Rattle.spl_terms.specs.declared.term.Symbol.{Symbol}
use Rattle.spl_terms.specs.declared.term.Term.{Term, Var, App}
use Rattle.spl_terms.specs.Terms.{term_symbols, replace}
use Rattle.spl_terms.specs.ListLaws.{get-left}
use Rattle.spl_truth.specs.Truth.{entry}
use Rattle.spl_truth.specs.EntryLaws.{length-entries_below}
use Rattle.spl_truth.specs.InstanceLaws.{symbols-replace-App}
use Rattle.spl_truth.specs.Unifiers.{entries_below}
use Rattle.unify.specs.Bindings.{substitution}
use Rattle.superposition.specs.Sizes.{entries_from}

-- ---- entries

get_last : (xs : List Term) (x : Term) → slice_get (xs ++ x ∷ []) (length xs) ≡ Some x
get_last [] x = refl
get_last (y ∷ xs) x = get_last xs x

get_below : (n : ℕ) (s : ℕ → Term) (v : ℕ) → v < n → slice_get (entries_below n s) v ≡ Some (s v)
get_below zero s v h = absurd (omega arith)
get_below (suc n) s v h = by_test (nat_lt v n) refl (get_below n s v)
  where
    by_test : (b : Bool) → nat_lt v n ≡ b → (v < n → slice_get (entries_below n s) v ≡ Some (s v)) → slice_get (entries_below n s ++ s n ∷ []) v ≡ Some (s v)
    by_test true e earlier =
        let low : v < n = ltb-true v n e in
        get-left (entries_below n s) (s n ∷ []) v (omega (arith, low, length-entries_below n s)) ∙ earlier low
    by_test false e earlier =
        let past : n ≤ v = ltb-false v n e in
        let same : v ≡ length (entries_below n s) = omega (arith, past, h, length-entries_below n s) in
        let last : n ≡ v = omega (arith, past, h) in
        ap (slice_get (entries_below n s ++ s n ∷ [])) same ∙ get_last (entries_below n s) (s n) ∙ ap (λ k. Some (s k)) last

get_behind : (n : ℕ) (xs : List Term) (v : ℕ) → slice_get (drop n xs) v ≡ slice_get xs (n + v)
get_behind zero xs v = let same : v ≡ 0 + v = omega arith in ap (slice_get xs) same
get_behind (suc n) [] v = refl
get_behind (suc n) (x ∷ xs) v = let next : suc (n + v) ≡ suc n + v = omega arith in get_behind n xs v ∙ ap (slice_get (x ∷ xs)) next

pub entry_there : (from past v : ℕ) (made : List (ℕ × Term)) → from + v < past → entry (entries_from from past made) v ≡ substitution made (from + v)
entry_there from past v made h =
    let s : ℕ → Term = substitution made in
    ap (λ o. unwrap_or o (Var v)) (get_behind from (entries_below past s) v ∙ get_below past s (from + v) h)

-- a number past the end is a variable of its own
pub entry_past : (from past v : ℕ) (made : List (ℕ × Term)) → past ≤ from + v → entry (entries_from from past made) v ≡ Var v
entry_past from past v made h =
    let s : ℕ → Term = substitution made in
    ap (λ o. unwrap_or o (Var v)) (get_behind from (entries_below past s) v ∙ slice_get_past (entries_below past s) (from + v) (omega (arith, h, length-entries_below past s)))

-- ---- symbols of instances

pub ruleset size_laws = (symbols-replace-App, sum_by-cons)

pub symbols_of_application : (h : ℕ → Term) (t : Term) (f : Symbol) (ts sl : List Term) → t ≡ App f ts → sl ≡ ts → term_symbols (replace h t) ≡ sum_by (λ t. term_symbols (replace h t)) sl + 1
symbols_of_application h t f ts sl is same = ap (λ x. term_symbols (replace h x)) is ∙ symbols-replace-App h f ts ∙ ap (λ l. sum_by (λ t. term_symbols (replace h t)) l + 1) (sym same)
