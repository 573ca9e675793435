-- A table whose proving ended by a contradiction has a line that states one.
use Rattle.std.proofs.Common.{◌≡◌, inl, inr, ℕ, zero, suc, ◌+◌, ◌-◌, ◌≤◌, Bool, true, false, ◌||◌, List, [], ◌∷◌, ◌++◌, length, Option, Some, None, refl, sym, ◌∙◌, subst, arith}
use Rattle.std.specs.Prelude.{IsSomeAnd}
use Rattle.std.specs.List.{slice_get, list_any}
use Rattle.std.proofs.lemmas.Bool.{false≢true}
use Rattle.spl_terms.specs.declared.atom.Atom.{Atom}
use Rattle.spl_terms.specs.declared.clause.Clause.{Clause}
use Rattle.spl_terms.specs.Clauses.{is_empty, in_order, IsEmpty}
use Rattle.proof_steps.specs.declared.step.Line.{Line}
use Rattle.proof_steps.specs.Checked.{IsContradiction}
use Rattle.case_journal.specs.declared.event.Entry.{Entry}
use Rattle.case_journal.specs.Journal.{Setting, ledger, lines_of, input_line, input_lines, last_line}
use Rattle.split_tree.specs.State.{State}
use Rattle.case_journal.specs.FactLaws.{empty_is, contradiction_is}
use Rattle.case_journal.specs.ListLaws.{get_more, get_right}
use Rattle.case_journal.specs.Ending.{states_contradiction, has_empty}
use Rattle.proof_extract.specs.Contradictions.{IsContradictory}
use Rattle.prover_top.specs.Endings.{IsContradicted}

-- ---- what is empty

no_atoms_in_order : (a b d : List Atom) → a ≡ [] → b ≡ [] → d ≡ [] → IsEmpty (in_order (record { constraint = a; antecedent = b; succedent = d }))
no_atoms_in_order a b d e f g =
    subst (λ x. IsEmpty (in_order (record { constraint = x; antecedent = b; succedent = d }))) (sym e)
    (subst (λ x. IsEmpty (in_order (record { constraint = []; antecedent = x; succedent = d }))) (sym f)
    (subst (λ x. IsEmpty (in_order (record { constraint = []; antecedent = []; succedent = x }))) (sym g) (refl, refl, refl)))

empty_in_order : (c : Clause) → IsEmpty c → IsEmpty (in_order c)
empty_in_order c e = no_atoms_in_order c.constraint c.antecedent c.succedent e.0 e.1 e.2

-- ---- lines

-- line n of the lines states a contradiction
record Found (lines : List Line) : Type 0 where
  number : ℕ
  is : IsContradictory lines number

at_line : (lines : List Line) (k : ℕ) (l : Line) → slice_get lines k ≡ Some l → IsContradiction l.stated → Found lines
at_line lines k l e h = record { number = suc k; is = subst (λ o. IsSomeAnd o (λ m. IsContradiction m.stated)) (sym e) h }

-- the line is still there where more lines follow
longer : (lines more : List Line) → Found lines → Found (lines ++ more)
longer lines more f = by_number f.number f.is
  where
    by_line : (k : ℕ) (o : Option Line) → slice_get lines k ≡ o → IsSomeAnd o (λ l. IsContradiction l.stated) → Found (lines ++ more)
    by_line k None e h = absurd h
    by_line k (Some l) e h = at_line (lines ++ more) k l (get_more lines more k l e) h

    by_number : (n : ℕ) → IsContradictory lines n → Found (lines ++ more)
    by_number zero h = absurd h
    by_number (suc k) h = by_line k (slice_get lines k) refl h

-- ---- the input

input_found : (n : ℕ) (input : List Clause) → has_empty input ≡ true → Found (input_lines n input)
input_found n [] e = absurd (false≢true e)
input_found n (c ∷ cs) e = by_test (λ g. input_found (n + 1) cs g) (is_empty c) refl e
  where
    by_next : (m : ℕ) → IsContradictory (input_lines (n + 1) cs) m → Found (input_lines n (c ∷ cs))
    by_next zero i = absurd i
    by_next (suc k) i = record { number = suc (suc k); is = i }

    by_test : (has_empty cs ≡ true → Found (input_lines (n + 1) cs)) → (b : Bool) → is_empty c ≡ b → (b || list_any is_empty cs) ≡ true → Found (input_lines n (c ∷ cs))
    by_test more true h g = at_line (input_lines n (c ∷ cs)) 0 (input_line n c) refl (empty_in_order c (empty_is c h), refl)
    by_test more false h g = let f = more g in by_next f.number f.is

-- ---- the journal

last_found : (lines chain : List Line) (o : Option Line) → last_line chain ≡ o → states_contradiction o ≡ true → Found (lines ++ chain)
last_found lines chain None e h = absurd (false≢true h)
last_found lines chain (Some l) e h = at_line (lines ++ chain) (length lines + (length chain - 1)) l (get_right lines chain (length chain - 1) ∙ e) (contradiction_is l.stated h)

ledger_later : (s : Setting) (past later : List Entry) → Found (ledger s past) → Found (ledger s (later ++ past))
ledger_later s past [] f = f
ledger_later s past (e ∷ later) f = longer (ledger s (later ++ past)) (lines_of e.event) (ledger_later s past later f)

ledger_input : (s : Setting) (past : List Entry) → Found (ledger s []) → Found (ledger s past)
ledger_input s [] f = f
ledger_input s (e ∷ past) f = longer (ledger s past) (lines_of e.event) (ledger_input s past f)

found : (t : State) → IsContradicted t → Found (ledger t.setting t.past)
found t (inl h) = ledger_input t.setting t.past (input_found 1 t.setting.input h)
found t (inr p) =
    let before = ledger t.setting p.ends.before in
    let there = last_found before p.chain (last_line p.chain) refl p.empty in
    subst (λ past. Found (ledger t.setting past)) (sym p.ends.first.is) (ledger_later t.setting _ p.ends.first.later there)

-- some line states a contradiction
pub has_contradiction : (t : State) → IsContradicted t → ((n : ℕ) → ¬ IsContradictory (ledger t.setting t.past) n) → ⊥
has_contradiction t c none = let f = found t c in none f.number f.is

found_within : (lines : List Line) (k : ℕ) → IsSomeAnd (slice_get lines k) (λ l. IsContradiction l.stated) → suc k ≤ length lines
found_within [] k h = absurd h
found_within (l ∷ ls) zero h = omega arith
found_within (l ∷ ls) (suc k) h = let r = found_within ls k h in omega (arith, r)

-- a line that states one is there
pub contradictory_within : (lines : List Line) (n : ℕ) → IsContradictory lines n → (1 ≤ n) × (n ≤ length lines)
contradictory_within lines zero h = absurd h
contradictory_within lines (suc k) h = (omega arith, found_within lines k h)
