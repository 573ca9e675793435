-- The clauses of a view are in order, since those of the ledger are.
use Rattle.std.specs.Prelude.{slice_get, option_and_then, option_map}
use Rattle.std.proofs.Common.{◌≡◌, ℕ, zero, suc, ◌+◌, Bool, true, false, cond, List, [], ◌∷◌, ◌++◌, Option, Some, None, refl, sym, ◌∙◌, subst}
use Rattle.spl_terms.specs.Clauses.{renumbered}
use Rattle.proof_steps.specs.declared.step.Line.{Line}
use Rattle.proof_steps.specs.Steps.{numbered}
use Rattle.case_journal.specs.declared.event.Entry.{Entry}
use Rattle.case_journal.specs.declared.event.Event.{Event}
use Rattle.case_journal.specs.declared.event.Event.TheVariants.{Activate}
use Rattle.case_journal.specs.Journal.{Setting, ledger, lines_of, nodes}
use Rattle.case_journal.specs.Paths.{stem, on_path}
use Rattle.case_journal.specs.Facts.{chosen, listed}
use Rattle.case_journal.specs.LedgerLaws.{numbered_more}
use Rattle.case_view.specs.declared.kept.Kept.{Kept}
use Rattle.case_view.specs.declared.kept.Case.{Case}
use Rattle.case_view.specs.Views.{AreOrdered, IsOrdered, keep, kept_line, kept_lines, given_at, and_more, worked_by, worked_at, IsCaseOf}

-- each line's clause is its own renumbering
abbrev pub AreOwn : List Line → Type 0
AreOwn lines = (n : ℕ) (l : Line) → numbered lines n ≡ Some l → renumbered l.stated.clause ≡ l.stated.clause

abbrev IsOwn : Kept → Type 0
IsOwn k = renumbered k.stated.clause ≡ k.stated.clause

line_own : (lines : List Line) → AreOwn lines → (n : ℕ) (o : Option Line) → numbered lines n ≡ o → (k : Kept) → option_map (keep n) o ≡ Some k → IsOwn k
line_own lines own n None e k h = absurd (cc)
line_own lines own n (Some l) e k h = let same : keep n l ≡ k = cc in subst IsOwn same (own n l e)

chosen_own : (lines : List Line) → AreOwn lines → (o : Option ℕ) (k : Kept) → option_and_then (kept_line lines) o ≡ Some k → IsOwn k
chosen_own lines own None k h = absurd (cc)
chosen_own lines own (Some n) k h = line_own lines own n (numbered lines n) refl k h

given_own : (s : Setting) (past : List Entry) → AreOwn (ledger s past) → (m : ℕ) (k : Kept) → given_at s past m ≡ Some k → IsOwn k
given_own s past own m k h = chosen_own (ledger s past) own (chosen past m) k h

own_before : (xs ys : List Line) → AreOwn (xs ++ ys) → AreOwn xs
own_before xs ys own n l h = own n l (numbered_more xs ys n l h)

more_own : (list : List Kept) (o : Option Kept) → AreOrdered list → ((k : Kept) → o ≡ Some k → IsOwn k) → AreOrdered (and_more list o)
more_own list None each one k at = each k at
more_own [] (Some x) each one k (zero, at) = one k at
more_own [] (Some x) each one k (suc i, at) = absurd (cc)
more_own (y ∷ list) (Some x) each one k (zero, at) = each k (0, at)
more_own (y ∷ list) (Some x) each one k (suc i, at) = more_own list (Some x) (λ z h. each z (suc h.0, h.1)) one k (i, at)

by_event : (ev : Event) (given : ℕ → Option Kept) (on : ℕ → Bool) (list : List Kept) → AreOrdered list → ((n : ℕ) (k : Kept) → given n ≡ Some k → IsOwn k) → AreOrdered (worked_by ev given on list)
by_event (Activate node) given on list each own = go (on node)
  where
    go : (b : Bool) → AreOrdered (cond b (and_more list (given node)) list)
    go true = more_own list (given node) each (own node)
    go false = each
by_event _ given on list each own = each

worked_own : (s : Setting) (past : List Entry) → AreOwn (ledger s past) → (m : ℕ) → AreOrdered (worked_at s past m)
worked_own s [] own m k (i, at) = absurd (cc)
worked_own s (e ∷ past) own m k at =
    let before = own_before (ledger s past) (lines_of e.event) own in
    let up = stem e.event (nodes past) m in
    by_event e.event (given_at s past) (on_path past up) (worked_at s past up) (worked_own s past before up) (λ n x h. given_own s past before n x h) k at

-- lines whose clauses are their own renumberings, by place
abbrev AreOwnAt : List Line → Type 0
AreOwnAt lines = (i : ℕ) (l : Line) → slice_get lines i ≡ Some l → renumbered l.stated.clause ≡ l.stated.clause

either_own : (b : Bool) (x : Kept) (ks : List Kept) → IsOwn x → AreOrdered ks → AreOrdered (cond b (x ∷ ks) ks)
either_own true x ks own rest k (zero, at) = let same : x ≡ k = cc in subst IsOwn same own
either_own true x ks own rest k (suc i, at) = rest k (i, at)
either_own false x ks own rest k at = rest k at

kept_own : (on : ℕ → Bool) (n : ℕ) (lines : List Line) → AreOwnAt lines → AreOrdered (kept_lines on n lines)
kept_own on n [] own k (i, at) = absurd (cc)
kept_own on n (l ∷ lines) own k at = either_own (on n) (keep n l) (kept_lines on (n + 1) lines) (own 0 l refl) (λ x h. kept_own on (n + 1) lines (λ i y e. own (suc i) y e) x h) k at

pub case_ordered : (s : Setting) (past : List Entry) (v : Case) → AreOwn (ledger s past) → IsCaseOf s past v → IsOrdered v
case_ordered s past v own h = record {
  given = λ k is. given_own s past own v.node k (sym h.given ∙ is);
  worked = subst AreOrdered (sym h.worked) (worked_own s past own v.node);
  listed = subst AreOrdered (sym h.listed) (kept_own (listed s past v.node) 1 (ledger s past) (λ i l at. own (suc i) l at));
}
