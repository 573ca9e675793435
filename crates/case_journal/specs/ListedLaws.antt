-- Laws that carry proofs, and no definitions that a reader must believe: where clauses are listed and steps stand is what the journal says.
use Rattle.std.proofs.Common.{◌≡◌, ℕ, ◌≤◌, inl, inr, true, eqb, List, [], ◌∷◌, length, arith}
use Rattle.std.proofs.lemmas.Bool.{or_cases}
use Rattle.case_journal.specs.declared.event.Entry.{Entry}
use Rattle.case_journal.specs.Journal.{Setting, nodes, steps}
use Rattle.case_journal.specs.Paths.{stem, on_path}
use Rattle.case_journal.specs.Facts.{lists, listed}
use Rattle.case_journal.specs.Legal.{IsLegalJournal}
use Rattle.case_journal.specs.ListLaws.{length-input_lines}
use Rattle.case_journal.specs.PlaceLaws.{steps_more, lists_new, in_input}

-- a listed number is one of the ledger
pub listed_within : (s : Setting) (past : List Entry) → IsLegalJournal s past → (m i : ℕ) → listed s past m i ≡ true → (1 ≤ i) × (i ≤ steps s past)
listed_within s [] legal m i h = let r = in_input (eqb m 0) i (length s.input) h in (r.0, omega (arith, r.1, length-input_lines 1 s.input))
listed_within s (e ∷ past) legal m i h =
    let more = steps_more s past e in
    elim (or_cases (lists e.event (nodes past) (steps s past) (on_path past m) m i) (listed s past (stem e.event (nodes past) m) i) h) [
      | inl l ↦ let q = lists_new s past e.by e.event (nodes past) (on_path past m) m i legal.0.asked l in (omega arith, omega arith)
      | inr r ↦ let q = listed_within s past legal.1 (stem e.event (nodes past) m) i r in (omega arith, omega arith)
    ]
