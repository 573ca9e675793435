use Rattle.std.proofs.Common.{◌≡◌, ◌≤◌, length, ap, ◌∙◌, subst, sym}
use Rattle.proof_steps.specs.Checked.{AreConclusions, Checked}
use Rattle.spl_truth.specs.Truth.{Refuted}
use Rattle.case_journal.specs.Journal.{ledger}
use Rattle.proof_extract.specs.Extracting.{AreSplitsMarked, extracted, IsProofOf}
use Rattle.proof_extract.specs.Contradictions.{IsContradictory}
use Rattle.proof_extract.proofs.Parents.{splits_marked}
use Rattle.proof_extract.proofs.Extracts.{proof_of, proof_each, proof_short, extracted_checked, proof_refutes, if_ok}
use Rattle.proof_extract.proofs.extracting.extract.Goals as goal

pub marked_lines-requires-clause-splits : goal.marked_lines-requires-clause-splits
marked_lines-requires-clause-splits c =
    let lines = ledger c.args.table.now.setting c.args.table.now.past in
    subst (AreSplitsMarked lines) (sym c.as_slice-2.ensures) (splits_marked c.args.table.now.setting.input lines c.laws.ensures.concluded c.in_ok-marks.marks (let a = c.in_ok-marks.ensures in a.closed))

pub returns-clause-proof : goal.returns-clause-proof
returns-clause-proof c =
    let lines = ledger c.args.table.now.setting c.args.table.now.past in
    if_ok c.marked_lines.result (λ p. p ≡ extracted c.as_slice-2.result.now lines) (IsProofOf lines c.args.clause)
    (λ p is. proof_of c.args.table.now.setting.input lines p c.args.clause c.in_ok-marks.marks c.laws.ensures.concluded c.in_ok-marks.ensures (is ∙ ap (λ bs. extracted bs lines) c.as_slice-2.ensures)) c.marked_lines.ensures

pub returns-clause-conclusions : goal.returns-clause-conclusions
returns-clause-conclusions c =
    let input = c.args.table.now.setting.input in
    let lines = ledger c.args.table.now.setting c.args.table.now.past in
    if_ok c.marked_lines.result (IsProofOf lines c.args.clause) (AreConclusions input) (λ p is. proof_each input lines p c.args.clause c.laws.ensures.concluded is) (returns-clause-proof c)

pub returns-clause-checked : goal.returns-clause-checked
returns-clause-checked c =
    let input = c.args.table.now.setting.input in
    let lines = ledger c.args.table.now.setting c.args.table.now.past in
    if_ok c.marked_lines.result (IsProofOf lines c.args.clause) (λ p. IsContradictory lines c.args.clause → Checked input p)
    (λ p is. extracted_checked input lines p c.args.clause (proof_each input lines p c.args.clause c.laws.ensures.concluded is) is) (returns-clause-proof c)

pub returns-clause-refuted : goal.returns-clause-refuted
returns-clause-refuted c =
    let input = c.args.table.now.setting.input in
    let lines = ledger c.args.table.now.setting c.args.table.now.past in
    if_ok c.marked_lines.result (IsProofOf lines c.args.clause) (λ p. IsContradictory lines c.args.clause → Refuted input)
    (λ p is contradictory. proof_refutes c.proofs_refute.ensures input lines p c.args.clause c.laws.ensures.concluded is contradictory) (returns-clause-proof c)

pub returns-clause-count : goal.returns-clause-count
returns-clause-count c =
    let lines = ledger c.args.table.now.setting c.args.table.now.past in
    if_ok c.marked_lines.result (IsProofOf lines c.args.clause) (λ p. length p ≤ c.args.clause) (λ p is. proof_short lines p c.args.clause is) (returns-clause-proof c)
