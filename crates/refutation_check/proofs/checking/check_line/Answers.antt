use Rattle.std.proofs.Common.{◌∙◌, ◌+◌, length, sym}
use Rattle.std.proofs.lemmas.Bool.{false≢true}
use Rattle.proof_steps.specs.Checked.{stated}
use Rattle.refutation_check.proofs.Verdicts.{parent_fault, shape_fault, compared, all_there, there_all}
use Rattle.refutation_check.proofs.checking.check_line.Goals as goal

pub returns-then-not-are_earlier : goal.returns-then-not-are_earlier
returns-then-not-are_earlier c =
    let earlier = c.args.earlier.now in
    let line = c.args.line.now in
    parent_fault c.args.input.now (stated earlier) line (length earlier + 1) c.fault.result
    (λ h. false≢true (sym c.if-not-are_earlier.true ∙ c.are_earlier.ensures.1 (there_all earlier c.as_slice.result.now line c.as_slice.ensures h)))
    c.fault.ensures

pub returns-in-Some : goal.returns-in-Some
returns-in-Some c =
    let earlier = c.args.earlier.now in
    compared c.args.input.now (stated earlier) c.args.line.now (length earlier + 1) c.in-Some.wanted c.compare.result (sym c.in_ok-wanted.ensures ∙ c.in-Some.is) c.compare.ensures

pub returns-in-None : goal.returns-in-None
returns-in-None c =
    let earlier = c.args.earlier.now in
    let line = c.args.line.now in
    shape_fault c.args.input.now (stated earlier) line (length earlier + 1) c.fault-in-None.result
    (all_there earlier c.as_slice.result.now line c.as_slice.ensures (c.are_earlier.ensures.0 c.if-not-are_earlier.false))
    (sym c.in_ok-wanted.ensures ∙ c.in-None.is)
    c.fault-in-None.ensures
