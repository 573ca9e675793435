use Rattle.std.proofs.Common.{arith}
use Rattle.proof_steps.specs.Spots.{with_term_under}
use Rattle.reductions.proofs.Paths.{refilled_changed, refilled_same}
use Rattle.reductions.proofs.subterms.set_term_in.Goals as goal

pub returns-then-place-atoms : goal.returns-then-place-atoms
returns-then-place-atoms c =
    refilled_changed c.args.atoms.now c.as_mut_slice-atoms.result.now c.args.place (with_term_under c.args.path.now c.args.new) c.index-atoms-place.result c.set_term_under.new.atom
    c.as_mut_slice-atoms.ensures.value (omega (arith, c.if-place-atoms.true, c.as_mut_slice-atoms.ensures.len)) c.index-atoms-place.is c.set_term_under.ensures

pub returns-else-place-atoms : goal.returns-else-place-atoms
returns-else-place-atoms c = refilled_same c.args.atoms.now c.as_mut_slice-atoms.result.now c.args.place (with_term_under c.args.path.now c.args.new) c.as_mut_slice-atoms.ensures.value c.if-place-atoms.false
