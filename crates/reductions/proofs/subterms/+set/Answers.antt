use Rattle.std.proofs.Common.{arith}
use Rattle.proof_steps.specs.Spots.{with_subterm}
use Rattle.reductions.proofs.Paths.{refilled_changed, refilled_same}
use Rattle.reductions.proofs.subterms.+set.Goals as goal

pub set_argument-returns-then-place-args : goal.set_argument-returns-then-place-args
set_argument-returns-then-place-args t c =
    refilled_changed c.args.args.now c.as_mut_slice-args.result.now c.args.place (with_subterm c.args.path.now c.args.new) c.index-args-place.result c.set_subterm.new.term
    c.as_mut_slice-args.ensures.value (omega (arith, c.if-place-args.true, c.as_mut_slice-args.ensures.len)) c.index-args-place.is c.set_subterm.ensures

pub set_argument-returns-else-place-args : goal.set_argument-returns-else-place-args
set_argument-returns-else-place-args t c = refilled_same c.args.args.now c.as_mut_slice-args.result.now c.args.place (with_subterm c.args.path.now c.args.new) c.as_mut_slice-args.ensures.value c.if-place-args.false
