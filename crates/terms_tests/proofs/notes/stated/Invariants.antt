use Rattle.justification.specs.Hiding.{AreStatedInOrder}
use Rattle.terms_tests.proofs.notes.stated.Given as goal

-- the statements made so far are in order
abbrev pub invariant-loop-written : goal.invariant-loop-written
invariant-loop-written l = AreStatedInOrder l.made.items
