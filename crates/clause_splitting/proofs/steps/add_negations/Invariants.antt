use Rattle.std.proofs.Common.{◌≡◌, ◌++◌, map}
use Rattle.proof_steps.specs.declared.step.Line.{Line}
use Rattle.case_journal.specs.Legal.{negation_steps}
use Rattle.clause_splitting.specs.Splitting.{AreAssumed}
use Rattle.clause_splitting.proofs.steps.add_negations.Given as goal

abbrev pub invariant-loop-number : goal.invariant-loop-number
invariant-loop-number l = record {
  steps : map (λ (x : Line). x.step) l.lines ≡ map (λ (x : Line). x.step) l.fn.lines ++ negation_steps l.clause 0 l.number;
  each : AreAssumed l.clause l.parts l.lines;
}
