use Rattle.std.proofs.Common.{◌≡◌}
use Rattle.proof_steps.specs.declared.step.Line.{Line}
use Rattle.case_view.specs.PlaceLaws.{AtFirst}
use Rattle.case_rounds.proofs.round_lines.is_subclause_at.Given as goal

abbrev pub invariant-loop-k : goal.invariant-loop-k
invariant-loop-k l = AtFirst (λ (x : Line). ¬ (x.stated.clause ≡ l.clause)) l.places l.lines l.k
