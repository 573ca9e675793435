use Rattle.std.proofs.Common.{◌⊎◌}
use Rattle.proof_steps.specs.declared.step.Line.{Line}
use Rattle.case_view.specs.Views.{IsIn}
use Rattle.case_rounds.specs.Rounds.{Extends, IsLineOf, IsRound, IsCoveredIn}
use Rattle.case_rounds.proofs.keeping.keep_all.Given as goal

abbrev pub invariant-loop-line : goal.invariant-loop-line
invariant-loop-line l = record {
  round : IsRound l.view l.lines;
  extends : Extends l.fn.lines l.lines;
  each : (x : Line) → IsIn l.line-iterator.rest.items x → IsLineOf l.view x;
  done : (x : Line) → IsIn l.fn.made x → IsCoveredIn l.view l.lines x.stated.clause ⊎ IsIn l.line-iterator.rest.items x;
}
