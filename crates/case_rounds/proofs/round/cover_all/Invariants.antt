use Rattle.case_rounds.specs.Rounds.{IsRound}
use Rattle.case_rounds.proofs.Lines.{CoversPremises}
use Rattle.case_rounds.proofs.round.cover_all.Given as goal

abbrev pub invariant-loop-place : goal.invariant-loop-place
invariant-loop-place l = record {
  round : IsRound l.view l.lines;
  covers : CoversPremises l.view l.lines l.given l.partners.items l.place;
}
