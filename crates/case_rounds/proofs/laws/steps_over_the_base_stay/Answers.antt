use Rattle.case_rounds.proofs.Shifts.{events_stay}
use Rattle.case_rounds.proofs.laws.steps_over_the_base_stay.Goals as goal

pub returns : goal.returns
returns c = events_stay
