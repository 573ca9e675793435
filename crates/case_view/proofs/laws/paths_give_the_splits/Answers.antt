use Rattle.case_view.proofs.Splits.{path_splits}
use Rattle.case_view.proofs.laws.paths_give_the_splits.Goals as goal

pub returns : goal.returns
returns c = path_splits
