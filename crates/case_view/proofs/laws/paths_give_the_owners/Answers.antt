use Rattle.case_view.proofs.Owners.{path_owner}
use Rattle.case_view.proofs.laws.paths_give_the_owners.Goals as goal

pub returns : goal.returns
returns c = path_owner
