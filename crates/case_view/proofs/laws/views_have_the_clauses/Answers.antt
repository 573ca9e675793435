use Rattle.case_view.proofs.Members.{has_clauses}
use Rattle.case_view.proofs.laws.views_have_the_clauses.Goals as goal

pub returns : goal.returns
returns c = has_clauses
