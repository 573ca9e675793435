use Rattle.problem_make.proofs.Pieces.{four_pieces}
use Rattle.problem_make.proofs.making.write_clauses.Goals as goal

pub returns : goal.returns
returns c = four_pieces _ _ _ _ _ _ _ _ _ c.in_ok-write_text.ensures c.in_ok-write_links.ensures c.in_ok-write_denial.ensures c.in_ok-write_text-2.ensures
