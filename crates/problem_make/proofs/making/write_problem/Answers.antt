use Rattle.problem_make.proofs.Pieces.{four_pieces}
use Rattle.problem_make.proofs.making.write_problem.Goals as goal

pub returns : goal.returns
returns c = four_pieces _ _ _ _ _ _ _ _ _ c.in_ok-write_head.ensures c.in_ok-write_symbols.ensures c.in_ok-write_clauses.ensures c.in_ok-write_text.ensures
