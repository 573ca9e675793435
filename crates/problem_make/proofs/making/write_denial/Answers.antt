use Rattle.problem_make.proofs.Pieces.{three_pieces}
use Rattle.problem_make.proofs.making.write_denial.Goals as goal

pub returns : goal.returns
returns c = three_pieces _ _ _ _ _ _ _ c.in_ok-write_text.ensures c.in_ok-write_number.ensures c.in_ok-write_text-2.ensures
