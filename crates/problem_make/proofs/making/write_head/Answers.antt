use Rattle.problem_make.proofs.Pieces.{two_pieces}
use Rattle.problem_make.proofs.making.write_head.Goals as goal

pub returns : goal.returns
returns c = two_pieces _ _ _ _ _ c.in_ok-write_text.ensures c.in_ok-write_text-2.ensures
