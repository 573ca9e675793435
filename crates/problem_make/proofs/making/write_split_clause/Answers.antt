use Rattle.problem_make.proofs.Pieces.{five_pieces}
use Rattle.problem_make.proofs.making.write_split_clause.Goals as goal

pub returns : goal.returns
returns c = five_pieces _ _ _ _ _ _ _ _ _ _ _ c.in_ok-write_text.ensures c.in_ok-write_number.ensures c.in_ok-write_text-2.ensures c.in_ok-write_number-2.ensures c.in_ok-write_text-3.ensures
