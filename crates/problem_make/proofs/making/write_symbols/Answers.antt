use Rattle.problem_make.proofs.Pieces.{three_pieces}
use Rattle.problem_make.proofs.making.write_symbols.Goals as goal

pub returns : goal.returns
returns c = three_pieces _ _ _ _ _ _ _ c.in_ok-write_text.ensures c.in_ok-write_predicates.ensures c.in_ok-write_text-2.ensures
