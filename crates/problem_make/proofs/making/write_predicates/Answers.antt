use Rattle.problem_make.proofs.Pieces.{four_pieces}
use Rattle.problem_make.proofs.making.write_predicates.Goals as goal

pub returns : goal.returns
returns c = four_pieces _ _ _ _ _ _ _ _ _ c.in_ok-write_text.ensures c.in_ok-write_chain.ensures c.in_ok-write_splits.ensures c.in_ok-write_text-2.ensures
