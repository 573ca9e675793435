use Rattle.prover_top.proofs.Pieces.{three_pieces}
use Rattle.prover_top.proofs.delivering.push_rounds.Goals as goal

pub returns : goal.returns
returns c = three_pieces _ _ _ _ _ _ _ c.in_ok-push_bytes.ensures.ok c.in_ok-push_number.ensures.ok c.in_ok-push_bytes-2.ensures.ok
