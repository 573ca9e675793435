use Rattle.prover_top.proofs.Pieces.{five_pieces}
use Rattle.prover_top.proofs.delivering.push_input.Goals as goal

pub returns : goal.returns
returns c = five_pieces _ _ _ _ _ _ _ _ _ _ _ c.in_ok-push_bytes.ensures.ok c.in_ok-push_number.ensures.ok c.in_ok-push_bytes-2.ensures.ok c.in_ok-push_kind.ensures c.in_ok-push_bytes-3.ensures.ok
