use Rattle.prover_top.proofs.Pieces.{seven_pieces}
use Rattle.prover_top.proofs.delivering.push_completion.Goals as goal

pub returns : goal.returns
returns c = seven_pieces _ _ _ _ _ _ _ _ _ _ _ _ _ _ _ c.in_ok-push_bytes.ensures.ok c.in_ok-push_number.ensures.ok c.in_ok-push_bytes-2.ensures.ok c.in_ok-push_number-2.ensures.ok c.in_ok-push_bytes-3.ensures.ok c.in_ok-push_number-3.ensures.ok c.in_ok-push_bytes-4.ensures.ok
