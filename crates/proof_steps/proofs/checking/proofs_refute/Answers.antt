use Rattle.proof_steps.proofs.Sound.{refuted-checked}
use Rattle.proof_steps.proofs.checking.proofs_refute.Goals as goal

pub returns : goal.returns
returns c = refuted-checked
