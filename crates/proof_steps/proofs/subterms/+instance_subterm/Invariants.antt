use Rattle.std.proofs.Common.{length}
use Rattle.proof_steps.proofs.subterms.+instance_subterm.Given as goal

abbrev pub decreases-instance_subterm : goal.decreases-instance_subterm
decreases-instance_subterm l = length l.path.now
