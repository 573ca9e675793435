use Rattle.std.proofs.Common.{◌+◌, ◌*◌, length}
use Rattle.superposition.proofs.placing.+placing.Given as goal

abbrev pub decreases-terms_with : goal.decreases-terms_with
decreases-terms_with l = 2 * length l.path.now + 1

abbrev pub decreases-term_with : goal.decreases-term_with
decreases-term_with l = 2 * length l.path.now
