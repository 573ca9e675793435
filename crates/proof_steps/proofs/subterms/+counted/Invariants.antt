use Rattle.std.proofs.Common.{◌+◌, ◌*◌, length}
use Rattle.proof_steps.proofs.subterms.+counted.Given as goal

abbrev pub decreases-changed_symbols : goal.decreases-changed_symbols
decreases-changed_symbols l = 2 * length l.path.now

abbrev pub decreases-changed_symbols_of : goal.decreases-changed_symbols_of
decreases-changed_symbols_of l = 2 * length l.path.now + 1
