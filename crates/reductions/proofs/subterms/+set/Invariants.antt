use Rattle.std.proofs.Common.{◌+◌, ◌*◌, length}
use Rattle.reductions.proofs.subterms.+set.Given as goal

abbrev pub decreases-set_argument : goal.decreases-set_argument
decreases-set_argument l = 2 * length l.path.now + 1

abbrev pub decreases-set_subterm : goal.decreases-set_subterm
decreases-set_subterm l = 2 * length l.path.now
