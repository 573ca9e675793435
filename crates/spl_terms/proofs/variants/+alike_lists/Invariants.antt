use Rattle.std.proofs.Common.{length}
use Rattle.spl_terms.proofs.variants.+alike_lists.Given as goal

abbrev pub decreases-alike_lists : goal.decreases-alike_lists
decreases-alike_lists g l = length l.some.now
