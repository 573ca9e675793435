use Rattle.std.proofs.Common.{◌+◌, ◌*◌, sum, map}
use Rattle.spl_terms.specs.Terms.{term_symbols}
use Rattle.spl_terms.proofs.variants.+alike.Given as goal

abbrev pub decreases-alike : goal.decreases-alike
decreases-alike g l = 2 * term_symbols l.some.now

abbrev pub decreases-alike_terms : goal.decreases-alike_terms
decreases-alike_terms g l = 2 * sum (map term_symbols l.some.now) + 1
