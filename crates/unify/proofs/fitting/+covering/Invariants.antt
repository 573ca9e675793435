use Rattle.std.proofs.Common.{◌+◌, ◌*◌, sum, map}
use Rattle.spl_terms.specs.Terms.{term_symbols}
use Rattle.unify.proofs.fitting.+covering.Given as goal

abbrev pub decreases-covers : goal.decreases-covers
decreases-covers l = 2 * term_symbols l.pattern.now

abbrev pub decreases-all_cover : goal.decreases-all_cover
decreases-all_cover l = 2 * sum (map term_symbols l.patterns.now) + 1
