use Rattle.std.proofs.Common.{◌+◌, ◌*◌, sum, map}
use Rattle.spl_terms.specs.Terms.{term_symbols}
use Rattle.unify.proofs.fitting.+fitting.Given as goal

abbrev pub decreases-fits : goal.decreases-fits
decreases-fits l = 2 * term_symbols l.a.now

abbrev pub decreases-all_fit : goal.decreases-all_fit
decreases-all_fit l = 2 * sum (map term_symbols l.some.now) + 1
