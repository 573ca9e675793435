use Rattle.std.proofs.Common.{◌+◌, ◌*◌, sum, map}
use Rattle.spl_terms.specs.Terms.{term_symbols}
use Rattle.kbo.proofs.tally.Tally.+ordering.Given as goal

abbrev pub decreases-order_terms : goal.decreases-order_terms
decreases-order_terms g l = 4 * term_symbols l.term.now

abbrev pub decreases-order_applications : goal.decreases-order_applications
decreases-order_applications g l = 4 * sum (map term_symbols l.args.now) + 3

abbrev pub decreases-order_below : goal.decreases-order_below
decreases-order_below g l = 4 * sum (map term_symbols l.args.now) + 2

abbrev pub decreases-order_lists : goal.decreases-order_lists
decreases-order_lists g l = 4 * sum (map term_symbols l.terms.now) + 1
