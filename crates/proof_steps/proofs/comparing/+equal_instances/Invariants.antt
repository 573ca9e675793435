use Rattle.std.proofs.Common.{◌+◌, ◌*◌, sum, map}
use Rattle.spl_terms.specs.Terms.{term_symbols}
use Rattle.proof_steps.proofs.comparing.+equal_instances.Given as goal

abbrev pub decreases-equal_instances : goal.decreases-equal_instances
decreases-equal_instances l = 2 * term_symbols l.a.now

abbrev pub decreases-all_equal_instances : goal.decreases-all_equal_instances
decreases-all_equal_instances l = 2 * sum (map term_symbols l.some.now) + 1
