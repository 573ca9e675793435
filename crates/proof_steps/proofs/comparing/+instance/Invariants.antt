use Rattle.std.proofs.Common.{◌+◌, ◌*◌, sum, map}
use Rattle.spl_terms.specs.Terms.{term_symbols}
use Rattle.proof_steps.proofs.comparing.+instance.Given as goal

abbrev pub decreases-is_instance : goal.decreases-is_instance
decreases-is_instance l = 2 * term_symbols l.pattern.now

abbrev pub decreases-are_instances : goal.decreases-are_instances
decreases-are_instances l = 2 * sum (map term_symbols l.patterns.now) + 1
