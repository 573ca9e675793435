use Rattle.std.proofs.Common.{◌≡◌, length}
use Rattle.dfg_lists.specs.Lists.{passed_at}
use Rattle.dfg_lists.proofs.passing.pass_over.Given as goal

abbrev pub invariant-loop-tokens : goal.invariant-loop-tokens
invariant-loop-tokens l = passed_at l.tokens ≡ passed_at l.fn.tokens

abbrev pub decreases-loop-tokens : goal.decreases-loop-tokens
decreases-loop-tokens l = length l.tokens
