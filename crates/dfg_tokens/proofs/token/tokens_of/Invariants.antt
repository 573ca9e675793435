use Rattle.std.proofs.Common.{◌≡◌, ◌+◌, ◌++◌, length}
use Rattle.dfg_tokens.specs.Tokens.{tokens_from, tokens, IsWarned}
use Rattle.dfg_tokens.proofs.token.tokens_of.Given as goal

abbrev pub invariant-loop-left : goal.invariant-loop-left
invariant-loop-left l = (l.found.items ++ tokens_from l.at 0 l.left ≡ tokens l.bytes) × (l.at + length l.left ≡ length l.bytes) × IsWarned l.may_close l.left

abbrev pub decreases-loop-left : goal.decreases-loop-left
decreases-loop-left l = length l.left
