use Rattle.std.proofs.Common.{◌≡◌, ◌+◌, length}
use Rattle.dfg_tokens.specs.Tokens.{tokens_from, IsWarned}
use Rattle.dfg_tokens.proofs.cursor.scan.Given as goal

abbrev pub invariant-loop-next : goal.invariant-loop-next
invariant-loop-next l = (tokens_from l.at 0 l.left ≡ tokens_from l.place 0 l.bytes) × (l.at + length l.left ≡ l.place + length l.bytes) × IsWarned l.may_close l.left

abbrev pub decreases-loop-next : goal.decreases-loop-next
decreases-loop-next l = length l.left
