use Rattle.std.proofs.Common.{◌≡◌, ◌+◌, ◌++◌, drop}
use Rattle.proof_text.specs.Texts.{lines_text}
use Rattle.proof_text.proofs.lines.push_lines.Given as goal

abbrev pub invariant-loop-k : goal.invariant-loop-k
invariant-loop-k l = l.out.items ++ lines_text l.signature (l.k + 1) (drop l.k l.lines) ≡ l.fn.out.items ++ lines_text l.signature 1 l.lines
