use Rattle.std.proofs.Common.{◌≡◌, ◌++◌, drop, map, true}
use Rattle.std.specs.Prelude.{◌==◌}
use Rattle.spl_symbols.specs.Symbols.{name_of}
use Rattle.proof_text.specs.Texts.{term_text, separated}
use Rattle.proof_text.proofs.words.+terms.Given as goal

abbrev pub invariant-push_applied-loop-k : goal.invariant-push_applied-loop-k
invariant-push_applied-loop-k l = l.out.items ++ separated (l.k == 0) (map (term_text l.signature) (drop l.k l.args)) ≡ l.fn.out.items ++ name_of l.signature l.number ++ separated true (map (term_text l.signature) l.args)
