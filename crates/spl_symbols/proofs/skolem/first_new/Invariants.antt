use Rattle.std.proofs.Common.{◌≡◌, ℕ, ◌<◌, ◌≤◌, is_some, true}
use Rattle.spl_symbols.specs.Symbols.{found}
use Rattle.spl_symbols.specs.Skolems.{skolem_name}
use Rattle.spl_symbols.proofs.skolem.first_new.Given as goal

abbrev pub invariant-loop-k : goal.invariant-loop-k
invariant-loop-k l = (j : ℕ) → l.from ≤ j → j < l.k → is_some (found (skolem_name l.arity j) l.signature) ≡ true
