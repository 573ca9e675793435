use Rattle.std.proofs.Common.{◌≡◌, fold, drop}
use Rattle.subsume.specs.Features.{numbers_of, symbol_counted}
use Rattle.subsume.proofs.features.count_atoms.Given as goal

-- what is left, symbol_counted behind what was, makes the whole
abbrev pub invariant-loop-atom : goal.invariant-loop-atom
invariant-loop-atom l = fold (symbol_counted l.base) l.counts (numbers_of (drop l.atom-index l.atoms)) ≡ fold (symbol_counted l.base) l.initial.counts (numbers_of l.atoms)
