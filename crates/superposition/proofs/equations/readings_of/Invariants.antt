use Rattle.std.proofs.Common.{◌≡◌, ◌++◌, drop, map}
use Rattle.std.specs.List.{flat_map}
use Rattle.calculus.specs.Inferences.{readings}
use Rattle.superposition.specs.Words.{plain}
use Rattle.superposition.specs.Readings.{reading_of, AreJudged}
use Rattle.superposition.proofs.equations.readings_of.Given as goal

abbrev pub invariant-loop-k : goal.invariant-loop-k
invariant-loop-k l = (map reading_of l.made.items ++ flat_map readings (plain (drop l.k l.atoms)) ≡ flat_map readings (plain l.atoms)) × AreJudged l.made.items
