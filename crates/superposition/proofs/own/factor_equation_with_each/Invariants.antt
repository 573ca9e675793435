use Rattle.std.proofs.Common.{drop}
use Rattle.std.specs.List.{flat_map}
use Rattle.superposition.specs.Readings.{reading_of, factor_apart}
use Rattle.superposition.proofs.Composing.{LeadsOn}
use Rattle.superposition.proofs.own.factor_equation_with_each.Given as goal

abbrev pub invariant-loop-k : goal.invariant-loop-k
invariant-loop-k l =
    LeadsOn (flat_map (λ d. factor_apart l.p (reading_of l.e) (reading_of d)) l.others) l.fn.out.items
    (flat_map (λ d. factor_apart l.p (reading_of l.e) (reading_of d)) (drop l.k l.others)) l.out.items
