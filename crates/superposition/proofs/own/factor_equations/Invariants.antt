use Rattle.std.proofs.Common.{drop}
use Rattle.std.specs.List.{flat_map}
use Rattle.superposition.specs.Readings.{reading_of, factor_apart}
use Rattle.superposition.proofs.Composing.{LeadsOn}
use Rattle.superposition.proofs.own.factor_equations.Given as goal

abbrev pub invariant-loop-k : goal.invariant-loop-k
invariant-loop-k l =
    LeadsOn (flat_map (λ e. flat_map (λ d. factor_apart l.p (reading_of e) (reading_of d)) l.others) l.equations) l.fn.out.items
    (flat_map (λ e. flat_map (λ d. factor_apart l.p (reading_of e) (reading_of d)) l.others) (drop l.k l.equations)) l.out.items
