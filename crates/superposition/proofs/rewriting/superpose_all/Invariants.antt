use Rattle.std.proofs.Common.{drop}
use Rattle.std.specs.List.{flat_map}
use Rattle.superposition.specs.Readings.{reading_of}
use Rattle.superposition.specs.Walks.{superpose_in_parts}
use Rattle.superposition.proofs.Composing.{LeadsOn}
use Rattle.superposition.proofs.rewriting.superpose_all.Given as goal

abbrev pub invariant-loop-k : goal.invariant-loop-k
invariant-loop-k l =
    LeadsOn (flat_map (λ e. superpose_in_parts l.pair.p.now l.pair.q.now l.antecedent l.succedent (reading_of e)) l.equations) l.fn.out.items
    (flat_map (λ e. superpose_in_parts l.pair.p.now l.pair.q.now l.antecedent l.succedent (reading_of e)) (drop l.k l.equations)) l.out.items
