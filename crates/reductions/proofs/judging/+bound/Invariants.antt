use Rattle.std.proofs.Common.{◌≡◌, drop}
use Rattle.std.specs.List.{list_all}
use Rattle.reductions.specs.Rewriting.{all_bound}
use Rattle.reductions.proofs.judging.+bound.Given as goal

abbrev pub invariant-are_bound-loop-term : goal.invariant-are_bound-loop-term
invariant-are_bound-loop-term l = list_all (all_bound l.found.1) (drop l.term-index l.terms) ≡ list_all (all_bound l.found.1) l.terms
