use Rattle.std.proofs.Common.{◌+◌, ◌≤◌, drop, sum_by}
use Rattle.spl_terms.specs.Terms.{term_symbols, replace}
use Rattle.spl_truth.specs.Truth.{entry}
use Rattle.superposition.specs.Sizes.{entries_from}
use Rattle.superposition.proofs.counting.+counting.Given as goal

-- what was counted and what is left have no more than the whole
abbrev pub invariant-symbols_in_up_to-loop-term : goal.invariant-symbols_in_up_to-loop-term
invariant-symbols_in_up_to-loop-term l =
    (l.count + sum_by (λ t. term_symbols (replace (entry (entries_from l.from l.past l.bindings.1)) t)) (drop l.term-index l.terms) ≤ sum_by (λ t. term_symbols (replace (entry (entries_from l.from l.past l.bindings.1)) t)) l.terms)
    × (l.count ≤ l.limit)
