use Rattle.std.proofs.Common.{◌≡◌, fold, drop}
use Rattle.std.specs.List.{flat_map}
use Rattle.subsume.specs.Features.{symbol_numbers, symbol_counted}
use Rattle.subsume.proofs.features.+count.Given as goal

-- what is left, symbol_counted behind what was, makes the whole
abbrev pub invariant-count_terms-loop-term : goal.invariant-count_terms-loop-term
invariant-count_terms-loop-term l =
    fold (symbol_counted l.base) l.counts (flat_map symbol_numbers (drop l.term-index l.terms)) ≡ fold (symbol_counted l.base) l.initial.counts (flat_map symbol_numbers l.terms)
