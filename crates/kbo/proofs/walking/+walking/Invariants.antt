use Rattle.std.proofs.Common.{◌≡◌, min, ◌+◌, ◌≤◌, drop}
use Rattle.std.specs.List.{flat_map}
use Rattle.spl_terms.specs.Terms.{term_variables}
use Rattle.spl_truth.specs.Orders.{times}
use Rattle.kbo.proofs.walking.+walking.Given as goal

-- what was counted and what is left make the whole
abbrev pub invariant-times_in-loop-term : goal.invariant-times_in-loop-term
invariant-times_in-loop-term l =
    (min (l.count + times l.variable (flat_map term_variables (drop l.term-index l.terms))) 18446744073709551615 ≡ min (times l.variable (flat_map term_variables l.terms)) 18446744073709551615)
    × (l.count ≤ 18446744073709551615)
