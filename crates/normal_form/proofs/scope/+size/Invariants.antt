use Rattle.std.proofs.Common.{◌≡◌, min, ◌+◌, ◌≤◌, sum, map, drop}
use Rattle.spl_terms.specs.Terms.{term_symbols, replace}
use Rattle.normal_form.specs.Blocks.{term_in}
use Rattle.normal_form.proofs.scope.+size.Given as goal

-- what was counted and what is left make the whole
abbrev pub invariant-instances_symbols-loop-term : goal.invariant-instances_symbols-loop-term
invariant-instances_symbols-loop-term l = (min (l.count + sum (map term_symbols (map (replace (term_in l.blocks)) (drop l.term-index l.terms)))) 18446744073709551615 ≡ min (sum (map term_symbols (map (replace (term_in l.blocks)) l.terms))) 18446744073709551615) × (l.count ≤ 18446744073709551615)
