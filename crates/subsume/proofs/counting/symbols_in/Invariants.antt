use Rattle.std.proofs.Common.{◌≡◌, min, ◌+◌, ◌≤◌, sum_by, drop}
use Rattle.spl_terms.specs.Clauses.{atom_symbols}
use Rattle.subsume.proofs.counting.symbols_in.Given as goal

-- what was symbol_counted and what is left make the whole
abbrev pub invariant-loop-atom : goal.invariant-loop-atom
invariant-loop-atom l = (min (l.count + sum_by atom_symbols (drop l.atom-index l.atoms)) 18446744073709551615 ≡ min (sum_by atom_symbols l.atoms) 18446744073709551615) × (l.count ≤ 18446744073709551615)
