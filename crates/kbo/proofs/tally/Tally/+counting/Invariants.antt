use Rattle.std.proofs.Common.{◌≡◌, ◌+◌, fold, sum, map, drop}
use Rattle.std.specs.List.{flat_map}
use Rattle.spl_terms.specs.Terms.{term_symbols, term_variables}
use Rattle.kbo.specs.Tallies.{rebalanced, met_beyond, on_left, on_right}
use Rattle.kbo.proofs.tally.Tally.+counting.Given as goal

-- what was counted and what is left make the whole
abbrev pub invariant-count_all-loop-term : goal.invariant-count_all-loop-term
invariant-count_all-loop-term g l = record {
  balances : fold (rebalanced l.side) l.self.balances (flat_map term_variables (drop l.term-index l.terms)) ≡ fold (rebalanced l.side) l.fn.self.balances (flat_map term_variables l.terms);
  beyond : fold (met_beyond g.row.N) l.self.beyond (flat_map term_variables (drop l.term-index l.terms)) ≡ fold (met_beyond g.row.N) l.fn.self.beyond (flat_map term_variables l.terms);
  left : l.self.left + on_left l.side (sum (map term_symbols (drop l.term-index l.terms))) ≡ l.fn.self.left + on_left l.side (sum (map term_symbols l.terms));
  right : l.self.right + on_right l.side (sum (map term_symbols (drop l.term-index l.terms))) ≡ l.fn.self.right + on_right l.side (sum (map term_symbols l.terms));
}
