use Rattle.std.proofs.Common.{◌≡◌, ◌++◌, drop}
use Rattle.std.specs.List.{flat_map}
use Rattle.spl_terms.specs.Terms.{term_variables}
use Rattle.clause_parts.proofs.components.+collect.Given as goal

abbrev pub invariant-collect_terms-loop-term : goal.invariant-collect_terms-loop-term
invariant-collect_terms-loop-term l = l.found ++ flat_map term_variables (drop l.term-index l.terms) ≡ l.initial.found ++ flat_map term_variables l.terms
