use Rattle.std.proofs.Common.{◌≡◌, ◌==◌, drop}
use Rattle.std.specs.List.{list_any, flat_map}
use Rattle.spl_terms.specs.Terms.{term_variables}
use Rattle.kbo.proofs.walking.+searching.Given as goal

-- what is left decides
abbrev pub invariant-occurs_in-loop-term : goal.invariant-occurs_in-loop-term
invariant-occurs_in-loop-term l = list_any (λ w. l.variable == w) (flat_map term_variables (drop l.term-index l.terms)) ≡ list_any (λ w. l.variable == w) (flat_map term_variables l.terms)
