use Rattle.std.proofs.Common.{◌≡◌, nat_le, drop}
use Rattle.std.specs.List.{list_all, flat_map}
use Rattle.spl_terms.specs.Terms.{term_variables}
use Rattle.spl_truth.specs.Orders.{times}
use Rattle.kbo.proofs.walking.+covering.Given as goal

-- what is left decides
abbrev pub invariant-covers_parts-loop-part : goal.invariant-covers_parts-loop-part
invariant-covers_parts-loop-part l =
    list_all (λ v. nat_le (times v (flat_map term_variables l.others)) (times v (flat_map term_variables l.terms))) (flat_map term_variables (drop l.part-index l.parts))
    ≡ list_all (λ v. nat_le (times v (flat_map term_variables l.others)) (times v (flat_map term_variables l.terms))) (flat_map term_variables l.parts)
