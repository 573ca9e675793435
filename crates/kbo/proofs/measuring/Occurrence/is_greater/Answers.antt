use Rattle.std.proofs.Common.{◌∙◌, nat_lt}
use Rattle.kbo.specs.Measures.{prevails}
use Rattle.kbo.proofs.MeasureLemmas.{predicates_prevail}
use Rattle.kbo.proofs.measuring.Occurrence.is_greater.Goals as goal

pub returns-in-Holds-Holds : goal.returns-in-Holds-Holds
returns-in-Holds-Holds c =
    predicates_prevail c.args.self.part c.args.other.part _ _ c.in-Holds-Holds.predicate c.in-Holds-Holds.second c.in-Holds-Holds.args c.in-Holds-Holds.others _ _
    c.in-Holds-Holds.is-0 c.in-Holds-Holds.is-1 c.as_slice.ensures c.as_slice-in-Holds-Holds.ensures
    c.compare_views-order.result _ c.compare_views-order.ensures
    (c.prevails.ensures ∙ (λ i. prevails c.compare_views-order.result (nat_lt (c.copies-in-Holds-Holds.ensures i) (c.copies.ensures i))))
