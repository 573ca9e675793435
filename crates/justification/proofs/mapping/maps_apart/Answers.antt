use Rattle.std.proofs.Common.{◌≡◌, ◌↔◌, ◌∙◌, true, sym, ap, subst}
use Rattle.spl_truth.specs.Truth.{entry}
use Rattle.spl_truth.specs.Redundancy.{MapsApart, EachPart}
use Rattle.justification.specs.Tests.{are_mapped_apart, passes_at_parts}
use Rattle.justification.proofs.Images.{apart-exact}
use Rattle.justification.proofs.mapping.maps_apart.Goals as goal

pub returns : goal.returns
returns c =
    subst (λ b. (b ≡ true) ↔ EachPart (MapsApart (entry c.args.subst.now.terms)) c.args.clause.now c.args.into.now)
    (ap (λ l. passes_at_parts (are_mapped_apart (entry l)) c.args.clause.now c.args.into.now) (sym c.as_slice.ensures) ∙ sym c.in_ok-passes.ensures)
    (apart-exact (entry c.args.subst.now.terms) c.args.clause.now c.args.into.now c.requires)
