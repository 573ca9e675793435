use Rattle.std.proofs.Common.{◌++◌, ◌+◌, [], ◌∷◌, ap, ◌∙◌}
use Rattle.std.specs.List.{filter}
use Rattle.normal_form.specs.Marking.{is_marked}
use Rattle.normal_form.proofs.Freshness.{filter_more}
use Rattle.normal_form.proofs.scoping.add_arguments.Goals as goal

pub loop-place-preserved : goal.loop-place-preserved
loop-place-preserved c =
    c.in_ok-add_marked.ensures
    ∙ ap (λ l. l ++ filter (is_marked c.args.marks.now) ((c.args.block.now.first + c.loop-place.place) ∷ [])) c.loop-place.invariant
    ∙ filter_more (is_marked c.args.marks.now) c.args.found.now c.args.block.now.first c.loop-place.place
