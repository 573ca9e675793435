use Rattle.std.proofs.Common.{◌-◌, ◌∙◌, Some, ap, sym}
use Rattle.split_tree.specs.Caches.{with_retired}
use Rattle.split_tree.proofs.Lists.{set-changed_at}
use Rattle.split_tree.proofs.caches.note_newest.Goals as goal

pub returns-in-Some-clause-items : goal.returns-in-Some-clause-items
returns-in-Some-clause-items c =
    let xs = c.args.newest.now.items in
    set-changed_at (c.in-Some.field-0.clause - 1) xs (Some c.args.place) ∙ ap (λ o. with_retired o c.args.place xs) (sym c.in-Some.is)
