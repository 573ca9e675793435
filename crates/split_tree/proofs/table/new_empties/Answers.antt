use Rattle.std.proofs.Common.{[], ◌∙◌, ap, refl}
use Rattle.split_tree.specs.Caches.{noted_empties}
use Rattle.split_tree.proofs.Empties.{noted-all}
use Rattle.split_tree.proofs.table.new_empties.Goals as goal

pub returns : goal.returns
returns c = record { items = c.note_empties.ensures.items ∙ (ap (noted_empties c.args.homes.now c.args.lines.now 1) c.in_ok-made.ensures.items ∙ noted-all 1 1 [] c.args.homes.now [] c.args.lines.now refl c.requires.each refl) }
