use Rattle.std.proofs.Common.{length, arith, refl}
use Rattle.std.proofs.lemmas.Option.{slice_get_read}
use Rattle.split_tree.proofs.Past.{length-past_of, reverse-past_of}
use Rattle.split_tree.proofs.table.Table.event.Goals as goal

pub index-entry-requires : goal.index-entry-requires
index-entry-requires c =
    let h = rw (← c.self.view_is) at c.requires in
    omega (arith, h, length-past_of c.self.inside.journal.items, c.self.inside.journal.ok.0)

pub returns : goal.returns
returns c =
    let h = rw (← c.self.view_is) at c.requires in
    rw (← c.self.view_is, reverse-past_of)
    (slice_get_read c.self.inside.journal.items (length c.self.inside.journal.items) c.args.at c.index-entry.result.now refl (omega (arith, h, length-past_of c.self.inside.journal.items)) c.index-entry.ensures)
