use Rattle.std.proofs.Common.{length, refl, arith, ◌-◌}
use Rattle.std.proofs.lemmas.Option.{slice_get_read}
use Rattle.split_tree.specs.Caches.{seat_by}
use Rattle.split_tree.proofs.Lists.{changed_at-set}
use Rattle.split_tree.proofs.caches.note_seat.Goals as goal

pub returns : goal.returns
returns c =
    let s = c.args.seats.now in
    let got = slice_get_read s.items (length s.items) (c.args.by - 1) c.index.result.now refl (omega (arith, s.ok.0, c.requires.there, c.requires.some)) c.index.ensures in
    changed_at-set (c.args.by - 1) (seat_by c.args.event.now) s.items c.index.result.now c.after-seat.result got c.after-seat.ensures
