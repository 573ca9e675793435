use Rattle.std.proofs.Common.{length, refl, arith}
use Rattle.std.proofs.lemmas.Option.{slice_get_read}
use Rattle.split_tree.specs.Caches.{or_first}
use Rattle.split_tree.proofs.Lists.{changed_at-set}
use Rattle.split_tree.proofs.caches.note_first.Goals as goal

pub returns-clause-items : goal.returns-clause-items
returns-clause-items c =
    let s = c.args.empties.now in
    let got = slice_get_read s.items (length s.items) c.args.node c.index.result.now refl (omega (arith, s.ok.0, c.requires)) c.index.ensures in
    changed_at-set c.args.node (or_first c.args.number) s.items c.index.result.now c.or_first-first.result got c.or_first-first.ensures
