use Rattle.std.proofs.Common.{length, refl, arith, append_assoc}
use Rattle.std.proofs.lemmas.Option.{slice_get_read}
use Rattle.split_tree.proofs.caches.add_children.Goals as goal

pub returns-clause-items : goal.returns-clause-items
returns-clause-items c =
    let s = c.args.states.now in
    let got = slice_get_read s.items (length s.items) c.args.node c.index.result.now refl (omega (arith, s.ok.0, c.requires.there)) c.index.ensures in
    rw (c.push_reserved-2.ensures.items, c.push_reserved.ensures.items, append_assoc, got)
