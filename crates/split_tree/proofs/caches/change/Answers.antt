use Rattle.std.proofs.Common.{length, refl, arith}
use Rattle.std.proofs.lemmas.Option.{slice_get_read}
use Rattle.split_tree.specs.Caches.{state_by}
use Rattle.split_tree.proofs.Lists.{changed_at-set}
use Rattle.split_tree.proofs.caches.change.Goals as goal

pub after-state-requires : goal.after-state-requires
after-state-requires c =
    let s = c.args.states.now in
    let got = slice_get_read s.items (length s.items) c.args.node c.index.result.now refl (omega (arith, s.ok.0, c.requires.there)) c.index.ensures in
    omega (arith, c.requires.few c.args.node c.index.result.now got)

pub returns-clause-items : goal.returns-clause-items
returns-clause-items c =
    let s = c.args.states.now in
    let got = slice_get_read s.items (length s.items) c.args.node c.index.result.now refl (omega (arith, s.ok.0, c.requires.there)) c.index.ensures in
    changed_at-set c.args.node (state_by c.args.event.now) s.items c.index.result.now c.after-state.result got c.after-state.ensures
