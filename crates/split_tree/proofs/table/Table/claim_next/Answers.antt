use Rattle.std.proofs.Common.{arith}
use Rattle.std.proofs.lemmas.Option.{slice_get_within}
use Rattle.case_journal.specs.Paths.{leaves}
use Rattle.case_journal.specs.PlaceLaws.{claimed_within}
use Rattle.case_journal.specs.LeafLaws.{leaf_found}
use Rattle.split_tree.proofs.table.Table.claim_next.Goals as goal

pub returns : goal.returns
returns c = λ m claimable.
    let s = c.args.self.now.setting in
    let p = c.args.self.now.past in
    let f = leaf_found s p c.journal_is_legal.ensures (λ w n q legal h. claimed_within s q legal w n h) m claimable.there claimable.leaf in
    c.loop-place.invariant f.0 m (omega (arith, slice_get_within (leaves p) f.0 m f.1, c.loop-place-test.false, c.leaf_count-place-end.ensures)) f.1 claimable
