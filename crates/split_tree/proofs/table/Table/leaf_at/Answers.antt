use Rattle.std.proofs.Common.{◌∙◌, ap, sym, length, refl, arith}
use Rattle.std.specs.List.{slice_get}
use Rattle.std.proofs.lemmas.Option.{slice_get_read}
use Rattle.split_tree.specs.Caches.{past_of}
use Rattle.case_journal.specs.LeafLaws.{leaf_within}
use Rattle.split_tree.proofs.table.Table.leaf_at.Goals as goal

pub returns-clause-there : goal.returns-clause-there
returns-clause-there c =
    let t = c.self.inside in
    let low = rw (← c.self.view_is) at c.requires in
    let got = slice_get_read t.leaves.items (length t.leaves.items) c.args.place c.index.result.now refl (omega (arith, low, ap length c.self.invariant.leaves_are)) c.index.ensures in
    rw (← c.self.view_is) (leaf_within (past_of t.journal.items) c.args.place c.index.result.now (ap (λ xs. slice_get xs c.args.place) (sym c.self.invariant.leaves_are) ∙ got))
