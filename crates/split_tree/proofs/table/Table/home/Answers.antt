use Rattle.std.proofs.Common.{Option, Some, None, ℕ, ◌<◌, arith}
use Rattle.std.specs.Prelude.{IfSome}
use Rattle.split_tree.specs.Caches.{past_of, IsHome}
use Rattle.case_journal.specs.PathLaws.{nodes_some}
use Rattle.split_tree.proofs.Lens.{homes_len, read_home}
use Rattle.split_tree.proofs.table.Table.home.Goals as goal

pub index-requires : goal.index-requires
index-requires c =
    let there = rw (← c.self.view_is) at c.requires.there in
    omega (arith, homes_len c.self.inside c.self.invariant, there, c.requires.some)

pub returns-clause-lists : goal.returns-clause-lists
returns-clause-lists c =
    let there = rw (← c.self.view_is) at c.requires.there in
    rw (← c.self.view_is) (λ m node. (read_home c.self.inside c.self.invariant m c.args.clause c.index.result.now node c.requires.some there c.index.ensures).0)

home_there : (n : ℕ) (o : Option ℕ) → IsHome n o → IfSome o (λ home. home < n)
home_there n None h = tt
home_there n (Some home) h = h

pub returns-clause-node : goal.returns-clause-node
returns-clause-node c =
    let there = rw (← c.self.view_is) at c.requires.there in
    let p = past_of c.self.inside.journal.items in
    rw (← c.self.view_is) (home_there _ _ (read_home c.self.inside c.self.invariant 0 c.args.clause c.index.result.now (nodes_some p) c.requires.some there c.index.ensures).1)
