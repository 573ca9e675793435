use Rattle.std.proofs.Common.{ap, sym, arith}
use Rattle.split_tree.specs.declared.caches.Retired.{Retired}
use Rattle.split_tree.proofs.Lens.{newest_len, read_newest}
use Rattle.split_tree.proofs.table.Table.retired_at.Goals as goal

pub index-requires : goal.index-requires
index-requires c =
    let there = rw (← c.self.view_is) at c.requires.there in
    omega (arith, newest_len c.self.inside c.self.invariant, there, c.requires.some)

pub returns : goal.returns
returns c =
    let there = rw (← c.self.view_is) at c.requires.there in
    let last = read_newest c.self.inside c.self.invariant c.args.clause c.index.result.now c.requires.some there c.index.ensures in
    rw (← c.self.view_is) (ap (λ o. let r : Retired = record { clause = c.args.clause; node = c.args.node; older = o } in r) (sym last))
