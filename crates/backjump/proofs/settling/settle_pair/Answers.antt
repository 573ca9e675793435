use Rattle.backjump.proofs.Root.{root_live}
use Rattle.backjump.proofs.settling.settle_pair.Goals as goal

pub close_pair-requires-clause-unended : goal.close_pair-requires-clause-unended
close_pair-requires-clause-unended c =
    let d = c.in-Some.closed in
    c.requires.unended (root_live c.args.table.now.setting c.args.table.now.past c.laws.ensures.legal d.inner c.in-Some.ensures.there c.in-Some.ensures.live)
