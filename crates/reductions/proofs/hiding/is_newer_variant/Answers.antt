use Rattle.reductions.proofs.Subsuming.{newer_variant}
use Rattle.reductions.proofs.hiding.is_newer_variant.Goals as goal

pub returns-then-other-given : goal.returns-then-other-given
returns-then-other-given c = newer_variant c.args.given.now c.args.other.now _ c.requires.given_in_order c.requires.other_in_order c.if-other-given.true c.same_clause.ensures
