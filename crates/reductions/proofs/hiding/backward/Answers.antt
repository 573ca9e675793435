use Rattle.reductions.proofs.Stating.{given_some}
use Rattle.reductions.proofs.Subsuming.{hidden_by, otherwise_older}
use Rattle.reductions.proofs.hiding.backward.Goals as goal

pub returns : goal.returns
returns c =
    hidden_by c.args.given.now c.args.other.now c.in-Some.subst c.requires.apart (given_some _ _ _ _ c.in-Some.is c.in_ok-subst.ensures)
    (otherwise_older c.args.given.now c.args.other.now _ c.requires.apart c.is_newer_variant.ensures c.if-is_newer_variant.false)
