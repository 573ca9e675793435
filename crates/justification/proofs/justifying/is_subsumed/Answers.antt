use Rattle.std.proofs.lemmas.Bool.{false≢true}
use Rattle.justification.proofs.Noted.{younger_hides_none}
use Rattle.justification.proofs.justifying.is_subsumed.Goals as goal

pub returns-then-not-may_hide : goal.returns-then-not-may_hide
returns-then-not-may_hide c =
    younger_hides_none c.args.earlier.now c.args.hidden c.args.by c.args.subst.now c.args.clause.now c.in-Some.reason.now c.in-Some.ensures
    (λ older. false≢true (c.if-not-may_hide.ensures.1 older))
