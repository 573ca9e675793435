use Rattle.std.proofs.Common.{sym, ap, subst}
use Rattle.std.specs.Prelude.{not}
use Rattle.unify.specs.Bindings.{substitution}
use Rattle.superposition.specs.Standings.{IsStanding}
use Rattle.superposition.proofs.upper.is_left_upper.Goals as goal

pub returns-in-Upper : goal.returns-in-Upper
returns-in-Upper c =
    let e = c.args.e in
    sym (ap not (subst (λ x. IsStanding x e.left_side.now e.right_side.now) c.in-Upper.is c.requires.judged (substitution c.args.bindings.now.1)))

pub returns-in-Lower : goal.returns-in-Lower
returns-in-Lower c =
    let e = c.args.e in
    sym (ap not (subst (λ x. IsStanding x e.left_side.now e.right_side.now) c.in-Lower.is c.requires.judged (substitution c.args.bindings.now.1)))
