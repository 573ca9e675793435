use Rattle.std.proofs.Common.{◌≡◌, true, subst, sym, ◌↔◌}
use Rattle.spl_truth.specs.Unifiers.{HaveVariablesBelow}
use Rattle.unify.proofs.BelowLemmas.{tests_exact}
use Rattle.unify.proofs.below.have_variables_below.Goals as goal

pub returns : goal.returns
returns c = subst (λ b. (b ≡ true) ↔ HaveVariablesBelow c.args.vars c.args.terms.now) (sym c.all_below.ensures) (tests_exact c.args.vars c.args.terms.now)
