use Rattle.std.proofs.Common.{◌≡◌, true, subst, sym, ◌↔◌}
use Rattle.spl_truth.specs.Unifiers.{HasVariablesBelow}
use Rattle.spl_terms.specs.Terms.{term_variables}
use Rattle.unify.proofs.BelowLemmas.{test_exact}
use Rattle.unify.proofs.below.has_variables_below.Goals as goal

pub returns : goal.returns
returns c = subst (λ b. (b ≡ true) ↔ HasVariablesBelow c.args.vars c.args.term.now) (sym c.below.ensures) (test_exact c.args.vars (term_variables c.args.term.now))
