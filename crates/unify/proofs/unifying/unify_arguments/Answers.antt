use Rattle.std.proofs.Common.{MatchOption, subst}
use Rattle.spl_terms.specs.declared.term.Kind.TheVariants.{Function}
use Rattle.spl_terms.specs.declared.term.Symbol.{Symbol}
use Rattle.spl_terms.specs.declared.term.Term.{App}
use Rattle.spl_truth.specs.Unifiers.{HasNoUnifier, IsMostGeneral}
use Rattle.unify.specs.Bindings.{substitution}
use Rattle.unify.proofs.AnswerLemmas.{found_stand, written_general}
use Rattle.unify.proofs.unifying.unify_arguments.Goals as goal

any_symbol : Symbol
any_symbol = record { number = 0; kind = Function }

pub applied_entries-requires : goal.applied_entries-requires
applied_entries-requires c = (found_stand c.args.vars (App any_symbol c.args.left.now) (App any_symbol c.args.right.now) _ _ c.in-Some.is (c.in_ok-bindings.ensures.exact any_symbol)).triangular

pub returns-in_default-clause-general : goal.returns-in_default-clause-general
returns-in_default-clause-general c = λ head.
    subst (λ o. MatchOption o (HasNoUnifier (App head c.args.left.now) (App head c.args.right.now)) (λ u. IsMostGeneral (App head c.args.left.now) (App head c.args.right.now) (substitution u.1))) c.in_default.is (c.in_ok-bindings.ensures.general head)

pub returns-clause-general : goal.returns-clause-general
returns-clause-general c = λ head.
    written_general c.args.vars (App head c.args.left.now) (App head c.args.right.now) _ _ c.in-Some.is (c.in_ok-bindings.ensures.exact head) _ c.in_ok-terms.ensures (c.in_ok-bindings.ensures.general head)
