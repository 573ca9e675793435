use Rattle.std.proofs.Common.{sym, ap, ◌∙◌, arith}
use Rattle.std.proofs.lemmas.Result.{IfOk-weaker}
use Rattle.spl_terms.specs.Terms.{term_symbols}
use Rattle.unify.proofs.TriangularLemmas.{same_on, occurs_at_variable, occurs_at_arguments, occurs_at_bound, occurs_at_unbound}
use Rattle.unify.proofs.MarkLemmas.{still_apart}
use Rattle.unify.proofs.occurring.+occurring.Goals as goal

pub occurs_at-returns-in-Var-clause-exact : goal.occurs_at-returns-in-Var-clause-exact
occurs_at-returns-in-Var-clause-exact t c = sym (occurs_at_variable _ _ c.requires.triangular c.args.variable _ _ c.in-Var.is c.requires.free)

pub occurs_at-returns-in-App-clause-exact : goal.occurs_at-returns-in-App-clause-exact
occurs_at-returns-in-App-clause-exact t c =
    IfOk-weaker c.occurs_in.result _ _
    (λ found h. h ∙ sym (occurs_at_arguments c.args.bindings.now.1 c.args.variable _ _ _ _ c.in-App.is c.as_slice.ensures))
    c.occurs_in.ensures.exact

pub occurs_beyond-returns-in-App-clause-exact : goal.occurs_beyond-returns-in-App-clause-exact
occurs_beyond-returns-in-App-clause-exact t c =
    IfOk-weaker c.occurs_in.result _ _
    (λ found h. h ∙ sym (occurs_at_arguments c.args.bindings.now.1 c.args.variable _ _ _ _ c.in-App.is c.as_slice.ensures))
    c.occurs_in.ensures.exact

pub occurs_beyond-returns-in-None-clause-exact : goal.occurs_beyond-returns-in-None-clause-exact
occurs_beyond-returns-in-None-clause-exact t c = sym (occurs_at_unbound _ _ c.requires.triangular c.args.variable _ _ c.in-Var.is c.in-None.ensures)

pub occurs_beyond-occurs_through-requires : goal.occurs_beyond-occurs_through-requires
occurs_beyond-occurs_through-requires t c =
    let same = ap term_symbols (same_on _ _ c.requires.triangular c.in-Var.other _ _ c.in-Var.is c.in-Some.ensures) in
    (omega (arith, c.decreases, same), (c.requires.triangular, (c.requires.apart, c.in-Some.ensures)))

pub occurs_through-returns-then-branch-clause-exact : goal.occurs_through-returns-then-branch-clause-exact
occurs_through-returns-then-branch-clause-exact t c =
    sym c.if-branch.true ∙ c.in_ok-occurs_at.ensures.exact ∙ occurs_at_bound _ _ c.requires.triangular c.args.variable c.args.bound _ _ c.requires.bound c.dereferenced.ensures.same

pub occurs_through-returns-clause-exact : goal.occurs_through-returns-clause-exact
occurs_through-returns-clause-exact t c =
    sym c.if-branch.false ∙ c.in_ok-occurs_at.ensures.exact ∙ occurs_at_bound _ _ c.requires.triangular c.args.variable c.args.bound _ _ c.requires.bound c.dereferenced.ensures.same

pub occurs_through-returns-clause-apart : goal.occurs_through-returns-clause-apart
occurs_through-returns-clause-apart t c = λ _.
    still_apart c.args.variable c.args.bindings.now.1 _ _ c.args.bound (c.in_ok-occurs_at.ensures.apart c.if-branch.false)
    (sym (sym c.if-branch.false ∙ c.in_ok-occurs_at.ensures.exact ∙ occurs_at_bound _ _ c.requires.triangular c.args.variable c.args.bound _ _ c.requires.bound c.dereferenced.ensures.same))
    c.in_ok-mark.ensures
