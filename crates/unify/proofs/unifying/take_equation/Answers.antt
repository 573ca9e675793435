use Rattle.std.proofs.Common.{sym, ◌∙◌}
use Rattle.std.proofs.lemmas.Bool.{false≢true}
use Rattle.std.proofs.lemmas.Result.{IfOk-weaker}
use Rattle.unify.proofs.SolvingLemmas.{same_variable, variable_left, variable_right, left_eliminated, right_eliminated, heads_apart, arguments_split}
use Rattle.unify.proofs.unifying.take_equation.Goals as goal

pub returns-then-is_variable-clause-progress : goal.returns-then-is_variable-clause-progress
returns-then-is_variable-clause-progress c =
    same_variable c.args.bindings.now.0 c.args.bindings.now.1 c.requires.triangular c.args.left.now c.args.right.now c.dereferenced-left.result.now c.dereferenced-right.result.now c.args.equations.now c.dereferenced-left.ensures.same c.dereferenced-right.ensures.same c.dereferenced-left.ensures.free c.dereferenced-right.ensures.free (c.dereferenced-left.ensures.below c.requires.below.0) (c.dereferenced-right.ensures.below c.requires.below.1) c.requires.below.2
    c.in-Var.variable c.in-Var.is (c.is_variable.ensures.0 c.if-is_variable.true)

pub eliminate-requires-clause-below : goal.eliminate-requires-clause-below
eliminate-requires-clause-below c =
    variable_left c.args.bindings.now.0 c.args.bindings.now.1 c.requires.triangular c.args.left.now c.args.right.now c.dereferenced-left.result.now c.dereferenced-right.result.now c.args.equations.now c.dereferenced-left.ensures.same c.dereferenced-right.ensures.same c.dereferenced-left.ensures.free c.dereferenced-right.ensures.free (c.dereferenced-left.ensures.below c.requires.below.0) (c.dereferenced-right.ensures.below c.requires.below.1) c.requires.below.2
    c.in-Var.variable c.in-Var.is

pub eliminate-requires-in-Var-right-clause-below : goal.eliminate-requires-in-Var-right-clause-below
eliminate-requires-in-Var-right-clause-below c =
    variable_right c.args.bindings.now.0 c.args.bindings.now.1 c.requires.triangular c.args.left.now c.args.right.now c.dereferenced-left.result.now c.dereferenced-right.result.now c.args.equations.now c.dereferenced-left.ensures.same c.dereferenced-right.ensures.same c.dereferenced-left.ensures.free c.dereferenced-right.ensures.free (c.dereferenced-left.ensures.below c.requires.below.0) (c.dereferenced-right.ensures.below c.requires.below.1) c.requires.below.2
    c.in-Var-right.variable c.in-Var-right.is

pub returns-then-not-same_head-clause-progress : goal.returns-then-not-same_head-clause-progress
returns-then-not-same_head-clause-progress c =
    heads_apart c.args.bindings.now.0 c.args.bindings.now.1 c.requires.triangular c.args.left.now c.args.right.now c.dereferenced-left.result.now c.dereferenced-right.result.now c.args.equations.now c.dereferenced-left.ensures.same c.dereferenced-right.ensures.same c.dereferenced-left.ensures.free c.dereferenced-right.ensures.free (c.dereferenced-left.ensures.below c.requires.below.0) (c.dereferenced-right.ensures.below c.requires.below.1) c.requires.below.2
    _ _ _ _ _ _ c.in-App.is c.in-App-right.is c.as_slice-args.ensures c.as_slice-others.ensures _ c.same_head.ensures c.if-not-same_head.true

pub returns-else-is_variable-clause-progress : goal.returns-else-is_variable-clause-progress
returns-else-is_variable-clause-progress c =
    IfOk-weaker c.eliminate.result _ _
    (λ progress h. left_eliminated c.args.bindings.now.0 c.args.bindings.now.1 c.requires.triangular c.args.left.now c.args.right.now c.dereferenced-left.result.now c.dereferenced-right.result.now c.args.equations.now c.dereferenced-left.ensures.same c.dereferenced-right.ensures.same c.dereferenced-left.ensures.free c.dereferenced-right.ensures.free (c.dereferenced-left.ensures.below c.requires.below.0) (c.dereferenced-right.ensures.below c.requires.below.1) c.requires.below.2
    c.in-Var.variable c.in-Var.is (λ q. false≢true (sym c.if-is_variable.false ∙ c.is_variable.ensures.1 q)) progress _ h)
    c.eliminate.ensures.eliminated

pub returns-in-Var-right-clause-progress : goal.returns-in-Var-right-clause-progress
returns-in-Var-right-clause-progress c =
    IfOk-weaker c.eliminate-in-Var-right.result _ _
    (λ progress h. right_eliminated c.args.bindings.now.0 c.args.bindings.now.1 c.requires.triangular c.args.left.now c.args.right.now c.dereferenced-left.result.now c.dereferenced-right.result.now c.args.equations.now c.dereferenced-left.ensures.same c.dereferenced-right.ensures.same c.dereferenced-left.ensures.free c.dereferenced-right.ensures.free (c.dereferenced-left.ensures.below c.requires.below.0) (c.dereferenced-right.ensures.below c.requires.below.1) c.requires.below.2
    c.in-Var-right.variable _ _ c.in-App.is c.in-Var-right.is progress _ h)
    c.eliminate-in-Var-right.ensures.eliminated

pub returns-in_ok-push_arguments-in-App-right-clause-progress : goal.returns-in_ok-push_arguments-in-App-right-clause-progress
returns-in_ok-push_arguments-in-App-right-clause-progress c =
    arguments_split c.args.bindings.now.0 c.args.bindings.now.1 c.requires.triangular c.args.left.now c.args.right.now c.dereferenced-left.result.now c.dereferenced-right.result.now c.args.equations.now c.dereferenced-left.ensures.same c.dereferenced-right.ensures.same c.dereferenced-left.ensures.free c.dereferenced-right.ensures.free (c.dereferenced-left.ensures.below c.requires.below.0) (c.dereferenced-right.ensures.below c.requires.below.1) c.requires.below.2
    _ _ _ _ _ _ _ c.in-App.is c.in-App-right.is c.as_slice-args.ensures c.as_slice-others.ensures _ c.same_head.ensures c.if-not-same_head.false c.in_ok-push_arguments-in-App-right.ensures
