use Rattle.std.proofs.Common.{refl, ap}
use Rattle.kbo.specs.Views.{term_of}
use Rattle.kbo.proofs.CompareLemmas.{variable_compared, compared_with_variable, variables_compared}
use Rattle.kbo.proofs.comparing.compare_views.Goals as goal

pub returns-in-App-Var : goal.returns-in-App-Var
returns-in-App-Var c = compared_with_variable c.in-App-Var.variable c.in-App-Var.field-0-0 c.in-App-Var.args.now _ _ _ _ refl (ap term_of c.in-App-Var.is-0) (ap term_of c.in-App-Var.is-1) c.compare_with_variable.ensures

pub returns-in-Var-App : goal.returns-in-Var-App
returns-in-Var-App c = variable_compared c.in-Var-App.variable c.in-Var-App.field-0-1 c.in-Var-App.others.now _ _ _ _ refl (ap term_of c.in-Var-App.is-0) (ap term_of c.in-Var-App.is-1) c.compare_variable.ensures

pub returns-else-variable-second : goal.returns-else-variable-second
returns-else-variable-second c = variables_compared c.in-Var-Var.variable c.in-Var-Var.second _ _ (ap term_of c.in-Var-Var.is-0) (ap term_of c.in-Var-Var.is-1) c.if-variable-second.false
