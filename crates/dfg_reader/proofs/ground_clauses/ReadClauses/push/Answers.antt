use Rattle.std.proofs.Common.{◌≡◌, false, true, sym, ap, ◌∙◌, arith}
use Rattle.std.specs.List.{list_any}
use Rattle.dfg_reader.specs.GroundClauses.{is_true_literal, literals}
use Rattle.dfg_reader.proofs.Limits.{few, counted_one, counted_none, limits-push}
use Rattle.dfg_reader.proofs.ground_clauses.ReadClauses.push.Goals as goal

pub overflow_add-self : goal.overflow_add-self
overflow_add-self c = omega (arith, few _ c.self.invariant.1, c.self.invariant.0)

pub invariant_of-self-then-gives : goal.invariant_of-self-then-gives
invariant_of-self-then-gives c =
    let given : list_any is_true_literal (literals c.args.formula) ≡ c.any_is_true-gives.result = ap (list_any is_true_literal) (sym c.literals.ensures) ∙ sym c.any_is_true-gives.ensures in
    let no : c.any_is_true-gives.result ≡ false = c.if-gives.true in
    (counted_one c.self.inside.given c.self.inside.entries _ c.args.formula c.args.at c.in_ok-push.ensures.ok c.self.invariant.0 (given ∙ no), limits-push c.args.self.now c.self.inside.entries _ c.args.formula c.args.at c.self.view_is c.in_ok-push.ensures.ok c.requires)

pub invariant_of-self-else-gives : goal.invariant_of-self-else-gives
invariant_of-self-else-gives c =
    let given : list_any is_true_literal (literals c.args.formula) ≡ c.any_is_true-gives.result = ap (list_any is_true_literal) (sym c.literals.ensures) ∙ sym c.any_is_true-gives.ensures in
    let yes : c.any_is_true-gives.result ≡ true = c.if-gives.false in
    (counted_none c.self.inside.given c.self.inside.entries _ c.args.formula c.args.at c.in_ok-push.ensures.ok c.self.invariant.0 (given ∙ yes), limits-push c.args.self.now c.self.inside.entries _ c.args.formula c.args.at c.self.view_is c.in_ok-push.ensures.ok c.requires)
