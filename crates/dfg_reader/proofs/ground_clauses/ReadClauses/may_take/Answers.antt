use Rattle.std.proofs.Common.{◌≡◌, false, true, fold, sym, ap, ◌∙◌}
use Rattle.std.specs.List.{list_any}
use Rattle.dfg_reader.specs.GroundClauses.{is_true_literal, with_literal, no_literals, literals, is_small}
use Rattle.dfg_reader.proofs.Limits.{may_take_one, may_not_take}
use Rattle.dfg_reader.proofs.ground_clauses.ReadClauses.may_take.Goals as goal

pub returns-then-branch : goal.returns-then-branch
returns-then-branch c =
    let one : list_any is_true_literal (literals c.args.body.now) ≡ false = ap (list_any is_true_literal) (sym c.literals-literals.ensures) ∙ sym c.any_is_true.ensures ∙ c.if-any_is_true.false in
    let small : is_small (fold with_literal no_literals (literals c.args.body.now)) ≡ true = ap (λ fs. is_small (fold with_literal no_literals fs)) (sym c.literals-literals.ensures) ∙ sym c.in_ok-is_small.ensures ∙ c.if-branch.true in
    may_take_one c.self.inside.given c.self.inside.entries c.args.self.now c.args.body.now c.self.view_is c.self.invariant.1 c.self.invariant.0 one small

pub returns-else-branch : goal.returns-else-branch
returns-else-branch c =
    let one : list_any is_true_literal (literals c.args.body.now) ≡ false = ap (list_any is_true_literal) (sym c.literals-literals.ensures) ∙ sym c.any_is_true.ensures ∙ c.if-any_is_true.false in
    let large : is_small (fold with_literal no_literals (literals c.args.body.now)) ≡ false = ap (λ fs. is_small (fold with_literal no_literals fs)) (sym c.literals-literals.ensures) ∙ sym c.in_ok-is_small.ensures ∙ c.if-branch.false in
    may_not_take c.args.self.now c.args.body.now one large
