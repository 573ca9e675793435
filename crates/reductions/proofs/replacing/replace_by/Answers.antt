use Rattle.std.proofs.Common.{ap, ◌∙◌}
use Rattle.reductions.specs.Matched.{single}
use Rattle.reductions.proofs.Stating.{given_none}
use Rattle.reductions.proofs.Removing.{left_of_arrow, answer_before, answer_behind}
use Rattle.reductions.proofs.replacing.replace_by.Goals as goal

pub returns-in_ok-made-in-Constraint : goal.returns-in_ok-made-in-Constraint
returns-in_ok-made-in-Constraint c = answer_behind c.args.number c.args.target.now c.args.by.now c.in-Some.part c.in-Some.atom.now _ c.in-Some.ensures (left_of_arrow c.in-Some.part c.in-Constraint.is) c.in_ok-made-in-Constraint.ensures

pub returns-in_ok-second-in-Succedent : goal.returns-in_ok-second-in-Succedent
returns-in_ok-second-in-Succedent c =
    answer_before c.args.number c.args.target.now c.args.by.now c.in-Some.atom.now _ (c.in-Some.ensures ∙ ap (λ p. single p c.in-Some.atom.now) c.in-Succedent.is) (given_none _ _ _ c.in_default-first.is c.in_ok-first-in-Succedent.ensures) c.in_ok-second-in-Succedent.ensures
