use Rattle.std.proofs.Common.{◌≡◌, false, sym, ◌∙◌}
use Rattle.std.specs.List.{list_any}
use Rattle.std.proofs.lemmas.Result.{on_ok_weaker}
use Rattle.spl_terms.specs.Clauses.{is_same, part_of, with_atom}
use Rattle.spl_terms.specs.SizeLaws.{added-new}
use Rattle.normal_form.proofs.gathering.FiledParts.push.Goals as goal

pub returns-in-Constraint-clause-ok : goal.returns-in-Constraint-clause-ok
returns-in-Constraint-clause-ok c =
    let f = c.self.inside in
    let none : list_any (λ b. is_same c.args.atom b) f.constraint ≡ false = (λ i. list_any (λ b. is_same c.args.atom b) (part_of (c.self.view_is i) (sym c.in-Constraint.is i))) ∙ c.requires in
    on_ok_weaker c.push.result (λ e. (λ i. record { constraint = (e ∙ sym (added-new f.constraint c.args.atom none)) i; antecedent = f.antecedent; succedent = f.succedent }) ∙ (λ i. with_atom (c.self.view_is i) (sym c.in-Constraint.is i) c.args.atom)) c.push.ensures.ok

pub returns-in-Antecedent-clause-ok : goal.returns-in-Antecedent-clause-ok
returns-in-Antecedent-clause-ok c =
    let f = c.self.inside in
    let none : list_any (λ b. is_same c.args.atom b) f.antecedent ≡ false = (λ i. list_any (λ b. is_same c.args.atom b) (part_of (c.self.view_is i) (sym c.in-Antecedent.is i))) ∙ c.requires in
    on_ok_weaker c.push-in-Antecedent.result (λ e. (λ i. record { constraint = f.constraint; antecedent = (e ∙ sym (added-new f.antecedent c.args.atom none)) i; succedent = f.succedent }) ∙ (λ i. with_atom (c.self.view_is i) (sym c.in-Antecedent.is i) c.args.atom)) c.push-in-Antecedent.ensures.ok

pub returns-in-Succedent-clause-ok : goal.returns-in-Succedent-clause-ok
returns-in-Succedent-clause-ok c =
    let f = c.self.inside in
    let none : list_any (λ b. is_same c.args.atom b) f.succedent ≡ false = (λ i. list_any (λ b. is_same c.args.atom b) (part_of (c.self.view_is i) (sym c.in-Succedent.is i))) ∙ c.requires in
    on_ok_weaker c.push-in-Succedent.result (λ e. (λ i. record { constraint = f.constraint; antecedent = f.antecedent; succedent = (e ∙ sym (added-new f.succedent c.args.atom none)) i }) ∙ (λ i. with_atom (c.self.view_is i) (sym c.in-Succedent.is i) c.args.atom)) c.push-in-Succedent.ensures.ok
