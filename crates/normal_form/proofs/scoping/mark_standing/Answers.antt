use Rattle.std.proofs.Common.{OnOk, sym, subst, ap, ◌∙◌}
use Rattle.spl_terms.specs.Terms.{term_variables}
use Rattle.spl_terms.specs.TermLaws.{term_variables-Var}
use Rattle.normal_form.specs.Marking.{MarksMore}
use Rattle.normal_form.proofs.Blocks.{skolem_variables}
use Rattle.normal_form.proofs.scoping.mark_standing.Goals as goal

pub returns-in-None : goal.returns-in-None
returns-in-None c =
    subst (λ vs. OnOk c.mark_all.result (MarksMore c.args.marks.now c.mark_all.new.marks vs)) (sym (ap term_variables c.in-None.ensures ∙ term_variables-Var c.args.variable)) c.mark_all.ensures

pub returns-in-Some : goal.returns-in-Some
returns-in-Some c =
    subst (λ vs. OnOk c.mark_all-in-Some.result (MarksMore c.args.marks.now c.mark_all-in-Some.new.marks vs))
    (c.as_slice.ensures ∙ sym (skolem_variables c.in-Some.terms.now c.in-Some.field-0-1) ∙ ap term_variables c.in-Some.ensures)
    c.mark_all-in-Some.ensures
