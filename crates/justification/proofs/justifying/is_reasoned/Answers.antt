use Rattle.std.proofs.Common.{◌≡◌, ◌↔◌, ◌∙◌, Bool, true, IsTrue, IfOk, sym, ap, subst}
use Rattle.calculus.specs.Notes.{IsRewrittenNote, IsReasoned}
use Rattle.justification.specs.Tests.{is_rewritten}
use Rattle.justification.proofs.Noted.{if_ok, rewritten-exact}
use Rattle.justification.proofs.justifying.is_reasoned.Goals as goal

pub returns-in-Subsumed : goal.returns-in-Subsumed
returns-in-Subsumed c =
    subst (λ w. IfOk c.is_subsumed.result (λ yes. IsTrue yes ↔ IsReasoned c.args.earlier.now c.args.hidden c.args.clause.now w)) (sym c.in-Subsumed.is) c.is_subsumed.ensures

pub returns-in-Rewritten : goal.returns-in-Rewritten
returns-in-Rewritten c =
    let earlier = c.args.earlier.now in
    let clause = c.args.clause.now in
    let reduct = c.in-Rewritten.reduct in
    let s = c.in-Rewritten.subst in
    let edits = c.in-Rewritten.edits in
    subst (λ w. IfOk c.is_rewritten.result (λ yes. IsTrue yes ↔ IsReasoned earlier c.args.hidden clause w)) (sym c.in-Rewritten.is)
    (if_ok c.is_rewritten.result (λ yes. yes ≡ is_rewritten earlier reduct s c.as_slice.result.now clause) (λ yes. (yes ≡ true) ↔ IsRewrittenNote earlier reduct s edits clause)
    (λ yes e. subst (λ b. (b ≡ true) ↔ IsRewrittenNote earlier reduct s edits clause) (sym (e ∙ ap (λ l. is_rewritten earlier reduct s l clause) c.as_slice.ensures)) (rewritten-exact earlier reduct s edits clause))
    c.is_rewritten.ensures)
