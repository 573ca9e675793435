use Rattle.std.proofs.Common.{◌≡◌, ◌↔◌, ◌∙◌, Bool, IsTrue, sym}
use Rattle.calculus.specs.Notes.{IsReasoned, IsJustified}
use Rattle.justification.specs.Hiding.{HasFollowing}
use Rattle.justification.proofs.Noted.{if_ok, hidden_by_itself, justified-exact}
use Rattle.justification.proofs.Sound.{hidden_follows}
use Rattle.justification.proofs.justifying.justified.Goals as goal

pub returns-then-is_reason-clause-exact : goal.returns-then-is_reason-clause-exact
returns-then-is_reason-clause-exact c = hidden_by_itself c.args.note.now c.args.earlier.now (sym c.if-is_reason.true ∙ c.is_reason.ensures)

pub returns-clause-exact : goal.returns-clause-exact
returns-clause-exact c =
    let note = c.args.note.now in
    let earlier = c.args.earlier.now in
    if_ok c.is_reasoned.result (λ yes. IsTrue yes ↔ IsReasoned earlier note.hidden c.in-Some.hidden.now.clause note.why) (λ yes. IsTrue yes ↔ IsJustified note earlier)
    (λ yes exact. justified-exact note earlier c.in-Some.hidden.now yes c.in-Some.ensures (sym c.if-is_reason.false ∙ c.is_reason.ensures) exact)
    c.is_reasoned.ensures

pub returns-clause-sound : goal.returns-clause-sound
returns-clause-sound c =
    let note = c.args.note.now in
    let earlier = c.args.earlier.now in
    if_ok c.is_reasoned.result (λ yes. IsTrue yes ↔ IsReasoned earlier note.hidden c.in-Some.hidden.now.clause note.why) (λ yes. IsTrue yes → HasFollowing note earlier)
    (λ yes exact is. hidden_follows note earlier ((justified-exact note earlier c.in-Some.hidden.now yes c.in-Some.ensures (sym c.if-is_reason.false ∙ c.is_reason.ensures) exact).0 is))
    c.is_reasoned.ensures
