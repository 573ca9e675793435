use Rattle.std.proofs.Common.{◌≡◌, ◌∙◌, ◌≤◌, ℕ, true, [], sym, subst}
use Rattle.std.specs.Prelude.{MatchBool, MatchOption, reverse}
use Rattle.case_journal.specs.Paths.{on_path}
use Rattle.case_journal.specs.Facts.{Holds}
use Rattle.case_journal.specs.PlaceLaws.{claimed_within}
use Rattle.case_journal.specs.LeafLaws.{claimer_within}
use Rattle.case_view.specs.TrailLaws.{goes_from, no_marks, trail_goes, with_mark}
use Rattle.case_view.proofs.trail.move_to_held.Goals as goal

pub held-requires-clause-some : goal.held-requires-clause-some
held-requires-clause-some c =
    let t = c.args.table.now in
    let v = c.args.view.now in
    subst (λ w. 1 ≤ w) (sym c.worker-worker.ensures) (claimer_within t.setting t.past c.laws.ensures.legal v.worker c.requires.holds.0 c.requires.holds.1.claims).0

pub held-requires-clause-there : goal.held-requires-clause-there
held-requires-clause-there c =
    let t = c.args.table.now in
    let v = c.args.view.now in
    subst (λ w. w ≤ t.setting.workers) (sym c.worker-worker.ensures) (claimer_within t.setting t.past c.laws.ensures.legal v.worker c.requires.holds.0 c.requires.holds.1.claims).1

pub go_back_above-requires-clause-there : goal.go_back_above-requires-clause-there
go_back_above-requires-clause-there c =
    let t = c.args.table.now in
    let w = c.worker-worker.result in
    let holds = subst (λ o. MatchOption o ((m : ℕ) → ¬ Holds t.setting t.past w m) (Holds t.setting t.past w)) c.unwrap-leaf.ensures c.held.ensures in
    claimed_within t.setting t.past c.laws.ensures.legal w c.unwrap-leaf.result holds.claims

pub enter-requires-clause-goes_on : goal.enter-requires-clause-goes_on
enter-requires-clause-goes_on c =
    let t = c.args.table.now in
    trail_goes t.setting t.past (reverse c.go_back_above.new.marks) c.go_back_above.new.view c.go_back_above.ensures.trail

pub enter-requires-clause-below : goal.enter-requires-clause-below
enter-requires-clause-below c =
    let t = c.args.table.now in
    let w = c.worker-worker.result in
    let v = c.go_back_above.new.view in
    let holds = subst (λ o. MatchOption o ((m : ℕ) → ¬ Holds t.setting t.past w m) (Holds t.setting t.past w)) c.unwrap-leaf.ensures c.held.ensures in
    let above : on_path t.past c.unwrap-leaf.result v.node ≡ true = subst (λ b. MatchBool b (on_path t.past c.unwrap-leaf.result v.node ≡ true) (c.go_back_above.new.marks ≡ [])) c.if-branch.true c.in_ok-go_back_above.ensures.above in
    (c.unwrap-leaf.result, subst (λ n. Holds t.setting t.past n c.unwrap-leaf.result) (c.worker-worker.ensures ∙ sym c.go_back_above.ensures.worker) holds, above)

pub returns-in_ok-push-clause-trail : goal.returns-in_ok-push-clause-trail
returns-in_ok-push-clause-trail c =
    let t = c.args.table.now in
    with_mark t.setting t.past c.go_back_above.new.marks c.push.new.self c.in_ok-mark.mark c.go_back_above.new.view c.enter.new.self c.in_ok-push.ensures.ok c.go_back_above.ensures.trail c.in_ok-mark.ensures c.in_ok-enter.ensures.grows
    (goes_from t.setting t.past c.enter.new.self c.in_ok-enter.ensures.stands)

pub returns-in_ok-view-clause-trail : goal.returns-in_ok-view-clause-trail
returns-in_ok-view-clause-trail c =
    let t = c.args.table.now in
    let marks = c.go_back_above.new.marks in
    let none = subst (λ b. MatchBool b (on_path t.past c.unwrap-leaf.result c.go_back_above.new.view.node ≡ true) (marks ≡ [])) c.if-branch.false c.in_ok-go_back_above.ensures.above in
    no_marks t.setting t.past marks _ none c.in_ok-view.ensures.stands
