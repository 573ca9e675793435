use Rattle.std.specs.List.{slice_get}
use Rattle.std.proofs.Common.{◌≡◌, ◌≤◌, ◌∙◌, ℕ, suc, Some, ap, sym, subst, arith, refl, length}
use Rattle.case_journal.specs.declared.event.Event.{Event}
use Rattle.case_journal.specs.Legal.{IsLegalJournal}
use Rattle.backjump.specs.Plans.{appended, IsOneLine}
use Rattle.backjump.proofs.Follow.{appended_legal, cost_one, lines_one}
use Rattle.backjump.proofs.closing.append_all.Goals as goal

pub loop-event-init : goal.loop-event-init
loop-event-init c =
    let e = sym c.into_iter-event-iterator.ensures.into_iter_gives.0 in
    let s = c.args.table.now.setting in
    let p = c.args.table.now.past in
    record {
      setting = refl;
      goes = ap (λ xs. appended c.args.by xs p) (sym e);
      legal = subst (λ xs. IsLegalJournal s (appended c.args.by xs p)) e c.requires.legal;
      each = subst (λ xs. (k : ℕ) (ev : Event) → slice_get xs k ≡ Some ev → IsOneLine ev) e c.requires.each;
      events = subst (λ xs. length xs ≤ c.args.table.now.spare_events) e c.requires.events_fit;
      steps = subst (λ xs. length xs ≤ c.args.table.now.spare_steps) e c.requires.steps_fit;
    }

pub apply-requires-clause-legal : goal.apply-requires-clause-legal
apply-requires-clause-legal c =
    let i = c.loop-event.invariant in
    let s = c.loop-event.table.setting in
    let p = c.loop-event.table.past in
    let e = c.in-Some.ensures.steps.0 in
    (appended_legal s c.args.by c.next.new.self.rest.items _ (subst (λ xs. IsLegalJournal s (appended c.args.by xs p)) e i.legal)).0

pub apply-requires-clause-event_fits : goal.apply-requires-clause-event_fits
apply-requires-clause-event_fits c =
    let i = c.loop-event.invariant in
    let e = c.in-Some.ensures.steps.0 in
    let one = i.each 0 c.in-Some.event (ap (λ xs. slice_get xs 0) e) in
    omega (arith, i.events, ap length e, cost_one c.loop-event.table.past c.args.by c.in-Some.event one)

pub apply-requires-clause-steps_fit : goal.apply-requires-clause-steps_fit
apply-requires-clause-steps_fit c =
    let i = c.loop-event.invariant in
    let e = c.in-Some.ensures.steps.0 in
    let one = i.each 0 c.in-Some.event (ap (λ xs. slice_get xs 0) e) in
    omega (arith, i.steps, ap length e, lines_one c.in-Some.event one)

pub loop-event-preserved : goal.loop-event-preserved
loop-event-preserved c =
    let i = c.loop-event.invariant in
    let s = c.loop-event.table.setting in
    let t = c.apply.new.self.setting in
    let p = c.loop-event.table.past in
    let rest = c.next.new.self.rest.items in
    let e = c.in-Some.ensures.steps.0 in
    let one = i.each 0 c.in-Some.event (ap (λ xs. slice_get xs 0) e) in
    let goes = ap (λ x. appended c.args.by rest x) c.apply.ensures.past ∙ ap (λ xs. appended c.args.by xs p) (sym e) in
    record {
      setting = c.apply.ensures.setting ∙ i.setting;
      goes = goes ∙ i.goes;
      legal = subst (λ x. IsLegalJournal x (appended c.args.by rest c.apply.new.self.past)) (sym c.apply.ensures.setting) (subst (λ x. IsLegalJournal s x) (sym goes) i.legal);
      each = λ k ev h. i.each (suc k) ev (ap (λ xs. slice_get xs (suc k)) e ∙ h);
      events = omega (arith, i.events, ap length e, cost_one p c.args.by c.in-Some.event one, c.apply.ensures.spare_events);
      steps = omega (arith, i.steps, ap length e, lines_one c.in-Some.event one, c.apply.ensures.spare_steps);
    }
