use Rattle.std.proofs.Common.{◌≡◌, ◌∙◌, ◌∷◌, ◌++◌, [], length, sym, ap, subst, append_assoc, arith}
use Rattle.std.specs.List.{sum_by}
use Rattle.std.proofs.lemmas.List.{append-nil, nil_from_length}
use Rattle.std.proofs.lemmas.List.Sums.{sum_by-cons}
use Rattle.case_journal.specs.declared.event.Event.{Event}
use Rattle.case_journal.specs.Journal.{lines_of, splits}
use Rattle.case_journal.specs.Paths.{owner}
use Rattle.case_journal.specs.Facts.{Holds}
use Rattle.case_journal.specs.Ending.{first_end}
use Rattle.case_journal.specs.Legal.{IsLegalJournal, IsSettled}
use Rattle.journal_laws.specs.Batches.{publication}
use Rattle.case_turns.specs.Turns.{IsNextLine, IsGone, IsLastNow}
use Rattle.case_turns.specs.TurnLaws.{continues_more, continues_one}
use Rattle.case_turns.proofs.Turns.{item_at}
use Rattle.case_turns.proofs.Sequence.{publishes, finishes_now, one_line, is_next, one_more, not_done}
use Rattle.case_turns.proofs.appending.append_events.Goals as goal

pub publish-requires-clause-holds : goal.publish-requires-clause-holds
publish-requires-clause-holds c =
    let a = c.args in
    let v = c.loop-event.invariant in
    let r = c.requires.ready in
    subst (λ s. Holds s c.loop-event.table.past a.by a.node) (sym v.setting) (v.way r.batch r.ready r.are).way.still.holds

pub publish-requires-clause-next : goal.publish-requires-clause-next
publish-requires-clause-next c =
    let a = c.args in
    let s = a.table.now.setting in
    let v = c.loop-event.invariant in
    let r = c.requires.ready in
    let now = c.loop-event.table.past in
    let done = c.loop-event.yielded in
    let rest = c.next.new.self.rest.items in
    let ev = c.in-Some.event in
    let node = c.in-Publish.at in
    let chain = c.in-Publish.chain in
    let joined = v.joined ∙ ap (λ xs. done ++ xs) c.in-Some.ensures.steps.0 in
    let far = v.way r.batch r.ready r.are in
    let p = publishes s a.table.now.past now a.by a.node a.events done rest ev r.batch r.ready r.are far joined node chain c.in-Publish.put_off c.in-Publish.is in
    let go = c.lines_go_on.ensures.next s r.ready.can.start now a.by a.node r.ready.lines (length done) p.line v.legal v.unended far.way p.found in
    subst (λ x. IsNextLine x now a.by a.node node chain) (sym v.setting) (is_next s r.ready.can.start now a.by a.node r.ready.lines done node chain c.in-Publish.put_off far p go)

pub publish-requires-clause-settled : goal.publish-requires-clause-settled
publish-requires-clause-settled c = subst (λ s. IsSettled s c.loop-event.table.past) (sym c.loop-event.invariant.setting) c.loop-event.invariant.settled

pub publish-requires-clause-event_fits : goal.publish-requires-clause-event_fits
publish-requires-clause-event_fits c = omega (arith, c.loop-event.invariant.events_fit, ap length c.in-Some.ensures.steps.0)

pub publish-requires-clause-steps_fit : goal.publish-requires-clause-steps_fit
publish-requires-clause-steps_fit c =
    let f = λ (ev : Event). length (lines_of ev) in
    omega (arith, c.loop-event.invariant.steps_fit, ap (sum_by f) c.in-Some.ensures.steps.0, sum_by-cons f c.in-Some.event c.next.new.self.rest.items, ap f c.in-Publish.is)

pub loop-event-preserved : goal.loop-event-preserved
loop-event-preserved c =
    let a = c.args in
    let s = a.table.now.setting in
    let v = c.loop-event.invariant in
    let r = c.requires.ready in
    let old = c.loop-event.table in
    let new = c.publish.new.table in
    let done = c.loop-event.yielded in
    let rest = c.next.new.self.rest.items in
    let ev = c.in-Some.event in
    let node = c.in-Publish.at in
    let chain = c.in-Publish.chain in
    let put_off = c.in-Publish.put_off in
    let f = λ (x : Event). length (lines_of x) in
    let joined = v.joined ∙ ap (λ xs. done ++ xs) c.in-Some.ensures.steps.0 in
    let setting = c.publish.ensures.setting ∙ v.setting in
    let legal = subst (λ x. IsLegalJournal x new.past) setting c.journal_is_legal-in-loop-event.ensures in
    let gone = subst (IsGone old new a.by a.node chain) c.in-Published.is c.in_ok-publish-in-Publish.ensures.gone in
    let far = v.way r.batch r.ready r.are in
    let p = publishes s a.table.now.past old.past a.by a.node a.events done rest ev r.batch r.ready r.are far joined node chain put_off c.in-Publish.is in
    let one = one_line r.ready.can.start a.node r.ready.lines (length done) node chain put_off p in
    let told = gone p.line one in
    let at = owner old.past p.line.stated.deps a.node in
    record {
      setting = setting;
      legal = legal;
      settled = subst (IsSettled s) (sym told.past) (c.publications_keep_settled.ensures s old.past a.by at p.line v.legal told.full v.settled);
      unended = ap first_end told.past ∙ c.lines_go_on.ensures.unended old.past a.by at p.line told.full v.unended;
      splits = omega (arith, ap splits told.past, v.splits);
      more = continues_more a.table.now.past old.past new.past v.more (continues_one old.past new.past (publication a.by at p.line) told.past);
      joined = joined ∙ sym (append_assoc done (ev ∷ []) rest);
      events_fit = omega (arith, v.events_fit, ap length c.in-Some.ensures.steps.0, told.events);
      steps_fit = omega (arith, v.steps_fit, ap (sum_by f) c.in-Some.ensures.steps.0, sum_by-cons f ev rest, ap f c.in-Publish.is, ap length one, told.steps);
      way = λ b q are.
          let far2 = v.way b q are in
          let p2 = publishes s a.table.now.past old.past a.by a.node a.events done rest ev b q are far2 joined node chain put_off c.in-Publish.is in
          let told2 = gone p2.line (one_line q.can.start a.node q.lines (length done) node chain put_off p2) in
          one_more s q.can.start old new a.by a.node q.lines done ev p2.line p2.found far2 told2
          (c.lines_go_on.ensures.more s q.can.start old.past a.by a.node q.lines (length done) p2.line (subst (IsLegalJournal s) told2.past legal) far2.way p2.found told2.full);
    }

pub returns-in-Closed-clause-more : goal.returns-in-Closed-clause-more
returns-in-Closed-clause-more c = continues_more c.args.table.now.past c.loop-event.table.past c.publish.new.table.past c.loop-event.invariant.more c.in_ok-publish-in-Publish.ensures.more

pub returns-in-Full-clause-more : goal.returns-in-Full-clause-more
returns-in-Full-clause-more c = continues_more c.args.table.now.past c.loop-event.table.past c.publish.new.table.past c.loop-event.invariant.more c.in_ok-publish-in-Publish.ensures.more

pub append_last-requires : goal.append_last-requires
append_last-requires c =
    let a = c.args in
    let s = a.table.now.setting in
    let v = c.loop-event.invariant in
    let r = c.requires.ready in
    let now = c.loop-event.table.past in
    let done = c.loop-event.yielded in
    let rest = c.next.new.self.rest.items in
    let ev = c.in-Some.event in
    let f = λ (x : Event). length (lines_of x) in
    let joined = v.joined ∙ ap (λ xs. done ++ xs) c.in-Some.ensures.steps.0 in
    let far = v.way r.batch r.ready r.are in
    let last = finishes_now s a.table.now.past now a.by a.node a.events done rest ev r.batch r.ready r.are far joined
    (λ partner symbols own. c.finish_stays_legal.ensures.big s r.ready.can.start now a.by a.node partner symbols own)
    (c.finish_stays_legal.ensures.activate s r.ready.can.start now a.by a.node r.ready.lines) v.legal v.unended (λ node chain put_off is. c.in_default.not-Publish node chain put_off is) in
    record {
      holds = subst (λ x. Holds x now a.by a.node) (sym v.setting) far.way.still.holds;
      unended = v.unended;
      settled = subst (λ x. IsSettled x now) (sym v.setting) v.settled;
      last = subst (λ x. IsLastNow x now a.by a.node ev) (sym v.setting) last;
      event_fits = omega (arith, v.events_fit, ap length c.in-Some.ensures.steps.0);
      steps_fit = omega (arith, v.steps_fit, ap (sum_by f) c.in-Some.ensures.steps.0, sum_by-cons f ev rest);
    }

pub returns-in_default : goal.returns-in_default
returns-in_default c =
    let a = c.args in
    let v = c.loop-event.invariant in
    let done = c.loop-event.yielded in
    let rest = c.next.new.self.rest.items in
    let ev = c.in-Some.event in
    let p = c.append_last.ensures in
    let joined = v.joined ∙ ap (λ xs. done ++ xs) c.in-Some.ensures.steps.0 in
    record {
      setting = p.setting ∙ v.setting;
      outcome = p.outcome;
      more = continues_more a.table.now.past c.loop-event.table.past c.append_last.new.table.past v.more p.more;
      again = λ is. (let h = p.again is in (
        ev,
        (length done, item_at a.events done rest ev joined),
        record { node = h.node; lines = h.lines; put_off = h.put_off; is = h.is; spent = omega (arith, h.spent, v.splits, ap (λ x. x.limits.splits) v.setting) },
      ));
      some = p.some;
      err = tt;
    }

pub unreachable-requires : goal.unreachable-requires
unreachable-requires c =
    let a = c.args in
    let s = a.table.now.setting in
    let v = c.loop-event.invariant in
    let r = c.requires.ready in
    let done = c.loop-event.yielded in
    let rest = c.loop-event.event-iterator.rest in
    let all : a.events ≡ done = v.joined ∙ (ap (λ xs. done ++ xs) (nil_from_length rest.items (omega (arith, c.in-None.ensures.steps.0, rest.ok.0))) ∙ append-nil done) in
    not_done s r.ready.can.start c.loop-event.table.past a.by a.node r.ready.lines done r.ready.finish r.ready.last (v.way r.batch r.ready r.are) r.ready.can.ends r.ready.finishes (sym all ∙ (r.are ∙ r.ready.events))
