use Rattle.std.proofs.Common.{◌≡◌, ◌∙◌, ◌+◌, length, sym, ap, subst, arith}
use Rattle.std.specs.Prelude.{slice_get}
use Rattle.case_journal.specs.declared.event.Entry.{Entry}
use Rattle.case_journal.specs.Journal.{ledger}
use Rattle.case_view.specs.Walks.{with_event, Reaches}
use Rattle.case_view.proofs.CaseSteps.{next_of, walk_step, notable, arrives}
use Rattle.case_view.specs.MarkLaws.{grown_self, grown_more}
use Rattle.case_view.proofs.FiledSteps.{noted_grows}
use Rattle.case_view.proofs.walking.walk.Goals as goal

pub loop-place-init : goal.loop-place-init
loop-place-init c = record { reaches = c.requires.reaches; grows = grown_self c.args.case.now }

pub note-requires : goal.note-requires
note-requires c =
    let t = c.args.table.now in
    let e : Entry = record { by = c.event.result.0; event = c.event.result.1.now } in
    let at = c.loop-place.place in
    let next = next_of t.setting t.past c.args.leaf c.args.way.now at c.loop-place.case e c.loop-place.invariant.reaches (omega (arith, c.loop-place-test.true, c.events-place-end.ensures)) c.event.ensures in
    let l = c.laws.ensures in
    notable t.setting t.past l.legal l.few_nodes l.few_steps c.args.leaf c.requires.there c.args.way.now at (omega (arith, c.loop-place-test.true, c.events-place-end.type_inv)) c.loop-place.case e next

pub loop-place-preserved : goal.loop-place-preserved
loop-place-preserved c =
    let t = c.args.table.now in
    let e : Entry = record { by = c.event.result.0; event = c.event.result.1.now } in
    let at = c.loop-place.place in
    let v = c.loop-place.case in
    let next = next_of t.setting t.past c.args.leaf c.args.way.now at v e c.loop-place.invariant.reaches (omega (arith, c.loop-place-test.true, c.events-place-end.ensures)) c.event.ensures in
    let below : c.copied-next.result ≡ slice_get c.args.way.now (length v.nodes) = c.copied-next.ensures ∙ (c.at.ensures ∙ ap (slice_get c.args.way.now) c.len.ensures) in
    let is = c.in_ok-note.ensures ∙ ap (λ o. with_event (ledger t.setting t.past) e.event o v) below in
    record {
      reaches = subst (Reaches t.setting t.past c.args.leaf c.args.way.now (at + 1)) (sym is) (walk_step t.setting t.past c.laws.ensures.legal c.args.leaf c.requires.there c.args.way.now at v e next);
      grows = grown_more c.args.case.now v c.note.new.case c.loop-place.invariant.grows (noted_grows (ledger t.setting t.past) e.event (slice_get c.args.way.now (length v.nodes)) v c.note.new.case is);
    }

pub returns-clause-is : goal.returns-clause-is
returns-clause-is c =
    let t = c.args.table.now in
    (arrives t.setting t.past c.args.leaf c.args.way.now c.loop-place.place c.loop-place.case c.loop-place.invariant.reaches (omega (arith, c.loop-place-test.false, c.events-place-end.ensures))).0

pub returns-clause-node : goal.returns-clause-node
returns-clause-node c =
    let t = c.args.table.now in
    (arrives t.setting t.past c.args.leaf c.args.way.now c.loop-place.place c.loop-place.case c.loop-place.invariant.reaches (omega (arith, c.loop-place-test.false, c.events-place-end.ensures))).1
