use Rattle.std.proofs.Common.{◌≤◌, ◌<◌, ◌∷◌, ℕ, false, [], length, sym, ap, subst, arith}
use Rattle.case_journal.specs.declared.event.Entry.{Entry}
use Rattle.case_journal.specs.declared.event.Event.TheVariants.{Publish, Full}
use Rattle.case_journal.specs.Journal.{counted}
use Rattle.case_journal.specs.Facts.{Holds}
use Rattle.case_journal.specs.Legal.{IsLegal}
use Rattle.case_journal.specs.PlaceLaws.{claimed_within}
use Rattle.backjump.specs.Cases.{OnlyCloses}
use Rattle.case_turns.specs.TurnLaws.{closes_more, continues_one}
use Rattle.case_turns.proofs.Turns.{closed_idle}
use Rattle.case_turns.proofs.Publishing.{last_empty, first_empty, chain_line, is_published}
use Rattle.case_turns.proofs.appending.publish.Goals as goal

pub apply-requires-clause-legal : goal.apply-requires-clause-legal
apply-requires-clause-legal c =
    let t = c.args.table.now in
    let n = c.requires.next in
    let many : t.setting.limits.steps ≤ counted t.past = omega (arith, c.if-counted-limits.true, c.counted.ensures, ap (λ l. l.steps) c.limits.ensures) in
    subst (λ chain. IsLegal t.setting t.past c.args.by (Full c.args.node chain)) (sym n.is) (n.go.full many)

pub ends_empty-requires : goal.ends_empty-requires
ends_empty-requires c = omega (arith, ap length c.requires.next.is, ap length c.as_slice.ensures)

pub close-requires-clause-legal : goal.close-requires-clause-legal
close-requires-clause-legal c =
    let t = c.args.table.now in
    let n = c.requires.next in
    let few : counted t.past < t.setting.limits.steps = omega (arith, c.if-counted-limits.false, c.counted.ensures, ap (λ l. l.steps) c.limits.ensures) in
    subst (λ chain. IsLegal t.setting t.past c.args.by (Publish c.args.at chain false)) (sym n.is)
    (subst (λ at. IsLegal t.setting t.past c.args.by (Publish at (n.line ∷ []) false)) (sym n.owns) (n.go.publishes few))

pub close-requires-clause-empty : goal.close-requires-clause-empty
close-requires-clause-empty c = last_empty c.args.chain c.as_slice.result.now c.ends_empty.result c.as_slice.ensures c.ends_empty.ensures c.if-ends_empty.true

pub apply-requires-2-clause-legal : goal.apply-requires-2-clause-legal
apply-requires-2-clause-legal c =
    let t = c.args.table.now in
    let n = c.requires.next in
    let few : counted t.past < t.setting.limits.steps = omega (arith, c.if-counted-limits.false, c.counted.ensures, ap (λ l. l.steps) c.limits.ensures) in
    subst (λ chain. IsLegal t.setting t.past c.args.by (Publish c.args.at chain false)) (sym n.is)
    (subst (λ at. IsLegal t.setting t.past c.args.by (Publish at (n.line ∷ []) false)) (sym n.owns) (n.go.publishes few))

pub returns-then-ends_empty-clause-gone : goal.returns-then-ends_empty-clause-gone
returns-then-ends_empty-clause-gone c =
    let a = c.args in
    let t = a.table.now in
    let n = c.requires.next in
    let new = c.close.new.table in
    let p = c.in_ok-close.ensures in
    let closes = subst (λ node. OnlyCloses a.by (record { by = a.by; event = Publish node (n.line ∷ []) false } ∷ t.past) new.past) n.owns
    (subst (λ chain. OnlyCloses a.by (record { by = a.by; event = Publish a.at chain false } ∷ t.past) new.past) n.is p.closes) in
    let empty = first_empty a.chain n.line c.as_slice.result.now c.ends_empty.result n.is c.as_slice.ensures c.ends_empty.ensures c.if-ends_empty.true in
    let there = claimed_within t.setting t.past c.journal_is_legal.ensures a.by a.node c.requires.holds.claims in
    let idle = closed_idle c.dead_nodes_stay_dead.ensures t.setting t.past new.past a.by a.node n.line c.journal_is_legal.ensures c.requires.holds empty (c.lines_go_on.ensures.listed t.setting t.past a.by a.node n.line c.journal_is_legal.ensures there) closes in
    record {
      idle = subst (λ s. (m : ℕ) → ¬ Holds s new.past a.by m) (sym c.close.ensures.setting) idle;
      settled = p.settled;
      ended = p.ended;
    }

pub returns-clause-gone : goal.returns-clause-gone
returns-clause-gone c = λ l is.
    let a = c.args in
    let t = a.table.now in
    let new = c.apply-2.new.self in
    let p = c.apply-2.ensures in
    is_published t new a.by a.node a.at a.chain l c.requires.next is p.past (chain_line a.chain l c.as_slice.result.now c.ends_empty.result is c.as_slice.ensures c.ends_empty.ensures c.if-ends_empty.false)
    (omega (arith, p.spare_events)) (omega (arith, p.spare_steps, ap length is))

pub returns-then-counted-limits-clause-more : goal.returns-then-counted-limits-clause-more
returns-then-counted-limits-clause-more c =
    let a = c.args in
    let e : Entry = record { by = a.by; event = Full a.node a.chain } in
    continues_one a.table.now.past c.apply.new.self.past e c.apply.ensures.past

pub returns-then-ends_empty-clause-more : goal.returns-then-ends_empty-clause-more
returns-then-ends_empty-clause-more c =
    let a = c.args in
    closes_more a.table.now.past c.close.new.table.past (record { by = a.by; event = Publish a.at a.chain false }) c.in_ok-close.ensures.closes

pub returns-clause-more : goal.returns-clause-more
returns-clause-more c =
    let a = c.args in
    let e : Entry = record { by = a.by; event = Publish a.at a.chain false } in
    continues_one a.table.now.past c.apply-2.new.self.past e c.apply-2.ensures.past
