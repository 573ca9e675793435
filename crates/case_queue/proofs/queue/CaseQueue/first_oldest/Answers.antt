use Rattle.std.proofs.Common.{◌≡◌, ◌∙◌, inl, inr, sym, ap, arith}
use Rattle.std.proofs.lemmas.Bool.{cases_lt}
use Rattle.case_journal.specs.Picking.{is_passive}
use Rattle.case_queue.proofs.Oldest.{oldest_is, oldest_none}
use Rattle.case_queue.proofs.queue.CaseQueue.first_oldest.Goals as goal

pub returns-then-passive-clause-pick : goal.returns-then-passive-clause-pick
returns-then-passive-clause-pick c =
    let v = c.loop-number.invariant in
    sym (oldest_is c.args.table.now.setting c.args.table.now.past c.args.node c.loop-number.number v.some (omega (arith, c.loop-number-test.true, c.steps-number-end.ensures)) (sym c.if-passive.ensures) v.older)

pub returns-clause-pick : goal.returns-clause-pick
returns-clause-pick c =
    sym (oldest_none c.args.table.now.setting c.args.table.now.past c.args.node (λ i one within. c.loop-number.invariant.older i one (omega (arith, within, c.loop-number-test.false, c.steps-number-end.ensures))))

pub returns-else-passive-clause-pick : goal.returns-else-passive-clause-pick
returns-else-passive-clause-pick c =
    let p = is_passive c.args.table.now.setting c.args.table.now.past c.args.node in
    let n = c.loop-number.number in
    sym (oldest_none c.args.table.now.setting c.args.table.now.past c.args.node (λ i one within. elim (cases_lt i n) [
      | inl low ↦ c.loop-number.invariant.older i one low
      | inr high ↦ let e : i ≡ n = omega arith in ap p e ∙ sym c.if-passive.ensures
    ]))
