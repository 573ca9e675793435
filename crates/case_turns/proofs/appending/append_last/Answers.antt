use Rattle.case_journal.specs.declared.event.Entry.{Entry}
use Rattle.case_journal.specs.declared.event.Event.TheVariants.{Activate, Big}
use Rattle.case_turns.specs.TurnLaws.{continues_one}
use Rattle.case_turns.proofs.Turns.{activated_now}
use Rattle.case_turns.proofs.appending.append_last.Goals as goal

pub returns-in-Activate-clause-outcome : goal.returns-in-Activate-clause-outcome
returns-in-Activate-clause-outcome c =
    let a = c.args in
    activated_now c.dead_nodes_stay_dead.ensures a.table.now c.apply.new.self a.by a.node c.journal_is_legal.ensures c.requires.holds c.requires.settled c.requires.unended c.apply.ensures.setting c.apply.ensures.past

pub returns-in-Activate-clause-more : goal.returns-in-Activate-clause-more
returns-in-Activate-clause-more c =
    let a = c.args in
    let e : Entry = record { by = a.by; event = Activate a.node } in
    continues_one a.table.now.past c.apply.new.self.past e c.apply.ensures.past

pub returns-in-Big-clause-more : goal.returns-in-Big-clause-more
returns-in-Big-clause-more c =
    let a = c.args in
    let e : Entry = record { by = a.by; event = Big a.node c.in-Big.partner c.in-Big.symbols } in
    continues_one a.table.now.past c.apply-in-Big.new.self.past e c.apply-in-Big.ensures.past
