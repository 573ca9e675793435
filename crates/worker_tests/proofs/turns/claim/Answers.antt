use Rattle.std.proofs.Common.{◌∷◌, ◌∙◌, ap}
use Rattle.case_journal.specs.declared.event.Entry.{Entry}
use Rattle.case_journal.specs.declared.event.Event.TheVariants.{Claim}
use Rattle.case_turns.specs.TurnLaws.{continues_one, continues_more}
use Rattle.worker_tests.proofs.turns.claim.Goals as goal

pub returns-in-Some-clause-more : goal.returns-in-Some-clause-more
returns-in-Some-clause-more c =
    let a = c.args in
    let e : Entry = record { by = a.by; event = Claim c.in-Some.node } in
    let old = c.goes_on.new.table.past in
    let new = c.apply.new.self.past in
    continues_more a.table.now.past old new c.in_ok-goes_on.ensures.more (continues_one old new e (c.apply.ensures.past ∙ ap (λ p. e ∷ p) c.reserve.ensures.past))
