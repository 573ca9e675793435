use Rattle.std.proofs.Common.{◌∷◌, ◌∙◌, None, ap}
use Rattle.case_journal.specs.declared.event.Entry.{Entry}
use Rattle.case_journal.specs.declared.event.Event.TheVariants.{Choose}
use Rattle.case_journal.specs.PlaceLaws.{claimed_within}
use Rattle.case_turns.specs.TurnLaws.{continues_one, continues_more}
use Rattle.worker_tests.proofs.turns.choose.Goals as goal

pub chosen-requires : goal.chosen-requires
chosen-requires c =
    let t = c.reserve.new.self in
    claimed_within t.setting t.past c.laws.ensures.legal c.args.by c.in-Some.node c.in-Some.ensures.claims

pub pick-requires : goal.pick-requires
pick-requires c =
    let t = c.reserve.new.self in
    claimed_within t.setting t.past c.laws.ensures.legal c.args.by c.in-Some.node c.in-Some.ensures.claims

pub returns-in-Some-pick-clause-more : goal.returns-in-Some-pick-clause-more
returns-in-Some-pick-clause-more c =
    let a = c.args in
    let e : Entry = record { by = a.by; event = Choose c.in-Some.node c.in-Some-pick.clause None } in
    let old = c.goes_on.new.table.past in
    let new = c.apply.new.self.past in
    continues_more a.table.now.past old new c.in_ok-goes_on.ensures.more (continues_one old new e (c.apply.ensures.past ∙ ap (λ p. e ∷ p) c.reserve.ensures.past))
