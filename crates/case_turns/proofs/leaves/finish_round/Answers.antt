use Rattle.std.proofs.Common.{◌≡◌, ◌⊎◌, sym, ap, subst}
use Rattle.std.specs.Prelude.{IsSome}
use Rattle.case_journal.specs.Facts.{chosen, IsDead}
use Rattle.case_journal.specs.Ending.{reason}
use Rattle.case_rounds.specs.Events.{IsBatchOf}
use Rattle.case_turns.specs.Turns.{IsAppended}
use Rattle.case_turns.specs.TurnLaws.{waits_now}
use Rattle.case_turns.proofs.Computed.{some_given, not_again, not_dropped}
use Rattle.case_turns.proofs.Desks.{desk_caught, trail_later_on}
use Rattle.case_turns.proofs.Rounds.{rounds_grow}
use Rattle.case_turns.proofs.leaves.finish_round.Goals as goal

pub append-requires-clause-waits : goal.append-requires-clause-waits
append-requires-clause-waits c =
    let t = c.args.table.now in
    let d = c.catch_up.new.self in
    let now = desk_caught t.setting t.past 1 c.args.node c.args.desk.now d c.requires.desk c.in_ok-catch_up.ensures in
    let has = c.views_have_the_clauses.ensures t.setting t.past d.view c.laws.ensures.legal now.stands.is in
    let chosen_there : IsSome (chosen t.past d.view.node) = subst (λ m. IsSome (chosen t.past m)) (sym now.node) c.requires.busy.busy in
    let batch = subst (λ n. IsBatchOf n d.view c.in_ok-batch.batch) (ap (λ l. l.splits) c.limits.ensures) c.in_ok-batch.ensures in
    waits_now t 1 c.args.node d.view c.in_ok-batch.batch c.laws.ensures.legal now.node now.trail.worker c.requires.busy.holds
    (c.rounds_can_be_appended.ensures t.setting t.past d.view c.in_ok-batch.batch c.laws.ensures.legal now.stands (some_given d.view.given (chosen t.past d.view.node) has.none chosen_there) batch)

pub returns-in-Activated-clause-more : goal.returns-in-Activated-clause-more
returns-in-Activated-clause-more c = rounds_grow c.args.table.now.past c.append.new.table.past c.in_ok-append.ensures.more

pub returns-in-Left-clause-more : goal.returns-in-Left-clause-more
returns-in-Left-clause-more c = rounds_grow c.args.table.now.past c.append.new.table.past c.in_ok-append.ensures.more

pub returns-in-Ended-clause-more : goal.returns-in-Ended-clause-more
returns-in-Ended-clause-more c = rounds_grow c.args.table.now.past c.append.new.table.past c.in_ok-append.ensures.more

pub returns-in-Activated-clause-trail : goal.returns-in-Activated-clause-trail
returns-in-Activated-clause-trail c =
    let t = c.args.table.now in
    let n = c.append.new.table in
    let d = c.catch_up.new.self in
    let now = desk_caught t.setting t.past 1 c.args.node c.args.desk.now d c.requires.desk c.in_ok-catch_up.ensures in
    trail_later_on t.setting n.setting t.past n.past 1 d c.in_ok-append.ensures.more.added c.append.ensures.setting c.in_ok-append.ensures.more.is now.trail

pub returns-in-Left-clause-trail : goal.returns-in-Left-clause-trail
returns-in-Left-clause-trail c =
    let t = c.args.table.now in
    let n = c.append.new.table in
    let d = c.catch_up.new.self in
    let now = desk_caught t.setting t.past 1 c.args.node c.args.desk.now d c.requires.desk c.in_ok-catch_up.ensures in
    trail_later_on t.setting n.setting t.past n.past 1 d c.in_ok-append.ensures.more.added c.append.ensures.setting c.in_ok-append.ensures.more.is now.trail

pub returns-in-Ended-clause-trail : goal.returns-in-Ended-clause-trail
returns-in-Ended-clause-trail c =
    let t = c.args.table.now in
    let n = c.append.new.table in
    let d = c.catch_up.new.self in
    let now = desk_caught t.setting t.past 1 c.args.node c.args.desk.now d c.requires.desk c.in_ok-catch_up.ensures in
    trail_later_on t.setting n.setting t.past n.past 1 d c.in_ok-append.ensures.more.added c.append.ensures.setting c.in_ok-append.ensures.more.is now.trail

pub unreachable-requires : goal.unreachable-requires
unreachable-requires c =
    let t = c.args.table.now in
    let d = c.catch_up.new.self in
    let now = desk_caught t.setting t.past 1 c.args.node c.args.desk.now d c.requires.desk c.in_ok-catch_up.ensures in
    let batch = subst (λ n. IsBatchOf n d.view c.in_ok-batch.batch) (ap (λ l. l.splits) c.limits.ensures) c.in_ok-batch.ensures in
    not_again t d.view c.in_ok-batch.batch batch now.stands.is.splits (c.in_ok-append.ensures.again c.in-Again.is)

pub unreachable-requires-in-Dropped : goal.unreachable-requires-in-Dropped
unreachable-requires-in-Dropped c =
    let t = c.args.table.now in
    let new = c.append.new.table in
    let same : new ≡ t = c.in_ok-append.ensures.dropped c.in-Dropped.is in
    let told = subst (IsAppended new 1 c.args.node) c.in-Dropped.is c.in_ok-append.ensures.outcome in
    not_dropped t 1 c.args.node c.requires.unrefuted c.requires.busy.unended c.requires.busy.holds (subst (λ x. IsSome (reason x.setting x.past) ⊎ IsDead x.setting x.past c.args.node) same told)
