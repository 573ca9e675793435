use Rattle.std.proofs.Common.{subst}
use Rattle.std.specs.Prelude.{MatchBool}
use Rattle.case_journal.specs.declared.event.Event.TheVariants.{Split, Full}
use Rattle.clause_splitting.specs.Splitting.{IsSplitBy, IsFullBy}
use Rattle.case_turns.specs.TurnLaws.{continues_one}
use Rattle.case_journal.specs.LeafLaws.{claimer_within}
use Rattle.case_turns.proofs.appending.append_split.Goals as goal

pub split-requires-clause-some : goal.split-requires-clause-some
split-requires-clause-some c = (claimer_within c.args.table.now.setting c.args.table.now.past c.journal_is_legal.ensures c.args.by c.args.node c.requires.holds.claims).0

pub split-requires-clause-worker : goal.split-requires-clause-worker
split-requires-clause-worker c = (claimer_within c.args.table.now.setting c.args.table.now.past c.journal_is_legal.ensures c.args.by c.args.node c.requires.holds.claims).1

pub returns-then-split-clause-more : goal.returns-then-split-clause-more
returns-then-split-clause-more c =
    let a = c.args in
    let t = a.table.now in
    let new = c.split.new.table in
    let d : IsSplitBy a.by a.node t new = subst (λ b. MatchBool b (IsSplitBy a.by a.node t new) (IsFullBy a.by a.node t new)) c.if-split.true c.split.ensures.done in
    continues_one t.past new.past (record { by = a.by; event = Split a.node d.lines d.put_off }) d.is

pub returns-else-split-clause-more : goal.returns-else-split-clause-more
returns-else-split-clause-more c =
    let a = c.args in
    let t = a.table.now in
    let new = c.split.new.table in
    let d : IsFullBy a.by a.node t new = subst (λ b. MatchBool b (IsSplitBy a.by a.node t new) (IsFullBy a.by a.node t new)) c.if-split.false c.split.ensures.done in
    continues_one t.past new.past (record { by = a.by; event = Full a.node d.chain }) d.is
