use Rattle.std.proofs.Common.{◌<◌, ◌∙◌, sym, subst, arith}
use Rattle.std.specs.Prelude.{reverse}
use Rattle.case_journal.specs.Journal.{nodes}
use Rattle.case_journal.specs.Legal.{IsLegalJournal}
use Rattle.case_journal.specs.Facts.{Holds}
use Rattle.case_journal.specs.PlaceLaws.{claimed_within}
use Rattle.case_queue.specs.Queues.{HasFirst, HasQueue}
use Rattle.journal_laws.specs.Frame.{KeepsLeaf}
use Rattle.case_view.specs.TrailLaws.{goes_from, trail_grown}
use Rattle.case_turns.proofs.Desks.{queue_keeps, fewer_steps, trail_of}
use Rattle.case_turns.proofs.desk.Desk.catch_up.Goals as goal

pub sync-requires-clause-goes_on : goal.sync-requires-clause-goes_on
sync-requires-clause-goes_on c =
    let d = c.requires.desk in
    record { start = d.start; later = d.later; more = d.more; stands = d.was.stands }

pub add_lines-requires-clause-there : goal.add_lines-requires-clause-there
add_lines-requires-clause-there c =
    let t = c.args.table.now in
    let v = c.args.self.now.view in
    subst (λ n. n < nodes t.past) (sym (c.node.ensures ∙ c.in_ok-sync.ensures.node)) (claimed_within t.setting t.past c.laws.ensures.legal v.worker v.node c.requires.holds.claims)

pub add_lines-requires-clause-within : goal.add_lines-requires-clause-within
add_lines-requires-clause-within c =
    let t = c.args.table.now in
    let v = c.args.self.now.view in
    let d = c.requires.desk in
    let keeps = subst (λ p. KeepsLeaf t.setting d.start p v.worker v.node) (sym d.more)
    (c.a_held_leaf_is_kept.ensures.whole t.setting d.start d.later v.worker v.node (subst (IsLegalJournal t.setting) d.more c.laws.ensures.legal) d.was.stands.holds (subst (λ p. Holds t.setting p v.worker v.node) d.more c.requires.holds)) in
    omega (arith, c.base-before.ensures, d.was.stands.is.base, fewer_steps t.setting d.start t.past v.worker v.node keeps)

pub add_lines-requires-clause-first : goal.add_lines-requires-clause-first
add_lines-requires-clause-first c =
    let t = c.args.table.now in
    let v = c.args.self.now.view in
    let d = c.requires.desk in
    let keeps = subst (λ p. KeepsLeaf t.setting d.start p v.worker v.node) (sym d.more)
    (c.a_held_leaf_is_kept.ensures.whole t.setting d.start d.later v.worker v.node (subst (IsLegalJournal t.setting) d.more c.laws.ensures.legal) d.was.stands.holds (subst (λ p. Holds t.setting p v.worker v.node) d.more c.requires.holds)) in
    subst (λ n. HasFirst t.setting t.past n c.base-before.result c.args.self.now.queue) (sym (c.node.ensures ∙ c.in_ok-sync.ensures.node))
    (subst (λ b. HasFirst t.setting t.past v.node b c.args.self.now.queue) (sym (c.base-before.ensures ∙ d.was.stands.is.base))
    (queue_keeps t.setting d.start t.past v.worker v.node c.args.self.now.queue keeps d.was.queue))

pub returns : goal.returns
returns c =
    let t = c.args.table.now in
    let desk = c.args.self.now in
    let stands = c.in_ok-sync.ensures.stands in
    record {
      stands = stands;
      node = c.in_ok-sync.ensures.node;
      trail = record {
        worker = c.in_ok-sync.ensures.worker;
        trail = trail_grown t.setting t.past (reverse desk.marks) desk.view c.sync.new.self
            (trail_of t.setting t.past desk.view.worker desk.view.node desk c.requires.desk).trail c.in_ok-sync.ensures.grows (goes_from t.setting t.past c.sync.new.self stands);
      };
      queue = subst (λ n. HasQueue t.setting t.past n c.add_lines.new.queue) (c.node.ensures ∙ c.in_ok-sync.ensures.node) c.in_ok-add_lines.ensures;
    }
