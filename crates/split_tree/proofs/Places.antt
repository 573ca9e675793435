-- What an event changes or adds to is there.
use Rattle.std.proofs.Common.{ℕ, List, arith}
use Rattle.case_journal.specs.declared.event.Entry.{Entry}
use Rattle.case_journal.specs.declared.event.Event.{Event}
use Rattle.case_journal.specs.declared.event.Event.TheVariants.{Choose, Publish, Split, Activate}
use Rattle.case_journal.specs.Journal.{Setting, nodes}
use Rattle.case_journal.specs.Legal.{IsAsked, IsLegalJournal}
use Rattle.case_journal.specs.PlaceLaws.{claimed_within, one_line, two_lines, split_there}
use Rattle.split_tree.specs.Caches.{AddsLines, IsNodeOf}

pub AddsLines-legal : (s : Setting) (past : List Entry) (w : ℕ) (ev : Event) → IsAsked s past w ev → AddsLines ev
AddsLines-legal s past w (Publish node chain put_off) p = omega (arith, one_line s past w node chain put_off p.asked)
AddsLines-legal s past w (Split node lines put_off) p = omega (arith, two_lines s past w node lines put_off p.asked)
AddsLines-legal s past w _ p = tt

-- a node whose state the event changes is there
pub node_there : (s : Setting) (past : List Entry) → IsLegalJournal s past → (w : ℕ) (ev : Event) → IsAsked s past w ev → IsNodeOf ev (nodes past)
node_there s past legal w (Choose node clause selected) p = claimed_within s past legal w node p.holds.claims
node_there s past legal w (Activate node) p = claimed_within s past legal w node p.holds.claims
node_there s past legal w (Split node lines put_off) p = split_there s past legal w node lines put_off p
node_there s past legal w _ p = tt
