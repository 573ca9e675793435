-- The root is on each path.
use Rattle.std.proofs.Common.{◌≡◌, ℕ, ◌<◌, true, eqb, List, [], ◌∷◌, arith, eq-eqb}
use Rattle.std.proofs.lemmas.Bool.{or_right}
use Rattle.case_journal.specs.declared.event.Entry.{Entry}
use Rattle.case_journal.specs.Journal.{Setting, nodes}
use Rattle.case_journal.specs.Paths.{stem, on_path}
use Rattle.case_journal.specs.Facts.{IsLive}
use Rattle.case_journal.specs.Legal.{IsLegalJournal}
use Rattle.case_journal.specs.PlaceLaws.{stem_there}
use Rattle.case_journal.specs.DeathLaws.{dead_below}

pub on_root : (s : Setting) (past : List Entry) → IsLegalJournal s past → (m : ℕ) → m < nodes past → on_path past m 0 ≡ true
on_root s [] legal m there = eq-eqb 0 m (omega arith)
on_root s (e ∷ past) legal m there =
    let u = stem e.event (nodes past) m in
    or_right (eqb 0 m) (on_path past u 0) (on_root s past legal.1 u (stem_there s past legal.1 e.by e.event m legal.0.asked there))

-- where some node is live, the root is
pub root_live : (s : Setting) (past : List Entry) → IsLegalJournal s past → (m : ℕ) → m < nodes past → IsLive s past m → IsLive s past 0
root_live s past legal m there live dead = live (dead_below s past legal m 0 there (on_root s past legal m there) dead)
