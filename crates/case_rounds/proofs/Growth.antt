-- A ledger only grows.
use Rattle.std.proofs.Common.{◌≤◌, List, [], ◌∷◌, ◌++◌, length-append, arith}
use Rattle.case_journal.specs.declared.event.Entry.{Entry}
use Rattle.case_journal.specs.Journal.{Setting, ledger, lines_of, steps}

pub steps_more : (s : Setting) (past later : List Entry) → steps s past ≤ steps s (later ++ past)
steps_more s past [] = omega arith
steps_more s past (e ∷ later) = omega (arith, steps_more s past later, length-append (ledger s (later ++ past)) (lines_of e.event))
