-- The marks of a view that goes from leaf to leaf: former states of it, at leaves that have been split since.
use Rattle.std.specs.Prelude.{List, [], ◌∷◌}
use Rattle.case_journal.specs.declared.event.Entry.{Entry}
use Rattle.case_journal.specs.Journal.{Setting}
use Rattle.case_view.specs.declared.kept.Case.{Case}
use Rattle.case_view.specs.declared.kept.Mark.{Mark}
use Rattle.case_view.specs.Marks.{HasGrown, IsMarkOf}
use Rattle.case_view.specs.Views.{GoesOn}

-- the view stands for a beginning of the journal; so did what it had at each mark, the last one first, and out of that it has grown
abbrev pub IsTrail : Setting → List Entry → List Mark → Case → Type 0
IsTrail s past [] v = GoesOn s past v
IsTrail s past (mark ∷ marks) v = GoesOn s past v × ((u : Case) × IsMarkOf mark u × HasGrown u v × IsTrail s past marks u)
