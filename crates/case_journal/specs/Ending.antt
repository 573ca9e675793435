-- Which events end the journal, and why.
use Rattle.std.specs.Prelude.{Bool, true, false, ◌&&◌, List, [], ◌∷◌, Option, Some, None, if◌then◌else◌}
use Rattle.std.specs.List.{list_any}
use Rattle.spl_terms.specs.declared.clause.Clause.{Clause}
use Rattle.spl_terms.specs.Clauses.{is_empty}
use Rattle.dep_sets.specs.declared.deps.Assumption.{Assumption}
use Rattle.proof_steps.specs.declared.step.Statement.{Statement}
use Rattle.proof_steps.specs.declared.step.Line.{Line}
use Rattle.case_journal.specs.declared.event.Entry.{Entry}
use Rattle.case_journal.specs.declared.event.Event.{Event}
use Rattle.case_journal.specs.declared.event.Event.TheVariants.{Publish, Saturated, Spent, Big, Full, Stop}
use Rattle.case_journal.specs.declared.event.End.{End}
use Rattle.case_journal.specs.declared.event.End.TheVariants as ends
use Rattle.case_journal.specs.Journal.{Setting, last_line}

abbrev pub no_assumptions : List Assumption → Bool
no_assumptions [] = true
no_assumptions (a ∷ deps) = false

-- the empty clause, which depends on no assumption
abbrev pub is_contradiction : Statement → Bool
is_contradiction s = is_empty s.clause && no_assumptions s.deps

abbrev pub states_contradiction : Option Line → Bool
states_contradiction None = false
states_contradiction (Some l) = is_contradiction l.stated

-- the last of these steps states a contradiction
abbrev pub ends_contradictory : List Line → Bool
ends_contradictory lines = states_contradiction (last_line lines)

-- why the event ends the journal, if it does
abbrev pub end_by : Event → Option End
end_by (Publish node chain put_off) = if ends_contradictory chain then Some ends.Proved else None
end_by (Saturated node) = Some (ends.Completed node)
end_by (Spent node) = Some ends.Rounds
end_by (Big node partner symbols) = Some (ends.Size symbols)
end_by (Full node chain) = Some ends.Steps
end_by Stop = Some ends.Memory
end_by _ = None

abbrev pub or_else : Option End → Option End → Option End
or_else (Some first) later = Some first
or_else None later = later

-- why the first event that ends the journal does
abbrev pub first_end : List Entry → Option End
first_end [] = None
first_end (e ∷ past) = or_else (first_end past) (end_by e.event)

-- whether the input has an empty clause
abbrev pub has_empty : List Clause → Bool
has_empty input = list_any is_empty input

-- why proving ended, if it did: at once where the input has an empty clause
abbrev pub reason : Setting → List Entry → Option End
reason s past = if has_empty s.input then Some ends.Proved else first_end past
