-- The journal, its ledger of steps, and what it counts. A past is a list of entries, the newest first.
use Rattle.std.specs.Prelude.{◌≡◌, ℕ, ◌+◌, ◌-◌, ◌<◌, ◌≤◌, ◌^◌, Some, Bool, true, false, List, [], ◌∷◌, ◌++◌, length, count_by, Option, slice_get}
use Rattle.spl_terms.specs.declared.clause.Clause.{Clause}
use Rattle.spl_terms.specs.Clauses.{in_order, clause_symbols}
use Rattle.proof_steps.specs.declared.step.Rule.{Rule}
use Rattle.proof_steps.specs.declared.step.Rule.TheVariants.{Input, CaseLeft, CaseRight, CaseBoth}
use Rattle.proof_steps.specs.declared.step.Line.{Line}
use Rattle.proof_steps.specs.Steps.{states}
use Rattle.case_journal.specs.declared.event.Limits.{Limits}
use Rattle.case_journal.specs.declared.event.Entry.{Entry}
use Rattle.case_journal.specs.declared.event.Event.{Event}
use Rattle.case_journal.specs.declared.event.Event.TheVariants.{Choose, Publish, Split}

-- what a table is made with
pub record Setting : Type 0 where
  pub input : List Clause
  pub limits : Limits
  pub workers : ℕ

-- the limits are numbers of 32 bits
pub record IsSmall (limits : Limits) : Type 0 where
  pub rounds : limits.rounds < 2 ^ 32
  pub steps : limits.steps < 2 ^ 32
  pub splits : limits.splits < 2 ^ 32

-- ---- the ledger

-- the input step of the clause with this number
abbrev pub input_line : ℕ → Clause → Line
input_line n c = record { step = record { rule = Input n; parents = [] }; stated = states (in_order c) [] }

-- the input steps, where the first clause has the number n
abbrev pub input_lines : ℕ → List Clause → List Line
input_lines n [] = []
input_lines n (c ∷ cs) = input_line n c ∷ input_lines (n + 1) cs

-- the steps that an event adds to the ledger
abbrev pub lines_of : Event → List Line
lines_of (Publish node chain put_off) = chain
lines_of (Split node steps put_off) = steps
lines_of _ = []

-- the steps of the input, then those of the events: clause number i states what the step at place i - 1 does
abbrev pub ledger : Setting → List Entry → List Line
ledger s [] = input_lines 1 s.input
ledger s (e ∷ past) = ledger s past ++ lines_of e.event

-- the last of these steps
abbrev pub last_line : List Line → Option Line
last_line lines = slice_get lines (length lines - 1)

-- the length of the ledger
abbrev pub steps : Setting → List Entry → ℕ
steps s past = length (ledger s past)

-- each of these lines states a clause of at most 4,096 symbols
abbrev pub AreSmall : List Line → Type 0
AreSmall lines = (k : ℕ) (l : Line) → slice_get lines k ≡ Some l → clause_symbols l.stated.clause ≤ 4096

-- ---- counts

-- how many nodes an event adds
abbrev pub nodes_of : Event → ℕ
nodes_of (Split node steps put_off) = 2
nodes_of _ = 0

-- the number of nodes
abbrev pub nodes : List Entry → ℕ
nodes [] = 1
nodes (e ∷ past) = nodes past + nodes_of e.event

abbrev pub choices_of : Event → ℕ
choices_of (Choose node clause selected) = 1
choices_of _ = 0

-- the number of Choose events
abbrev pub rounds : List Entry → ℕ
rounds [] = 0
rounds (e ∷ past) = rounds past + choices_of e.event

abbrev pub splits_of : Event → ℕ
splits_of (Split node steps put_off) = 1
splits_of _ = 0

-- the number of Split events
abbrev pub splits : List Entry → ℕ
splits [] = 0
splits (e ∷ past) = splits past + splits_of e.event

-- whether steps by this rule count: all but the input and the steps that close cases
abbrev pub is_counted : Rule → Bool
is_counted (Input number) = false
is_counted CaseLeft = false
is_counted CaseRight = false
is_counted CaseBoth = false
is_counted _ = true

-- how many of the steps count
abbrev pub count_of : List Line → ℕ
count_of lines = count_by (λ l. is_counted l.step.rule) lines

-- the number of counted steps
abbrev pub counted : List Entry → ℕ
counted [] = 0
counted (e ∷ past) = counted past + count_of (lines_of e.event)
