-- What the journal says of each node.
use Rattle.std.specs.Prelude.{◌≡◌, ℕ, zero, suc, ◌+◌, Bool, true, false, not, ◌&&◌, ◌||◌, ◌==◌, nat_le, nat_lt, List, [], ◌∷◌, ◌++◌, length, Option, Some, None, if◌then◌else◌}
use Rattle.spl_terms.specs.declared.clause.Clause.{Clause}
use Rattle.spl_terms.specs.Clauses.{is_empty}
use Rattle.proof_steps.specs.declared.step.Line.{Line}
use Rattle.proof_steps.specs.declared.step.Rule.{Rule}
use Rattle.proof_steps.specs.declared.step.Rule.TheVariants.{CaseLeft, CaseRight, CaseBoth}
use Rattle.proof_steps.specs.Steps.{numbered}
use Rattle.case_journal.specs.declared.event.Entry.{Entry}
use Rattle.case_journal.specs.declared.event.Event.{Event}
use Rattle.case_journal.specs.declared.event.Event.TheVariants.{Claim, Choose, Publish, Split, Activate, Stop}
use Rattle.case_journal.specs.Journal.{Setting, nodes, ledger, steps, last_line}
use Rattle.case_journal.specs.Paths.{stem, on_path, subject, is_leaf}

-- ---- clauses

-- the event, with `count` nodes and `size` steps before it, lists clause i at m, where `on n` says that n is on the path of m
abbrev pub lists : Event → ℕ → ℕ → (ℕ → Bool) → ℕ → ℕ → Bool
lists (Publish node chain put_off) count size on m i = on node && (nat_lt size i && (i == size + length chain))
lists (Split node lines put_off) count size on m i =
    ((m == count) && (i == size + 1)) || ((m == count + 1) && (nat_le (size + 2) i && nat_le i (size + length lines)))
lists _ count size on m i = false

-- clause i is listed at m: it was published at a node of its path, or is an input clause
abbrev pub listed : Setting → List Entry → ℕ → ℕ → Bool
listed s [] m i = (m == 0) && (nat_le 1 i && nat_le i (length s.input))
listed s (e ∷ past) m i =
    lists e.event (nodes past) (steps s past) (on_path past m) m i || listed s past (stem e.event (nodes past) m) i

-- clause i is kept at m; nothing is hidden yet
abbrev pub kept : Setting → List Entry → ℕ → ℕ → Bool
kept s past m i = listed s past m i

-- what is chosen at m after the event
abbrev pub chosen_by : Event → ℕ → Option ℕ → Option ℕ
chosen_by (Choose node clause selected) m earlier = if node == m then Some clause else earlier
chosen_by (Activate node) m earlier = if node == m then None else earlier
chosen_by _ m earlier = earlier

-- the clause that is chosen at m: from its Choose until its Activate
abbrev pub chosen : List Entry → ℕ → Option ℕ
chosen [] m = None
chosen (e ∷ past) m = chosen_by e.event m (chosen past m)

abbrev pub is_number : Option ℕ → ℕ → Bool
is_number None i = false
is_number (Some n) i = n == i

-- the event activates clause i at a node of the path, where `at n` is what was chosen at n
abbrev pub activates : Event → (ℕ → Option ℕ) → (ℕ → Bool) → ℕ → Bool
activates (Activate node) at on i = on node && is_number (at node) i
activates _ at on i = false

-- clause i was activated at a node of the path of m
abbrev pub worked : List Entry → ℕ → ℕ → Bool
worked [] m i = false
worked (e ∷ past) m i = activates e.event (chosen past) (on_path past (stem e.event (nodes past) m)) i || worked past (stem e.event (nodes past) m) i

-- the event splits clause i at a node of the path
abbrev pub splits_clause : Event → (ℕ → Bool) → ℕ → Bool
splits_clause (Split node lines put_off) on i = on node && (subject lines == i)
splits_clause _ on i = false

-- clause i was split at a node of the path of m
abbrev pub split : List Entry → ℕ → ℕ → Bool
split [] m i = false
split (e ∷ past) m i = splits_clause e.event (on_path past (stem e.event (nodes past) m)) i || split past (stem e.event (nodes past) m) i

-- ---- live and dead nodes

-- clause i is listed at m, and is empty
pub record IsEmptyAt (s : Setting) (past : List Entry) (m i : ℕ) : Type 0 where
  pub lists : listed s past m i ≡ true
  pub line : Line
  pub found : numbered (ledger s past) i ≡ Some line
  pub empty : is_empty line.stated.clause ≡ true

-- an empty clause is listed at m
abbrev pub IsDead : Setting → List Entry → ℕ → Type 0
IsDead s past m = (i : ℕ) × IsEmptyAt s past m i

abbrev pub IsLive : Setting → List Entry → ℕ → Type 0
IsLive s past m = ¬ IsDead s past m

-- ---- workers

-- the node of the worker's last Claim, where `earlier` is that of its earlier ones
abbrev pub claimed_by : Event → Option ℕ → Option ℕ
claimed_by (Claim node) earlier = Some node
claimed_by _ earlier = earlier

abbrev pub claimed : List Entry → ℕ → Option ℕ
claimed [] w = None
claimed (e ∷ past) w = if e.by == w then claimed_by e.event (claimed past w) else claimed past w

-- the worker holds m
pub record Holds (s : Setting) (past : List Entry) (w m : ℕ) : Type 0 where
  pub claims : claimed past w ≡ Some m
  pub leaf : is_leaf past m ≡ true
  pub live : IsLive s past m

abbrev pub is_stop : Event → Bool
is_stop Stop = true
is_stop _ = false

-- the worker has appended a Stop
abbrev pub has_stopped : List Entry → ℕ → Bool
has_stopped [] w = false
has_stopped (e ∷ past) w = ((e.by == w) && is_stop e.event) || has_stopped past w

-- how many of the first workers have appended no Stop
abbrev pub waiting : ℕ → List Entry → ℕ
waiting zero past = 0
waiting (suc w) past = waiting w past + (if has_stopped past (suc w) then 0 else 1)

-- the spare room that an event takes: the first Stop of a worker takes none
abbrev pub cost_of : List Entry → ℕ → Event → ℕ
cost_of past w ev = if is_stop ev && not (has_stopped past w) then 0 else 1

-- ---- since a clause was chosen

abbrev pub chooses_at : Event → ℕ → Bool
chooses_at (Choose node clause selected) m = node == m
chooses_at _ m = false

-- what was before the last Choose at m
abbrev pub before_choice : List Entry → ℕ → List Entry
before_choice [] m = []
before_choice (e ∷ past) m = if chooses_at e.event m then past else before_choice past m

-- the rules by which a case is closed
abbrev pub is_case_rule : Rule → Bool
is_case_rule CaseLeft = true
is_case_rule CaseRight = true
is_case_rule CaseBoth = true
is_case_rule _ = false

-- the clause that the step states, unless the step closes a case
abbrev pub inferred : Option Line → List Clause
inferred None = []
inferred (Some l) = if is_case_rule l.step.rule then [] else l.stated.clause ∷ []

-- the clause that an event publishes, unless it closes a case
abbrev pub published_by : Event → List Clause
published_by (Publish node chain put_off) = inferred (last_line chain)
published_by _ = []

-- the clauses that the worker has published since the last Choose at m, but to close cases
abbrev pub published_since : List Entry → ℕ → ℕ → List Clause
published_since [] w m = []
published_since (e ∷ past) w m =
    if chooses_at e.event m then []
    else (if e.by == w then published_by e.event else []) ++ published_since past w m
