-- Steps that close cases, and journals that go on by them alone (Weidenbach 2001, the section on splitting).
use Rattle.std.specs.Prelude.{◌≡◌, ◌⊎◌, ℕ, ◌+◌, ◌*◌, ◌<◌, true, false, List, [], ◌∷◌, ◌++◌, Some, None, slice_get}
use Rattle.spl_terms.specs.Clauses.{is_empty}
use Rattle.dep_sets.specs.declared.deps.Assumption.{Assumption}
use Rattle.dep_sets.specs.Assumptions.{united, without_assumption}
use Rattle.proof_steps.specs.declared.step.Rule.TheVariants.{CaseBoth}
use Rattle.proof_steps.specs.declared.step.Line.{Line}
use Rattle.proof_steps.specs.Steps.{states, side_of}
use Rattle.case_journal.specs.declared.event.Entry.{Entry}
use Rattle.case_journal.specs.declared.event.Event.{Event}
use Rattle.case_journal.specs.declared.event.Event.TheVariants.{Publish}
use Rattle.case_journal.specs.declared.event.End.TheVariants.{Proved}
use Rattle.case_journal.specs.declared.branch.Branch.{Branch}
use Rattle.case_journal.specs.Journal.{Setting, nodes}
use Rattle.case_journal.specs.Paths.{branch, owner}
use Rattle.case_journal.specs.Facts.{IsLive}
use Rattle.case_journal.specs.Ending.{first_end}
use Rattle.case_journal.specs.Legal.{case_step, HasLiveChild, IsChild, IsFirstEmpty, IsLegal}

-- what both closed sides of a split depend on, but for the split, and what the split clause depends on
abbrev pub joined_deps : ℕ → List Assumption → List Assumption → List Assumption → List Assumption
joined_deps split whole left right = united (united (without_assumption (side_of split 1) left) (without_assumption (side_of split 2) right)) whole

-- the line that closes the split of a clause by an empty clause of each side, where these depend on left and right, and the split clause on whole
abbrev pub case_line : ℕ → List Assumption → ℕ → List Assumption → ℕ → List Assumption → Line
case_line split whole left_empty left right_empty right =
    record { step = case_step split left_empty right_empty; stated = states (record { constraint = []; antecedent = []; succedent = [] }) (joined_deps split whole left right) }

-- the entry publishes a step of the worker that closes both sides of a split
pub record IsCaseEntry (by : ℕ) (e : Entry) : Type 0 where
  pub node : ℕ
  pub line : Line
  pub rule : line.step.rule ≡ CaseBoth
  pub is : e ≡ record { by = by; event = Publish node (line ∷ []) false }

-- the later journal is the earlier one with such entries of the worker, and nothing else
pub record OnlyCloses (by : ℕ) (earlier later : List Entry) : Type 0 where
  pub added : List Entry
  pub each : (k : ℕ) (e : Entry) → slice_get added k ≡ Some e → IsCaseEntry by e
  pub is : later ≡ added ++ earlier

-- nothing has ended the journal, or first a contradiction has
abbrev pub IsOpenOrProved : List Entry → Type 0
IsOpenOrProved past = (first_end past ≡ None) ⊎ (first_end past ≡ Some Proved)

-- where the node is live, it has a live child
abbrev pub IsSettledAt : Setting → List Entry → ℕ → Type 0
IsSettledAt s past m = IsLive s past m → HasLiveChild s past m

-- where the node above the child is live, it has a live child
abbrev pub IsSettledAbove : Setting → List Entry → ℕ → Type 0
IsSettledAbove s past child = (b : Branch) → branch past child ≡ Some b → IsSettledAt s past b.parent

-- both children of a live node are dead, by these first empty clauses
pub record CanClose (s : Setting) (past : List Entry) (inner clause left right left_empty right_empty : ℕ) : Type 0 where
  pub there : inner < nodes past
  pub live : IsLive s past inner
  pub left_child : IsChild past inner clause 1 left
  pub right_child : IsChild past inner clause 2 right
  pub first_left : IsFirstEmpty s past left left_empty
  pub first_right : IsFirstEmpty s past right right_empty

-- what is kept where the node above the pair of children with this place is closed, if it has to be
pub record IsPairStep (s : Setting) (by place : ℕ) (earlier later : List Entry) : Type 0 where
  pub closes : OnlyCloses by earlier later
  pub count : nodes later ≡ nodes earlier
  pub goes_on : (IsLive s earlier 0 → first_end earlier ≡ None) → IsLive s later 0 → first_end later ≡ None
  pub ended : IsOpenOrProved earlier → IsOpenOrProved later
  pub kept : (j : ℕ) → place < j → 2 * j + 1 < nodes earlier → IsSettledAbove s earlier (2 * j + 1) → IsSettledAbove s later (2 * j + 1)

-- the worker may publish the event, which closes the node by a step
pub record IsClosingEvent (s : Setting) (past : List Entry) (by inner : ℕ) (ev : Event) : Type 0 where
  pub legal : IsLegal s past by ev
  pub node : ℕ
  pub line : Line
  pub is : ev ≡ Publish node (line ∷ []) false
  pub rule : line.step.rule ≡ CaseBoth
  pub empty : is_empty line.stated.clause ≡ true
  pub belongs : node ≡ owner past line.stated.deps inner
