-- What becomes of a batch that is appended in a turn.
use Rattle.std.specs.Prelude.{◌≡◌, ◌⊎◌, ℕ, ◌+◌, ◌<◌, ◌≤◌, false, Bool, List, [], ◌∷◌, ◌++◌, Some, None, IsSome}
use Rattle.spl_terms.specs.Clauses.{is_empty}
use Rattle.proof_steps.specs.declared.step.Line.{Line}
use Rattle.case_journal.specs.declared.event.Entry.{Entry}
use Rattle.case_journal.specs.declared.event.Event.{Event}
use Rattle.case_journal.specs.declared.event.Event.TheVariants.{Split, Activate, Big}
use Rattle.case_journal.specs.Journal.{Setting, nodes, splits}
use Rattle.case_journal.specs.Paths.{owner}
use Rattle.case_journal.specs.Facts.{chosen, Holds, IsDead}
use Rattle.case_journal.specs.Ending.{first_end, reason}
use Rattle.case_journal.specs.Legal.{IsLegal, IsSettled}
use Rattle.case_journal.specs.declared.event.End.TheVariants as ends
use Rattle.split_tree.specs.State.{State}
use Rattle.backjump.specs.Cases.{IsOpenOrProved}
use Rattle.clause_splitting.specs.Splitting.{IsSplitAt}
use Rattle.journal_laws.specs.Frame.{NoneBy}
use Rattle.journal_laws.specs.Batches.{CanGoOn, publication}
use Rattle.case_view.specs.Views.{IsIn}
use Rattle.case_rounds.specs.declared.round.Batch.{Batch}
use Rattle.case_rounds.specs.Appending.{IsBatchReady}
use Rattle.case_turns.specs.declared.appending.Gone.{Gone}
use Rattle.case_turns.specs.declared.appending.Gone.TheVariants as gones
use Rattle.case_turns.specs.declared.appending.Appended.{Appended}
use Rattle.case_turns.specs.declared.appending.Appended.TheVariants as outcomes

-- ---- what is asked

-- the batch was made over an earlier journal, since which the worker has appended nothing
pub record IsWaiting (s : Setting) (past : List Entry) (w m : ℕ) (b : Batch) : Type 0 where
  pub start : List Entry
  pub later : List Entry
  pub more : past ≡ later ++ start
  pub none : NoneBy w later
  pub there : m < nodes past
  pub ready : IsBatchReady s start w m b

-- these are the events of a batch that can be appended
pub record AreReady (s : Setting) (past : List Entry) (w m : ℕ) (events : List Event) : Type 0 where
  pub batch : Batch
  pub ready : IsBatchReady s past w m batch
  pub are : events ≡ batch.events

-- the chain is one line, which belongs at the node `at` and may be published next
pub record IsNextLine (s : Setting) (past : List Entry) (w m at : ℕ) (chain : List Line) : Type 0 where
  pub line : Line
  pub is : chain ≡ line ∷ []
  pub owns : at ≡ owner past line.stated.deps m
  pub go : CanGoOn s past w m line

-- the event finishes the round of the clause that is chosen at m, and may be appended now, but for a Split's limits
abbrev pub IsLastNow : Setting → List Entry → ℕ → ℕ → Event → Type 0
IsLastNow s past w m (Split node lines put_off) = IsSplitAt s past m lines put_off
IsLastNow s past w m (Activate node) = IsLegal s past w (Activate m)
IsLastNow s past w m (Big node partner symbols) = IsLegal s past w (Big m partner symbols)
IsLastNow s past w m _ = ⊥

-- ---- what became of it

-- each entry is by the worker
abbrev pub AreBy : ℕ → List Entry → Type 0
AreBy w [] = Unit {0}
AreBy w (e ∷ es) = (e.by ≡ w) × AreBy w es

-- the later journal is the earlier one with more events, all of the worker
pub record Continues (by : ℕ) (earlier later : List Entry) : Type 0 where
  pub added : List Entry
  pub each : AreBy by added
  pub is : later ≡ added ++ earlier

-- the worker holds no node, the tree is settled, and nothing has ended the journal, or a contradiction has
pub record IsLeft (t : State) (w : ℕ) : Type 0 where
  pub idle : (n : ℕ) → ¬ Holds t.setting t.past w n
  pub settled : IsSettled t.setting t.past
  pub ended : IsOpenOrProved t.past

-- the line was published
pub record HasPublished (old new : State) (w m : ℕ) (l : Line) : Type 0 where
  pub past : new.past ≡ publication w (owner old.past l.stated.deps m) l ∷ old.past
  pub full : is_empty l.stated.clause ≡ false
  pub events : old.spare_events ≤ new.spare_events + 1
  pub steps : old.spare_steps ≤ new.spare_steps + 1

abbrev pub IsGone : State → State → ℕ → ℕ → List Line → Gone → Type 0
IsGone old new w m chain gones.Published = (l : Line) → chain ≡ l ∷ [] → HasPublished old new w m l
IsGone old new w m chain gones.Closed = IsLeft new w
IsGone old new w m chain gones.Full = first_end new.past ≡ Some ends.Steps

-- the worker holds m, where nothing is chosen
pub record HoldsUnchosen (t : State) (w m : ℕ) : Type 0 where
  pub holds : Holds t.setting t.past w m
  pub free : chosen t.past m ≡ None
  pub settled : IsSettled t.setting t.past
  pub unended : first_end t.past ≡ None

-- as many clauses were split as may be, so the clause that is chosen at m has to be worked off
pub record IsAgain (t : State) (w m : ℕ) : Type 0 where
  pub holds : Holds t.setting t.past w m
  pub spent : t.setting.limits.splits ≤ splits t.past
  pub settled : IsSettled t.setting t.past
  pub unended : first_end t.past ≡ None

-- the event would split, and as many clauses had been split as may be
pub record HasNoSplitLeft (t : State) (ev : Event) : Type 0 where
  pub node : ℕ
  pub lines : List Line
  pub put_off : List Bool
  pub is : ev ≡ Split node lines put_off
  pub spent : t.setting.limits.splits ≤ splits t.past

-- one of the events would
abbrev pub CanNotSplit : State → List Event → Type 0
CanNotSplit t events = (ev : Event) × IsIn events ev × HasNoSplitLeft t ev

-- the steps are spent, or an inference was too large
pub record IsEndedBy (t : State) : Type 0 where
  pub is : (first_end t.past ≡ Some ends.Steps) ⊎ ((symbols : ℕ) × (first_end t.past ≡ Some (ends.Size symbols)))

abbrev pub IsAppended : State → ℕ → ℕ → Appended → Type 0
IsAppended t w m outcomes.Activated = HoldsUnchosen t w m
IsAppended t w m outcomes.Left = IsLeft t w
IsAppended t w m outcomes.Ended = IsEndedBy t
IsAppended t w m outcomes.Again = IsAgain t w m
IsAppended t w m outcomes.Dropped = IsSome (reason t.setting t.past) ⊎ IsDead t.setting t.past m
