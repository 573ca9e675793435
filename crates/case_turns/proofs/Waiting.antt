-- A batch that waits, and what it becomes.
use Rattle.std.proofs.Common.{◌≡◌, ℕ, ◌++◌, List, sym, ap, subst, arith}
use Rattle.case_journal.specs.declared.event.Entry.{Entry}
use Rattle.case_journal.specs.declared.event.Event.{Event}
use Rattle.case_journal.specs.Journal.{Setting, splits}
use Rattle.case_journal.specs.Facts.{IsLive}
use Rattle.case_journal.specs.Legal.{IsLegalJournal}
use Rattle.split_tree.specs.State.{State}
use Rattle.journal_laws.specs.Frame.{NoneBy}
use Rattle.case_view.specs.Views.{IsIn}
use Rattle.case_rounds.specs.declared.round.Batch.{Batch}
use Rattle.case_rounds.specs.Events.{AreAllOver, AreAllMovable}
use Rattle.case_rounds.specs.Appending.{IsBatchReady}
use Rattle.case_turns.specs.Turns.{AreReady, CanNotSplit, IsWaiting}

abbrev WaitLaw : Type 0
WaitLaw = (s : Setting) (past later : List Entry) (w m : ℕ) (b : Batch) → IsLegalJournal s (later ++ past) → NoneBy w later → IsLive s (later ++ past) m → IsBatchReady s past w m b → IsBatchReady s (later ++ past) w m b

pub ready_now : WaitLaw → (s : Setting) (past : List Entry) (w m : ℕ) (b : Batch) → IsLegalJournal s past → IsLive s past m → IsWaiting s past w m b → IsBatchReady s past w m b
ready_now law s past w m b legal live h =
    subst (λ p. IsBatchReady s p w m b) (sym h.more) (law s h.start h.later w m b (subst (IsLegalJournal s) h.more legal) h.none (subst (λ p. IsLive s p m) h.more live) h.ready)

pub movable : (base by : ℕ) (events : List Event) → AreAllOver base events → AreAllMovable base by events
movable base by events h k ev at j l found i n here above = absurd (omega (arith, above, h k ev at j l found i n here))

-- moved, and once room was taken, the events are the same ones
pub ready_moved : (old new : State) (w m : ℕ) (b : Batch) (events : List Event) → IsBatchReady old.setting old.past w m b → new.setting ≡ old.setting → new.past ≡ old.past → events ≡ b.events → AreReady new.setting new.past w m events
ready_moved old new w m b events r e f is = subst (λ s. AreReady s new.past w m events) (sym e) (subst (λ p. AreReady old.setting p w m events) (sym f) (record { batch = b; ready = r; are = is }))

pub can_not_split : (old new : State) (events same : List Event) → new.setting ≡ old.setting → new.past ≡ old.past → same ≡ events → CanNotSplit new same → CanNotSplit old events
can_not_split old new events same e f is h = (
  h.0,
  subst (λ xs. IsIn xs h.0) is h.1,
  record { node = h.2.node; lines = h.2.lines; put_off = h.2.put_off; is = h.2.is; spent = omega (arith, h.2.spent, ap (λ s. s.limits.splits) e, ap splits f) },
)
