-- What holds while the one worker of a table works.
use Rattle.std.specs.Prelude.{◌≡◌, ℕ, Bool, true, false, None, IsSome}
use Rattle.split_tree.specs.State.{State}
use Rattle.case_journal.specs.Facts.{chosen, Holds}
use Rattle.case_journal.specs.Ending.{first_end}
use Rattle.case_journal.specs.Legal.{IsSettled}
use Rattle.case_turns.specs.declared.desk.Desk.{Desk}
use Rattle.case_turns.specs.Turns.{HoldsUnchosen}
use Rattle.case_turns.specs.Desks.{IsDesk}

-- unless an event has ended the journal, the worker holds no node, and the tree is settled
pub record IsBetween (t : State) (w : ℕ) : Type 0 where
  pub idle : first_end t.past ≡ None → (n : ℕ) → ¬ Holds t.setting t.past w n
  pub settled : first_end t.past ≡ None → IsSettled t.setting t.past

-- the worker holds m, where a clause is chosen
pub record IsBusy (t : State) (w m : ℕ) : Type 0 where
  pub holds : Holds t.setting t.past w m
  pub busy : IsSome (chosen t.past m)
  pub settled : IsSettled t.setting t.past
  pub unended : first_end t.past ≡ None

-- the worker holds m still, and its desk is that of m; or it has left it, or an event has ended the journal
abbrev pub GoesOnAt : State → ℕ → ℕ → Desk → Bool → Type 0
GoesOnAt t w m desk true = HoldsUnchosen t w m × IsDesk t.setting t.past w m desk
GoesOnAt t w m desk false = IsBetween t w
