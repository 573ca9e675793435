-- What contracts see of a table.
use Rattle.std.specs.Prelude.{ℕ, List}
use Rattle.case_journal.specs.declared.event.Entry.{Entry}
use Rattle.case_journal.specs.Journal.{Setting}

-- the setting, the journal as a past, and the spare room beyond one Stop of each worker that has appended none
pub record State : Type 0 where
  pub setting : Setting
  pub past : List Entry
  pub spare_events : ℕ
  pub spare_steps : ℕ
