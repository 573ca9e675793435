-- What contracts see of a source and of a sink in memory.
use Rattle.std.specs.Prelude.{ℕ, Bool, List, ◌==◌}
use Rattle.std.specs.List.{list_any}
use Rattle.outside_io.specs.Outside.{next_count, count_after}

-- the numbers of the calls that fail, from 1; how many calls were made; and how many of them failed
pub record Calls : Type 0 where
  pub failing : List ℕ
  pub made : ℕ
  pub faults : ℕ

-- whether the next call is one that fails
abbrev pub next_fails : Calls → Bool
next_fails c = list_any (λ n. n == next_count c.made) c.failing

-- the calls with one more
abbrev pub one_more_call : Calls → Calls
one_more_call c = record { failing = c.failing; made = next_count c.made; faults = count_after (next_fails c) c.faults }

-- the bytes to come, and how many a call gives at most
pub record Rest : Type 0 where
  pub rest : List ℕ
  pub piece : ℕ

-- the bytes to come, how many a call gives at most, and the calls
pub record Giving : Type 0 where
  pub rest : List ℕ
  pub piece : ℕ
  pub calls : Calls

-- the bytes taken so far, how many a call takes at most, and the calls
pub record Taking : Type 0 where
  pub taken : List ℕ
  pub piece : ℕ
  pub calls : Calls
