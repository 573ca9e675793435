-- Bytes that come from outside and go there, and how faults are counted.
-- Bytes are told as `Some` list of their values; `None` stands for an end of which nothing is told.
use Rattle.std.specs.Prelude.{◌≡◌, ℕ, ◌+◌, ◌-◌, ◌^◌, ◌≤◌, min, Bool, true, false, if◌then◌else◌, List, length, take, Option, Ok, Err}
use Rattle.std.specs.declared.result.Result.{Result}
use Rattle.std.specs.Io.KnownBytes.{Consumes, Appends, IsAtEnd}
use Rattle.outside_io.specs.declared.errors.ReadError.{ReadError}
use Rattle.outside_io.specs.declared.errors.ReadError.TheVariants as read
use Rattle.outside_io.specs.declared.errors.WriteError.{WriteError}
use Rattle.outside_io.specs.declared.errors.WriteError.TheVariants as write

-- the next value of a count that stays at the last value of `u64` once it is there
abbrev pub next_count : ℕ → ℕ
next_count n = min (n + 1) (2 ^ 64 - 1)

-- a count of faults rose by one; one that stands at the last value of `u64` counts as one that rose
abbrev pub Rose : ℕ → ℕ → Type 0
Rose before now = now ≡ next_count before

-- a count of faults after a call: one more where the call answered a fault, else as it was
abbrev pub count_after : Bool → ℕ → ℕ
count_after fault before = if fault then next_count before else before

-- whether what was read is a fault
abbrev pub is_read_fault : {A : Type 0} → Result A ReadError → Bool
is_read_fault (Ok a) = false
is_read_fault (Err read.Fault) = true
is_read_fault (Err (read.TooLong limit)) = false
is_read_fault (Err read.Memory) = false

-- whether what a write answered is a fault
abbrev pub is_write_fault : {A : Type 0} → Result A WriteError → Bool
is_write_fault (Ok a) = false
is_write_fault (Err write.Fault) = true
is_write_fault (Err write.Memory) = false

-- at most so many bytes came
abbrev pub CameWithin : Option (List ℕ) → Option (List ℕ) → ℕ → Type 0
CameWithin old new most = (bytes : List ℕ) × Consumes old new bytes × (length bytes ≤ most)

-- one byte more than the limit came
abbrev pub CamePast : Option (List ℕ) → Option (List ℕ) → ℕ → Type 0
CamePast old new limit = (bytes : List ℕ) × Consumes old new bytes × (length bytes ≡ limit + 1)

-- these bytes came, they are all to the end, and no more than the limit
abbrev pub CameWhole : Option (List ℕ) → Option (List ℕ) → ℕ → List ℕ → Type 0
CameWhole old new limit bytes = Consumes old new bytes × IsAtEnd new × (length bytes ≤ limit)

-- the first bytes of these were written, maybe none of them
abbrev pub WrotePrefix : Option (List ℕ) → Option (List ℕ) → List ℕ → Type 0
WrotePrefix old new bytes = (n : ℕ) × (n ≤ length bytes) × Appends old new (take n bytes)
