-- Lists that are lent to be changed in place, and elements by their numbers.
use Rattle.std.specs.Prelude.{ℕ, zero, suc, List, ◌++◌, length, take, drop, Option, None, slice_get}

-- the list with other items written over its first ones; it keeps its length
abbrev pub refilled : {X : Type 0} → List X → List X → List X
refilled old written = take (length old) (written ++ drop (length written) old)

-- the element with this number, from 1
abbrev pub numbered : {A : Type 0} → List A → ℕ → Option A
numbered xs zero = None
numbered xs (suc k) = slice_get xs k
