-- Which names are bound, and to which numbers.
use Rattle.std.specs.Prelude.{ℕ, if◌then◌else◌, List, [], ◌∷◌, Option, Some, None}
use Rattle.std.specs.Str.{bytes_eq}

-- a name that is bound, with the number of the variable for which it stands
pub record Binding : Type 0 where
  pub name : List ℕ
  pub number : ℕ

-- what the last binding of the name says, and before the first one what was known
abbrev pub bound_from : Option ℕ → List ℕ → List Binding → Option ℕ
bound_from known name [] = known
bound_from known name (b ∷ bs) = bound_from (if bytes_eq name b.name then Some b.number else known) name bs

-- the number of the innermost binding of the name; the innermost binding is the last one
unfoldable pub bound : List ℕ → List Binding → Option ℕ
bound = bound_from None
