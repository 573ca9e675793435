-- Numbers that are marked: each is its own value in a map.
use Rattle.std.specs.Prelude.{◌≡◌, ℕ, Bool, ◌||◌, nat_eq, List, Some, is_some}
use Rattle.std.specs.HashMap.{get}
use Rattle.spl_terms.specs.Hashes.{Places}
use Rattle.formulas.specs.Bindings.{is_member}

abbrev pub is_marked : Places → ℕ → Bool
is_marked marks u = is_some (get nat_eq marks u)

abbrev pub HasOwnNumbers : Places → Type 0
HasOwnNumbers marks = (u v : ℕ) → get nat_eq marks u ≡ Some v → v ≡ u

-- just the numbers of the list are marked
pub record AreMarked (marks : Places) (vs : List ℕ) : Type 0 where
  pub members : (u : ℕ) → is_marked marks u ≡ is_member u vs
  pub own : HasOwnNumbers marks

-- those of the list are marked too
pub record MarksMore (old new : Places) (vs : List ℕ) : Type 0 where
  pub members : (u : ℕ) → is_marked new u ≡ (is_marked old u || is_member u vs)
  pub own : HasOwnNumbers old → HasOwnNumbers new
