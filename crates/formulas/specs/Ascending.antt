-- Numbers of bindings that lie between two numbers.
use Rattle.std.specs.Prelude.{◌≡◌, ℕ, ◌<◌, ◌≤◌, true, List}
use Rattle.formulas.specs.Bindings.{is_member, all_distinct}

-- no number stands twice in the list, and each is at least the first bound and less than the second
pub record AreWithin (from to : ℕ) (vs : List ℕ) : Type 0 where
  pub order : from ≤ to
  pub low : (v : ℕ) → is_member v vs ≡ true → from ≤ v
  pub high : (v : ℕ) → is_member v vs ≡ true → v < to
  pub different : all_distinct vs ≡ true
