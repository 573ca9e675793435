-- What the search for a part among several asks for.
use Rattle.std.specs.Prelude.{◌≡◌, ℕ, ◌+◌, ◌<◌, ◌≤◌, List}
use Rattle.formulas.specs.Negations.{Form}
use Rattle.normal_form.specs.Choices.{product_count}
use Rattle.normal_form.specs.Walking.{sum_count, skolem_count}

-- the place is within the lists of the parts that are left, and their counts are exact
pub record CanFind (fs : List Form) (next place : ℕ) : Type 0 where
  pub within : place < sum_count fs
  pub few : sum_count fs ≤ 65536
  pub room : next + skolem_count fs ≤ 65536

-- the place is within the products of the parts that are left, and rest is how many these are
pub record CanTake (fs : List Form) (next place rest : ℕ) : Type 0 where
  pub exact : rest ≡ product_count fs
  pub within : place < product_count fs
  pub few : product_count fs ≤ 65536
  pub room : next + skolem_count fs ≤ 65536
