-- A tally of the variables on two sides. A balance stands for how many more occurrences a variable has on the left than
-- on the right, above 4,294,967,296.
use Rattle.std.specs.Prelude.{◌≡◌, ℕ, ◌+◌, ◌-◌, ◌<◌, ◌≤◌, Bool, false, not, ◌&&◌, ◌||◌, ◌==◌, nat_le, if◌then◌else◌, List, length, slice_set, slice_index, sum, map}
use Rattle.std.specs.List.{flat_map}
use Rattle.spl_terms.specs.declared.term.Term.{Term}
use Rattle.spl_terms.specs.Terms.{term_symbols, term_variables}
use Rattle.spl_truth.specs.Orders.{times, contains_each}
use Rattle.kbo.specs.declared.order.Order.{Order}
use Rattle.kbo.specs.declared.order.Order.TheVariants.{Incomparable}
use Rattle.kbo.specs.declared.side.Side.{Side}
use Rattle.kbo.specs.declared.side.Side.TheVariants.{Left, Right}

-- how far a balance is above and below even
abbrev pub above : ℕ → ℕ
above b = b - 4294967296

abbrev pub below : ℕ → ℕ
below b = 4294967296 - b

abbrev pub raised : List ℕ → ℕ → List ℕ
raised bs v = slice_set bs v (slice_index bs v + 1)

abbrev pub lowered : List ℕ → ℕ → List ℕ
lowered bs v = slice_set bs v (slice_index bs v - 1)

-- the balances after one more occurrence of the variable on a side; a variable past the end has no balance
abbrev pub rebalanced : Side → List ℕ → ℕ → List ℕ
rebalanced Left = raised
rebalanced Right = lowered

-- a variable was met that has no balance
abbrev pub met_beyond : ℕ → Bool → ℕ → Bool
met_beyond n beyond v = beyond || nat_le n v

abbrev pub on_left : Side → ℕ → ℕ
on_left Left n = n
on_left Right n = 0

abbrev pub on_right : Side → ℕ → ℕ
on_right Left n = 0
on_right Right n = n

-- a variable was met that is neither counted nor looked for
abbrev pub is_blind : Bool → Bool → Bool
is_blind beyond walks = beyond && not walks

-- what a tally tells of a side: what a walk finds, where there is one to make, or that nothing is missing
abbrev pub told : Bool → Bool → ℕ → Bool → Bool
told beyond walks missing walked = if beyond && walks then walked else (missing == 0)

-- ---- two lists of terms

-- each variable occurs in the terms as often as in the others, or more often
abbrev pub contains_variables : List Term → List Term → Bool
contains_variables terms others = contains_each (flat_map term_variables terms) (flat_map term_variables others)

-- the same of one variable
abbrev pub is_as_often : List Term → List Term → ℕ → Bool
is_as_often terms others v = nat_le (times v (flat_map term_variables others)) (times v (flat_map term_variables terms))

-- the order, if the test says so
abbrev pub order_if : Bool → Order → Order
order_if passes o = if passes then o else Incomparable

-- ---- what a tally stands for

-- a tally of nothing
pub record IsEven (n : ℕ) (balances : List ℕ) (beyond : Bool) (left right : ℕ) : Type 0 where
  pub each : (v : ℕ) → v < n → slice_index balances v ≡ 4294967296
  pub known : beyond ≡ false
  pub no_left : left ≡ 0
  pub no_right : right ≡ 0

-- the tally says how two terms, or two lists, differ that have these variables and weights
pub record IsTally (n : ℕ) (balances : List ℕ) (beyond : Bool) (left right : ℕ) (vs ws : List ℕ) (a b : ℕ) : Type 0 where
  pub each : (v : ℕ) → v < n → slice_index balances v + times v ws ≡ 4294967296 + times v vs
  pub others : beyond ≡ false → (v : ℕ) → n ≤ v → times v vs ≡ times v ws
  pub weights : left + b ≡ right + a
  pub left_within : left ≤ a
  pub right_within : right ≤ b
  pub few_left : length vs ≤ a
  pub few_right : length ws ≤ b

abbrev pub TalliesTerms : ℕ → List ℕ → Bool → ℕ → ℕ → Term → Term → Type 0
TalliesTerms n balances beyond left right s t = IsTally n balances beyond left right (term_variables s) (term_variables t) (term_symbols s) (term_symbols t)

abbrev pub TalliesLists : ℕ → List ℕ → Bool → ℕ → ℕ → List Term → List Term → Type 0
TalliesLists n balances beyond left right ss ts = IsTally n balances beyond left right (flat_map term_variables ss) (flat_map term_variables ts) (sum (map term_symbols ss)) (sum (map term_symbols ts))
