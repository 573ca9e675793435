-- How two terms stand in the order of spl_truth, and one level of a comparison.
use Rattle.std.specs.Prelude.{ℕ, Bool, ◌&&◌, ◌==◌, nat_lt, if◌then◌else◌, List, [], ◌∷◌}
use Rattle.spl_terms.specs.declared.term.Symbol.{Symbol}
use Rattle.spl_terms.specs.declared.term.Term.{Term}
use Rattle.spl_terms.specs.Terms.{symbol_eq, term_eq}
use Rattle.spl_truth.specs.Orders.{is_greater_head, is_greater}
use Rattle.kbo.specs.declared.order.Order.{Order}
use Rattle.kbo.specs.declared.order.Order.TheVariants.{Greater, Less, Equal, Incomparable}

abbrev pub compare : Term → Term → Order
compare s t = if term_eq s t then Equal else (if is_greater s t then Greater else (if is_greater t s then Less else Incomparable))

-- ---- one level of a comparison

abbrev pub is_equal : Order → Bool
is_equal Equal = Bool.true
is_equal _ = Bool.false

-- the first, or where that is Equal the second
abbrev pub then_by : Order → Order → Order
then_by Equal o = o
then_by Greater o = Greater
then_by Less o = Less
then_by Incomparable o = Incomparable

-- two heads, each a symbol with its number of arguments
abbrev pub compare_heads : Symbol → ℕ → Symbol → ℕ → Order
compare_heads f m g n = if (m == n) && symbol_eq f g then Equal else (if is_greater_head f m g n then Greater else Less)

-- two lists side by side: how the first terms that differ stand
abbrev pub compare_lists : List Term → List Term → Order
compare_lists [] ts = Equal
compare_lists (s ∷ ss) [] = Equal
compare_lists (s ∷ ss) (t ∷ ts) = then_by (compare s t) (compare_lists ss ts)

-- two terms of the same weight, of which the one has each variable as often as the other, or the other as the one, by
-- what is left to decide
abbrev pub decided : Bool → Bool → Order → Order
decided c d Greater = if c then Greater else Incomparable
decided c d Less = if d then Less else Incomparable
decided c d Equal = Equal
decided c d Incomparable = Incomparable

-- the same of two terms of these weights
abbrev pub judged : Bool → Bool → ℕ → ℕ → Order → Order
judged c d m n lower = if nat_lt n m then (if c then Greater else Incomparable) else (if nat_lt m n then (if d then Less else Incomparable) else decided c d lower)
