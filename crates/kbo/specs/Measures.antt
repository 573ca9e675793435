-- Measures, as the code counts their members.
use Rattle.std.specs.Prelude.{ℕ, Bool, true, false, not, ◌||◌, ◌==◌, nat_lt, List}
use Rattle.std.specs.List.{list_any}
use Rattle.spl_terms.specs.declared.term.Term.{Term}
use Rattle.spl_terms.specs.declared.clause.Part.{Part}
use Rattle.spl_terms.specs.declared.clause.Part.TheVariants.{Constraint, Antecedent, Succedent}
use Rattle.kbo.specs.declared.order.Order.{Order}
use Rattle.kbo.specs.declared.order.Order.TheVariants.{Greater, Less, Equal, Incomparable}
use Rattle.kbo.specs.declared.measuring.Occurrence.{Occurrence}
use Rattle.spl_truth.specs.Orders.{is_greater}
use Rattle.spl_truth.specs.Multisets.{multiplicity, minus}
use Rattle.spl_truth.specs.Places.{measure}

-- how often a member stands in the measure of an occurrence
abbrev pub copies : Part → ℕ
copies Constraint = 2
copies Antecedent = 2
copies Succedent = 1

-- the term stands more often in the first multiset than in the second
abbrev pub exceeds : List Term → List Term → Term → Bool
exceeds ms ns t = nat_lt (multiplicity t ns) (multiplicity t ms)

-- of copies of one member each: the members' order, or the same member and more copies
abbrev pub prevails : Order → Bool → Bool
prevails Greater more = true
prevails Less more = false
prevails Equal more = more
prevails Incomparable more = false

-- ---- two measures, member by member

-- the measure of an occurrence
abbrev pub measure_of : Occurrence → List Term
measure_of o = measure o.part o.atom.now

-- a member of the first multiset without the second is greater than the term
abbrev pub has_greater : List Term → List Term → Term → Bool
has_greater ms ns t = list_any (λ m. is_greater m t) (minus ms ns)

-- if the term stands more often in the second multiset, a member of the first without the second is greater
abbrev pub is_settled : List Term → List Term → Term → Bool
is_settled ms ns t = not (exceeds ns ms t) || has_greater ms ns t

-- the term doesn't stand equally often in both multisets
abbrev pub tells_apart : List Term → List Term → Term → Bool
tells_apart ms ns t = not (multiplicity t ms == multiplicity t ns)
