-- Finite multisets of terms, as lists, and the extension of an order to them (Dershowitz and Manna 1979).
use Rattle.std.specs.Prelude.{ℕ, Bool, not, ◌&&◌, ◌==◌, nat_lt, List, ◌++◌, count_by, filter}
use Rattle.std.specs.List.{list_all, list_any}
use Rattle.spl_terms.specs.declared.term.Term.{Term}
use Rattle.spl_terms.specs.Terms.{term_eq}
use Rattle.spl_truth.specs.Orders.{is_greater}

-- how often a term stands in the multiset
abbrev pub multiplicity : Term → List Term → ℕ
multiplicity t ms = count_by (term_eq t) ms

-- the members of the first without the second: those that stand more often in the first
abbrev pub minus : List Term → List Term → List Term
minus ms ns = filter (λ t. nat_lt (multiplicity t ns) (multiplicity t ms)) ms

-- some term doesn't stand equally often in both
abbrev pub differ : List Term → List Term → Bool
differ ms ns = list_any (λ t. not (multiplicity t ms == multiplicity t ns)) (ms ++ ns)

-- they differ, and each member of the second without the first has a greater member of the first without the second
abbrev pub is_greater_multiset : List Term → List Term → Bool
is_greater_multiset ms ns = differ ms ns && list_all (λ n. list_any (λ m. is_greater m n) (minus ms ns)) (minus ns ms)
