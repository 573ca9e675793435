-- The order on terms of Knuth and Bendix (1970), with weight 1 for each symbol and each variable (Weidenbach 2001, the
-- section on orderings). The precedence is this project's own.
use Rattle.std.specs.Prelude.{ℕ, Bool, false, not, ◌&&◌, ◌||◌, ◌==◌, nat_lt, nat_le, if◌then◌else◌, List, [], ◌∷◌, length, map, count_by}
use Rattle.std.specs.List.{list_all}
use Rattle.spl_terms.specs.declared.term.Kind.{Kind}
use Rattle.spl_terms.specs.declared.term.Kind.TheVariants.{Function, Predicate, Sort}
use Rattle.spl_terms.specs.declared.term.Symbol.{Symbol}
use Rattle.spl_terms.specs.declared.term.Term.{Term, App, Term-F, out-Term, para-Term}
use Rattle.spl_terms.specs.declared.term.Term.TheOpen as layer
use Rattle.spl_terms.specs.Terms.{term_symbols, term_variables, term_eq, symbol_eq, replace}
use Rattle.spl_truth.specs.Truth.{entry}

-- ---- the precedence

-- functions come first, then predicates, then sorts
abbrev pub kind_rank : Kind → ℕ
kind_rank Function = 0
kind_rank Predicate = 1
kind_rank Sort = 2

-- the greater number, or the same and the later kind
abbrev pub is_greater_symbol : Symbol → Symbol → Bool
is_greater_symbol f g = nat_lt g.number f.number || ((f.number == g.number) && nat_lt (kind_rank g.kind) (kind_rank f.kind))

-- f with m arguments is above g with n: more arguments, or as many and the greater symbol
abbrev pub is_greater_head : Symbol → ℕ → Symbol → ℕ → Bool
is_greater_head f m g n = nat_lt n m || ((m == n) && is_greater_symbol f g)

-- ---- the variable condition

-- how often a number stands in a list
abbrev pub times : ℕ → List ℕ → ℕ
times v vs = count_by (λ w. v == w) vs

-- no number stands more often in the second list than in the first
abbrev pub contains_each : List ℕ → List ℕ → Bool
contains_each vs ws = list_all (λ v. nat_le (times v ws) (times v vs)) ws

-- no variable occurs more often in t than in s
abbrev pub meets_variable_condition : Term → Term → Bool
meets_variable_condition s t = contains_each (term_variables s) (term_variables t)

-- ---- the order

-- of two lists side by side: at the first place where the terms differ, the test that comes with the one passes at the
-- other
abbrev pub first_differing : List (Term × (Term → Bool)) → List Term → Bool
first_differing [] ts = false
first_differing (p ∷ ps) [] = false
first_differing (p ∷ ps) (t ∷ ts) = if term_eq p.0 t then first_differing ps ts else p.1 t

-- an application of f, whose arguments come with their tests, against a term of the same weight: the greater head, or
-- the same head and the greater one of the first arguments that differ
abbrev pub is_greater_at : Symbol → List (Term × (Term → Bool)) → Term-F Term → Bool
is_greater_at f ps (layer.Var w) = false
is_greater_at f ps (layer.App g ts) = is_greater_head f (length ps) g (length ts) || (((length ps == length ts) && symbol_eq f g) && first_differing ps ts)

-- the variable condition, and the greater weight or the same weight and what else decides
abbrev pub by_weight : Term → Term → Bool → Bool
by_weight s t otherwise = meets_variable_condition s t && (nat_lt (term_symbols t) (term_symbols s) || ((term_symbols s == term_symbols t) && otherwise))

-- a variable is greater than nothing; each argument of an application comes with its own test
abbrev pub greater_step : Term-F (Term × (Term → Bool)) → Term → Bool
greater_step (layer.Var v) t = false
greater_step (layer.App f ps) t = by_weight (App f (map (λ p. p.0) ps)) t (is_greater_at f ps (out-Term t))

-- whether s is greater than t: no variable occurs more often in t, and s weighs more; or they weigh the same and the
-- head of s is greater; or the heads are the same too and the first argument of s that differs is greater
abbrev pub is_greater : Term → Term → Bool
is_greater = para-Term (Term → Bool) greater_step

-- ---- below

-- less, or the same term
abbrev pub is_below : Term → Term → Bool
is_below l r = is_greater r l || term_eq l r

-- the first isn't below the second once the variables have their entries: it is greater, or the two can't be compared
abbrev pub is_not_below : List Term → Term → Term → Bool
is_not_below u l r = not (is_below (replace (entry u) l) (replace (entry u) r))
