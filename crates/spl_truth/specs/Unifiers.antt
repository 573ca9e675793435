-- The most general unifier, by a list of equations: the rules of Martelli and Montanari 1982, taken in a fixed order from
-- the first equation on, so that the outcome is one substitution (Robinson 1965).
use Rattle.std.specs.Prelude.{◌≡◌, ◌↔◌, MatchOption, ℕ, zero, suc, ◌<◌, Bool, false, ◌&&◌, ◌==◌, if◌then◌else◌, List, [], ◌∷◌, ◌++◌, length, sum_by, All, Option, Some, None, option_map}
use Rattle.std.specs.List.{list_any, zip, flat_map}
use Rattle.spl_terms.specs.declared.term.Term.{Term, Var, Term-F, out-Term}
use Rattle.spl_terms.specs.declared.term.Term.TheOpen as layer
use Rattle.spl_truth.specs.Truth.{entry}
use Rattle.spl_terms.specs.Terms.{symbol_eq, term_eq, term_symbols, term_variables, replace}

-- ---- variables and bindings

abbrev pub occurs : ℕ → Term → Bool
occurs v t = list_any (λ w. v == w) (term_variables t)

abbrev pub HasVariablesBelow : ℕ → Term → Type 0
HasVariablesBelow vars t = All (λ v. v < vars) (term_variables t)

abbrev pub HaveVariablesBelow : ℕ → List Term → Type 0
HaveVariablesBelow vars ts = All (λ v. v < vars) (flat_map term_variables ts)

-- t for the variable v, and for each other variable itself
abbrev pub single : ℕ → Term → ℕ → Term
single v t w = if v == w then t else Var w

-- the bindings with t for v applied to each of them; an unbound variable is bound to itself
abbrev pub bind : ℕ → Term → (ℕ → Term) → ℕ → Term
bind v t s w = replace (single v t) (s w)

-- ---- unifiers

-- g makes the two terms one
abbrev pub IsUnifier : (ℕ → Term) → Term → Term → Type 0
IsUnifier g a b = replace g a ≡ replace g b

abbrev pub HasNoUnifier : Term → Term → Type 0
HasNoUnifier a b = (g : ℕ → Term) → IsUnifier g a b → ⊥

-- bindings that are applied to each other
abbrev pub IsIdempotent : (ℕ → Term) → Type 0
IsIdempotent s = (v : ℕ) → replace s (s v) ≡ s v

-- u is a unifier of a and b, each unifier is an instance of it, and it leaves all other variables as they are
pub record IsMostGeneral (a b : Term) (u : ℕ → Term) : Type 0 where
  pub unifies : IsUnifier u a b
  pub general : (g : ℕ → Term) → IsUnifier g a b → (t : Term) → replace g (replace u t) ≡ replace g t
  pub idempotent : IsIdempotent u
  pub others : (v : ℕ) → occurs v a ≡ false → occurs v b ≡ false → u v ≡ Var v

-- ---- one equation, with the bindings applied

-- equal sides ask for nothing; a variable is bound; the arguments make new equations; or there is no unifier
pub data Action : Type 0 where
  trivial : Action
  eliminate : ℕ → Term → Action
  decompose : List (Term × Term) → Action
  clash : Action

-- the variable is bound unless it occurs in the term
abbrev pub action_of_variable : ℕ → Term → Action
action_of_variable v t = if occurs v t then clash else eliminate v t

-- for sides that differ: the left one is a variable, or the right one is, or both are applications
abbrev pub action_apart : Term → Term → Term-F Term → Term-F Term → Action
action_apart a b (layer.Var v) y = action_of_variable v b
action_apart a b (layer.App f ss) (layer.Var w) = action_of_variable w a
action_apart a b (layer.App f ss) (layer.App g ts) = if symbol_eq f g && (length ss == length ts) then decompose (zip ss ts) else clash

abbrev pub action : Term → Term → Action
action a b = if term_eq a b then trivial else action_apart a b (out-Term a) (out-Term b)

-- ---- the list of equations, step by step

-- from the bindings s, the equations lead to the bindings of the answer, or to none
pub data Leads : (ℕ → Term) → List (Term × Term) → Option (ℕ → Term) → Type 0 where
  ends : (s : ℕ → Term) → Leads s [] (Some s)
  skips : (s : ℕ → Term) (e : Term × Term) (es : List (Term × Term)) (r : Option (ℕ → Term)) → action (replace s e.0) (replace s e.1) ≡ trivial → Leads s es r → Leads s (e ∷ es) r
  binds : (s : ℕ → Term) (e : Term × Term) (es : List (Term × Term)) (r : Option (ℕ → Term)) (v : ℕ) (t : Term) → action (replace s e.0) (replace s e.1) ≡ eliminate v t → Leads (bind v t s) es r → Leads s (e ∷ es) r
  splits : (s : ℕ → Term) (e : Term × Term) (es : List (Term × Term)) (r : Option (ℕ → Term)) (more : List (Term × Term)) → action (replace s e.0) (replace s e.1) ≡ decompose more → Leads s (more ++ es) r → Leads s (e ∷ es) r
  fails : (s : ℕ → Term) (e : Term × Term) (es : List (Term × Term)) → action (replace s e.0) (replace s e.1) ≡ clash → Leads s (e ∷ es) None

-- ---- the same, computed: up to the next variable that is bound

pub data Found : Type 0 where
  solved : Found
  bound : ℕ → Term → List (Term × Term) → Found
  unsolvable : Found

abbrev pub go_on : (List (Term × Term) → Found) → List (Term × Term) → Action → Found
go_on rest es trivial = rest es
go_on rest es (eliminate v t) = bound v t es
go_on rest es (decompose more) = rest (more ++ es)
go_on rest es clash = unsolvable

-- the first equation with the bindings applied, and so on, for at most k equations
abbrev pub next_elimination : ℕ → (ℕ → Term) → List (Term × Term) → Found
next_elimination zero s [] = solved
next_elimination zero s (e ∷ es) = unsolvable
next_elimination (suc k) s [] = solved
next_elimination (suc k) s (e ∷ es) = go_on (next_elimination k s) es (action (replace s e.0) (replace s e.1))

-- the symbols of the left sides with the bindings applied; each step that binds nothing leaves fewer
abbrev pub left_symbols : (ℕ → Term) → List (Term × Term) → ℕ
left_symbols s es = sum_by (λ e. term_symbols (replace s e.0)) es

abbrev pub first_elimination : (ℕ → Term) → List (Term × Term) → Found
first_elimination s es = next_elimination (left_symbols s es) s es

-- ---- the whole

abbrev pub bind_next : ((ℕ → Term) → List (Term × Term) → Option (ℕ → Term)) → (ℕ → Term) → Found → Option (ℕ → Term)
bind_next rest s solved = Some s
bind_next rest s (bound v t es) = rest (bind v t s) es
bind_next rest s unsolvable = None

-- the bindings that solve the equations, where at most n more variables can be bound
abbrev pub solution : ℕ → (ℕ → Term) → List (Term × Term) → Option (ℕ → Term)
solution zero s es = bind_next (λ s' es'. None) s (first_elimination s es)
solution (suc n) s es = bind_next (solution n) s (first_elimination s es)

-- what the first n variables are bound to
abbrev pub entries_below : ℕ → (ℕ → Term) → List Term
entries_below zero s = []
entries_below (suc n) s = entries_below n s ++ s n ∷ []

-- U: the unifier of a and b, whose variables are below vars, as their entries
abbrev pub unifier : ℕ → Term → Term → Option (List Term)
unifier vars a b = option_map (entries_below vars) (solution vars Var ((a, b) ∷ []))

-- ---- laws

-- for all terms with variables below a number
abbrev pub ForTermsBelow : (ℕ → Term → Term → Type 0) → Type 0
ForTermsBelow P = (vars : ℕ) (a b : Term) → HasVariablesBelow vars a → HasVariablesBelow vars b → P vars a b

-- from the one equation the rules lead to what is computed, and nowhere else
abbrev pub LeadsToSolution : ℕ → Term → Term → Type 0
LeadsToSolution vars a b = (r : Option (ℕ → Term)) → Leads Var ((a, b) ∷ []) r ↔ (solution vars Var ((a, b) ∷ []) ≡ r)

-- what is computed is a most general unifier, or there is none
abbrev pub IsUnifierOrNone : ℕ → Term → Term → Type 0
IsUnifierOrNone vars a b = MatchOption (unifier vars a b) (HasNoUnifier a b) (λ entries. IsMostGeneral a b (entry entries))
