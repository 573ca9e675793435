-- Which variables are free in a formula, and the numbers of its bindings.
use Rattle.std.specs.Prelude.{ℕ, zero, suc, Bool, true, false, not, ◌&&◌, ◌||◌, ◌==◌, List, [], ◌∷◌, ◌++◌}
use Rattle.std.specs.List.{list_any, concat}
use Rattle.spl_terms.specs.Clauses.{atom_variables}
use Rattle.formulas.specs.declared.tree.Tree.{Tree, Tree-F, fold-Tree}
use Rattle.formulas.specs.declared.tree.Tree.TheOpen as layer

abbrev pub is_member : ℕ → List ℕ → Bool
is_member v ws = list_any (λ w. v == w) ws

abbrev pub free_step : ℕ → Tree-F Bool → Bool
free_step v layer.True = false
free_step v layer.False = false
free_step v (layer.Atom a) = is_member v (atom_variables a)
free_step v (layer.Not b) = b
free_step v (layer.And bs) = list_any (λ b. b) bs
free_step v (layer.Or bs) = list_any (λ b. b) bs
free_step v (layer.Implies b c) = b || c
free_step v (layer.Equiv b c) = b || c
free_step v (layer.Forall x b) = not (v == x) && b
free_step v (layer.Exists x b) = not (v == x) && b

-- whether the variable is free in the formula
abbrev pub is_free : ℕ → Tree → Bool
is_free v = fold-Tree Bool (free_step v)

abbrev pub bindings_step : Tree-F (List ℕ) → List ℕ
bindings_step layer.True = []
bindings_step layer.False = []
bindings_step (layer.Atom a) = []
bindings_step (layer.Not vs) = vs
bindings_step (layer.And lists) = concat lists
bindings_step (layer.Or lists) = concat lists
bindings_step (layer.Implies vs ws) = vs ++ ws
bindings_step (layer.Equiv vs ws) = vs ++ ws
bindings_step (layer.Forall x vs) = x ∷ vs
bindings_step (layer.Exists x vs) = x ∷ vs

-- the numbers of the formula's bindings, in order
abbrev pub bindings : Tree → List ℕ
bindings = fold-Tree (List ℕ) bindings_step

-- whether no number stands twice in the list
abbrev pub all_distinct : List ℕ → Bool
all_distinct [] = true
all_distinct (v ∷ vs) = not (is_member v vs) && all_distinct vs

-- so many numbers, ascending from the first
abbrev pub numbers_from : ℕ → ℕ → List ℕ
numbers_from first zero = []
numbers_from first (suc count) = first ∷ numbers_from (suc first) count
