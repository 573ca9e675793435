-- Quantified variables, each with its sort or without one.
use Rattle.std.specs.Prelude.{ℕ, Bool, true, false, List, [], ◌∷◌, Option, Some, None}
use Rattle.spl_terms.specs.declared.term.Symbol.{Symbol}
use Rattle.spl_terms.specs.declared.term.Term.{Var}
use Rattle.spl_terms.specs.declared.atom.Atom.TheVariants.{Holds}
use Rattle.formulas.specs.declared.tree.Tree as tree
use Rattle.formulas.specs.declared.tree.Tree.{Tree}
use Rattle.formulas.specs.Trees.{foralls, exists}

-- a variable as it is quantified: its name, and its sort if it has one
pub record Item : Type 0 where
  pub sort : Option Symbol
  pub name : List ℕ

-- that the variable of this number is of the sort, if there is one
abbrev pub of_sort : Option Symbol → ℕ → List Tree
of_sort None number = []
of_sort (Some s) number = tree.Atom (Holds s (Var number ∷ [])) ∷ []

-- all of the sorts at once; the one where there is one
abbrev pub guard : List Tree → Tree
guard [] = tree.And []
guard (s ∷ []) = s
guard (s ∷ (t ∷ sorts)) = tree.And (s ∷ (t ∷ sorts))

-- the formula for variables of these sorts
abbrev pub guarded : Bool → List Tree → Tree → Tree
guarded all [] f = f
guarded true (s ∷ sorts) f = tree.Implies (guard (s ∷ sorts)) f
guarded false (s ∷ sorts) f = tree.And (guard (s ∷ sorts) ∷ (f ∷ []))

abbrev pub block : Bool → ℕ → ℕ → Tree → Tree
block true first count f = foralls first count f
block false first count f = exists first count f

-- the formula for all, or for some, values of count variables, numbered from the first, which are of these sorts
abbrev pub quantified : Bool → ℕ → ℕ → List Tree → Tree → Tree
quantified all first count sorts f = block all first count (guarded all sorts f)
