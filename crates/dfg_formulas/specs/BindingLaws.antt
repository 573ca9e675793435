-- Laws with their proofs, not definitions that a reader must believe: how many variables a formula binds, by its cases.
use Rattle.std.proofs.Common.{◌≡◌, ℕ, zero, suc, ◌+◌, Bool, true, false, List, [], ◌∷◌, ◌++◌, length, map, Option, Some, None, refl, sym, ap, ◌∙◌, arith}
use Rattle.spl_terms.specs.declared.term.Symbol.{Symbol}
use Rattle.spl_terms.specs.declared.term.Term.{Var}
use Rattle.spl_terms.specs.declared.atom.Atom.{Atom}
use Rattle.spl_terms.specs.declared.atom.Atom.TheVariants.{Holds}
use Rattle.formulas.specs.declared.tree.Tree as tree
use Rattle.formulas.specs.declared.tree.Tree.{Tree, Tree-F}
use Rattle.formulas.specs.declared.tree.Tree.TheOpen as layer
use Rattle.formulas.specs.declared.tree.Tree.TheViews.{roll-Tree, rolls-True, rolls-False, rolls-Atom, rolls-Not, rolls-And, rolls-Or, rolls-Implies, rolls-Equiv, rolls-Forall, rolls-Exists}
use Rattle.formulas.specs.declared.tree.Tree.TheFolds.{map-Tree, fold-roll-Tree}
use Rattle.formulas.specs.Trees.{foralls, exists}
use Rattle.dfg_formulas.specs.declared.shape.Connective.{Connective}
use Rattle.dfg_formulas.specs.declared.shape.Connective.TheVariants as connectives
use Rattle.dfg_formulas.specs.Quantifiers.{Item, of_sort, guard, guarded, quantified}
use Rattle.dfg_formulas.specs.Formulas.{constant, joined, pair_of}
use Rattle.dfg_formulas.specs.Grammar.{total, count_in_layer, binding_count, sorts_of}

rolled : (t : Tree) (y : Tree-F Tree) → t ≡ roll-Tree y → binding_count t ≡ count_in_layer (map-Tree Tree ℕ binding_count y)
rolled t y e = ap binding_count e ∙ fold-roll-Tree ℕ count_in_layer y

pub count-constant : (b : Bool) → binding_count (constant b) ≡ 0
count-constant true = rolled tree.True layer.True (sym rolls-True)
count-constant false = rolled tree.False layer.False (sym rolls-False)

pub count-Atom : (a : Atom) → binding_count (tree.Atom a) ≡ 0
count-Atom a = rolled (tree.Atom a) (layer.Atom a) (sym (rolls-Atom a))

pub count-Not : (t : Tree) → binding_count (tree.Not t) ≡ binding_count t
count-Not t = rolled (tree.Not t) (layer.Not t) (sym (rolls-Not t))

count-And : (ts : List Tree) → binding_count (tree.And ts) ≡ total (map binding_count ts)
count-And ts = rolled (tree.And ts) (layer.And ts) (sym (rolls-And ts))

pub count-joined : (all : Bool) (ts : List Tree) → binding_count (joined all ts) ≡ total (map binding_count ts)
count-joined true ts = count-And ts
count-joined false ts = rolled (tree.Or ts) (layer.Or ts) (sym (rolls-Or ts))

count-Implies : (t u : Tree) → binding_count (tree.Implies t u) ≡ binding_count t + binding_count u
count-Implies t u = rolled (tree.Implies t u) (layer.Implies t u) (sym (rolls-Implies t u))

count-Equiv : (t u : Tree) → binding_count (tree.Equiv t u) ≡ binding_count t + binding_count u
count-Equiv t u = rolled (tree.Equiv t u) (layer.Equiv t u) (sym (rolls-Equiv t u))

pub count-pair : (c : Connective) (t u : Tree) → binding_count (pair_of c t u) ≡ binding_count t + binding_count u
count-pair connectives.Not t u = count-Implies t u
count-pair connectives.And t u = count-Implies t u
count-pair connectives.Or t u = count-Implies t u
count-pair connectives.Implies t u = count-Implies t u
count-pair connectives.Implied t u = omega (arith, count-Implies u t)
count-pair connectives.Equiv t u = count-Equiv t u
count-pair connectives.Forall t u = count-Implies t u
count-pair connectives.Exists t u = count-Implies t u

no_bindings : (first : ℕ) (items : List Item) → total (map binding_count (sorts_of first items)) ≡ 0
no_bindings first [] = refl
no_bindings first (i ∷ items) = by_sort i.sort (no_bindings (first + 1) items)
  where
    by_sort : (sort : Option Symbol) → total (map binding_count (sorts_of (first + 1) items)) ≡ 0 → total (map binding_count (of_sort sort first ++ sorts_of (first + 1) items)) ≡ 0
    by_sort None e = e
    by_sort (Some s) e = omega (arith, e, count-Atom (Holds s (Var first ∷ [])))

guard_bindings : (sorts : List Tree) → binding_count (guard sorts) ≡ total (map binding_count sorts)
guard_bindings [] = count-And []
guard_bindings (s ∷ []) = omega arith
guard_bindings (s ∷ (t ∷ sorts)) = count-And (s ∷ (t ∷ sorts))

guarded_bindings : (all : Bool) (sorts : List Tree) (f : Tree) → total (map binding_count sorts) ≡ 0 → binding_count (guarded all sorts f) ≡ binding_count f
guarded_bindings all [] f e = refl
guarded_bindings true (s ∷ sorts) f e = omega (arith, count-Implies (guard (s ∷ sorts)) f, guard_bindings (s ∷ sorts), e)
guarded_bindings false (s ∷ sorts) f e = omega (arith, count-And (guard (s ∷ sorts) ∷ (f ∷ [])), guard_bindings (s ∷ sorts), e)

foralls_bindings : (first count : ℕ) (f : Tree) → binding_count (foralls first count f) ≡ count + binding_count f
foralls_bindings first zero f = omega arith
foralls_bindings first (suc count) f = omega (arith, rolled (tree.Forall first (foralls (suc first) count f)) (layer.Forall first (foralls (suc first) count f)) (sym (rolls-Forall first (foralls (suc first) count f))), foralls_bindings (suc first) count f)

exists_bindings : (first count : ℕ) (f : Tree) → binding_count (exists first count f) ≡ count + binding_count f
exists_bindings first zero f = omega arith
exists_bindings first (suc count) f = omega (arith, rolled (tree.Exists first (exists (suc first) count f)) (layer.Exists first (exists (suc first) count f)) (sym (rolls-Exists first (exists (suc first) count f))), exists_bindings (suc first) count f)

pub count-quantified : (all : Bool) (first : ℕ) (items : List Item) (f : Tree) → binding_count (quantified all first (length items) (sorts_of first items) f) ≡ length items + binding_count f
count-quantified true first items f = omega (arith, foralls_bindings first (length items) (guarded true (sorts_of first items) f), guarded_bindings true (sorts_of first items) f (no_bindings first items))
count-quantified false first items f = omega (arith, exists_bindings first (length items) (guarded false (sorts_of first items) f), guarded_bindings false (sorts_of first items) f (no_bindings first items))
