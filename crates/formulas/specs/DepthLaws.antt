-- Laws with their proofs, not definitions that a reader must believe: how deep a formula is by its cases, and that its parts
-- are less deep.
use Rattle.std.specs.Prelude.{ℕ, zero, suc, ◌+◌, ◌≤◌, ◌≡◌, max, List, [], ◌∷◌, map}
use Rattle.std.proofs.Common.{arith, sym, ap, refl, ◌∙◌}
use denote.Param.Weighed.{most}
use Rattle.formulas.specs.declared.tree.Tree as tree
use Rattle.formulas.specs.declared.tree.Tree.{Tree, Tree-F, fold-Tree}
use Rattle.formulas.specs.declared.tree.Tree.TheOpen as layer
use Rattle.formulas.specs.declared.tree.Tree.TheViews.{roll-Tree, rolls-Not, rolls-And, rolls-Or, rolls-Implies, rolls-Equiv, rolls-Forall, rolls-Exists}
use Rattle.formulas.specs.declared.tree.Tree.TheFolds.{map-Tree, fold-roll-Tree}
use Rattle.formulas.specs.declared.formula.Held.{Held}
use Rattle.formulas.specs.declared.formula.Held.TheVariants as held
use Rattle.formulas.specs.declared.formula.Formula.TheDeep.{deep-Held}
use Rattle.formulas.specs.Trees.{foralls, exists, size_step, tree_size}
use Rattle.formulas.specs.Views.{tree_of, IsHeld}

rolled : (t : Tree) (y : Tree-F Tree) → t ≡ roll-Tree y → tree_size t ≡ size_step (map-Tree Tree ℕ tree_size y)
rolled t y e = ap tree_size e ∙ fold-roll-Tree ℕ size_step y

pub size-Not : (t : Tree) → tree_size (tree.Not t) ≡ tree_size t + 1
size-Not t = rolled (tree.Not t) (layer.Not t) (sym (rolls-Not t))

pub size-Implies : (t u : Tree) → tree_size (tree.Implies t u) ≡ max (tree_size t) (tree_size u) + 1
size-Implies t u = rolled (tree.Implies t u) (layer.Implies t u) (sym (rolls-Implies t u))

pub size-Equiv : (t u : Tree) → tree_size (tree.Equiv t u) ≡ max (tree_size t) (tree_size u) + 1
size-Equiv t u = rolled (tree.Equiv t u) (layer.Equiv t u) (sym (rolls-Equiv t u))

pub size-Forall : (x : ℕ) (t : Tree) → tree_size (tree.Forall x t) ≡ tree_size t + 1
size-Forall x t = rolled (tree.Forall x t) (layer.Forall x t) (sym (rolls-Forall x t))

pub size-Exists : (x : ℕ) (t : Tree) → tree_size (tree.Exists x t) ≡ tree_size t + 1
size-Exists x t = rolled (tree.Exists x t) (layer.Exists x t) (sym (rolls-Exists x t))

pub size-foralls : (first count : ℕ) (t : Tree) → tree_size (foralls first count t) ≡ tree_size t + count
size-foralls first zero t = omega arith
size-foralls first (suc count) t = omega (arith, size-Forall first (foralls (suc first) count t), size-foralls (suc first) count t)

pub size-exists : (first count : ℕ) (t : Tree) → tree_size (exists first count t) ≡ tree_size t + count
size-exists first zero t = omega arith
size-exists first (suc count) t = omega (arith, size-Exists first (exists (suc first) count t), size-exists (suc first) count t)

most-map : (ts : List Tree) → most (λ t. tree_size t + 1) ts ≡ most (λ n. n + 1) (map tree_size ts)
most-map [] = refl
most-map (t ∷ ts) = ap (max (tree_size t + 1)) (most-map ts)

pub size-And : (ts : List Tree) → tree_size (tree.And ts) ≡ most (λ t. tree_size t + 1) ts
size-And ts = rolled (tree.And ts) (layer.And ts) (sym (rolls-And ts)) ∙ sym (most-map ts)

pub size-Or : (ts : List Tree) → tree_size (tree.Or ts) ≡ most (λ t. tree_size t + 1) ts
size-Or ts = rolled (tree.Or ts) (layer.Or ts) (sym (rolls-Or ts)) ∙ sym (most-map ts)

pub depth_falls : (h : Held) → IsHeld h → max (deep-Held h) 0 ≤ tree_size (tree_of h)
depth_falls held.True is = omega arith
depth_falls held.False is = omega arith
depth_falls (held.Atom a) is = omega arith
depth_falls (held.Not f) is = omega (arith, rolled (tree.Not f) (layer.Not f) (sym (rolls-Not f)))
depth_falls (held.And fs) is = omega (arith, rolled (tree.And fs) (layer.And fs) (sym (rolls-And fs)), most-map fs)
depth_falls (held.Or fs) is = omega (arith, rolled (tree.Or fs) (layer.Or fs) (sym (rolls-Or fs)), most-map fs)
depth_falls (held.Implies f g) is = omega (arith, rolled (tree.Implies f g) (layer.Implies f g) (sym (rolls-Implies f g)))
depth_falls (held.Equiv f g) is = omega (arith, rolled (tree.Equiv f g) (layer.Equiv f g) (sym (rolls-Equiv f g)))
depth_falls (held.Forall first count f) is = omega (arith, size-foralls first count f, is)
depth_falls (held.Exists first count f) is = omega (arith, size-exists first count f, is)
