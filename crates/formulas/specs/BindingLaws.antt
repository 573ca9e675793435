-- Laws with their proofs, not definitions that a reader must believe: the bindings of each case of a formula.
use Rattle.std.proofs.Common.{◌≡◌, ℕ, zero, suc, List, [], ◌∷◌, ◌++◌, map, refl, sym, ap, ◌∙◌}
use Rattle.std.specs.List.{concat, flat_map}
use Rattle.spl_terms.specs.declared.atom.Atom.{Atom}
use Rattle.formulas.specs.declared.tree.Tree as tree
use Rattle.formulas.specs.declared.tree.Tree.{Tree, Tree-F}
use Rattle.formulas.specs.declared.tree.Tree.TheOpen as layer
use Rattle.formulas.specs.declared.tree.Tree.TheViews.{roll-Tree, rolls-True, rolls-False, rolls-Atom, rolls-Not, rolls-And, rolls-Or, rolls-Implies, rolls-Equiv, rolls-Forall, rolls-Exists}
use Rattle.formulas.specs.declared.tree.Tree.TheFolds.{map-Tree, fold-roll-Tree}
use Rattle.formulas.specs.Trees.{foralls, exists}
use Rattle.formulas.specs.Bindings.{bindings_step, bindings, numbers_from}

rolled : (t : Tree) (y : Tree-F Tree) → t ≡ roll-Tree y → bindings t ≡ bindings_step (map-Tree Tree (List ℕ) bindings y)
rolled t y e = ap bindings e ∙ fold-roll-Tree (List ℕ) bindings_step y

concat-map : (ts : List Tree) → concat (map bindings ts) ≡ flat_map bindings ts
concat-map [] = refl
concat-map (t ∷ ts) = ap (λ l. bindings t ++ l) (concat-map ts)

pub bindings-True : bindings tree.True ≡ []
bindings-True = rolled tree.True layer.True (sym rolls-True)

pub bindings-False : bindings tree.False ≡ []
bindings-False = rolled tree.False layer.False (sym rolls-False)

pub bindings-Atom : (a : Atom) → bindings (tree.Atom a) ≡ []
bindings-Atom a = rolled (tree.Atom a) (layer.Atom a) (sym (rolls-Atom a))

pub bindings-Not : (t : Tree) → bindings (tree.Not t) ≡ bindings t
bindings-Not t = rolled (tree.Not t) (layer.Not t) (sym (rolls-Not t))

pub bindings-And : (ts : List Tree) → bindings (tree.And ts) ≡ flat_map bindings ts
bindings-And ts = rolled (tree.And ts) (layer.And ts) (sym (rolls-And ts)) ∙ concat-map ts

pub bindings-Or : (ts : List Tree) → bindings (tree.Or ts) ≡ flat_map bindings ts
bindings-Or ts = rolled (tree.Or ts) (layer.Or ts) (sym (rolls-Or ts)) ∙ concat-map ts

pub bindings-Implies : (t u : Tree) → bindings (tree.Implies t u) ≡ bindings t ++ bindings u
bindings-Implies t u = rolled (tree.Implies t u) (layer.Implies t u) (sym (rolls-Implies t u))

pub bindings-Equiv : (t u : Tree) → bindings (tree.Equiv t u) ≡ bindings t ++ bindings u
bindings-Equiv t u = rolled (tree.Equiv t u) (layer.Equiv t u) (sym (rolls-Equiv t u))

pub bindings-Forall : (x : ℕ) (t : Tree) → bindings (tree.Forall x t) ≡ x ∷ bindings t
bindings-Forall x t = rolled (tree.Forall x t) (layer.Forall x t) (sym (rolls-Forall x t))

pub bindings-Exists : (x : ℕ) (t : Tree) → bindings (tree.Exists x t) ≡ x ∷ bindings t
bindings-Exists x t = rolled (tree.Exists x t) (layer.Exists x t) (sym (rolls-Exists x t))

pub bindings-foralls : (first count : ℕ) (t : Tree) → bindings (foralls first count t) ≡ numbers_from first count ++ bindings t
bindings-foralls first zero t = refl
bindings-foralls first (suc count) t = bindings-Forall first (foralls (suc first) count t) ∙ ap (λ vs. first ∷ vs) (bindings-foralls (suc first) count t)

pub bindings-exists : (first count : ℕ) (t : Tree) → bindings (exists first count t) ≡ numbers_from first count ++ bindings t
bindings-exists first zero t = refl
bindings-exists first (suc count) t = bindings-Exists first (exists (suc first) count t) ∙ ap (λ vs. first ∷ vs) (bindings-exists (suc first) count t)
