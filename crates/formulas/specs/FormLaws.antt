-- Laws with their proofs, not definitions that a reader must believe: the negation normal form of each case of a formula.
use Rattle.std.proofs.Common.{◌≡◌, ℕ, Bool, true, false, not, List, map, sym, ap, ◌∙◌}
use Rattle.spl_terms.specs.declared.atom.Atom.{Atom}
use Rattle.formulas.specs.declared.tree.Tree as f
use Rattle.formulas.specs.declared.tree.Tree.{Tree, Tree-F}
use Rattle.formulas.specs.declared.tree.Tree.TheOpen as layer
use Rattle.formulas.specs.declared.tree.Tree.TheViews.{roll-Tree, rolls-True, rolls-False, rolls-Atom, rolls-Not, rolls-And, rolls-Or, rolls-Implies, rolls-Equiv, rolls-Forall, rolls-Exists}
use Rattle.formulas.specs.declared.tree.Tree.TheFolds.{map-Tree, fold-roll-Tree}
use Rattle.formulas.specs.Negations.{Form, constant, literal, both, either, connected, quantified, form_step, signed_form}

rolled : (t : Tree) (y : Tree-F Tree) (sign : Bool) → t ≡ roll-Tree y → signed_form t sign ≡ form_step (map-Tree Tree (Bool → Form) signed_form y) sign
rolled t y sign e = ap (λ u. signed_form u sign) e ∙ ap (λ h. h sign) (fold-roll-Tree (Bool → Form) form_step y)

pub form-True : (sign : Bool) → signed_form f.True sign ≡ constant sign
form-True sign = rolled f.True layer.True sign (sym rolls-True)

pub form-False : (sign : Bool) → signed_form f.False sign ≡ constant (not sign)
form-False sign = rolled f.False layer.False sign (sym rolls-False)

pub form-Atom : (a : Atom) (sign : Bool) → signed_form (f.Atom a) sign ≡ literal sign a
form-Atom a sign = rolled (f.Atom a) (layer.Atom a) sign (sym (rolls-Atom a))

pub form-Not : (t : Tree) (sign : Bool) → signed_form (f.Not t) sign ≡ signed_form t (not sign)
form-Not t sign = rolled (f.Not t) (layer.Not t) sign (sym (rolls-Not t))

pub form-And : (ts : List Tree) (sign : Bool) → signed_form (f.And ts) sign ≡ connected sign (map (λ g. g sign) (map signed_form ts))
form-And ts sign = rolled (f.And ts) (layer.And ts) sign (sym (rolls-And ts))

pub form-Or : (ts : List Tree) (sign : Bool) → signed_form (f.Or ts) sign ≡ connected (not sign) (map (λ g. g sign) (map signed_form ts))
form-Or ts sign = rolled (f.Or ts) (layer.Or ts) sign (sym (rolls-Or ts))

pub form-Implies : (t u : Tree) → signed_form (f.Implies t u) true ≡ either (signed_form t false) (signed_form u true)
form-Implies t u = rolled (f.Implies t u) (layer.Implies t u) true (sym (rolls-Implies t u))

pub form-not_Implies : (t u : Tree) → signed_form (f.Implies t u) false ≡ both (signed_form t true) (signed_form u false)
form-not_Implies t u = rolled (f.Implies t u) (layer.Implies t u) false (sym (rolls-Implies t u))

pub form-Equiv : (t u : Tree) → signed_form (f.Equiv t u) true ≡ both (either (signed_form t false) (signed_form u true)) (either (signed_form u false) (signed_form t true))
form-Equiv t u = rolled (f.Equiv t u) (layer.Equiv t u) true (sym (rolls-Equiv t u))

pub form-not_Equiv : (t u : Tree) → signed_form (f.Equiv t u) false ≡ both (either (signed_form t true) (signed_form u true)) (either (signed_form t false) (signed_form u false))
form-not_Equiv t u = rolled (f.Equiv t u) (layer.Equiv t u) false (sym (rolls-Equiv t u))

pub form-Forall : (x : ℕ) (t : Tree) (sign : Bool) → signed_form (f.Forall x t) sign ≡ quantified sign x (signed_form t sign)
form-Forall x t sign = rolled (f.Forall x t) (layer.Forall x t) sign (sym (rolls-Forall x t))

pub form-Exists : (x : ℕ) (t : Tree) (sign : Bool) → signed_form (f.Exists x t) sign ≡ quantified (not sign) x (signed_form t sign)
form-Exists x t sign = rolled (f.Exists x t) (layer.Exists x t) sign (sym (rolls-Exists x t))
