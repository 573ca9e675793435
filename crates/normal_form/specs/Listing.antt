-- What a walk lists that looks for the numbers of arguments of Skolem symbols.
use Rattle.std.specs.Prelude.{◌≡◌, ℕ, Bool, List, [], ◌∷◌, ◌++◌, map}
use Rattle.formulas.specs.declared.tree.Tree.{Tree}
use Rattle.formulas.specs.Negations.{Form, signed_form}
use Rattle.normal_form.specs.declared.arities.Listing.{Listing}
use Rattle.normal_form.specs.Skolem.{Place, behind}
use Rattle.normal_form.specs.Choices.{arities}
use Rattle.normal_form.specs.Blocks.{place_below}

abbrev pub forms_of : Bool → List Tree → List Form
forms_of sign ts = map (λ f. f sign) (map signed_form ts)

-- those of several forms, one behind the other
abbrev pub arities_in : List Form → Place → List ℕ
arities_in [] p = []
arities_in (f ∷ fs) p = arities f p ++ arities_in fs (behind f p)

-- new has the numbers of a form, or of several, at its end, and stands in the same scopes
pub record Lists (f : Form) (next : ℕ) (old new : Listing) : Type 0 where
  pub arities : new.arities ≡ old.arities ++ arities f (place_below old.scopes next)
  pub kept : new.scopes ≡ old.scopes

pub record ListsAll (fs : List Form) (next : ℕ) (old new : Listing) : Type 0 where
  pub arities : new.arities ≡ old.arities ++ arities_in fs (place_below old.scopes next)
  pub kept : new.scopes ≡ old.scopes
