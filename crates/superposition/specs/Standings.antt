-- How two terms stand whatever their variables stand for.
use Rattle.std.specs.Prelude.{◌≡◌, ℕ, ⊤, true, false}
use Rattle.spl_terms.specs.declared.term.Term.{Term}
use Rattle.spl_terms.specs.Terms.{replace}
use Rattle.spl_truth.specs.Orders.{is_below}
use Rattle.superposition.specs.declared.ordering.Standing.{Standing}
use Rattle.superposition.specs.declared.ordering.Standing.TheVariants.{Upper, Lower, Open}

-- each instance of the first term is above that of the second one, or it is below it or equal, or nothing is said
abbrev pub IsStanding : Standing → Term → Term → Type 0
IsStanding Upper s t = (h : ℕ → Term) → is_below (replace h s) (replace h t) ≡ false
IsStanding Lower s t = (h : ℕ → Term) → is_below (replace h s) (replace h t) ≡ true
IsStanding Open s t = ⊤
