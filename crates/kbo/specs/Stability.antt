-- The order isn't changed by substitutions (Weidenbach 2001, the section on orderings).
use Rattle.std.specs.Prelude.{◌≡◌, ℕ, true}
use Rattle.spl_terms.specs.declared.term.Term.{Term}
use Rattle.spl_terms.specs.Terms.{replace}
use Rattle.spl_truth.specs.Orders.{is_greater}

-- a term that is greater than another one is so once each variable is replaced
abbrev pub IsStable : Type 0
IsStable = (h : ℕ → Term) (s t : Term) → is_greater s t ≡ true → is_greater (replace h s) (replace h t) ≡ true
