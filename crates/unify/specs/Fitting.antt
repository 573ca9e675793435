-- Terms that may be unified, or matched, as far as their symbols go, whatever their variables stand for.
use Rattle.std.specs.Prelude.{Bool, true, false, ◌&&◌, List, [], ◌∷◌}
use Rattle.spl_terms.specs.declared.term.Symbol.{Symbol}
use Rattle.spl_terms.specs.declared.term.Term.{Term, Term-F, out-Term, fold-Term}
use Rattle.spl_terms.specs.declared.term.Term.TheOpen as layer
use Rattle.spl_terms.specs.Terms.{symbol_eq, all_pass}

abbrev pub may_be : Symbol → List (Term → Bool) → Term-F Term → Bool
may_be f tests (layer.Var w) = true
may_be f tests (layer.App g ts) = symbol_eq f g && all_pass tests ts

abbrev pub fitting_step : Term-F (Term → Bool) → Term → Bool
fitting_step (layer.Var v) t = true
fitting_step (layer.App f tests) t = may_be f tests (out-Term t)

-- one of them is a variable, or both are applications of one symbol to as many arguments, which fit one by one
abbrev pub fits : Term → Term → Bool
fits = fold-Term (Term → Bool) fitting_step

abbrev pub all_fit : List Term → List Term → Bool
all_fit [] [] = true
all_fit [] (t ∷ ts) = false
all_fit (s ∷ ss) [] = false
all_fit (s ∷ ss) (t ∷ ts) = fits s t && all_fit ss ts

abbrev pub may_become : Symbol → List (Term → Bool) → Term-F Term → Bool
may_become f tests (layer.Var w) = false
may_become f tests (layer.App g ts) = symbol_eq f g && all_pass tests ts

abbrev pub covering_step : Term-F (Term → Bool) → Term → Bool
covering_step (layer.Var v) t = true
covering_step (layer.App f tests) t = may_become f tests (out-Term t)

-- the first is a variable, or both are applications of one symbol to as many arguments, which it covers one by one
abbrev pub covers : Term → Term → Bool
covers = fold-Term (Term → Bool) covering_step

abbrev pub all_cover : List Term → List Term → Bool
all_cover [] [] = true
all_cover [] (t ∷ ts) = false
all_cover (s ∷ ss) [] = false
all_cover (s ∷ ss) (t ∷ ts) = covers s t && all_cover ss ts
