-- The numbers of the symbols of terms, and how they are symbol_counted.
use Rattle.std.proofs.Common.{◌≡◌, ℕ, List, [], ◌∷◌, ◌++◌, map, refl, ap, ◌∙◌}
use Rattle.std.specs.List.{concat, flat_map}
use Rattle.std.proofs.lemmas.Grind.{fold-append}
use Rattle.spl_terms.specs.declared.term.Symbol.{Symbol}
use Rattle.spl_terms.specs.declared.term.Term.{Term, Var, App}
use Rattle.spl_terms.specs.TermLaws.{fold-Var, fold-App}
use Rattle.subsume.specs.Features.{numbers_step, symbol_numbers}

pub numbers_Var : (v : ℕ) → symbol_numbers (Var v) ≡ []
numbers_Var v = fold-Var numbers_step v

concat_map : (ts : List Term) → concat (map symbol_numbers ts) ≡ flat_map symbol_numbers ts
concat_map [] = refl
concat_map (t ∷ ts) = ap (λ l. symbol_numbers t ++ l) (concat_map ts)

pub numbers_App : (f : Symbol) (ts : List Term) → symbol_numbers (App f ts) ≡ f.number ∷ flat_map symbol_numbers ts
numbers_App f ts = fold-App numbers_step f ts ∙ ap (λ l. f.number ∷ l) (concat_map ts)

pub ruleset number_laws = (numbers_Var, numbers_App, fold-append)
