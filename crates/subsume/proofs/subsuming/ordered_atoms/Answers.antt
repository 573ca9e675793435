use Rattle.std.proofs.Common.{◌≡◌, Option, Some, subst}
use Rattle.std.specs.Prelude.{MatchOption, IsPermutation}
use Rattle.std.proofs.lemmas.List.Sorted.{IsPermutation-map}
use Rattle.subsume.specs.Placing.{plain_one, plain}
use Rattle.subsume.proofs.subsuming.ordered_atoms.Goals as goal

at_some : {X : Type 0} (N : Type 0) (S : X → Type 0) (o : Option X) (x : X) → o ≡ Some x → MatchOption o N S → S x
at_some N S o x e h = subst (λ o. MatchOption o N S) e h

pub returns-in-Some : goal.returns-in-Some
returns-in-Some c = subst (λ l. IsPermutation l (plain c.sort_unstable_by_key.new.self.items)) (at_some _ _ _ _ c.in-Some.is c.in_ok-listed_atoms.ensures) (IsPermutation-map plain_one _ _ c.sort_unstable_by_key.ensures.permutation)
