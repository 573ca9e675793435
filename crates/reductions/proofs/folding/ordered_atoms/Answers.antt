use Rattle.std.proofs.Common.{subst}
use Rattle.std.specs.Prelude.{IsPermutation}
use Rattle.std.proofs.lemmas.List.Sorted.{IsPermutation-map}
use Rattle.reductions.specs.Folding.{plain}
use Rattle.reductions.proofs.folding.ordered_atoms.Goals as goal

pub returns : goal.returns
returns c = subst (λ l. IsPermutation l (plain c.sort_unstable_by_key.new.self.items)) c.in_ok-atoms.ensures (IsPermutation-map (λ a. (a.part, a.atom.now)) _ _ c.sort_unstable_by_key.ensures.permutation)
