use Rattle.std.proofs.Common.{◌≡◌, drop}
use Rattle.spl_truth.specs.Places.{measure, none_greater}
use Rattle.kbo.proofs.places.none_greater.Given as goal

-- what is left decides
abbrev pub invariant-loop-atom : goal.invariant-loop-atom
invariant-loop-atom l = none_greater l.part (drop l.atom-index l.atoms) (measure l.occurrence.part l.occurrence.atom.now) ≡ none_greater l.part l.atoms (measure l.occurrence.part l.occurrence.atom.now)
