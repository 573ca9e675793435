use Rattle.std.proofs.Common.{◌≡◌, drop}
use Rattle.spl_truth.specs.Truth.{entry}
use Rattle.justification.specs.Tests.{are_mapped}
use Rattle.justification.proofs.mapping.all_mapped.Given as goal

abbrev pub invariant-loop-atom : goal.invariant-loop-atom
invariant-loop-atom l = are_mapped (entry l.entries) (drop l.atom-index l.atoms) l.into ≡ are_mapped (entry l.entries) l.atoms l.into
