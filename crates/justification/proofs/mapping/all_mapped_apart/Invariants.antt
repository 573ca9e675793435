use Rattle.std.proofs.Common.{◌≡◌, drop}
use Rattle.spl_truth.specs.Truth.{entry}
use Rattle.justification.specs.Tests.{are_mapped_apart_from, are_mapped_apart}
use Rattle.justification.proofs.mapping.all_mapped_apart.Given as goal

abbrev pub invariant-loop-atom : goal.invariant-loop-atom
invariant-loop-atom l = are_mapped_apart_from l.images (entry l.entries) (drop l.atom-index l.atoms) l.into ≡ are_mapped_apart (entry l.entries) l.atoms l.into
