use Rattle.std.proofs.Common.{◌≡◌, map, fold, drop}
use Rattle.spl_terms.specs.Clauses.{added, replace_in_atom}
use Rattle.spl_truth.specs.Truth.{entry}
use Rattle.proof_steps.proofs.instances.KeptAtoms.add_instances.Given as goal

abbrev pub invariant-loop-atom : goal.invariant-loop-atom
invariant-loop-atom l = fold added l.self (map (replace_in_atom (entry l.entries)) (drop l.atom-index l.atoms)) ≡ fold added l.initial.self (map (replace_in_atom (entry l.entries)) l.atoms)
