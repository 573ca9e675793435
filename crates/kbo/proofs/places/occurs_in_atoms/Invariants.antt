use Rattle.std.proofs.Common.{◌≡◌, ◌==◌, drop}
use Rattle.std.specs.List.{list_any, flat_map}
use Rattle.spl_terms.specs.Clauses.{atom_variables}
use Rattle.kbo.proofs.places.occurs_in_atoms.Given as goal

-- what is left decides
abbrev pub invariant-loop-atom : goal.invariant-loop-atom
invariant-loop-atom l = list_any (λ w. l.variable == w) (flat_map atom_variables (drop l.atom-index l.atoms)) ≡ list_any (λ w. l.variable == w) (flat_map atom_variables l.atoms)
