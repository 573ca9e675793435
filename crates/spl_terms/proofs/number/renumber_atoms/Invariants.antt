use Rattle.std.proofs.Common.{◌≡◌, ◌++◌, take, drop, map}
use Rattle.spl_terms.specs.declared.term.Term.{Var}
use Rattle.spl_terms.specs.Clauses.{replace_in_atom, place_in}
use Rattle.spl_terms.proofs.number.renumber_atoms.Given as goal

-- the first ones are renumbered, the others as they were
abbrev pub invariant-loop-atom : goal.invariant-loop-atom
invariant-loop-atom l = l.atoms ≡ map (replace_in_atom (λ v. Var (place_in l.order v))) (take l.atom-index l.initial.atoms) ++ drop l.atom-index l.initial.atoms
