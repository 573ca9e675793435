use Rattle.std.proofs.Common.{◌≡◌, ◌-◌, length}
use Rattle.spl_terms.specs.Clauses.{atoms_of}
use Rattle.clause_parts.specs.Parts.{first_head}
use Rattle.clause_parts.proofs.components.first_head.Given as goal

-- the first one is not before this atom
abbrev pub invariant-loop-k : goal.invariant-loop-k
invariant-loop-k l = first_head (length (atoms_of l.clause) - l.k) l.k l.clause ≡ first_head (length (atoms_of l.clause)) 0 l.clause
