-- One atom as an instance of another, and clauses of one atom.
use Rattle.std.specs.Prelude.{◌≡◌, ℕ, true, List, [], ◌∷◌, length}
use Rattle.spl_terms.specs.declared.term.Term.{Term}
use Rattle.spl_terms.specs.declared.atom.Atom.{Atom}
use Rattle.spl_terms.specs.declared.clause.Part.{Part}
use Rattle.spl_terms.specs.declared.clause.Part.TheVariants.{Constraint, Antecedent, Succedent}
use Rattle.spl_terms.specs.declared.clause.Clause.{Clause}
use Rattle.spl_terms.specs.Clauses.{is_same, replace_in_atom}
use Rattle.spl_truth.specs.Truth.{entry}

-- an instance of the one atom is the same as the other
abbrev pub IsMatchedBy : (ℕ → Term) → Atom → Atom → Type 0
IsMatchedBy by pattern target = is_same (replace_in_atom by pattern) target ≡ true

-- the instance by these entries, one for each variable below a number
abbrev pub IsMatched : ℕ → List Term → Atom → Atom → Type 0
IsMatched vars entries pattern target = (length entries ≡ vars) × IsMatchedBy (entry entries) pattern target

-- the clause whose one atom stands in this part
abbrev pub single : Part → Atom → Clause
single Constraint a = record { constraint = a ∷ []; antecedent = []; succedent = [] }
single Antecedent a = record { constraint = []; antecedent = a ∷ []; succedent = [] }
single Succedent a = record { constraint = []; antecedent = []; succedent = a ∷ [] }
