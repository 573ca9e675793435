-- A clause without parts, computed.
use Rattle.std.proofs.Common.{◌≡◌, ℕ, [], ◌∷◌, None}
use Rattle.spl_terms.specs.declared.term.Kind.TheVariants.{Predicate}
use Rattle.spl_terms.specs.declared.atom.Atom.{Atom}
use Rattle.spl_terms.specs.declared.atom.Atom.TheVariants.{Holds}
use Rattle.spl_terms.specs.declared.term.Term.{Var}
use Rattle.spl_terms.specs.declared.term.Term.TheViews.{outs-Var, outs-App}
use Rattle.spl_terms.specs.TermLaws.{term_eq-Var-Var, term_eq-Var-App, term_eq-App-Var, term_eq-App-App, term_variables-Var, term_variables-App, replace-Var, replace-App, ground-Var, ground-App}
use Rattle.clause_parts.specs.Parts.{parts_of}

-- how the definitions by recursion on terms compute
pub ruleset folds = (term_eq-Var-Var, term_eq-Var-App, term_eq-App-Var, term_eq-App-App, term_variables-Var, term_variables-App, replace-Var, replace-App, ground-Var, ground-App, outs-Var, outs-App)

-- a predicate of x
abbrev holds : ℕ → Atom
holds n = Holds (record { number = n; kind = Predicate }) (Var 0 ∷ [])

-- all succedent atoms hang together
pub parts_together : parts_of (record { constraint = []; antecedent = []; succedent = holds 4 ∷ holds 5 ∷ [] }) ≡ None
parts_together = simp folds
