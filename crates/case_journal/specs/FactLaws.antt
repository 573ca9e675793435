-- Laws with their proofs, not definitions that a reader must believe: what is known where a test of a fact is passed.
use Rattle.std.proofs.Common.{◌≡◌, ℕ, Bool, true, ◌&&◌, List, [], ◌∷◌, Option, Some, None, refl, sym, ap, subst}
use Rattle.std.proofs.lemmas.Bool.{and_parts, eqb-true, false≢true}
use Rattle.spl_terms.specs.declared.atom.Atom.{Atom}
use Rattle.spl_terms.specs.declared.clause.Clause.{Clause}
use Rattle.spl_terms.specs.Clauses.{no_atoms, is_empty, IsEmpty}
use Rattle.dep_sets.specs.declared.deps.Assumption.{Assumption}
use Rattle.proof_steps.specs.declared.step.Statement.{Statement}
use Rattle.proof_steps.specs.Checked.{IsContradiction}
use Rattle.case_journal.specs.declared.event.Entry.{Entry}
use Rattle.case_journal.specs.Journal.{Setting}
use Rattle.case_journal.specs.Facts.{is_number}
use Rattle.case_journal.specs.Ending.{no_assumptions, is_contradiction}

pub number_is : (o : Option ℕ) (i : ℕ) → is_number o i ≡ true → o ≡ Some i
number_is None i h = absurd (false≢true h)
number_is (Some n) i h = ap Some (eqb-true n i h)

-- ---- what is empty

pub no_atoms_is : (atoms : List Atom) → no_atoms atoms ≡ true → atoms ≡ []
no_atoms_is [] h = refl
no_atoms_is (a ∷ atoms) h = absurd (false≢true h)

pub no_assumptions_is : (deps : List Assumption) → no_assumptions deps ≡ true → deps ≡ []
no_assumptions_is [] h = refl
no_assumptions_is (a ∷ deps) h = absurd (false≢true h)

pub empty_is : (c : Clause) → is_empty c ≡ true → IsEmpty c
empty_is c h =
    let last = and_parts (no_atoms c.constraint && no_atoms c.antecedent) (no_atoms c.succedent) h in
    let first = and_parts (no_atoms c.constraint) (no_atoms c.antecedent) last.0 in
    (no_atoms_is c.constraint first.0, no_atoms_is c.antecedent first.1, no_atoms_is c.succedent last.1)

pub contradiction_is : (s : Statement) → is_contradiction s ≡ true → IsContradiction s
contradiction_is s h =
    let parts = and_parts (is_empty s.clause) (no_assumptions s.deps) h in
    (empty_is s.clause parts.0, no_assumptions_is s.deps parts.1)

-- ---- a fact of equal journals

pub moved : (P : Setting → List Entry → Type 0) (s s' : Setting) (past past' : List Entry) → s' ≡ s → past' ≡ past → P s past → P s' past'
moved P s s' past past' e f h = subst (λ p. P s' p) (sym f) (subst (λ x. P x past) (sym e) h)
