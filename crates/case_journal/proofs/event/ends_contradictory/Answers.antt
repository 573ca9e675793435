-- The last step's test is the definition's.
use Rattle.std.proofs.Common.{◌≡◌, Bool, true, false, ◌&&◌, List, [], ◌∷◌, refl, sym, ◌∙◌, ap}
use Rattle.std.specs.Bool.{IsTrue}
use Rattle.std.proofs.lemmas.Bool.{and_parts, and_from, false_from_ne_true, false≢true}
use Rattle.spl_terms.specs.declared.atom.Atom.{Atom}
use Rattle.spl_terms.specs.declared.clause.Clause.{Clause}
use Rattle.spl_terms.specs.Clauses.{no_atoms, is_empty, IsEmpty}
use Rattle.dep_sets.specs.declared.deps.Assumption.{Assumption}
use Rattle.proof_steps.specs.declared.step.Statement.{Statement}
use Rattle.proof_steps.specs.Checked.{IsContradiction}
use Rattle.case_journal.specs.FactLaws.{contradiction_is}
use Rattle.case_journal.specs.Ending.{no_assumptions, is_contradiction, states_contradiction}
use Rattle.case_journal.proofs.event.ends_contradictory.Goals as goal

is_empty-from : (c : Clause) → IsEmpty c → is_empty c ≡ true
is_empty-from c h = and_from (no_atoms c.constraint && no_atoms c.antecedent) (no_atoms c.succedent) (and_from (no_atoms c.constraint) (no_atoms c.antecedent) (ap no_atoms h.0) (ap no_atoms h.1)) (ap no_atoms h.2)

-- the test by the two definitions is one
same_test : (b : Bool) (s : Statement) → (IsTrue b → IsContradiction s) → (IsContradiction s → IsTrue b) → b ≡ is_contradiction s
same_test true s there back =
    let h = there refl in
    sym (and_from (is_empty s.clause) (no_assumptions s.deps) (is_empty-from s.clause h.0) (ap no_assumptions h.1))
same_test false s there back = sym (false_from_ne_true (is_contradiction s) (λ t. false≢true (back (contradiction_is s t))))

pub returns-in-Some : goal.returns-in-Some
returns-in-Some c =
    same_test c.is_contradiction.result c.in-Some.last.now.stated c.is_contradiction.ensures.0 c.is_contradiction.ensures.1
    ∙ ap states_contradiction c.in-Some.ensures.value
