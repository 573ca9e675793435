use Rattle.std.proofs.Common.{◌≡◌, ◌++◌, take, drop}
use Rattle.formulas.specs.Negations.{signed_form}
use Rattle.normal_form.specs.NormalForm.{clauses_of_form}
use Rattle.normal_form.specs.ClauseSets.{first_big}
use Rattle.normal_form.proofs.forming.add_clauses.Given as goal

abbrev pub invariant-loop-place : goal.invariant-loop-place
invariant-loop-place l = record {
  added : l.clauses ≡ l.fn.clauses ++ take l.place (clauses_of_form l.next (signed_form l.formula l.sign));
  refused : first_big l.entry (drop l.place (clauses_of_form l.next (signed_form l.formula l.sign))) ≡ first_big l.entry (clauses_of_form l.next (signed_form l.formula l.sign));
}
