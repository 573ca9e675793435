-- The laws: the clauses of the normal form stand for the formulas, and there are as many as are counted.
use Rattle.std.specs.Prelude.{◌≡◌, ℕ, Bool, true, false, ◌&&◌, nat_lt, List, Contains, length}
use Rattle.std.specs.List.{list_all}
use Rattle.spl_terms.specs.declared.term.Term.{Term, Term-F, fold-Term}
use Rattle.spl_terms.specs.declared.term.Term.TheOpen as term_layer
use Rattle.spl_terms.specs.declared.atom.Atom.{Atom}
use Rattle.spl_terms.specs.Clauses.{atom_terms}
use Rattle.formulas.specs.declared.tree.Tree.{Tree}
use Rattle.formulas.specs.Bindings.{is_free, bindings, all_distinct}
use Rattle.formulas.specs.AtomTests.{all_atoms}
use Rattle.formulas.specs.Negations.{Form}
use Rattle.formulas.specs.Counts.{clause_count}
use Rattle.normal_form.specs.NormalForm.{clauses_of_form, normal_form}
use Rattle.normal_form.specs.Structures.{StandFor}

abbrev pub old_term_step : ℕ → Term-F Bool → Bool
old_term_step next (term_layer.Var v) = true
old_term_step next (term_layer.App f bs) = nat_lt f.number next && list_all (λ b. b) bs

-- whether each symbol of the term has a smaller number
abbrev pub is_old_term : ℕ → Term → Bool
is_old_term next = fold-Term Bool (old_term_step next)

abbrev pub is_old_atom : ℕ → Atom → Bool
is_old_atom next a = list_all (is_old_term next) (atom_terms a)

-- whether each function of the formula has a smaller number
abbrev pub is_old : ℕ → Tree → Bool
is_old next = all_atoms (is_old_atom next)

-- no variable is free in the formula, no two bindings have one number, and its functions have smaller numbers than the Skolem
-- symbols
pub record IsFormula (next : ℕ) (f : Tree) : Type 0 where
  pub closed : (v : ℕ) → is_free v f ≡ false
  pub different : all_distinct (bindings f) ≡ true
  pub old : is_old next f ≡ true

abbrev pub ClausesStand : Type 0
ClausesStand = (next : ℕ) (fs : List Tree) → ((f : Tree) → Contains fs f → IsFormula next f) → StandFor next (normal_form next fs) fs

abbrev pub ClausesAreCounted : Type 0
ClausesAreCounted = (next : ℕ) (f : Form) → length (clauses_of_form next f) ≡ clause_count f
