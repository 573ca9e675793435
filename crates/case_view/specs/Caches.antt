-- What a view keeps beside its clauses, to find those that may subsume a clause or resolve with one.
use Rattle.std.specs.Prelude.{◌≡◌, ℕ, ◌<◌, List, Some, slice_get}
use Rattle.spl_terms.specs.declared.clause.Clause.{Clause}
use Rattle.spl_truth.specs.Redundancy.{Subsumes}
use Rattle.clause_filing.specs.declared.filing.Entry.{Entry}
use Rattle.clause_filing.specs.Filings.{IsFiledClause, IsFiledUnderAll}
use Rattle.case_view.specs.declared.kept.Kept.{Kept}
use Rattle.case_view.specs.declared.view.CaseView.TheInside.{Inside}
use Rattle.case_view.specs.Views.{IsIn, IsOrdered}

-- each of the first n clauses is filed with its place, under its first atom
abbrev pub AreFiledTo : ℕ → List Kept → List Entry → Type 0
AreFiledTo n list entries = (i : ℕ) (k : Kept) → i < n → slice_get list i ≡ Some k → IsFiledClause entries k.stated.clause i

-- each clause is
abbrev pub AreFiledClauses : List Kept → List Entry → Type 0
AreFiledClauses list entries = (i : ℕ) (k : Kept) → slice_get list i ≡ Some k → IsFiledClause entries k.stated.clause i

-- each of the first n clauses is filed with its place, under all its atoms
abbrev pub AreUnderAllTo : ℕ → List Kept → List Entry → Type 0
AreUnderAllTo n list entries = (i : ℕ) (k : Kept) → i < n → slice_get list i ≡ Some k → IsFiledUnderAll entries k.stated.clause i

abbrev pub AreUnderAll : List Kept → List Entry → Type 0
AreUnderAll list entries = (i : ℕ) (k : Kept) → slice_get list i ≡ Some k → IsFiledUnderAll entries k.stated.clause i

-- ---- subclauses

-- a clause of the list subsumes c
abbrev pub IsSubsumedBy : List Kept → Clause → Type 0
IsSubsumedBy list c = (k : Kept) × IsIn list k × Subsumes k.stated.clause c

-- the clause at place n, if there is one, is not c
abbrev pub IsOther : List Kept → Clause → ℕ → Type 0
IsOther list c n = (k : Kept) → slice_get list n ≡ Some k → ¬ (k.stated.clause ≡ c)

-- ---- views

-- the clauses are in order; those that are listed and worked off are filed
pub record IsView (v : Inside) : Type 0 where
  pub ordered : IsOrdered v.case
  pub clauses : AreFiledClauses v.case.listed v.clauses
  pub literals : AreUnderAll v.case.worked v.literals
