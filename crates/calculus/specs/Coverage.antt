-- What a set of clauses covers (Weidenbach 2001, the section on reductions).
use Rattle.std.specs.Prelude.{◌≡◌, ◌⊎◌, true}
use Rattle.spl_terms.specs.declared.clause.Clause.{Clause}
use Rattle.spl_truth.specs.Redundancy.{is_tautology}
use Rattle.proof_steps.specs.Covering.{IsSubsumedByOne}
use Rattle.calculus.specs.Reductions.{ReducesBy, ReducesItself}

-- a reduction step by one of these clauses makes e' of e
pub record IsReducedByOne (These : Clause → Type 0) (e e' : Clause) : Type 0 where
  pub by : Clause
  pub among : These by
  pub reduces : ReducesBy by e e'

-- a tautology, or subsumed by one of these clauses; or a reduction step, by one of them or by the clause itself, leads to a
-- clause that is covered
pub data Covered (These : Clause → Type 0) : Clause → Type 0 where
  tautologous : {e : Clause} → is_tautology e ≡ true → Covered These e
  subsumed : {e : Clause} → IsSubsumedByOne These e → Covered These e
  reduced : {e e' : Clause} → IsReducedByOne These e e' ⊎ ReducesItself e e' → Covered These e' → Covered These e
