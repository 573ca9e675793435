-- A premise as the code holds it.
use Rattle.std.specs.Prelude.{◌≡◌, map}
use Rattle.spl_terms.specs.declared.clause.Part.TheVariants.{Antecedent, Succedent}
use Rattle.spl_terms.specs.InOrder.{IsInOrder, variables}
use Rattle.calculus.specs.Inferences.{clause_of, eligible_in, equations_of}
use Rattle.superposition.specs.declared.premises.Premise.{Premise}
use Rattle.superposition.specs.Words.{plain}
use Rattle.superposition.specs.Readings.{reading_of, AreJudged}

-- the clause is in order, and the number of variables, the eligible atoms and the equations are those of the premise
pub record IsPrepared (x : Premise) : Type 0 where
  pub in_order : IsInOrder (clause_of x.kept.now)
  pub variables : x.variables ≡ variables (clause_of x.kept.now)
  pub antecedent : plain x.antecedent.items ≡ eligible_in x.kept.now Antecedent
  pub succedent : plain x.succedent.items ≡ eligible_in x.kept.now Succedent
  pub equations : map reading_of x.equations.items ≡ equations_of x.kept.now
  pub judged : AreJudged x.equations.items
