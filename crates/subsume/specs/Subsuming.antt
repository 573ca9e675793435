-- What is answered where one clause subsumes another (Weidenbach 2001, the section on reductions).
use Rattle.std.specs.Prelude.{◌≡◌, List, length}
use Rattle.spl_terms.specs.declared.term.Term.{Term}
use Rattle.spl_terms.specs.declared.clause.Clause.{Clause}
use Rattle.spl_terms.specs.InOrder.{variables}
use Rattle.spl_truth.specs.Truth.{entry}
use Rattle.spl_truth.specs.Redundancy.{MapsApart, EachPart}

-- c subsumes d by these entries, one for each variable of c
pub record SubsumesBy (c d : Clause) (entries : List Term) : Type 0 where
  pub as_many : length entries ≡ variables c
  pub maps : EachPart (MapsApart (entry entries)) c d
