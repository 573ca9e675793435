use Rattle.clause_filing.proofs.Finding.{IsAddingOf}
use Rattle.clause_filing.proofs.filing.Filing.add_values_of.Given as goal

abbrev pub invariant-loop-atom : goal.invariant-loop-atom
invariant-loop-atom l = IsAddingOf l.self l.side l.atoms l.mask l.fn.values.items l.values.items l.atom-index
