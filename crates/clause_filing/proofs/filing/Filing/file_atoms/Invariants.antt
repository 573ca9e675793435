use Rattle.clause_filing.proofs.Entries.{IsFilingAtoms}
use Rattle.clause_filing.proofs.filing.Filing.file_atoms.Given as goal

abbrev pub invariant-loop-atom : goal.invariant-loop-atom
invariant-loop-atom l = IsFilingAtoms l.fn.self l.self l.side l.atoms l.value l.atom-index
