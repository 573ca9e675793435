use Rattle.std.proofs.Common.{subst}
use Rattle.reductions.specs.Rewriting.{AreIrreducibleAtoms}
use Rattle.reductions.proofs.Stating.{given_none}
use Rattle.reductions.proofs.walking.find_in_part.Goals as goal

pub returns-in-None : goal.returns-in-None
returns-in-None c = subst (AreIrreducibleAtoms c.args.r) c.part.ensures (given_none _ _ _ c.in-None.is c.in_ok-found.ensures.found)
