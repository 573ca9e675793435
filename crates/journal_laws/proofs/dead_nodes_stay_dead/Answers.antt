use Rattle.journal_laws.proofs.Holders.{empty_after}
use Rattle.journal_laws.proofs.dead_nodes_stay_dead.Goals as goal

pub returns : goal.returns
returns c = λ s past e m there dead. (dead.0, empty_after s past e m dead.0 there dead.1)
