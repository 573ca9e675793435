use Rattle.journal_laws.proofs.Since.{chosen_held}
use Rattle.journal_laws.proofs.chosen_leaves_are_held.Goals as goal

pub returns : goal.returns
returns c = chosen_held
