use Rattle.std.proofs.Common.{◌≡◌, IfOk, subst}
use Rattle.spl_terms.specs.Clauses.{renumbered}
use Rattle.spl_terms.proofs.NumberLemmas.{made_in_order}
use Rattle.spl_terms.proofs.clause.Clause.into_ordered.Goals as goal

pub returns-clause-ordered : goal.returns-clause-ordered
returns-clause-ordered c = made_in_order c.args.self c.into_renumbered.result (subst (λ kept. IfOk c.into_renumbered.result (λ made. made ≡ renumbered kept)) c.drop_repeats.ensures c.into_renumbered.ensures)
