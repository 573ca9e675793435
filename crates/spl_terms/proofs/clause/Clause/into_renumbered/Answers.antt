use Rattle.std.proofs.Common.{◌∙◌}
use Rattle.spl_terms.proofs.NumberLemmas.{renumbered_by}
use Rattle.spl_terms.proofs.clause.Clause.into_renumbered.Goals as goal

pub returns : goal.returns
returns c = renumbered_by c.args.self c.renumber.new.self c.as_slice.result.now (c.as_slice.ensures.value ∙ c.in_ok-order.ensures) c.renumber.ensures
