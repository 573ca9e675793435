use Rattle.std.proofs.Common.{◌∙◌, sym}
use Rattle.spl_truth.specs.SubsumptionLaws.{subclause_subsumes}
use Rattle.spl_truth.proofs.redundancy.is_subclause.Goals as goal

pub returns-clause-subsumes : goal.returns-clause-subsumes
returns-clause-subsumes c e = subclause_subsumes c.args.clause.now c.args.other.now (sym c.contains_parts.ensures ∙ e)
