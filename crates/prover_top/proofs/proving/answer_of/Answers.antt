use Rattle.std.proofs.Common.{ap, ◌∙◌, Some}
use Rattle.prover_top.proofs.Ends.{completed_there}
use Rattle.prover_top.proofs.proving.answer_of.Goals as goal

pub kept_count-requires : goal.kept_count-requires
kept_count-requires c = completed_there c.args.table.now c.requires.legal c.in-Completed.node (c.requires.ended ∙ ap Some c.in-Completed.is)
