use Rattle.std.proofs.Common.{◌∙◌, sym}
use Rattle.spl_truth.proofs.Replacing.{copied, no_items}
use Rattle.spl_truth.proofs.replace.applied_clause.Goals as goal

pub returns-then-is_empty : goal.returns-then-is_empty
returns-then-is_empty c =
    copied c.args.entries.now c.args.clause.now c.copy.result (no_items c.args.entries.now (sym c.is_empty.ensures ∙ c.if-is_empty.true)) c.copy.ensures
