use Rattle.std.proofs.Common.{◌∙◌}
use Rattle.case_view.proofs.Searches.{among_found}
use Rattle.case_view.proofs.walking.is_among.Goals as goal

pub returns : goal.returns
returns c = c.is_ok.ensures.value ∙ among_found c.args.nodes.now c.args.node c.binary_search.result c.requires c.binary_search.ensures.position
