use Rattle.std.proofs.Common.{◌++◌}
use Rattle.spl_terms.specs.Clauses.{replace_in_atom}
use Rattle.spl_truth.specs.Truth.{entry}
use Rattle.superposition.specs.Sizes.{entries_from}
use Rattle.superposition.proofs.Refused.{alone}
use Rattle.superposition.proofs.refusing.left.Goals as goal

pub returns : goal.returns
returns c = λ vars made.
    let f = replace_in_atom (entry (entries_from 0 vars made)) in
    alone f (replace_in_atom (entry (entries_from vars vars made))) f (c.args.parts.0.now ++ c.args.parts.1.now)
