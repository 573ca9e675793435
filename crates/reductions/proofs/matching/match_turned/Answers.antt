use Rattle.std.proofs.Common.{◌≡◌}
use Rattle.spl_terms.specs.Clauses.{atom_terms, replace_in_atom}
use Rattle.reductions.specs.Folding.{turned_if}
use Rattle.reductions.proofs.Mapping.{matched_entries}
use Rattle.reductions.proofs.matching.match_turned.Goals as goal

pub returns-then-branch : goal.returns-then-branch
returns-then-branch c =
    matched_entries c.args.vars (λ g. turned_if c.args.turned (replace_in_atom g c.args.pattern.now) ≡ c.args.target.now) (atom_terms c.args.pattern.now) c.in_ok-found.found c.match_atom.new.found _ c.in_ok-entries.field-0.terms
    c.in_ok-found.ensures c.if-branch.true c.requires c.in_ok-match_atom.ensures.found c.in_ok-entries.ensures
