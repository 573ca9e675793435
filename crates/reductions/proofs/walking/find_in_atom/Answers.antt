use Rattle.std.proofs.Common.{ap, sym, ◌∙◌}
use Rattle.spl_terms.specs.Clauses.{atom_terms}
use Rattle.reductions.proofs.Walked.{from_terms}
use Rattle.reductions.proofs.walking.find_in_atom.Goals as goal

pub returns-in_ok-found-in-Holds-clause-found : goal.returns-in_ok-found-in-Holds-clause-found
returns-in_ok-found-in-Holds-clause-found c =
    from_terms c.args.r c.args.atom.now c.as_slice.result.now (ap atom_terms c.in-Holds.is ∙ sym c.as_slice.ensures) c.args.path.now.items c.find_in_arguments.new.path.items _ c.requires.empty c.in_ok-found-in-Holds.ensures.found

pub returns-in_ok-found-in-Equal-clause-found : goal.returns-in_ok-found-in-Equal-clause-found
returns-in_ok-found-in-Equal-clause-found c =
    from_terms c.args.r c.args.atom.now _ (ap atom_terms c.in-Equal.is) c.args.path.now.items c.find_in_sides.new.path.items _ c.requires.empty c.in_ok-found-in-Equal.ensures.found
