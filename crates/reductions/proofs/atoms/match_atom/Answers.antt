use Rattle.std.proofs.Common.{subst, sym}
use Rattle.std.specs.List.{list_any}
use Rattle.spl_terms.specs.Clauses.{atom_terms, replace_in_atom}
use Rattle.spl_truth.specs.Unifiers.{occurs}
use Rattle.unify.specs.Matches.{FoundOrNot}
use Rattle.std.proofs.Common.{◌≡◌}
use Rattle.reductions.specs.Folding.{turned_if}
use Rattle.reductions.proofs.AtomMatches.{matched_holds, matched_sides, matched_turned, below_sides}
use Rattle.reductions.proofs.atoms.match_atom.Goals as goal

pub match_both-requires-clause-other : goal.match_both-requires-clause-other
match_both-requires-clause-other c = (below_sides _ _ _ _ c.in-Equal-Equal.is-0 c.requires).1

pub match_both-requires-clause-one : goal.match_both-requires-clause-one
match_both-requires-clause-one c = (below_sides _ _ _ _ c.in-Equal-Equal.is-0 c.requires).0

pub match_both-requires-in-Equal-Equal-clause-one : goal.match_both-requires-in-Equal-Equal-clause-one
match_both-requires-in-Equal-Equal-clause-one c = (below_sides _ _ _ _ c.in-Equal-Equal.is-0 c.requires).0

pub match_both-requires-in-Equal-Equal-clause-other : goal.match_both-requires-in-Equal-Equal-clause-other
match_both-requires-in-Equal-Equal-clause-other c = (below_sides _ _ _ _ c.in-Equal-Equal.is-0 c.requires).1

pub returns-then-turned-clause-found : goal.returns-then-turned-clause-found
returns-then-turned-clause-found c =
    subst (λ t. FoundOrNot (λ g. turned_if t (replace_in_atom g c.args.pattern.now) ≡ c.args.target.now) (λ v. list_any (occurs v) (atom_terms c.args.pattern.now)) c.args.found.now.1 c.match_both.new.found.1 c.in_ok-matches-in-Equal-Equal.matches)
    (sym c.if-turned.true)
    (matched_turned _ _ _ _ _ _ c.in-Equal-Equal.is-0 c.in-Equal-Equal.is-1 _ _ _ c.in_ok-matches-in-Equal-Equal.ensures.found)

pub returns-in_ok-matches-in-Holds-Holds-clause-found : goal.returns-in_ok-matches-in-Holds-Holds-clause-found
returns-in_ok-matches-in-Holds-Holds-clause-found c =
    matched_holds _ _ _ _ _ _ _ _ _ _ _ _ _ c.in-Holds-Holds.is-0 c.in-Holds-Holds.is-1 c.same.ensures c.if-not-same.false c.as_slice.ensures c.as_slice-in-Holds-Holds.ensures c.in_ok-matches-in-Holds-Holds.ensures.found

pub returns-in_ok-matches-in-Equal-Equal-2-clause-found : goal.returns-in_ok-matches-in-Equal-Equal-2-clause-found
returns-in_ok-matches-in-Equal-Equal-2-clause-found c =
    subst (λ t. FoundOrNot (λ g. turned_if t (replace_in_atom g c.args.pattern.now) ≡ c.args.target.now) (λ v. list_any (occurs v) (atom_terms c.args.pattern.now)) c.args.found.now.1 c.match_both-in-Equal-Equal.new.found.1 c.in_ok-matches-in-Equal-Equal-2.matches)
    (sym c.if-turned.false)
    (matched_sides _ _ _ _ _ _ c.in-Equal-Equal.is-0 c.in-Equal-Equal.is-1 _ _ _ c.in_ok-matches-in-Equal-Equal-2.ensures.found)
