use Rattle.reductions.proofs.AtomMatches.{grown_twice, then_found}
use Rattle.reductions.proofs.atoms.match_both.Goals as goal

pub returns-in_err-matches-clause-extended : goal.returns-in_err-matches-clause-extended
returns-in_err-matches-clause-extended c = grown_twice _ _ _ c.in_ok-match_term.ensures.extended c.in_err-matches.ensures.extended

pub returns-clause-found : goal.returns-clause-found
returns-clause-found c = then_found _ _ _ _ _ _ _ _ _ c.if-not-branch.false c.in_ok-match_term.ensures.found c.in_ok-matches.ensures.found

pub returns-clause-extended : goal.returns-clause-extended
returns-clause-extended c = grown_twice _ _ _ c.in_ok-match_term.ensures.extended c.in_ok-matches.ensures.extended
