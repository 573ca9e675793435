use Rattle.std.proofs.Common.{sym, ◌∙◌}
use Rattle.unify.proofs.FittingLemmas.{uncovered}
use Rattle.unify.proofs.MatchLemmas.{matched_with, not_matched_with}
use Rattle.unify.proofs.matching.match_into.Goals as goal

pub returns-then-branch : goal.returns-then-branch
returns-then-branch c = matched_with _ _ _ c.in_ok-found.found c.match_term.new.found _ _ c.requires c.in_ok-found.ensures c.in_ok-entries.ensures c.if-branch.true c.in_ok-match_term.ensures.found

pub returns : goal.returns
returns c = not_matched_with c.args.vars _ _ c.in_ok-found.found c.match_term.new.found _ c.in_ok-found.ensures c.if-branch.false c.in_ok-match_term.ensures.found

pub returns-then-not-covers : goal.returns-then-not-covers
returns-then-not-covers c = uncovered c.args.pattern.now c.args.target.now (sym c.covers.ensures ∙ c.if-not-covers.true)
