use Rattle.unify.proofs.FittingLemmas.{arguments_uncovered}
use Rattle.spl_terms.specs.declared.term.Term.{App}
use Rattle.unify.proofs.AnswerLemmas.{application_has}
use Rattle.unify.proofs.MatchLemmas.{matched_with, not_matched_with, at_head}
use Rattle.unify.proofs.matching.match_arguments.Goals as goal

pub returns-then-branch : goal.returns-then-branch
returns-then-branch c = λ head. matched_with c.args.vars (App head c.args.patterns.now) (App head c.args.targets.now) c.in_ok-found.found c.match_terms.new.found _ _ (application_has _ head _ c.requires) c.in_ok-found.ensures c.in_ok-entries.ensures c.if-branch.true (at_head head _ _ _ _ _ c.in_ok-match_terms.ensures.found)

pub returns : goal.returns
returns c = λ head. not_matched_with c.args.vars (App head c.args.patterns.now) (App head c.args.targets.now) c.in_ok-found.found c.match_terms.new.found _ c.in_ok-found.ensures c.if-branch.false (at_head head _ _ _ _ _ c.in_ok-match_terms.ensures.found)

pub returns-then-not-all_cover : goal.returns-then-not-all_cover
returns-then-not-all_cover c = λ head. arguments_uncovered head c.args.patterns.now c.args.targets.now _ c.all_cover.ensures c.if-not-all_cover.true
