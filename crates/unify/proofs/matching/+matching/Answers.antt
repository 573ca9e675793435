use Rattle.std.proofs.Common.{arith}
use Rattle.unify.proofs.MatchLemmas.{args_smaller, args_below, var_below, match_args, match_Var, extended_twice, item_smaller, item_below, found_next, found_no_more, found_whole}
use Rattle.unify.proofs.matching.+matching.Goals as goal

pub match_term-match_variable-requires : goal.match_term-match_variable-requires
match_term-match_variable-requires t c = var_below _ _ _ c.in-Var.is c.requires

pub match_term-match_terms-requires : goal.match_term-match_terms-requires
match_term-match_terms-requires t c = (omega (arith, c.decreases, args_smaller _ _ _ _ c.in-App.is c.as_slice.ensures), args_below _ _ _ _ _ c.in-App.is c.as_slice.ensures c.requires)

pub match_term-returns-in_ok-matches-in-Var-clause-found : goal.match_term-returns-in_ok-matches-in-Var-clause-found
match_term-returns-in_ok-matches-in-Var-clause-found t c = match_Var c.in-Var.variable _ _ _ _ _ c.in-Var.is c.in_ok-matches-in-Var.ensures.found

pub match_term-returns-in_ok-matches-in-App-target-clause-found : goal.match_term-returns-in_ok-matches-in-App-target-clause-found
match_term-returns-in_ok-matches-in-App-target-clause-found t c = match_args _ _ _ _ _ _ _ _ _ _ _ _ c.in-App.is c.in-App-target.is c.same.ensures c.if-not-same.false c.as_slice.ensures c.as_slice-in-App-target.ensures c.in_ok-matches-in-App-target.ensures.found

pub match_terms-match_term-requires : goal.match_terms-match_term-requires
match_terms-match_term-requires t c = (
  omega (arith, c.decreases, item_smaller c.args.patterns.now c.args.targets.now c.loop-place.place _ _ c.loop-place-test.true (omega (arith, c.loop-place-test.true, c.loop-place.invariant.0)) c.index-patterns-place.is c.index-targets-place.is),
  item_below c.args.patterns.now c.args.targets.now c.loop-place.place _ _ c.loop-place-test.true (omega (arith, c.loop-place-test.true, c.loop-place.invariant.0)) c.index-patterns-place.is c.index-targets-place.is c.args.found.now.0 _ c.loop-place.invariant.1.as_many c.requires,
)

pub match_terms-returns-in_err-match_term-clause-extended : goal.match_terms-returns-in_err-match_term-clause-extended
match_terms-returns-in_err-match_term-clause-extended t c = extended_twice _ _ _ c.loop-place.invariant.1 c.in_err-match_term.ensures.extended

pub match_terms-returns-then-not-branch-clause-found : goal.match_terms-returns-then-not-branch-clause-found
match_terms-returns-then-not-branch-clause-found t c =
    found_no_more c.args.patterns.now c.args.targets.now c.loop-place.place _ _ c.loop-place-test.true (omega (arith, c.loop-place-test.true, c.loop-place.invariant.0)) c.index-patterns-place.is c.index-targets-place.is
    c.args.found.now.1 c.loop-place.found.1 c.match_term.new.found.1 _ c.if-not-branch.true c.loop-place.invariant.2 c.in_ok-match_term.ensures.found

pub match_terms-returns-then-not-branch-clause-extended : goal.match_terms-returns-then-not-branch-clause-extended
match_terms-returns-then-not-branch-clause-extended t c = extended_twice _ _ _ c.loop-place.invariant.1 c.in_ok-match_term.ensures.extended

pub match_terms-loop-place-preserved : goal.match_terms-loop-place-preserved
match_terms-loop-place-preserved t c = (
  c.loop-place.invariant.0,
  extended_twice _ _ _ c.loop-place.invariant.1 c.in_ok-match_term.ensures.extended,
  found_next c.args.patterns.now c.args.targets.now c.loop-place.place _ _ c.loop-place-test.true (omega (arith, c.loop-place-test.true, c.loop-place.invariant.0)) c.index-patterns-place.is c.index-targets-place.is
      c.args.found.now.1 c.loop-place.found.1 c.match_term.new.found.1 _ c.if-not-branch.false c.loop-place.invariant.2 c.in_ok-match_term.ensures.found,
)

pub match_terms-returns-clause-found : goal.match_terms-returns-clause-found
match_terms-returns-clause-found t c = found_whole c.args.patterns.now c.args.targets.now c.loop-place.place _ _ c.loop-place.invariant.0 c.loop-place-test.false c.loop-place.invariant.2
