use Rattle.std.proofs.Common.{◌∙◌, ap, ◌∷◌, [], ◌++◌}
use Rattle.reductions.specs.Rewriting.{IsIrreducible}
use Rattle.reductions.proofs.Stating.{given_some, given_none}
use Rattle.reductions.proofs.Walked.{irreducible-Var, from_arguments, reached_at, here, one_more, at_each}
use Rattle.reductions.proofs.walking.+walking.Goals as goal

pub find_in_arguments-returns-in-Some-clause-found : goal.find_in_arguments-returns-in-Some-clause-found
find_in_arguments-returns-in-Some-clause-found t c =
    reached_at c.args.r c.args.terms.now c.loop-k.k c.index-terms-k.result c.args.path.now.items c.go_into.new.path.items c.find_in_term.new.path.items c.in-Some.s
    (here c.args.terms.now c.loop-k.k c.index-terms-k.result c.loop-k-test.true c.index-terms-k.is)
    (c.in_ok-go_into.ensures ∙ ap (λ l. l ++ c.loop-k.k ∷ []) c.loop-k.invariant.0)
    (given_some _ _ _ _ c.in-Some.is c.in_ok-found.ensures.found)

pub find_in_arguments-loop-k-preserved : goal.find_in_arguments-loop-k-preserved
find_in_arguments-loop-k-preserved t c = (
  c.go_back.ensures c.args.path.now.items c.loop-k.k (given_none _ _ _ c.in_default.is c.in_ok-found.ensures.path ∙ c.in_ok-go_into.ensures ∙ ap (λ l. l ++ c.loop-k.k ∷ []) c.loop-k.invariant.0),
  one_more (IsIrreducible c.args.r) c.args.terms.now c.loop-k.k c.index-terms-k.result (here c.args.terms.now c.loop-k.k c.index-terms-k.result c.loop-k-test.true c.index-terms-k.is) (given_none _ _ _ c.in_default.is c.in_ok-found.ensures.found) c.loop-k.invariant.1,
)

pub find_in_arguments-returns-clause-found : goal.find_in_arguments-returns-clause-found
find_in_arguments-returns-clause-found t c = at_each (IsIrreducible c.args.r) c.args.terms.now c.loop-k.k c.loop-k-test.false c.loop-k.invariant.1

pub find_in_term-returns-in-Var-clause-found : goal.find_in_term-returns-in-Var-clause-found
find_in_term-returns-in-Var-clause-found t c = irreducible-Var c.args.r c.args.term.now c.in-Var.field-0 c.in-Var.is

pub find_in_term-returns-in_ok-found-in-App-clause-found : goal.find_in_term-returns-in_ok-found-in-App-clause-found
find_in_term-returns-in_ok-found-in-App-clause-found t c =
    from_arguments c.args.r c.args.term.now c.in-App.field-0 c.in-App.args c.as_slice.result.now c.in-App.is c.as_slice.ensures c.args.path.now.items c.find_in_arguments.new.path.items _ (given_none _ _ _ c.in_default.is c.in_ok-s-in-App.ensures) c.in_ok-found-in-App.ensures.found
