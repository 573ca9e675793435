use Rattle.std.proofs.Common.{Ok, ◌++◌, ◌∷◌, [], ◌∙◌, sym, ap, subst}
use Rattle.proof_steps.specs.Spots.{term_under}
use Rattle.superposition.specs.Appending.{Appended}
use Rattle.superposition.specs.AppendingLaws.{nothing}
use Rattle.superposition.specs.Walks.{IsUpperAt, raised_atom}
use Rattle.superposition.proofs.Skipped.{side_skipped}
use Rattle.superposition.proofs.Walked.{argument_below}
use Rattle.superposition.proofs.rewriting.superpose_in_side.Goals as goal

pub returns-in-Lower : goal.returns-in-Lower
returns-in-Lower c =
    let a = c.args in
    subst (λ l. Appended l a.out.now.items a.out.now.items (Ok (tt {0})))
    (side_skipped a.r a.side a.term.now c.requires.ready.atom (c.requires.side.lower c.in-Lower.is))
    (nothing a.out.now.items (tt {0}))

pub superpose_in_term-requires-clause-stands : goal.superpose_in_term-requires-clause-stands
superpose_in_term-requires-clause-stands c =
    ap (λ p. term_under p (raised_atom c.args.r)) (c.in_ok-go_into.ensures ∙ ap (λ p. p ++ c.args.side ∷ []) c.new-path.ensures.items) ∙ c.requires.side.stands

pub superpose_in_term-requires-clause-upper : goal.superpose_in_term-requires-clause-upper
superpose_in_term-requires-clause-upper c =
    subst (IsUpperAt c.args.r) (sym (c.in_ok-go_into.ensures ∙ ap (λ p. p ++ c.args.side ∷ []) c.new-path.ensures.items)) c.requires.side.upper

pub returns : goal.returns
returns c =
    let a = c.args in
    subst (λ l. Appended l a.out.now.items c.superpose_in_term.new.out.items c.superpose_in_term.result)
    (argument_below a.r [] c.go_into.new.path.items a.side a.term.now (c.in_ok-go_into.ensures ∙ ap (λ p. p ++ a.side ∷ []) c.new-path.ensures.items))
    c.superpose_in_term.ensures.appended
