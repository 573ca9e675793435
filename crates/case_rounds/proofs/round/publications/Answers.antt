use Rattle.std.proofs.Common.{◌≡◌, ◌∙◌, ◌++◌, map, sym, ap, arith}
use Rattle.std.proofs.lemmas.List.{append-nil}
use Rattle.case_rounds.specs.Events.{publication_of}
use Rattle.case_rounds.proofs.Rows.{none_left}
use Rattle.case_rounds.proofs.round.publications.Goals as goal

pub returns : goal.returns
returns c =
    let v = c.loop-line.invariant in
    let rest = c.loop-line.line-iterator.rest in
    let all : c.args.lines ≡ c.loop-line.yielded =
    v.joined ∙ (ap (λ xs. c.loop-line.yielded ++ xs) (none_left rest.items (omega (arith, c.in-None.ensures.steps.0, rest.ok.0))) ∙ append-nil c.loop-line.yielded) in
    v.made ∙ ap (map (publication_of c.args.view.now)) (sym all)
