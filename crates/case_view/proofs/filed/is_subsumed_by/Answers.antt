use Rattle.std.proofs.Common.{◌∙◌, Some, sym, ap, arith}
use Rattle.std.proofs.lemmas.Option.{slice_get-get_or, slice_get_within}
use Rattle.clause_filing.specs.FilingLaws.{under_first_more}
use Rattle.case_view.specs.Caches.{IsOther}
use Rattle.case_view.proofs.filed.is_subsumed_by.Goals as goal

pub loop-atom-preserved : goal.loop-atom-preserved
loop-atom-preserved c =
    let here = slice_get-get_or c.args.atoms.now c.loop-atom.atom-index c.atom-item.result (omega (arith, c.loop-atom-test.true, c.loop-atom.auto.atom-index-end)) ∙ ap Some (sym c.atom-item.is) in
    let other = IsOther c.args.clauses.now c.args.clause.now in
    under_first_more other other c.args.filing.now c.args.side c.args.atoms.now c.args.mask c.loop-atom.atom-index _ c.atom-item.result (λ v h. h) c.loop-atom.invariant c.if-is_subsumed_at.ensures c.key.ensures here

pub returns : goal.returns
returns c = λ k a at. c.loop-atom.invariant k a (omega (arith, slice_get_within c.args.atoms.now k a at, c.loop-atom-test.false, c.loop-atom.auto.atom-index-end)) at
