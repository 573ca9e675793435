use Rattle.std.proofs.Common.{◌∙◌, Some, sym, ap, arith}
use Rattle.std.proofs.lemmas.Option.{slice_get-get_or, slice_get_within}
use Rattle.clause_filing.proofs.Finding.{adding_of_starts, adding_of_more}
use Rattle.clause_filing.proofs.filing.Filing.add_values_of.Goals as goal

pub loop-atom-init : goal.loop-atom-init
loop-atom-init c = adding_of_starts c.args.self.now c.args.side c.args.atoms.now c.args.mask c.args.values.now.items

pub loop-atom-preserved : goal.loop-atom-preserved
loop-atom-preserved c =
    let here = slice_get-get_or c.args.atoms.now c.loop-atom.atom-index c.atom-item.result (omega (arith, c.loop-atom-test.true, c.loop-atom.auto.atom-index-end)) ∙ ap Some (sym c.atom-item.is) in
    let e = c.in_ok-add_values.ensures in
    adding_of_more c.args.self.now c.args.side c.args.atoms.now c.args.mask c.args.values.now.items c.loop-atom.values.items c.add_values.new.values.items c.loop-atom.atom-index _ c.atom-item.result c.loop-atom.invariant e.adds e.all c.key.ensures here

pub returns-clause-all : goal.returns-clause-all
returns-clause-all c = λ k a at. c.loop-atom.invariant.all k a (omega (arith, slice_get_within c.args.atoms.now k a at, c.loop-atom-test.false, c.loop-atom.auto.atom-index-end)) at
