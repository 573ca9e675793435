use Rattle.std.proofs.Common.{◌∙◌, Some, sym, ap, arith}
use Rattle.std.proofs.lemmas.Option.{slice_get-get_or, slice_get_within}
use Rattle.clause_filing.proofs.Entries.{filing_starts, filing_more}
use Rattle.clause_filing.proofs.filing.Filing.file_atoms.Goals as goal

pub loop-atom-init : goal.loop-atom-init
loop-atom-init c = filing_starts c.args.self.now c.args.side c.args.atoms.now c.args.value

pub loop-atom-preserved : goal.loop-atom-preserved
loop-atom-preserved c =
    let here = slice_get-get_or c.args.atoms.now c.loop-atom.atom-index c.atom-item.result (omega (arith, c.loop-atom-test.true, c.loop-atom.auto.atom-index-end)) ∙ ap Some (sym c.atom-item.is) in
    filing_more c.args.self.now c.loop-atom.self c.file.new.self c.args.side c.args.atoms.now c.args.value c.loop-atom.atom-index _ c.atom-item.result c.loop-atom.invariant c.in_ok-file.ensures.added c.key.ensures here

pub returns-clause-atoms : goal.returns-clause-atoms
returns-clause-atoms c = λ k a at. c.loop-atom.invariant.filed k a (omega (arith, slice_get_within c.args.atoms.now k a at, c.loop-atom-test.false, c.loop-atom.auto.atom-index-end)) at
