use Rattle.std.proofs.Common.{arith}
use Rattle.spl_truth.specs.Truth.{entry}
use Rattle.superposition.specs.Sizes.{entries_from}
use Rattle.superposition.proofs.Counted.{symbols_of_application}
use Rattle.superposition.proofs.counting.+counting.Goals as goal

pub symbols_up_to-returns-in-App : goal.symbols_up_to-returns-in-App
symbols_up_to-returns-in-App t c =
    let a = c.args in
    let parts = symbols_of_application (entry (entries_from a.from a.past a.bindings.now.1)) _ _ _ _ c.in-App.is c.as_slice.ensures in
    let counted = c.symbols_in_up_to.ensures in
    let more = c.if-limit-eq0.false in
    grind (arith, parts, counted, more)
