use Rattle.std.proofs.Common.{arith}
use Rattle.unify.proofs.TriangularLemmas.{size_at_variable, size_at_arguments}
use Rattle.unify.proofs.triangular.+counting.Goals as goal

pub symbols_up_to-returns-in-Var : goal.symbols_up_to-returns-in-Var
symbols_up_to-returns-in-Var t c =
    let one = size_at_variable _ _ c.requires _ _ _ c.in-Var.is c.dereferenced.ensures.free c.dereferenced.ensures.same in
    let more = c.if-limit-eq0.false in
    grind (arith, one, more)

pub symbols_up_to-returns-in-App : goal.symbols_up_to-returns-in-App
symbols_up_to-returns-in-App t c =
    let parts = size_at_arguments c.args.bindings.now.1 _ _ _ _ _ c.in-App.is c.as_slice.ensures c.dereferenced.ensures.same in
    let counted = c.symbols_in_up_to.ensures in
    let more = c.if-limit-eq0.false in
    grind (arith, parts, counted, more)
