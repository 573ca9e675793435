use Rattle.std.proofs.Common.{sym, arith}
use Rattle.reductions.proofs.Judged.{lighter_never}
use Rattle.reductions.proofs.walking.is_greater_than.Goals as goal

pub returns-then-applied_symbols-size : goal.returns-then-applied_symbols-size
returns-then-applied_symbols-size c = sym (lighter_never _ _ (omega (arith, c.symbols-size.ensures, c.applied_symbols.ensures, c.if-applied_symbols-size.true, c.if-size-gt4294967295.false)))
