use Rattle.std.proofs.Common.{arith}
use Rattle.spl_symbols.proofs.SkolemNames.{one_is_new}
use Rattle.spl_symbols.proofs.skolem.first_new.Goals as goal

pub unreachable-requires : goal.unreachable-requires
unreachable-requires c =
    one_is_new c.args.signature.now c.args.arity c.args.from c.requires c.names_are_identifiers.ensures.few
    (λ j low high. c.loop-k.invariant j low (omega (arith, high, c.loop-k-test.false)))
