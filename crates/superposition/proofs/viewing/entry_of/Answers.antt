use Rattle.std.proofs.Common.{◌≡◌, ◌<◌, ◌+◌, IfOk, sym, subst, arith}
use Rattle.superposition.proofs.Counted.{entry_there, entry_past}
use Rattle.superposition.proofs.viewing.entry_of.Goals as goal

pub returns-then-variable-saturating_sub : goal.returns-then-variable-saturating_sub
returns-then-variable-saturating_sub c = sym (entry_past c.args.from c.args.past c.args.variable c.args.bindings.now.1 (omega (arith, c.saturating_sub.ensures, c.if-variable-saturating_sub.true)))

pub returns : goal.returns
returns c =
    let a = c.args in
    let within : a.from + a.variable < a.past = omega (arith, c.saturating_sub.ensures, c.if-variable-saturating_sub.false) in
    subst (λ t. IfOk c.applied_entry.result (λ made. made ≡ t)) (sym (entry_there a.from a.past a.variable a.bindings.now.1 within)) c.applied_entry.ensures
