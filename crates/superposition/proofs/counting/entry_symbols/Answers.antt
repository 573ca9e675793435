use Rattle.std.proofs.Common.{◌≤◌, ◌<◌, ◌+◌, min, sym, ap, subst, arith}
use Rattle.spl_terms.specs.Terms.{term_symbols}
use Rattle.superposition.proofs.Counted.{entry_there}
use Rattle.superposition.proofs.counting.entry_symbols.Goals as goal

pub returns : goal.returns
returns c =
    let a = c.args in
    let within : a.from + a.variable < a.past = omega (arith, c.saturating_sub.ensures, c.if-variable-saturating_sub.false) in
    subst (λ n. c.entry_symbols.result ≤ min n a.limit) (sym (ap term_symbols (entry_there a.from a.past a.variable a.bindings.now.1 within))) (omega (arith, c.entry_symbols.ensures))
