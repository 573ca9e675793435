use Rattle.std.proofs.Common.{◌≡◌, ◌∙◌, sym, Some, refl}
use Rattle.spl_symbols.specs.Symbols.{found}
use Rattle.spl_symbols.proofs.Found.{again}
use Rattle.spl_symbols.proofs.table.Signature.name.Goals as goal

pub returns-in-Some-clause-again : goal.returns-in-Some-clause-again
returns-in-Some-clause-again c =
    let there = again c.self.inside.names.entries c.args.symbol.number c.in-Some.name.now c.in-Some.field-0-1.now c.self.invariant.1 (sym c.in-Some.ensures.entry) in
    let here : found c.as_str.result.now c.args.self.now ≡ Some (record { number = c.args.symbol.number; kind = c.in-Some.field-0-1.now.kind }) =
    (λ i. found (c.as_str.ensures.value i) (sym c.self.view_is i)) ∙ there in
    rw here refl
