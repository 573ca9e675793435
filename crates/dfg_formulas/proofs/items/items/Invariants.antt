use Rattle.std.proofs.Common.{◌≡◌, ◌-◌, ◌≤◌, [], length, take}
use Rattle.dfg_terms.specs.Reading.{commas}
use Rattle.dfg_formulas.specs.Formulas.{adding_item}
use Rattle.dfg_formulas.proofs.items.items.Given as goal

abbrev pub invariant-loop-i : goal.invariant-loop-i
invariant-loop-i l =
    (commas (adding_item l.text.bytes.now l.text.symbols.now l.first) (length l.text.bytes.now - l.i) ((l.scope, l.i), l.sorts) l.tokens ≡ commas (adding_item l.text.bytes.now l.text.symbols.now l.first) (length l.text.bytes.now) ((l.fn.scope, 0), []) l.fn.tokens)
    × (take (length l.fn.scope) l.scope ≡ l.fn.scope) × (length l.fn.scope ≤ length l.scope)
