use Rattle.std.proofs.Common.{◌≡◌, ◌-◌, ◌+◌, ◌*◌, [], length}
use Rattle.dfg_terms.specs.Reading.{commas}
use Rattle.dfg_formulas.specs.Formulas.{adding_part, formula_at}
use Rattle.dfg_formulas.proofs.reader.+formula.Given as goal

abbrev pub decreases-formula_within : goal.decreases-formula_within
decreases-formula_within l = 9 * l.level.depth

abbrev pub decreases-from_connective : goal.decreases-from_connective
decreases-from_connective l = 9 * l.level.depth + 8

abbrev pub decreases-connected : goal.decreases-connected
decreases-connected l = 9 * l.level.depth + 7

abbrev pub decreases-inside : goal.decreases-inside
decreases-inside l = 9 * l.level.depth + 6

abbrev pub decreases-negation : goal.decreases-negation
decreases-negation l = 9 * l.level.depth + 5

abbrev pub decreases-several : goal.decreases-several
decreases-several l = 9 * l.level.depth + 5

abbrev pub decreases-pair : goal.decreases-pair
decreases-pair l = 9 * l.level.depth + 5

abbrev pub decreases-quantification : goal.decreases-quantification
decreases-quantification l = 9 * l.level.depth + 5

abbrev pub decreases-several_parts : goal.decreases-several_parts
decreases-several_parts l = 9 * l.level.depth + 4

abbrev pub invariant-several_parts-loop : goal.invariant-several_parts-loop
invariant-several_parts-loop l =
    (l.scope ≡ l.fn.scope)
    × (commas (adding_part (formula_at l.text.bytes.now l.text.symbols.now l.level.depth l.level.shape) l.fn.scope) (length l.text.bytes.now - l.counter) (l.found, l.number) l.tokens ≡ commas (adding_part (formula_at l.text.bytes.now l.text.symbols.now l.level.depth l.level.shape) l.fn.scope) (length l.text.bytes.now) ([], l.next) l.fn.tokens)
