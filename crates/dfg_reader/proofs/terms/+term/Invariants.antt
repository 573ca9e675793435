use Rattle.std.proofs.Common.{◌≡◌, ◌-◌, ◌+◌, ◌*◌, length}
use Rattle.dfg_reader.specs.Reading.{adding, commas}
use Rattle.dfg_reader.specs.Terms.{term_at, terms_at}
use Rattle.dfg_reader.proofs.terms.+term.Given as goal

abbrev pub decreases-term : goal.decreases-term
decreases-term l = 4 * l.depth

abbrev pub decreases-application : goal.decreases-application
decreases-application l = 4 * l.depth + 3

abbrev pub decreases-arguments : goal.decreases-arguments
decreases-arguments l = 4 * l.depth + 2

abbrev pub decreases-terms : goal.decreases-terms
decreases-terms l = 4 * l.depth + 1

abbrev pub invariant-terms-loop : goal.invariant-terms-loop
invariant-terms-loop l = commas (adding (term_at l.bytes l.symbols l.depth)) (length l.tokens - l.counter) l.terms l.rest ≡ terms_at (term_at l.bytes l.symbols l.depth) l.tokens
