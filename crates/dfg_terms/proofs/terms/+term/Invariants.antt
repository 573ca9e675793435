use Rattle.std.proofs.Common.{◌≡◌, ◌-◌, ◌+◌, ◌*◌, [], length}
use Rattle.dfg_terms.specs.Reading.{commas}
use Rattle.dfg_terms.specs.Terms.{keeping, term_in}
use Rattle.dfg_terms.proofs.terms.+term.Given as goal

abbrev pub decreases-term_within : goal.decreases-term_within
decreases-term_within l = 4 * l.depth

abbrev pub decreases-application : goal.decreases-application
decreases-application l = 4 * l.depth + 3

abbrev pub decreases-arguments : goal.decreases-arguments
decreases-arguments l = 4 * l.depth + 2

abbrev pub decreases-terms : goal.decreases-terms
decreases-terms l = 4 * l.depth + 1

abbrev pub invariant-terms-loop-i : goal.invariant-terms-loop-i
invariant-terms-loop-i l = commas (keeping l.declared (term_in l.context l.depth)) (length l.context.bytes.now - l.i) (l.terms, l.i) l.tokens ≡ commas (keeping l.declared (term_in l.context l.depth)) (length l.context.bytes.now) ([], 0) l.fn.tokens
