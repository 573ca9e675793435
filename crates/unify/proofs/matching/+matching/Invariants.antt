use Rattle.std.proofs.Common.{◌≡◌, ◌+◌, ◌*◌, sum, map, length, take}
use Rattle.std.specs.List.{list_any}
use Rattle.spl_terms.specs.Terms.{term_symbols, replace}
use Rattle.spl_truth.specs.Unifiers.{occurs}
use Rattle.unify.specs.Matches.{IsFound, IsExtended}
use Rattle.unify.proofs.matching.+matching.Given as goal

abbrev pub decreases-match_term : goal.decreases-match_term
decreases-match_term l = 2 * term_symbols l.pattern.now

abbrev pub decreases-match_terms : goal.decreases-match_terms
decreases-match_terms l = 2 * sum (map term_symbols l.patterns.now) + 1

abbrev pub invariant-match_terms-loop-place : goal.invariant-match_terms-loop-place
invariant-match_terms-loop-place l =
    (length l.patterns ≡ length l.targets)
    × IsExtended l.initial.found l.found
    × IsFound (λ g. map (replace g) (take l.place l.patterns) ≡ take l.place l.targets) (λ v. list_any (occurs v) (take l.place l.patterns)) l.initial.found.1 l.found.1
