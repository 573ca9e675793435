use Rattle.std.proofs.Common.{◌≡◌, ◌+◌, ◌*◌, drop, map}
use Rattle.std.specs.Prelude.{sum}
use Rattle.std.specs.List.{flat_map, enumerate_from}
use Rattle.spl_terms.specs.Terms.{term_symbols}
use Rattle.superposition.specs.Walks.{rewrite_argument}
use Rattle.superposition.proofs.Composing.{LeadsOn}
use Rattle.superposition.proofs.rewriting.+walking.Given as goal

-- what comes of the other arguments comes of all, and the path is as before
abbrev pub invariant-superpose_in_arguments-loop-k : goal.invariant-superpose_in_arguments-loop-k
invariant-superpose_in_arguments-loop-k l =
    LeadsOn (flat_map (rewrite_argument l.r l.fn.path.items) (enumerate_from 0 l.terms)) l.fn.out.items
    (flat_map (rewrite_argument l.r l.fn.path.items) (drop l.k (enumerate_from 0 l.terms))) l.out.items
    × (l.path.items ≡ l.fn.path.items)

abbrev pub decreases-superpose_in_term : goal.decreases-superpose_in_term
decreases-superpose_in_term l = 2 * term_symbols l.term.now

abbrev pub decreases-superpose_in_arguments : goal.decreases-superpose_in_arguments
decreases-superpose_in_arguments l = 2 * sum (map term_symbols l.terms.now) + 1
