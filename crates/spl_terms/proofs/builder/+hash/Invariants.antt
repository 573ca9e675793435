use Rattle.std.proofs.Common.{◌≡◌, fold, map, drop}
use Rattle.spl_terms.specs.Hashes.{mixed, term_hash}
use Rattle.spl_terms.proofs.builder.+hash.Given as goal

-- what is mixed in and what is left make the whole
abbrev pub invariant-with_terms-loop-term : goal.invariant-with_terms-loop-term
invariant-with_terms-loop-term l = fold mixed l.hash (map term_hash (drop l.term-index l.terms)) ≡ fold mixed l.start (map term_hash l.terms)
