use Rattle.std.proofs.Common.{◌≡◌, true, take}
use Rattle.std.specs.List.{list_any}
use Rattle.spl_terms.specs.Clauses.{is_same}
use Rattle.reductions.proofs.noting.place_of.Given as goal

abbrev pub invariant-loop-place : goal.invariant-loop-place
invariant-loop-place l = list_any (is_same l.atom) (take l.place l.atoms) ≡ true → ⊥
