-- A number for each atom, one number for atoms that are the same up to exchanged sides, under which a builder files its atoms.
-- The multiplier is that of Fowler, Noll and Vo.
use Rattle.std.specs.Prelude.{◌≡◌, ℕ, ◌+◌, ◌*◌, ◌%◌, ◌^◌, ◌≤◌, true, nat_eq, List, map, fold, Some, is_some, slice_get}
use Rattle.std.specs.declared.hash.FoldHasher.{FoldHasher}
use Rattle.std.specs.declared.hash.BuildHasherDefault.{BuildHasherDefault}
use Rattle.std.specs.HashMap.{get, HashMap}
use Rattle.spl_terms.specs.declared.term.Term.{Term, Term-F, fold-Term}
use Rattle.spl_terms.specs.declared.term.Term.TheOpen as layer
use Rattle.spl_terms.specs.declared.atom.Atom.{Atom}
use Rattle.spl_terms.specs.declared.atom.Atom.TheVariants.{Holds, Equal}

-- one more number in a hash, modulo 2^64
unfoldable pub mixed : ℕ → ℕ → ℕ
mixed hash more = ((hash * 1099511628211) % 2 ^ 64 + more) % 2 ^ 64

abbrev pub hash_step : Term-F ℕ → ℕ
hash_step (layer.Var v) = mixed 2 v
hash_step (layer.App f hashes) = fold mixed (mixed 1 f.number) hashes

abbrev pub term_hash : Term → ℕ
term_hash = fold-Term ℕ hash_step

-- the hashes of the sides of an equation are added, since they may be exchanged
abbrev pub atom_hash : Atom → ℕ
atom_hash (Holds p ts) = fold mixed (mixed 3 p.number) (map term_hash ts)
atom_hash (Equal s t) = mixed 4 ((term_hash s + term_hash t) % 2 ^ 64)

-- a place under each hash
abbrev pub Places : Type 0
Places = HashMap ℕ ℕ (BuildHasherDefault FoldHasher)

-- each atom behind the first eight has a place under its hash
abbrev pub AreFiled : List Atom → Places → Type 0
AreFiled atoms places = (k : ℕ) (a : Atom) → 8 ≤ k → slice_get atoms k ≡ Some a → is_some (get nat_eq places (atom_hash a)) ≡ true
