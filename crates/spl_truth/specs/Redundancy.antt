-- Clauses that need not be kept: tautologies, and clauses that another one subsumes (Weidenbach 2001, section on
-- reductions).
use Rattle.std.specs.Prelude.{◌≡◌, ℕ, ◌<◌, nat_le, Bool, true, false, ◌||◌, ◌&&◌, List, length, count_by, Some, IsSomeAnd, slice_get}
use Rattle.std.specs.List.{list_any, list_all}
use Rattle.spl_terms.specs.declared.term.Term.{Term}
use Rattle.spl_terms.specs.declared.atom.Atom.{Atom}
use Rattle.spl_terms.specs.declared.atom.Atom.TheVariants.{Holds, Equal}
use Rattle.spl_terms.specs.declared.clause.Part.{Part}
use Rattle.spl_terms.specs.declared.clause.Clause.{Clause}
use Rattle.spl_terms.specs.Terms.{term_eq}
use Rattle.spl_terms.specs.Clauses.{is_same, replace_in_atom, part_of}

abbrev pub has_equal_sides : Atom → Bool
has_equal_sides (Holds p ts) = false
has_equal_sides (Equal s t) = term_eq s t

-- a succedent atom is the same as an antecedent or constraint atom, or is an equation with equal sides
abbrev pub is_tautology : Clause → Bool
is_tautology c = list_any (λ a. list_any (is_same a) c.antecedent || list_any (is_same a) c.constraint || has_equal_sides a) c.succedent

-- ---- mapping lists of atoms

-- each atom becomes, where the variables are replaced, the same as one of the others; two may meet in one
abbrev pub Maps : (by : ℕ → Term) (atoms into : List Atom) → Type 0
Maps by atoms into = (k : ℕ) (a : Atom) → slice_get atoms k ≡ Some a → list_any (is_same (replace_in_atom by a)) into ≡ true

-- each atom becomes the same as the one at its place there; different atoms have different places
pub record MapsApart (by : ℕ → Term) (atoms into : List Atom) : Type 0 where
  pub place : ℕ → ℕ
  pub same : (k : ℕ) (a : Atom) → slice_get atoms k ≡ Some a → IsSomeAnd (slice_get into (place k)) (λ b. is_same (replace_in_atom by a) b ≡ true)
  pub apart : (k l : ℕ) → k < length atoms → l < length atoms → place k ≡ place l → k ≡ l

-- ---- subsumption

-- the relation holds of each part of c and that part of d
abbrev pub EachPart : (List Atom → List Atom → Type 0) → Clause → Clause → Type 0
EachPart R c d = (part : Part) → R (part_of c part) (part_of d part)

-- one substitution maps each part of c into that part of d, different places to different places
pub record Subsumes (c d : Clause) : Type 0 where
  pub by : ℕ → Term
  pub each : EachPart (MapsApart by) c d

-- of these clauses, each with its number, none is subsumed by another one
abbrev pub AreReduced : (ℕ → Clause → Type 0) → Type 0
AreReduced These = (m n : ℕ) (c d : Clause) → These m c → These n d → (m ≡ n → ⊥) → Subsumes c d → ⊥

-- each atom is there as often as here, or more often, up to exchanged sides
abbrev pub is_contained : List Atom → List Atom → Bool
is_contained atoms into = list_all (λ a. nat_le (count_by (is_same a) atoms) (count_by (is_same a) into)) atoms

-- each part of c is contained, as a multiset, in that part of d
abbrev pub is_subclause : Clause → Clause → Bool
is_subclause c d = is_contained c.constraint d.constraint && is_contained c.antecedent d.antecedent && is_contained c.succedent d.succedent
