-- How many symbols conclusions have without their repeated atoms, and what is said of them before a unifier is written out.
use Rattle.std.specs.Prelude.{◌≡◌, ℕ, ◌<◌, ⊤, min, List, [], ◌∷◌, ◌++◌, map, length, take, drop, sum_by, Option, Some}
use Rattle.spl_terms.specs.declared.term.Term.{Term}
use Rattle.spl_terms.specs.declared.atom.Atom.{Atom}
use Rattle.spl_terms.specs.declared.atom.Atom.TheVariants.{Equal}
use Rattle.spl_terms.specs.declared.clause.Spot.{Spot}
use Rattle.spl_terms.specs.declared.clause.Clause.{Clause}
use Rattle.spl_terms.specs.Terms.{replace}
use Rattle.spl_terms.specs.Clauses.{atom_symbols, clause_symbols, part_of, distinct, in_order, replace_in_atom}
use Rattle.spl_terms.specs.declared.clause.Part.TheVariants.{Antecedent, Succedent}
use Rattle.spl_truth.specs.Truth.{entry, apply}
use Rattle.spl_truth.specs.Unifiers.{entries_below}
use Rattle.proof_steps.specs.Spots.{with_term_at}
use Rattle.proof_steps.specs.Steps.{without, joined}
use Rattle.calculus.specs.Inferences.{clause_of}
use Rattle.superposition.specs.declared.building.Literals.{Literals}
use Rattle.superposition.specs.declared.pairs.Pair.{Pair}
use Rattle.superposition.specs.declared.sizing.Origins.{Origins}
use Rattle.unify.specs.Bindings.{substitution}
use Rattle.superposition.specs.declared.error.InferError.{InferError}
use Rattle.superposition.specs.declared.error.InferError.TheVariants.{Big, Memory}

-- ---- refusals

-- the conclusion in order has more than 4,096 symbols, namely so many, or 1,000,000 where there are more
abbrev pub IsTooBig : ℕ → Clause → Type 0
IsTooBig symbols c = (4096 < clause_symbols (in_order c)) × (symbols ≡ min (clause_symbols (in_order c)) 1000000)

-- `Big` only where the conclusion is so big; want of memory is free
abbrev pub Refuses : Clause → InferError → Type 0
Refuses c (Big symbols) = IsTooBig symbols c
Refuses c Memory = ⊤

-- `Big` only where there is a unifier by which the conclusion is so big; want of memory is free
abbrev pub RefusesBy : Option (List Term) → (List Term → Clause) → InferError → Type 0
RefusesBy o conclusion (Big symbols) = (u : List Term) × (o ≡ Some u) × IsTooBig symbols (conclusion u)
RefusesBy o conclusion Memory = ⊤

-- ---- conclusions by a unifier, before they are brought into order

-- both places are there
pub record StandIn (pair : Pair) (literals : Literals) : Type 0 where
  pub i : literals.i < length (clause_of pair.p.now).succedent
  pub j : literals.j < length (part_of (clause_of pair.q.now) literals.part)

abbrev pub resolvent_by : Pair → Literals → List Term → Clause
resolvent_by pair literals u =
    joined (apply (take pair.first u) (without Succedent literals.i (clause_of pair.p.now))) (apply (drop pair.first u) (without literals.part literals.j (clause_of pair.q.now)))

abbrev pub paramodulant_by : Pair → ℕ → Spot → Term → List Term → Clause
paramodulant_by pair i spot by u =
    joined (apply (take pair.first u) (without Succedent i (clause_of pair.p.now))) (with_term_at spot (replace (entry (take pair.first u)) by) (apply (drop pair.first u) (clause_of pair.q.now)))

-- without an equation of the antecedent
abbrev pub reflected_by : Clause → ℕ → List Term → Clause
reflected_by p j u = apply u (without Antecedent j p)

-- without an equation of the succedent, and with the right sides of both at the end of the antecedent
abbrev pub compared : Clause → ℕ → Term → Term → Clause
compared p i left right = (let c = without Succedent i p in record c { antecedent = c.antecedent ++ Equal left right ∷ [] })

-- ---- counts

-- what the variables from one on and below another stand for
abbrev pub entries_from : ℕ → ℕ → List (ℕ × Term) → List Term
entries_from from past made = drop from (entries_below past (substitution made))

-- so many symbols, or more than that where both are 1,000,000 or more
abbrev pub Counts : ℕ → List Atom → Type 0
Counts n atoms = min n 1000000 ≡ min (sum_by atom_symbols atoms) 1000000

-- the count is that of the atoms without repeated ones, which are kept as long as they have fewer than 1,000,000 symbols
pub record AreCounted (n : ℕ) (kept atoms : List Atom) : Type 0 where
  pub counts : Counts n (distinct atoms)
  pub whole : n < 1000000 → kept ≡ distinct atoms

-- the atoms of a part by the bindings
abbrev pub atoms_by : ℕ → ℕ → List (ℕ × Term) → Origins → List Atom
atoms_by first both made x =
    map (replace_in_atom (entry (entries_from 0 first made))) (x.before.now ++ x.behind.now)
    ++ (map (replace_in_atom (entry (entries_from first both made))) x.others.now
    ++ (map (replace_in_atom (entry (entries_from 0 both made))) x.changed.now
    ++ map (replace_in_atom (entry (entries_from first both made))) x.rest.now))
