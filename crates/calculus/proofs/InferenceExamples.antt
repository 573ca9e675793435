-- The inferences of small clauses, computed: each list is whole, in its order.
use Rattle.std.proofs.Common.{◌≡◌, true, false, [], ◌∷◌}
use Rattle.spl_terms.specs.declared.term.Term.{Term, Var}
use Rattle.spl_terms.specs.declared.atom.Atom.{Atom}
use Rattle.spl_terms.specs.declared.atom.Atom.TheVariants.{Equal}
use Rattle.spl_terms.specs.declared.clause.Part.TheVariants.{Constraint, Antecedent, Succedent}
use Rattle.spl_terms.specs.declared.clause.Clause.{Clause}
use Rattle.proof_steps.specs.declared.step.Rule.TheVariants.{Resolve, Factor, Paramodulate, Reflex, EqFactor}
use Rattle.proof_steps.specs.declared.step.Line.{Line}
use Rattle.calculus.specs.declared.kept.Kept.{Kept}
use Rattle.calculus.specs.Inferences.{eligible_in, resolve, paths_of, pair_inferences, inferences}
use Rattle.calculus.proofs.Words.{computes, function, predicate, sort_atom, x, y, clause, premise, selecting, by, line}

-- ---- words

abbrev a : Term
a = function 0 []

abbrev b : Term
b = function 1 []

abbrev f : Term → Term
f t = function 2 (t ∷ [])

abbrev p : Term → Atom
p t = predicate 3 (t ∷ [])

abbrev p2 : Term → Term → Atom
p2 s t = predicate 4 (s ∷ t ∷ [])

-- ---- resolution: all men are mortal, and Socrates isn't

abbrev socrates : Term
socrates = function 0 []

abbrev human : Term → Atom
human t = predicate 1 (t ∷ [])

abbrev mortal : Term → Atom
mortal t = predicate 2 (t ∷ [])

abbrev all_mortal : Kept
all_mortal = premise 1 (clause [] (human x ∷ []) (mortal x ∷ []))

abbrev immortal : Kept
immortal = premise 3 (clause [] (mortal socrates ∷ []) [])

-- of the two atoms only the greater one is eligible
pub example_eligible : eligible_in all_mortal Succedent ≡ (0, mortal x) ∷ []
example_eligible = simp computes

pub example_not_eligible : eligible_in all_mortal Antecedent ≡ []
example_not_eligible = simp computes

eligible_immortal : eligible_in immortal Antecedent ≡ (0, mortal socrates) ∷ []
eligible_immortal = simp computes

abbrev inhuman : Line
inhuman = line (Resolve 0 Antecedent 0 (by (socrates ∷ [])) (by [])) (1 ∷ 3 ∷ []) (clause [] (human socrates ∷ []) [])

resolved : resolve Antecedent all_mortal immortal (0, mortal x) (0, mortal socrates) ≡ inhuman ∷ []
resolved = simp computes

pub example_resolution : inferences immortal all_mortal ≡ inhuman ∷ []
example_resolution = simp (example_eligible, eligible_immortal, resolved)

-- ---- variables apart: P(x, f(y)), and not P(y, x)

pub example_apart : inferences (premise 1 (clause [] [] (p2 x (f y) ∷ []))) (premise 2 (clause [] (p2 x y ∷ []) [])) ≡ line (Resolve 0 Antecedent 0 (by (Var 2 ∷ y ∷ [])) (by (Var 2 ∷ f y ∷ []))) (1 ∷ 2 ∷ []) (clause [] [] []) ∷ []
example_apart = simp computes

-- ---- no unifier: not P(x, f(x)), and P(y, y)

pub example_occurs : inferences (premise 1 (clause [] (p2 x (f x) ∷ []) [])) (premise 2 (clause [] [] (p2 x x ∷ []))) ≡ []
example_occurs = simp computes

-- ---- a sort step: no x has the sort S, and S(a)

abbrev no_sort : Kept
no_sort = premise 1 (clause (sort_atom 1 x ∷ []) [] [])

abbrev of_sort : Kept
of_sort = premise 2 (clause [] [] (sort_atom 1 a ∷ []))

pub example_sort_step : inferences no_sort of_sort ≡ line (Resolve 0 Constraint 0 (by []) (by (a ∷ []))) (2 ∷ 1 ∷ []) (clause [] [] []) ∷ []
example_sort_step = simp computes

-- it is no pair inference
pub example_apart_from_pairs : pair_inferences no_sort of_sort ≡ []
example_apart_from_pairs = simp computes

-- ---- superposition: a = b, of which b is the greater side

abbrev equation : Kept
equation = premise 1 (clause [] [] (Equal a b ∷ []))

-- not P(f(b))
pub example_superposition : inferences (premise 3 (clause [] (p (f b) ∷ []) [])) equation ≡ line (Paramodulate 0 true (record { part = Antecedent; place = 0; path = 0 ∷ 0 ∷ [] }) (by []) (by [])) (1 ∷ 3 ∷ []) (clause [] (p (f a) ∷ []) []) ∷ []
example_superposition = simp computes

-- P(f(a)): the order refuses to put b for a
pub example_refused : inferences (premise 2 (clause [] [] (p (f a) ∷ []))) equation ≡ []
example_refused = simp computes

-- a term comes before its arguments, and an argument with all that stands in it before the next one; no variable counts
pub example_paths : paths_of (p2 (f (f x)) (f a)) ≡ (0 ∷ []) ∷ (0 ∷ 0 ∷ []) ∷ (1 ∷ []) ∷ (1 ∷ 0 ∷ []) ∷ []
example_paths = simp computes

-- ---- one clause alone

-- P(x) or P(a): each of the two atoms with the other one
pub example_factoring : inferences (premise 1 (clause [] [] (p x ∷ p a ∷ []))) (premise 1 (clause [] [] (p x ∷ p a ∷ []))) ≡ line (Factor (by (a ∷ []))) (1 ∷ []) (clause [] [] (p a ∷ [])) ∷ line (Factor (by (a ∷ []))) (1 ∷ []) (clause [] [] (p a ∷ [])) ∷ []
example_factoring = simp computes

-- x = a -> P(x): the equation isn't eligible, unless it is selected
abbrev conditional : Clause
conditional = clause [] (Equal x a ∷ []) (p x ∷ [])

pub example_not_reflected : inferences (premise 1 conditional) (premise 1 conditional) ≡ []
example_not_reflected = simp computes

pub example_reflection : inferences (selecting 0 1 conditional) (selecting 0 1 conditional) ≡ line (Reflex 0 (by (a ∷ []))) (1 ∷ []) (clause [] [] (p a ∷ [])) ∷ []
example_reflection = simp computes

-- x = a or x = b: the second equation, which is eligible, rewrites the side b of its copy to the variable, and is factored with
-- the first
abbrev either : Kept
either = premise 1 (clause [] [] (Equal x a ∷ Equal x b ∷ []))

pub example_equality_factoring :
    inferences either either ≡
    line (Paramodulate 1 true (record { part = Succedent; place = 1; path = 1 ∷ [] }) (by (x ∷ [])) (by (y ∷ []))) (1 ∷ 1 ∷ []) (clause [] [] (Equal x a ∷ Equal y a ∷ Equal y x ∷ []))
    ∷ line (EqFactor 1 false 0 false (by (x ∷ []))) (1 ∷ []) (clause [] (Equal b a ∷ []) (Equal x a ∷ [])) ∷ []
example_equality_factoring = simp computes
