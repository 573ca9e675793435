-- Which places of a clause are maximal, and which are eligible for an inference (Weidenbach 2001, the sections on
-- orderings and on the inference rules). That places are judged before a unifier is applied is this project's own.
use Rattle.std.specs.Prelude.{ℕ, Bool, true, false, not, ◌&&◌, ◌==◌, List, [], ◌∷◌, ◌++◌, Option, Some, None, position, slice_get}
use Rattle.std.specs.List.{list_all, list_any, flat_map}
use Rattle.std.specs.Option.{option_map_or}
use Rattle.spl_terms.specs.declared.term.Term.{Term, Var, App}
use Rattle.spl_terms.specs.declared.atom.Atom.{Atom}
use Rattle.spl_terms.specs.declared.atom.Atom.TheVariants.{Holds, Equal}
use Rattle.spl_terms.specs.declared.clause.Part.{Part}
use Rattle.spl_terms.specs.declared.clause.Part.TheVariants.{Constraint, Antecedent, Succedent}
use Rattle.spl_terms.specs.declared.clause.Clause.{Clause}
use Rattle.spl_terms.specs.Terms.{terms_eq}
use Rattle.spl_terms.specs.Clauses.{atom_variables, part_of}
use Rattle.spl_truth.specs.Multisets.{is_greater_multiset}

-- ---- measures

-- the terms of an atom: the sides of an equation; a predicate atom counts as a term with the predicate as its head
abbrev pub members : Atom → List Term
members (Holds p ts) = App p ts ∷ []
members (Equal s t) = s ∷ t ∷ []

-- the multiset by which an occurrence of an atom is compared; left of the arrow each member stands twice
abbrev pub measure : Part → Atom → List Term
measure Constraint a = members a ++ members a
measure Antecedent a = members a ++ members a
measure Succedent a = members a

-- ---- maximal places

-- no atom of the list, as one of that part, has a measure greater than this one
abbrev pub none_greater : Part → List Atom → List Term → Bool
none_greater part atoms m = list_all (λ b. not (is_greater_multiset (measure part b) m)) atoms

-- no occurrence of antecedent or succedent has a greater measure; an occurrence's own measure isn't greater than itself
abbrev pub is_maximal_in : Clause → Part → Atom → Bool
is_maximal_in c part a = none_greater Antecedent c.antecedent (measure part a) && none_greater Succedent c.succedent (measure part a)

-- the same of the atom at a place; false where there is none
abbrev pub is_maximal : Clause → Part → ℕ → Bool
is_maximal c part k = option_map_or (is_maximal_in c part) (slice_get (part_of c part) k) false

-- ---- solved constraints

-- the atom is S(x) for a variable x of the antecedent or the succedent
abbrev pub is_solved : Clause → Atom → Bool
is_solved c (Holds p ts) = list_any (λ x. terms_eq ts (Var x ∷ [])) (flat_map atom_variables (c.antecedent ++ c.succedent))
is_solved c (Equal s t) = false

-- the place of the first atom of the constraint that isn't solved; none where the constraint is solved
abbrev pub first_unsolved : Clause → Option ℕ
first_unsolved c = position (λ a. not (is_solved c a)) c.constraint

-- ---- eligible places

abbrev pub part_eq : Part → Part → Bool
part_eq Constraint Constraint = true
part_eq Antecedent Antecedent = true
part_eq Succedent Succedent = true
part_eq _ _ = false

-- by the first unsolved atom of the constraint and the selected place of the antecedent
abbrev pub eligible_by : Clause → Option ℕ → Option ℕ → Part → ℕ → Bool
eligible_by c (Some first) selected part k = part_eq part Constraint && (k == first)
eligible_by c None (Some chosen) part k = part_eq part Antecedent && (k == chosen)
eligible_by c None None part k = not (part_eq part Constraint) && is_maximal c part k

-- in a clause with an unsolved constraint the first unsolved atom alone; else the selected antecedent atom alone, where
-- one is selected; else the maximal occurrences of antecedent and succedent
abbrev pub is_eligible : Clause → Option ℕ → Part → ℕ → Bool
is_eligible c selected part k = eligible_by c (first_unsolved c) selected part k
