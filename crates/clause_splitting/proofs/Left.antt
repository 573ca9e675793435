-- The left part of a clause is not empty: it has an atom of the succedent.
use Rattle.std.proofs.Common.{◌≡◌, ℕ, zero, suc, ◌+◌, ◌≤◌, Bool, true, false, not, ◌&&◌, if◌then◌else◌, List, [], ◌∷◌, length, map, Option, Some, None, option_map, option_and_then, refl, sym, ap, ◌∙◌, subst, arith, length-drop}
use Rattle.std.specs.List.{list_any, AllByRecursion}
use Rattle.std.proofs.lemmas.Bool.{false≢true, and_parts, false_from_ne_true}
use Rattle.spl_terms.specs.declared.atom.Atom.{Atom}
use Rattle.spl_terms.specs.declared.clause.Clause.{Clause}
use Rattle.spl_terms.specs.Clauses.{in_order, is_empty, no_atoms, distinct, atoms_of}
use Rattle.spl_truth.specs.SymmetryLaws.{Blind, distinct-any}
use Rattle.proof_steps.specs.Parts.{Parted, variable_lists, marked, component, succedent_marks, part_by, has_succedent, first_head, if_rest, left_marks, parted_by, parts_of}
use Rattle.clause_parts.specs.MarkLaws.{length-component, length-atoms}

-- ---- a clause in order is empty exactly where the clause is

no_atoms_any : (atoms : List Atom) → no_atoms atoms ≡ not (list_any (λ a. true) atoms)
no_atoms_any [] = refl
no_atoms_any (a ∷ atoms) = refl

blind_all : (atoms : List Atom) → AllByRecursion (Blind (λ a. true)) atoms
blind_all [] = tt
blind_all (a ∷ atoms) = ((λ y e. refl), blind_all atoms)

no_atoms_distinct : (atoms : List Atom) → no_atoms (distinct atoms) ≡ no_atoms atoms
no_atoms_distinct atoms = no_atoms_any (distinct atoms) ∙ ap not (distinct-any (λ a. true) atoms (blind_all atoms)) ∙ sym (no_atoms_any atoms)

no_atoms_map : (f : Atom → Atom) (atoms : List Atom) → no_atoms (map f atoms) ≡ no_atoms atoms
no_atoms_map f [] = refl
no_atoms_map f (a ∷ atoms) = refl

empty_in_order : (c : Clause) → is_empty (in_order c) ≡ is_empty c
empty_in_order c =
    let f = no_atoms_map _ (distinct c.constraint) ∙ no_atoms_distinct c.constraint in
    let g = no_atoms_map _ (distinct c.antecedent) ∙ no_atoms_distinct c.antecedent in
    let h = no_atoms_map _ (distinct c.succedent) ∙ no_atoms_distinct c.succedent in
    λ i. (f i && g i) && h i

-- ---- the marks of the left part

pub record IsHead (c : Clause) (marks : List Bool) : Type 0 where
  pub has : has_succedent c marks ≡ true
  pub count : length marks ≡ length (variable_lists c)

-- the component that is found has an atom of the succedent
head_has : (n k : ℕ) (c : Clause) (marks : List Bool) → first_head n k c ≡ Some marks → IsHead c marks
head_has zero k c marks e = absurd (cc)
head_has (suc n) k c marks e = by_test (head_has n (suc k) c marks) (has_succedent c (component k (variable_lists c))) refl e
  where
    by_test : (first_head n (suc k) c ≡ Some marks → IsHead c marks) → (b : Bool) → has_succedent c (component k (variable_lists c)) ≡ b → (if b then Some (component k (variable_lists c)) else first_head n (suc k) c) ≡ Some marks → IsHead c marks
    by_test later true t f = let same : component k (variable_lists c) ≡ marks = cc in record { has = subst (λ m. has_succedent c m ≡ true) same t; count = subst (λ m. length m ≡ length (variable_lists c)) same (length-component k (variable_lists c)) }
    by_test later false t f = later f

left_head : (c : Clause) (marks : List Bool) → left_marks c ≡ Some marks → IsHead c marks
left_head c marks e = by_head (first_head (length (atoms_of c)) 0 c) refl e
  where
    by_head : (o : Option (List Bool)) → first_head (length (atoms_of c)) 0 c ≡ o → option_and_then (if_rest c) o ≡ Some marks → IsHead c marks
    by_head None f h = absurd (cc)
    by_head (Some found) f h = by_rest (list_any not (succedent_marks c found)) h
      where
        by_rest : (b : Bool) → (if b then Some found else None) ≡ Some marks → IsHead c marks
        by_rest true g = let same : found ≡ marks = cc in head_has (length (atoms_of c)) 0 c marks (f ∙ ap (λ m. Some m) same)
        by_rest false g = absurd (cc)

-- where some mark is set, some atom is marked
some_marked : (bs : List Bool) (atoms : List Atom) → length bs ≤ length atoms → list_any (λ b. b) bs ≡ true → no_atoms (marked bs atoms) ≡ false
some_marked [] atoms h e = absurd (false≢true e)
some_marked (b ∷ bs) [] h e = absurd (omega arith)
some_marked (true ∷ bs) (a ∷ atoms) h e = refl
some_marked (false ∷ bs) (a ∷ atoms) h e = some_marked bs atoms (omega arith) e

part_full : (c : Clause) (marks : List Bool) → IsHead c marks → is_empty (part_by c marks) ≡ false
part_full c marks h =
    let few : length (succedent_marks c marks) ≤ length c.succedent = omega (arith, h.count, length-atoms c, length-drop (length c.constraint + length c.antecedent) marks) in
    let some = some_marked (succedent_marks c marks) c.succedent few h.has in
    false_from_ne_true (is_empty (part_by c marks)) (λ e. false≢true (sym some ∙ (and_parts (no_atoms (part_by c marks).constraint && no_atoms (part_by c marks).antecedent) (no_atoms (part_by c marks).succedent) e).1))

pub left_full : (c : Clause) (parts : Parted) → parts_of c ≡ Some parts → is_empty parts.left ≡ false
left_full c parts e = by_marks (left_marks c) refl e
  where
    by_marks : (o : Option (List Bool)) → left_marks c ≡ o → option_map (parted_by c) o ≡ Some parts → is_empty parts.left ≡ false
    by_marks None f h = absurd (cc)
    by_marks (Some marks) f h =
        let same : parted_by c marks ≡ parts = cc in
        ap (λ (p : Parted). is_empty p.left) (sym same) ∙ (empty_in_order (part_by c marks) ∙ part_full c marks (left_head c marks f))
