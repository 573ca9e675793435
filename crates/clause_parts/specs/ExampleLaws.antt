-- Laws with their proofs, not definitions that a reader must believe: the parts of two small clauses.
use Rattle.std.proofs.Common.{◌≡◌, ℕ, true, false, ◌&&◌, ◌||◌, if◌then◌else◌, List, [], ◌∷◌, ◌++◌, Some, option_map, option_and_then, ap, ◌∙◌}
use Rattle.spl_terms.specs.declared.term.Kind.TheVariants.{Function, Predicate}
use Rattle.spl_terms.specs.declared.term.Term.{Term, Var, App}
use Rattle.spl_terms.specs.declared.atom.Atom.{Atom}
use Rattle.spl_terms.specs.declared.atom.Atom.TheVariants.{Holds}
use Rattle.spl_terms.specs.declared.clause.Clause.{Clause}
use Rattle.spl_terms.specs.Terms.{term_variables, replace, is_ground_term}
use Rattle.spl_terms.specs.Clauses.{atom_variables, firsts, place_in, number_in, in_order}
use Rattle.spl_terms.specs.TermLaws.{term_variables-Var, term_variables-App, replace-Var, replace-App, ground-Var, ground-App}
use Rattle.spl_truth.specs.Truth.{is_ground}
use Rattle.clause_parts.specs.Parts.{share, variable_lists, spread, component, has_succedent, first_head, if_rest, parted_by, parts_of}

-- ---- the words of the examples

abbrev constant : ℕ → Term
constant n = App (record { number = n; kind = Function }) []

abbrev a : Term
a = constant 0

abbrev b : Term
b = constant 1

abbrev holds : ℕ → Term → Atom
holds n t = Holds (record { number = n; kind = Predicate }) (t ∷ [])

-- constraint, antecedent and succedent
abbrev clause : List Atom → List Atom → List Atom → Clause
clause constraint antecedent succedent = record { constraint = constraint; antecedent = antecedent; succedent = succedent }

-- P(a) or Q(b)
abbrev either : Clause
either = clause [] [] (holds 4 a ∷ holds 5 b ∷ [])

-- P(x) or Q(x) or R(b): the atoms of x stay together
abbrev linked : Clause
linked = clause [] [] (holds 4 (Var 0) ∷ holds 5 (Var 0) ∷ holds 8 b ∷ [])

-- ---- one atom of a constant

no_variables : (m : ℕ) → term_variables (constant m) ≡ []
no_variables m = term_variables-App (record { number = m; kind = Function }) []

abbrev alone : ℕ → ℕ → Clause
alone n m = clause [] [] (holds n (constant m) ∷ [])

alone_ordered : (n m : ℕ) → in_order (alone n m) ≡ alone n m
alone_ordered n m = λ i. clause [] [] (holds n (replace-App (λ v. Var (number_in (alone n m) v)) (record { number = m; kind = Function }) [] i) ∷ [])

alone_ground : (n m : ℕ) → is_ground (alone n m) ≡ true
alone_ground n m = ap (λ t. (t && true) && true) (ground-App (record { number = m; kind = Function }) [])

-- ---- two atoms without variables

-- they share none
apart_either : share (atom_variables (holds 5 b)) (atom_variables (holds 4 a)) ≡ false
apart_either = λ i. share (no_variables 1 i ++ []) (no_variables 0 i ++ [])

spread_either : spread (variable_lists either) (true ∷ false ∷ []) ≡ true ∷ false ∷ []
spread_either = λ i. true ∷ (apart_either i || false) ∷ []

pub parts_either : parts_of either ≡ Some (record { left = clause [] [] (holds 4 a ∷ []); right = clause [] [] (holds 5 b ∷ []); left_ground = true })
parts_either =
    ap (λ marks. option_map (parted_by either) (option_and_then (if_rest either) (if has_succedent either marks then Some marks else first_head 1 1 either))) (ap (spread (variable_lists either)) spread_either ∙ spread_either)
    ∙ (λ i. Some (record { left = alone_ordered 4 0 i; right = alone_ordered 5 1 i; left_ground = (ap is_ground (alone_ordered 4 0) ∙ alone_ground 4 0) i }))

-- ---- two atoms of one variable, and one without

together : share (atom_variables (holds 5 (Var 0))) (atom_variables (holds 4 (Var 0))) ≡ true
together = λ i. share (term_variables-Var 0 i ++ []) (term_variables-Var 0 i ++ [])

apart_first : share (atom_variables (holds 8 b)) (atom_variables (holds 4 (Var 0))) ≡ false
apart_first = λ i. share (no_variables 1 i ++ []) (term_variables-Var 0 i ++ [])

apart_second : share (atom_variables (holds 8 b)) (atom_variables (holds 5 (Var 0))) ≡ false
apart_second = λ i. share (no_variables 1 i ++ []) (term_variables-Var 0 i ++ [])

spread_first : spread (variable_lists linked) (true ∷ false ∷ false ∷ []) ≡ true ∷ true ∷ false ∷ []
spread_first = λ i. true ∷ (together i || false) ∷ (apart_first i || false) ∷ []

spread_second : spread (variable_lists linked) (true ∷ true ∷ false ∷ []) ≡ true ∷ true ∷ false ∷ []
spread_second = λ i. true ∷ true ∷ (apart_first i || (apart_second i || false)) ∷ []

component_linked : component 0 (variable_lists linked) ≡ true ∷ true ∷ false ∷ []
component_linked = ap (λ marks. spread (variable_lists linked) (spread (variable_lists linked) marks)) spread_first ∙ ap (spread (variable_lists linked)) spread_second ∙ spread_second

abbrev both_of : Clause
both_of = clause [] [] (holds 4 (Var 0) ∷ holds 5 (Var 0) ∷ [])

first_number : number_in both_of 0 ≡ 0
first_number = λ i. place_in (firsts ((term_variables-Var 0 i ++ []) ++ ((term_variables-Var 0 i ++ []) ++ []))) 0

variable_stays : replace (λ v. Var (number_in both_of v)) (Var 0) ≡ Var 0
variable_stays = replace-Var (λ v. Var (number_in both_of v)) 0 ∙ ap Var first_number

both_ordered : in_order both_of ≡ both_of
both_ordered = λ i. clause [] [] (holds 4 (variable_stays i) ∷ holds 5 (variable_stays i) ∷ [])

both_open : is_ground both_of ≡ false
both_open = λ i. (ground-Var 0 i && true) && ((is_ground_term (Var 0) && true) && true)

pub parts_linked : parts_of linked ≡ Some (record { left = clause [] [] (holds 4 (Var 0) ∷ holds 5 (Var 0) ∷ []); right = clause [] [] (holds 8 b ∷ []); left_ground = false })
parts_linked =
    ap (λ marks. option_map (parted_by linked) (option_and_then (if_rest linked) (if has_succedent linked marks then Some marks else first_head 2 1 linked))) component_linked
    ∙ (λ i. Some (record { left = both_ordered i; right = alone_ordered 8 1 i; left_ground = (ap is_ground both_ordered ∙ both_open) i }))
