-- What the definitions give on small clauses, computed. Places count from 0, and numbers of statements from 1.
use Rattle.std.proofs.Common.{◌≡◌, ℕ, true, false, List, [], ◌∷◌, Option, Some, None, option_map, option_and_then, refl, ap, ◌∙◌}
use Rattle.spl_terms.specs.declared.term.Kind.TheVariants.{Function, Predicate, Sort}
use Rattle.spl_terms.specs.declared.term.Term.{Term, Var, App}
use Rattle.spl_terms.specs.declared.atom.Atom.{Atom}
use Rattle.spl_terms.specs.declared.atom.Atom.TheVariants.{Holds, Equal}
use Rattle.spl_terms.specs.declared.clause.Part.TheVariants.{Constraint, Antecedent}
use Rattle.proof_steps.specs.declared.step.Statement.{Statement}
use Rattle.proof_steps.specs.declared.step.Rule.{Rule}
use Rattle.proof_steps.specs.declared.step.Rule.TheVariants.{Input, Resolve, Factor, Paramodulate, Reflex, EqFactor, Assume, CaseLeft, CaseRight, CaseBoth}
use Rattle.spl_terms.specs.declared.term.Term.TheViews.{outs-Var, outs-App}
use Rattle.spl_terms.specs.TermLaws.{term_eq-Var-Var, term_eq-Var-App, term_eq-App-Var, term_eq-App-App, term_variables-Var, term_variables-App, replace-Var, replace-App, ground-Var, ground-App}
use Rattle.spl_terms.specs.declared.clause.Clause.{Clause}
use Rattle.clause_parts.specs.ExampleLaws.{parts_either, parts_linked}
use Rattle.proof_steps.specs.Steps.{states, side_of, conclude}
use Rattle.proof_steps.specs.SplitLaws as split

-- ---- the words of the examples

-- how the definitions by recursion on terms compute
pub ruleset folds = (term_eq-Var-Var, term_eq-Var-App, term_eq-App-Var, term_eq-App-App, term_variables-Var, term_variables-App, replace-Var, replace-App, ground-Var, ground-App, outs-Var, outs-App)

abbrev constant : ℕ → Term
constant n = App (record { number = n; kind = Function }) []

abbrev a : Term
a = constant 0

abbrev b : Term
b = constant 1

abbrev holds : ℕ → Term → Atom
holds n t = Holds (record { number = n; kind = Predicate }) (t ∷ [])

-- constraint, antecedent and succedent
abbrev clause : List Atom → List Atom → List Atom → Clause
clause constraint antecedent succedent = record { constraint = constraint; antecedent = antecedent; succedent = succedent }

-- P(a) or Q(b)
abbrev either : Clause
either = clause [] [] (holds 4 a ∷ holds 5 b ∷ [])

-- P(x) or Q(x) or R(b)
abbrev linked : Clause
linked = clause [] [] (holds 4 (Var 0) ∷ holds 5 (Var 0) ∷ holds 8 b ∷ [])

abbrev c : Term
c = constant 2

abbrev f : Term → Term
f t = App (record { number = 3; kind = Function }) (t ∷ [])

abbrev of_sort : Term → Atom
of_sort t = Holds (record { number = 6; kind = Sort }) (t ∷ [])

abbrev plain : List Atom → List Atom → List Atom → Statement
plain constraint antecedent succedent = states (clause constraint antecedent succedent) []

-- what this rule with these parents gives from these statements
abbrev gives : List Statement → Rule → List ℕ → Option Statement
gives earlier rule parents = conclude [] earlier (record { rule = rule; parents = parents })

-- ---- input, resolution, factoring

-- the second input clause, brought into order
pub example_inp : conclude (clause [] [] [] ∷ clause [] (holds 4 (Var 7) ∷ holds 4 (Var 7) ∷ []) [] ∷ []) [] (record { rule = Input 2; parents = [] }) ≡ Some (plain [] (holds 4 (Var 0) ∷ []) [])
example_inp = simp folds

-- P(a) and not P(a) give the empty clause
pub example_res : gives (plain [] [] (holds 4 a ∷ []) ∷ plain [] (holds 4 a ∷ []) [] ∷ []) (Resolve 0 Antecedent 0 (record { terms = [] }) (record { terms = [] })) (1 ∷ 2 ∷ []) ≡ Some (plain [] [] [])
example_res = simp folds

-- Human(x) -> Mortal(x), with Socrates for x, and not Mortal(Socrates)
pub example_res_instance : gives (plain [] (holds 4 (Var 0) ∷ []) (holds 5 (Var 0) ∷ []) ∷ plain [] (holds 5 a ∷ []) [] ∷ []) (Resolve 0 Antecedent 0 (record { terms = a ∷ [] }) (record { terms = [] })) (1 ∷ 2 ∷ []) ≡ Some (plain [] (holds 4 a ∷ []) [])
example_res_instance = simp folds

-- a sort in the constraint: S(a), and no x has S(x)
pub example_res_sort : gives (plain (of_sort (Var 0) ∷ []) [] [] ∷ plain [] [] (of_sort a ∷ []) ∷ []) (Resolve 0 Constraint 0 (record { terms = [] }) (record { terms = a ∷ [] })) (2 ∷ 1 ∷ []) ≡ Some (plain [] [] [])
example_res_sort = simp folds

-- nothing where a substitution has an entry too few
pub example_res_misfit : gives (plain [] [] (holds 4 a ∷ []) ∷ plain [] (holds 4 (Var 0) ∷ []) [] ∷ []) (Resolve 0 Antecedent 0 (record { terms = [] }) (record { terms = [] })) (1 ∷ 2 ∷ []) ≡ None
example_res_misfit = simp folds

-- the atoms of an instance fall together
pub example_fac : gives (plain [] [] (holds 4 (Var 0) ∷ holds 4 a ∷ []) ∷ []) (Factor (record { terms = a ∷ [] })) (1 ∷ []) ≡ Some (plain [] [] (holds 4 a ∷ []))
example_fac = simp folds

-- ---- equations

-- a = b, read from right to left, rewrites b in P(f(b)) to a
pub example_par : gives (plain [] [] (Equal a b ∷ []) ∷ plain [] (holds 4 (f b) ∷ []) [] ∷ []) (Paramodulate 0 true (record { part = Antecedent; place = 0; path = 0 ∷ 0 ∷ [] }) (record { terms = [] }) (record { terms = [] })) (1 ∷ 2 ∷ []) ≡ Some (plain [] (holds 4 (f a) ∷ []) [])
example_par = simp folds

-- x = a -> P(x), with a for x
pub example_ref : gives (plain [] (Equal (Var 0) a ∷ []) (holds 4 (Var 0) ∷ []) ∷ []) (Reflex 0 (record { terms = a ∷ [] })) (1 ∷ []) ≡ Some (plain [] [] (holds 4 a ∷ []))
example_ref = simp folds

-- a = b or c = a: where b = c, the second is enough
pub example_eqf : gives (plain [] [] (Equal a b ∷ Equal c a ∷ []) ∷ []) (EqFactor 0 false 1 true (record { terms = [] })) (1 ∷ []) ≡ Some (plain [] (Equal b c ∷ []) (Equal c a ∷ []))
example_eqf = simp folds

-- ---- splits

-- P(a) or Q(b)
abbrev either_stated : Statement
either_stated = states either []

pub example_asm_left : gives (either_stated ∷ []) (Assume 1 None) (1 ∷ []) ≡ Some (states (clause [] [] (holds 4 a ∷ [])) (side_of 1 1 ∷ []))
example_asm_left = split.assumption_of-two 1 1 None either_stated ∙ ap (λ parts. option_map (λ d. states d (side_of 1 1 ∷ [])) (option_and_then (split.assumed_of_two 1 None) parts)) parts_either

pub example_asm_right : gives (either_stated ∷ []) (Assume 2 None) (1 ∷ []) ≡ Some (states (clause [] [] (holds 5 b ∷ [])) (side_of 1 2 ∷ []))
example_asm_right = split.assumption_of-two 1 2 None either_stated ∙ ap (λ parts. option_map (λ d. states d (side_of 1 2 ∷ [])) (option_and_then (split.assumed_of_two 2 None) parts)) parts_either

-- in the second case the left part may be assumed to be false
pub example_asm_negated : gives (either_stated ∷ []) (Assume 2 (Some 0)) (1 ∷ []) ≡ Some (states (clause [] (holds 4 a ∷ []) []) (side_of 1 2 ∷ []))
example_asm_negated = split.assumption_of-two 1 2 (Some 0) either_stated ∙ ap (λ parts. option_map (λ d. states d (side_of 1 2 ∷ [])) (option_and_then (split.assumed_of_two 2 (Some 0)) parts)) parts_either ∙ simp folds

-- P(x) or Q(x) or R(b): the atoms of x stay together
abbrev linked_stated : Statement
linked_stated = states linked []

pub example_asm_component : gives (linked_stated ∷ []) (Assume 1 None) (1 ∷ []) ≡ Some (states (clause [] [] (holds 4 (Var 0) ∷ holds 5 (Var 0) ∷ [])) (side_of 1 1 ∷ []))
example_asm_component = split.assumption_of-two 1 1 None linked_stated ∙ ap (λ parts. option_map (λ d. states d (side_of 1 1 ∷ [])) (option_and_then (split.assumed_of_two 1 None) parts)) parts_linked

-- a left part with variables has no negation
pub example_asm_negated_variables : gives (linked_stated ∷ []) (Assume 2 (Some 0)) (1 ∷ []) ≡ None
example_asm_negated_variables = split.assumption_of-two 1 2 (Some 0) linked_stated ∙ ap (λ parts. option_map (λ d. states d (side_of 1 2 ∷ [])) (option_and_then (split.assumed_of_two 2 (Some 0)) parts)) parts_linked

-- nothing where all succedent atoms hang together
pub example_asm_none : gives (plain [] [] (holds 4 (Var 0) ∷ holds 5 (Var 0) ∷ []) ∷ []) (Assume 1 None) (1 ∷ []) ≡ None
example_asm_none = simp folds

-- the empty clause, where a side of the first clause is assumed
abbrev closed : ℕ → Statement
closed side = states (clause [] [] []) (side_of 1 side ∷ [])

pub example_cal : gives (either_stated ∷ closed 1 ∷ []) CaseLeft (1 ∷ 2 ∷ []) ≡ Some (plain [] [] (holds 5 b ∷ []))
example_cal = split.left_closed 1 either_stated (closed 1) ∙ ap (option_map (λ parts. states parts.right [])) parts_either

pub example_car : gives (either_stated ∷ closed 2 ∷ []) CaseRight (1 ∷ 2 ∷ []) ≡ Some (plain [] [] (holds 4 a ∷ []))
example_car = split.right_closed 1 either_stated (closed 2) ∙ ap (option_map (λ parts. states parts.left [])) parts_either

pub example_cab : gives (either_stated ∷ closed 1 ∷ closed 2 ∷ []) CaseBoth (1 ∷ 2 ∷ 3 ∷ []) ≡ Some (plain [] [] [])
example_cab = refl

-- the closed sides in the wrong order close nothing
pub example_cab_exchanged : gives (either_stated ∷ closed 1 ∷ closed 2 ∷ []) CaseBoth (1 ∷ 3 ∷ 2 ∷ []) ≡ None
example_cab_exchanged = refl
