-- The words of the examples, and how the definitions by recursion on terms compute.
use Rattle.std.proofs.Common.{◌≡◌, ℕ, List, [], ◌∷◌, map}
use Rattle.std.specs.Prelude.{Some, None}
use Rattle.spl_terms.specs.declared.term.Kind.TheVariants.{Function, Predicate, Sort}
use Rattle.spl_terms.specs.declared.term.Symbol.{Symbol}
use Rattle.spl_terms.specs.declared.term.Term.{Term, Var, App}
use Rattle.spl_terms.specs.declared.term.Term.TheViews.{outs-Var, outs-App}
use Rattle.spl_terms.specs.declared.atom.Atom.{Atom}
use Rattle.spl_terms.specs.declared.atom.Atom.TheVariants.{Holds}
use Rattle.spl_terms.specs.declared.clause.Clause.{Clause}
use Rattle.spl_terms.specs.TermLaws.{fold-Var, fold-App, term_eq-Var-Var, term_eq-Var-App, term_eq-App-Var, term_eq-App-App, term_symbols-Var, term_symbols-App}
use Rattle.spl_terms.specs.TermLaws.{term_variables-Var, term_variables-App}
use Rattle.spl_truth.specs.declared.replace.Subst.{Subst}
use Rattle.spl_terms.specs.TermLaws.{replace-Var, replace-App, ground-Var, ground-App}
use Rattle.spl_truth.specs.OrderLaws.{is_greater-Var, is_greater-App-Var, is_greater-App-App}
use Rattle.spl_truth.specs.OccurrenceLaws.{occurs-Var, occurs-App}
use Rattle.proof_steps.specs.declared.step.Rule.{Rule}
use Rattle.proof_steps.specs.declared.step.Line.{Line}
use Rattle.proof_steps.specs.Steps.{states}
use Rattle.calculus.specs.declared.kept.Kept.{Kept}
use Rattle.calculus.specs.Inferences.{paths_step, paths_in, placed}

pub paths_in-Var : (v : ℕ) → paths_in (Var v) ≡ []
paths_in-Var v = fold-Var paths_step v

pub paths_in-App : (f : Symbol) (ts : List Term) → paths_in (App f ts) ≡ [] ∷ placed (map paths_in ts)
paths_in-App f ts = fold-App paths_step f ts

pub ruleset folds = (term_eq-Var-Var, term_eq-Var-App, term_eq-App-Var, term_eq-App-App, term_variables-Var, term_variables-App, replace-Var, replace-App, ground-Var, ground-App, outs-Var, outs-App)

pub ruleset orders = (folds, term_symbols-Var, term_symbols-App, is_greater-Var, is_greater-App-Var, is_greater-App-App)

pub ruleset solves = (folds, term_symbols-Var, term_symbols-App)

pub ruleset walks = (paths_in-Var, paths_in-App)

pub ruleset computes = (orders, walks, occurs-Var, occurs-App)

-- ---- terms, atoms, clauses

abbrev pub function : ℕ → List Term → Term
function n ts = App (record { number = n; kind = Function }) ts

abbrev pub predicate : ℕ → List Term → Atom
predicate n ts = Holds (record { number = n; kind = Predicate }) ts

abbrev pub sort_atom : ℕ → Term → Atom
sort_atom n t = Holds (record { number = n; kind = Sort }) (t ∷ [])

abbrev pub x : Term
x = Var 0

abbrev pub y : Term
y = Var 1

abbrev pub clause : List Atom → List Atom → List Atom → Clause
clause constraint antecedent succedent = record { constraint = constraint; antecedent = antecedent; succedent = succedent }

-- ---- premises and lines

-- a clause with this number, without dependencies, where nothing is selected
abbrev pub premise : ℕ → Clause → Kept
premise n c = record { number = n; statement = states c []; selected = None }

-- the same, where this place of the antecedent is selected
abbrev pub selecting : ℕ → ℕ → Clause → Kept
selecting place n c = record { number = n; statement = states c []; selected = Some place }

abbrev pub by : List Term → Subst
by ts = record { terms = ts }

abbrev pub line : Rule → List ℕ → Clause → Line
line rule parents c = record { step = record { rule = rule; parents = parents }; stated = states c [] }
