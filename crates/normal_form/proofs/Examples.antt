-- Normal forms of small formulas, computed from the definitions. P is 0, R is 1, Q is 2; a and f are 3 and 4; Skolem symbols
-- begin with 5.
use Rattle.std.proofs.Common.{◌≡◌, ℕ, true, false, ◌||◌, if◌then◌else◌, List, [], ◌∷◌, ap, ◌∙◌}
use Rattle.spl_terms.specs.declared.term.Kind.TheVariants.{Function, Predicate, Sort}
use Rattle.spl_terms.specs.declared.term.Symbol.{Symbol}
use Rattle.spl_terms.specs.declared.term.Term.{Term, Var, App}
use Rattle.spl_terms.specs.declared.atom.Atom.{Atom}
use Rattle.spl_terms.specs.declared.atom.Atom.TheVariants.{Holds}
use Rattle.spl_terms.specs.declared.clause.Clause.{Clause}
use Rattle.spl_terms.specs.TermLaws.{term_variables-Var, term_variables-App, replace-Var, replace-App, term_eq-Var-Var, term_eq-Var-App, term_eq-App-Var, term_eq-App-App}
use Rattle.formulas.specs.declared.tree.Tree as f
use Rattle.formulas.specs.declared.tree.Tree.{Tree}
use Rattle.spl_terms.specs.Clauses.{is_same, renumbered}
use Rattle.normal_form.specs.Clausal.{Literal, clause_from}
use Rattle.normal_form.specs.NormalForm.{normal_form}
use Rattle.formulas.specs.FormLaws.{form-True, form-False, form-Atom, form-Not, form-And, form-Or, form-Implies, form-not_Implies, form-Equiv, form-not_Equiv, form-Forall, form-Exists}

abbrev symbol : ℕ → Symbol
symbol n = record { number = n; kind = Predicate }

abbrev term : ℕ → List Term → Term
term n ts = App (record { number = n; kind = Function }) ts

abbrev p : Term → Atom
p t = Holds (symbol 0) (t ∷ [])

abbrev r : Term → Term → Atom
r s t = Holds (symbol 1) (s ∷ t ∷ [])

abbrev q : Atom
q = Holds (symbol 2) []

infixl 25 ◌⇒◌
abbrev ◌⇒◌ : List Atom → List Atom → Clause
left ⇒ right = record { constraint = []; antecedent = left; succedent = right }

ruleset form_laws = (form-True, form-False, form-Atom, form-Not, form-And, form-Or, form-Implies, form-not_Implies, form-Equiv, form-not_Equiv, form-Forall, form-Exists)

ruleset term_eq_laws = (term_eq-Var-Var, term_eq-Var-App, term_eq-App-Var, term_eq-App-App)

ruleset laws = (form_laws, term_variables-Var, term_variables-App, replace-Var, replace-App, term_eq_laws)

-- all humans are mortal, Socrates is one, and he isn't mortal
abbrev human : Term → Atom
human t = Holds (symbol 1) (t ∷ [])

abbrev mortal : Term → Atom
mortal t = Holds (symbol 2) (t ∷ [])

socrates : normal_form 3 (f.Forall 0 (f.Implies (f.Atom (human (Var 0))) (f.Atom (mortal (Var 0)))) ∷ f.Atom (human (term 0 [])) ∷ f.Not (f.Atom (mortal (term 0 []))) ∷ [])
    ≡ ((human (Var 0) ∷ []) ⇒ (mortal (Var 0) ∷ [])) ∷ ([] ⇒ (human (term 0 []) ∷ [])) ∷ ((mortal (term 0 []) ∷ []) ⇒ []) ∷ []
socrates = simp laws

-- formulas that are clauses give these
clauses : normal_form 5 (f.Forall 0 (f.Not (f.Atom (r (Var 0) (term 4 (Var 0 ∷ []))))) ∷ f.Forall 7 (f.Atom (r (Var 7) (Var 7))) ∷ [])
    ≡ ((r (Var 0) (term 4 (Var 0 ∷ [])) ∷ []) ⇒ []) ∷ ([] ⇒ (r (Var 0) (Var 0) ∷ [])) ∷ []
clauses = simp laws

-- for each x there is some y with P(x) and R(x, y)
skolem_function : normal_form 5 (f.Forall 0 (f.Exists 1 (f.And (f.Atom (p (Var 0)) ∷ f.Atom (r (Var 0) (Var 1)) ∷ []))) ∷ [])
    ≡ ([] ⇒ (p (Var 0) ∷ [])) ∷ ([] ⇒ (r (Var 0) (term 5 (Var 0 ∷ [])) ∷ [])) ∷ []
skolem_function = simp laws

-- an equivalence, and its negation
equivalence : normal_form 5 (f.Equiv (f.Atom (p (term 3 []))) (f.Atom q) ∷ [])
    ≡ ((p (term 3 []) ∷ []) ⇒ (q ∷ [])) ∷ ((q ∷ []) ⇒ (p (term 3 []) ∷ [])) ∷ []
equivalence = simp laws

no_equivalence : normal_form 5 (f.Not (f.Equiv (f.Atom (p (term 3 []))) (f.Atom q)) ∷ [])
    ≡ ([] ⇒ (p (term 3 []) ∷ q ∷ [])) ∷ ((p (term 3 []) ∷ q ∷ []) ⇒ []) ∷ []
no_equivalence = simp laws

abbrev some_p : Tree
some_p = f.Exists 0 (f.Atom (p (Var 0)))

-- (some P, or not, as Q) as R: the quantifier comes four times, twice as a universal one
copied : normal_form 5 (f.Equiv (f.Equiv some_p (f.Atom q)) (f.Atom (p (term 3 []))) ∷ [])
    ≡ ([] ⇒ (p (term 5 []) ∷ q ∷ p (term 3 []) ∷ [])) ∷ ((p (Var 0) ∷ q ∷ []) ⇒ (p (term 3 []) ∷ []))
    ∷ ((p (term 3 []) ∷ p (Var 0) ∷ []) ⇒ (q ∷ [])) ∷ ((p (term 3 []) ∷ q ∷ []) ⇒ (p (term 6 []) ∷ [])) ∷ []
copied = simp laws

-- the arguments are the free ones, the outermost first, in whatever order they occur
ordered : normal_form 5 (f.Forall 0 (f.Forall 1 (f.Forall 2 (f.Exists 3 (f.Or (f.Atom (r (Var 2) (Var 3)) ∷ f.Atom (p (Var 0)) ∷ []))))) ∷ [])
    ≡ ([] ⇒ (r (Var 0) (term 5 (Var 1 ∷ Var 0 ∷ [])) ∷ p (Var 1) ∷ [])) ∷ []
ordered = simp laws

-- the outer term brings its variable along: for each x there is some y with R(x, y) such that for each z there is some w with
-- R(y, w)
outer_first : normal_form 5 (f.Forall 0 (f.Exists 1 (f.And (f.Atom (r (Var 0) (Var 1)) ∷ f.Forall 2 (f.Exists 3 (f.Atom (r (Var 1) (Var 3)))) ∷ []))) ∷ [])
    ≡ ([] ⇒ (r (Var 0) (term 5 (Var 0 ∷ [])) ∷ [])) ∷ ([] ⇒ (r (term 5 (Var 0 ∷ [])) (term 6 (Var 0 ∷ [])) ∷ [])) ∷ []
outer_first = simp laws

-- what a `true` swallows gives no clause, but it uses up its symbols
swallowed : normal_form 5 (f.Or (f.True ∷ some_p ∷ []) ∷ some_p ∷ [])
    ≡ ([] ⇒ (p (term 6 []) ∷ [])) ∷ []
swallowed = simp laws

-- a repeated literal is dropped, and a negated atom of a sort stands in the constraint
abbrev s : Term → Atom
s t = Holds (record { number = 6; kind = Sort }) (t ∷ [])

abbrev given : List Literal
given = record { sign = true; atom = p (term 3 []) } ∷ record { sign = false; atom = s (term 3 []) } ∷ record { sign = true; atom = p (term 3 []) } ∷ []

same_atom : is_same (p (term 3 [])) (p (term 3 [])) ≡ true
same_atom = simp term_eq_laws

parts : clause_from given ≡ record { constraint = s (term 3 []) ∷ []; antecedent = []; succedent = p (term 3 []) ∷ [] }
parts =
    ap (λ b. renumbered (record { constraint = s (term 3 []) ∷ []; antecedent = []; succedent = if b || false then p (term 3 []) ∷ [] else p (term 3 []) ∷ p (term 3 []) ∷ [] })) same_atom
    ∙ simp (replace-App, term_variables-App)

-- the product of two conjunctions, the second one running faster; an `and` of nothing is true, an `or` of nothing false
product : normal_form 5 (f.Or (f.And (f.Atom (p (term 3 [])) ∷ f.Not (f.Atom q) ∷ []) ∷ f.And (f.Not (f.Atom (p (term 3 []))) ∷ f.Atom q ∷ []) ∷ []) ∷ f.And [] ∷ f.Or [] ∷ [])
    ≡ ((p (term 3 []) ∷ []) ⇒ (p (term 3 []) ∷ [])) ∷ ([] ⇒ (p (term 3 []) ∷ q ∷ [])) ∷ ((q ∷ p (term 3 []) ∷ []) ⇒ []) ∷ ((q ∷ []) ⇒ (q ∷ [])) ∷ ([] ⇒ []) ∷ []
product = simp laws
