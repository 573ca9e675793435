-- What the steps of solving equations answer.
use Rattle.std.specs.Prelude.{◌≡◌, ℕ, ◌<◌, if◌then◌else◌, Bool, true, false, List, ◌∷◌, Option, Some, None}
use Rattle.spl_terms.specs.declared.term.Term.{Term}
use Rattle.spl_terms.specs.Terms.{replace}
use Rattle.spl_truth.specs.Unifiers.{occurs, Leads, left_symbols}
use Rattle.unify.specs.declared.unifying.Progress.{Progress}
use Rattle.unify.specs.declared.unifying.Progress.TheVariants.{Reduced, Bound, Failed}
use Rattle.unify.specs.Below.{EquationsBelow}
use Rattle.unify.specs.Bindings.{substitution, IsTriangular}

-- where the new bindings and equations lead, the old ones lead too
abbrev pub Onward : (made : List (ℕ × Term)) (es : List (Term × Term)) (made' : List (ℕ × Term)) (es' : List (Term × Term)) → Type 0
Onward made es made' es' = (r : Option (ℕ → Term)) → Leads (substitution made') es' r → Leads (substitution made) es r

-- one more binding was made
pub record IsOneMore (vars : ℕ) (made : List (ℕ × Term)) (es : List (Term × Term)) (made' : List (ℕ × Term)) (es' : List (Term × Term)) : Type 0 where
  pub binding : ℕ × Term
  pub is : made' ≡ binding ∷ made
  pub triangular : IsTriangular vars made'
  pub below : EquationsBelow vars es'
  pub onward : Onward made es made' es'

-- nothing was bound, and the equations that are left have fewer symbols
pub record IsReduced (vars : ℕ) (made : List (ℕ × Term)) (es : List (Term × Term)) (made' : List (ℕ × Term)) (es' : List (Term × Term)) : Type 0 where
  pub is : made' ≡ made
  pub below : EquationsBelow vars es'
  pub onward : Onward made es made' es'
  pub fewer : left_symbols (substitution made) es' < left_symbols (substitution made) es

-- after a variable was to be bound to a term
abbrev pub Eliminated : Progress → ℕ → Term → (made made' : List (ℕ × Term)) → Type 0
Eliminated Reduced v t made made' = ⊥
Eliminated Bound v t made made' = (occurs v (replace (substitution made) t) ≡ false) × (made' ≡ (v, t) ∷ made)
Eliminated Failed v t made made' = occurs v (replace (substitution made) t) ≡ true

-- after one equation
abbrev pub Progressed : (vars : ℕ) → Progress → (made : List (ℕ × Term)) (es : List (Term × Term)) (made' : List (ℕ × Term)) (es' : List (Term × Term)) → Type 0
Progressed vars Reduced made es made' es' = IsReduced vars made es made' es'
Progressed vars Bound made es made' es' = IsOneMore vars made es made' es'
Progressed vars Failed made es made' es' = Leads (substitution made) es None

-- after as many equations as it takes to bind a variable
abbrev pub Settled : (vars : ℕ) → Progress → (made : List (ℕ × Term)) (es : List (Term × Term)) (made' : List (ℕ × Term)) (es' : List (Term × Term)) → Type 0
Settled vars Reduced made es made' es' = (made' ≡ made) × Leads (substitution made) es (Some (substitution made))
Settled vars Bound made es made' es' = IsOneMore vars made es made' es'
Settled vars Failed made es made' es' = Leads (substitution made) es None

-- what the equations lead to
abbrev pub outcome : Bool → List (ℕ × Term) → Option (ℕ → Term)
outcome is_solved made = if is_solved then Some (substitution made) else None
