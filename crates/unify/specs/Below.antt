-- Terms whose variables are below a number, by what occurs in them.
use Rattle.std.specs.Prelude.{◌≡◌, ℕ, ◌<◌, Bool, true, nat_lt, List, [], ◌∷◌}
use Rattle.std.specs.List.{list_any, list_all}
use Rattle.spl_terms.specs.declared.term.Term.{Term}
use Rattle.spl_terms.specs.Terms.{term_variables}
use Rattle.spl_truth.specs.Unifiers.{occurs}

abbrev pub has_variables_below : ℕ → Term → Bool
has_variables_below vars t = list_all (λ v. nat_lt v vars) (term_variables t)

-- what passes the test is below the number
abbrev pub AllBelow : ℕ → (ℕ → Bool) → Type 0
AllBelow vars passes = (v : ℕ) → passes v ≡ true → v < vars

abbrev pub IsBelow : ℕ → Term → Type 0
IsBelow vars t = AllBelow vars (λ v. occurs v t)

abbrev pub AreBelow : ℕ → List Term → Type 0
AreBelow vars ts = AllBelow vars (λ v. list_any (occurs v) ts)

abbrev pub EquationsBelow : ℕ → List (Term × Term) → Type 0
EquationsBelow vars [] = Unit {0}
EquationsBelow vars (e ∷ es) = IsBelow vars e.0 × IsBelow vars e.1 × EquationsBelow vars es
