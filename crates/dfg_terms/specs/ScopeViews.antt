-- What a scope keeps: a map that agrees with the list of bindings, and what each binding hides.
use Rattle.std.specs.Prelude.{◌≡◌, ℕ, cond, List, [], ◌∷◌, ◌++◌, map, Option, option_and_then, ⊤}
use Rattle.std.specs.Map.{lookup}
use Rattle.std.specs.Str.{bytes_eq}
use denote.Ref.{Bor}
use Rattle.dfg_terms.specs.declared.scope.Shadow.{Shadow}
use Rattle.dfg_terms.specs.Scopes.{Binding, bound}

-- what the entries of the map say of a name
abbrev pub number_in : List (Bor (List ℕ) × Option ℕ) → List ℕ → Option ℕ
number_in entries name = option_and_then (λ n. n) (lookup (λ k. bytes_eq name k.now) entries)

-- the map says another thing of one name
abbrev pub IsRebound : List (Bor (List ℕ) × Option ℕ) → List (Bor (List ℕ) × Option ℕ) → List ℕ → Option ℕ → Type 0
IsRebound old new name number = (other : List ℕ) → number_in new other ≡ cond (bytes_eq other name) number (number_in old other)

abbrev pub shown : Shadow → Binding
shown s = record { name = s.name.now; number = s.number }

-- each hides what its name was bound to before
abbrev pub AreHiding : List Binding → List Shadow → Type 0
AreHiding before [] = ⊤
AreHiding before (s ∷ ss) = (s.hidden ≡ bound s.name.now before) × AreHiding (before ++ shown s ∷ []) ss

abbrev pub IsScope : List (Bor (List ℕ) × Option ℕ) → List Shadow → Type 0
IsScope entries shadows = ((name : List ℕ) → number_in entries name ≡ bound name (map shown shadows)) × AreHiding [] shadows
