-- Bindings in the order in which they were made, the newest first, and what they stand for.
use Rattle.std.specs.Prelude.{◌≡◌, ℕ, zero, suc, ◌<◌, false, ◌==◌, if◌then◌else◌, List, [], ◌∷◌, length, map, reverse, Option, Some, None, option_map, unwrap_or}
use Rattle.std.specs.List.{slice_get}
use Rattle.std.specs.Borrow.{Bor}
use Rattle.spl_terms.specs.declared.term.Term.{Term, Var, Term-F, out-Term}
use Rattle.spl_terms.specs.declared.term.Term.TheOpen as layer
use Rattle.spl_terms.specs.Terms.{replace}
use Rattle.spl_truth.specs.Unifiers.{occurs, bind}
use Rattle.unify.specs.Below.{IsBelow}

-- ---- the fields as lists of terms

abbrev pub plain_terms : List (Option (Bor Term)) → List (Option Term)
plain_terms = map (option_map (λ t. t.now))

abbrev pub newest_first : List (ℕ × Bor Term) → List (ℕ × Term)
newest_first made = reverse (map (λ b. (b.0, b.1.now)) made)

-- equations, of which the first stands last
abbrev pub first_first : List (Bor Term × Bor Term) → List (Term × Term)
first_first es = reverse (map (λ e. (e.0.now, e.1.now)) es)

abbrev pub term_at : List (Option Term) → ℕ → Option Term
term_at terms v = unwrap_or (slice_get terms v) None

-- ---- what a variable is bound to

abbrev pub bound_to : List (ℕ × Term) → ℕ → Option Term
bound_to [] v = None
bound_to (b ∷ bs) v = if v == b.0 then Some b.1 else bound_to bs v

-- each variable is below vars and was unbound when it was bound
abbrev pub IsOnce : ℕ → List (ℕ × Term) → Type 0
IsOnce vars [] = Unit {0}
IsOnce vars (b ∷ bs) = (b.0 < vars) × (bound_to bs b.0 ≡ None) × IsOnce vars bs

-- the list by variables has what the list by time has
pub record IsIndexed (terms : List (Option Term)) (made : List (ℕ × Term)) : Type 0 where
  pub finds : (v : ℕ) → term_at terms v ≡ bound_to made v
  pub once : IsOnce (length terms) made

-- the bindings, and each other variable itself
abbrev pub filled : List (ℕ × Term) → ℕ → Term
filled made v = unwrap_or (bound_to made v) (Var v)

-- ---- bindings that are applied to each other

-- each binding has those before it applied to its term, and is applied to them
abbrev pub substitution : List (ℕ × Term) → ℕ → Term
substitution [] = Var
substitution (b ∷ bs) = bind b.0 (replace (substitution bs) b.1) (substitution bs)

-- no bound variable
abbrev pub IsFree : List (ℕ × Term) → Term → Type 0
IsFree made t = (v : ℕ) → t ≡ Var v → bound_to made v ≡ None

-- each variable was bound while it was unbound, to a term that was no bound variable and in which it did not occur
abbrev pub IsTriangular : ℕ → List (ℕ × Term) → Type 0
IsTriangular vars [] = Unit {0}
IsTriangular vars (b ∷ bs) =
    (b.0 < vars) × IsBelow vars b.1 × (occurs b.0 (replace (substitution bs) b.1) ≡ false) × (bound_to bs b.0 ≡ None) × IsFree bs b.1 × IsTriangular vars bs

-- ---- how many variables can stand in a row, each bound to the next

-- a row of variables with one more before it, where there is a row
abbrev pub lengthened : ℕ → ℕ
lengthened zero = zero
lengthened (suc n) = suc (suc n)

-- a variable is bound to one that is bound later, if at all
abbrev pub rank : List (ℕ × Term) → ℕ → ℕ
rank [] v = 0
rank (b ∷ bs) v = if v == b.0 then 1 else lengthened (rank bs v)

abbrev pub rank_of_layer : List (ℕ × Term) → Term-F Term → ℕ
rank_of_layer made (layer.Var v) = rank made v
rank_of_layer made (layer.App f ts) = 0

abbrev pub rank_of : List (ℕ × Term) → Term → ℕ
rank_of made t = rank_of_layer made (out-Term t)
