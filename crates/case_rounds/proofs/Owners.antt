-- The owner on a path, one node after another.
use Rattle.std.proofs.Common.{◌≡◌, ◌⊎◌, inl, inr, ℕ, suc, ◌+◌, ◌<◌, ◌≤◌, if◌then◌else◌, List, [], ◌∷◌, length, drop, get_or, refl, sym, ◌∙◌, ap, arith}
use Rattle.std.proofs.Math.Seq.{drop-cons}
use Rattle.std.proofs.lemmas.List.{drop_all}
use Rattle.dep_sets.specs.declared.deps.Assumption.{Assumption}
use Rattle.dep_sets.specs.Assumptions.{contains_assumption}
use Rattle.case_view.specs.Views.{owner_among, owner_on}

pub owner_first : (nodes : List ℕ) (path deps : List Assumption) (n : ℕ) → 0 < length nodes → n ≡ get_or nodes 0 n → owner_among n (drop 1 nodes) path deps ≡ owner_on nodes path deps
owner_first [] path deps n h e = absurd (omega (arith, h))
owner_first (x ∷ nodes) path deps n h e = ap (λ r. owner_among r nodes path deps) e

pub owner_next : (nodes : List ℕ) (path deps : List Assumption) (k at n : ℕ) (a : Assumption) → k < length path → k + 1 < length nodes → a ≡ get_or path k a → n ≡ get_or nodes (k + 1) n
    → owner_among (if contains_assumption deps a then n else at) (drop (suc (k + 1)) nodes) (drop (k + 1) path) deps ≡ owner_among at (drop (suc k) nodes) (drop k path) deps
owner_next nodes path deps k at n a short low e f =
    let one : k + 1 ≡ suc k = omega arith in
    let below : drop (suc k) nodes ≡ n ∷ drop (suc (k + 1)) nodes =
    ap (λ j. drop j nodes) (sym one) ∙ (drop-cons nodes (k + 1) n low ∙ ap (λ x. x ∷ drop (suc (k + 1)) nodes) (sym f)) in
    let first : drop k path ≡ a ∷ drop (k + 1) path = drop-cons path k a short ∙ (λ i. (sym e) i ∷ drop ((sym one) i) path) in
    λ i. owner_among at ((sym below) i) ((sym first) i) deps

no_path : (at : ℕ) (nodes : List ℕ) (deps : List Assumption) → owner_among at nodes [] deps ≡ at
no_path at [] deps = refl
no_path at (n ∷ nodes) deps = refl

no_nodes : (at : ℕ) (path deps : List Assumption) → owner_among at [] path deps ≡ at
no_nodes at [] deps = refl
no_nodes at (a ∷ path) deps = refl

-- at the end of the path or of its nodes
pub owner_end : (nodes : List ℕ) (path deps : List Assumption) (k at : ℕ) → length path ≤ k ⊎ length nodes ≤ suc k → owner_among at (drop (suc k) nodes) (drop k path) deps ≡ at
owner_end nodes path deps k at (inl high) = ap (λ xs. owner_among at (drop (suc k) nodes) xs deps) (drop_all k path high) ∙ no_path at (drop (suc k) nodes) deps
owner_end nodes path deps k at (inr high) = ap (λ xs. owner_among at xs (drop k path) deps) (drop_all (suc k) nodes high) ∙ no_nodes at (drop k path) deps
