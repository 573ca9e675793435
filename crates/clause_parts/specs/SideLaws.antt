-- Laws with their proofs, not definitions that a reader must believe: the parts of a split are the two parts of its clause, and the
-- negations of a clause are those of its atoms, by their numbers.
use Rattle.std.proofs.Common.{◌≡◌, ℕ, zero, suc, ◌+◌, ◌<◌, ◌≤◌, Bool, true, false, not, if◌then◌else◌, nat_lt, List, [], ◌∷◌, ◌++◌, length, map, Option, Some, None, option_map, refl, sym, ap, ◌∙◌, arith, append-nil, length-append, slice_get}
use Rattle.std.proofs.lemmas.Bool.{ltb-true, ltb-false, lt-ltb, le-ltb}
use Rattle.std.proofs.lemmas.Option.{slice_get-map}
use Rattle.spl_terms.specs.declared.atom.Atom.{Atom}
use Rattle.spl_terms.specs.declared.clause.Clause.{Clause}
use Rattle.spl_terms.specs.Clauses.{atoms_of, in_order}
use Rattle.spl_truth.specs.Truth.{is_ground}
use Rattle.clause_parts.specs.Parts.{Parted, left_marks, parted_by, parts_of, as_true, as_false, negated_atom}
use Rattle.clause_parts.specs.Sides.{SplitPart, split_part, split_parts, side_clauses, negations}

-- the left part and the right part
abbrev pub two_parts : Parted → List SplitPart
two_parts parts = record { clause = parts.left; no_variables = parts.left_ground } ∷ record { clause = parts.right; no_variables = is_ground parts.right } ∷ []

-- they are the parts of the clause
pub split_parts-two : (c : Clause) → split_parts c ≡ option_map two_parts (parts_of c)
split_parts-two c = by_marks (left_marks c)
  where
    by_marks : (o : Option (List Bool)) → option_map (map (split_part c)) (option_map (λ marks. marks ∷ map not marks ∷ []) o) ≡ option_map two_parts (option_map (parted_by c) o)
    by_marks None = refl
    by_marks (Some marks) = refl

-- the left side assumes its part; the right side its part and, where the left part has no variables, its negations
pub side_clauses-two : (parts : Parted) → (side_clauses 1 (two_parts parts) ≡ parts.left ∷ []) × (side_clauses 2 (two_parts parts) ≡ parts.right ∷ (if parts.left_ground then negations parts.left else []))
side_clauses-two parts = (refl, ap (λ more. parts.right ∷ more) (append-nil (if parts.left_ground then negations parts.left else [])))

-- ---- negations by their numbers

less_suc : (k n : ℕ) → nat_lt (suc k) (suc n) ≡ nat_lt k n
less_suc k n = by_test (nat_lt k n) refl
  where
    by_test : (b : Bool) → nat_lt k n ≡ b → nat_lt (suc k) (suc n) ≡ b
    by_test true e = (let less : k < n = ltb-true k n e in lt-ltb (suc k) (suc n) (omega (arith, less)))
    by_test false e = (let more : n ≤ k = ltb-false k n e in le-ltb (suc k) (suc n) (omega (arith, more)))

get_both : {A B : Type 0} (f g : A → B) (xs ys : List A) (k : ℕ) → slice_get (map f xs ++ map g ys) k ≡ (if nat_lt k (length xs) then option_map f (slice_get (xs ++ ys) k) else option_map g (slice_get (xs ++ ys) k))
get_both f g [] ys k = slice_get-map g ys k ∙ sym (ap (λ b. if b then option_map f (slice_get ys k) else option_map g (slice_get ys k)) (le-ltb k 0 (omega arith)))
get_both f g (x ∷ xs) ys zero = sym (ap (λ b. if b then Some (f x) else Some (g x)) (lt-ltb 0 (length (x ∷ xs)) (omega arith)))
get_both f g (x ∷ xs) ys (suc k) = get_both f g xs ys k ∙ ap (λ b. if b then option_map f (slice_get (xs ++ ys) k) else option_map g (slice_get (xs ++ ys) k)) (sym (less_suc k (length xs)))

-- negation k is that of atom k
pub negations-get : (c : Clause) (k : ℕ) → slice_get (negations c) k ≡ negated_atom k c
negations-get c k =
    get_both (λ a. in_order (as_true a)) (λ a. in_order (as_false a)) (c.constraint ++ c.antecedent) c.succedent k
    ∙ ap (λ n. if nat_lt k n then option_map (λ a. in_order (as_true a)) (slice_get (atoms_of c) k) else option_map (λ a. in_order (as_false a)) (slice_get (atoms_of c) k)) (length-append c.constraint c.antecedent)
    ∙ by_test (nat_lt k (length c.constraint + length c.antecedent)) (slice_get (atoms_of c) k)
  where
    by_test : (b : Bool) (o : Option Atom) → (if b then option_map (λ a. in_order (as_true a)) o else option_map (λ a. in_order (as_false a)) o) ≡ option_map in_order (if b then option_map as_true o else option_map as_false o)
    by_test true None = refl
    by_test true (Some a) = refl
    by_test false None = refl
    by_test false (Some a) = refl
