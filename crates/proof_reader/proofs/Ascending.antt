-- Assumptions in ascending order, one behind the other and in two halves.
use Rattle.std.proofs.Common.{◌≡◌, ◌⊎◌, inl, inr, ℕ, suc, ◌-◌, true, ◌&&◌, eqb, ltb, cond, List, [], ◌∷◌, ◌++◌, take, drop, length, slice_get, refl, sym, subst, ap, ◌∙◌, arith}
use Rattle.std.proofs.lemmas.List.{take-append-drop}
use Rattle.std.proofs.lemmas.Bool.{or_cases, and_parts, eqb-true, ltb-true}
use Rattle.dep_sets.specs.declared.deps.Assumption.{Assumption}
use Rattle.dep_sets.specs.Assumptions.{is_before, is_same_assumption, IsBefore, IsAscending, with_assumption, united}
use Rattle.dep_sets.specs.OrderLaws.{is_before_true}
use Rattle.proof_reader.specs.ProofLists.{is_behind, may_follow}

before_from : (a b : Assumption) → is_before a b ≡ true → IsBefore a b
before_from a b h = by_case (or_cases (ltb a.split b.split) (eqb a.split b.split && ltb a.side b.side) h)
  where
    by_case : ((ltb a.split b.split ≡ true) ⊎ ((eqb a.split b.split && ltb a.side b.side) ≡ true)) → IsBefore a b
    by_case (inl l) = inl (ltb-true a.split b.split l)
    by_case (inr r) =
        let both = and_parts (eqb a.split b.split) (ltb a.side b.side) r in
        inr (eqb-true a.split b.split both.0, ltb-true a.side b.side both.1)

pub ascending_push : (xs : List Assumption) (a : Assumption) → IsAscending xs → may_follow xs a ≡ true → IsAscending (xs ++ a ∷ [])
ascending_push [] a h f = tt
ascending_push (x ∷ []) a h f = (before_from x a f, tt)
ascending_push (x ∷ y ∷ more) a h f =
    let k : length (x ∷ y ∷ more) - 1 ≡ suc (length (y ∷ more) - 1) = omega arith in
    (h.0, ascending_push (y ∷ more) a h.1 (ap (λ n. is_behind (slice_get (x ∷ y ∷ more) n) a) (sym k) ∙ f))

ascending_left : (xs ys : List Assumption) → IsAscending (xs ++ ys) → IsAscending xs
ascending_left [] ys h = tt
ascending_left (x ∷ []) ys h = tt
ascending_left (x ∷ y ∷ more) ys h = (h.0, ascending_left (y ∷ more) ys h.1)

ascending_right : (xs ys : List Assumption) → IsAscending (xs ++ ys) → IsAscending ys
ascending_right [] ys h = h
ascending_right (x ∷ []) [] h = tt
ascending_right (x ∷ []) (y ∷ ys) h = h.1
ascending_right (x ∷ y ∷ more) ys h = ascending_right (y ∷ more) ys h.1

with_first : (x : Assumption) (rest : List Assumption) → IsAscending (x ∷ rest) → with_assumption x rest ≡ x ∷ rest
with_first x [] h = refl
with_first x (b ∷ more) h = ap (λ t. cond t (x ∷ b ∷ more) (cond (is_same_assumption x b) (b ∷ more) (b ∷ with_assumption x more))) (is_before_true x b h.0)

later : (x : Assumption) (rest : List Assumption) → IsAscending (x ∷ rest) → IsAscending rest
later x [] h = tt
later x (b ∷ more) h = h.1

united_append : (xs ys : List Assumption) → IsAscending (xs ++ ys) → united xs ys ≡ xs ++ ys
united_append [] ys h = refl
united_append (x ∷ xs) ys h = ap (with_assumption x) (united_append xs ys (later x (xs ++ ys) h)) ∙ with_first x (xs ++ ys) h

-- ---- the halves of a list

whole : (n : ℕ) (xs : List Assumption) → IsAscending xs → IsAscending (take n xs ++ drop n xs)
whole n xs h = subst IsAscending (sym (take-append-drop n xs)) h

pub ascending_front : (n : ℕ) (xs : List Assumption) → IsAscending xs → IsAscending (take n xs)
ascending_front n xs h = ascending_left (take n xs) (drop n xs) (whole n xs h)

pub ascending_back : (n : ℕ) (xs : List Assumption) → IsAscending xs → IsAscending (drop n xs)
ascending_back n xs h = ascending_right (take n xs) (drop n xs) (whole n xs h)

pub halved : (n : ℕ) (xs : List Assumption) → IsAscending xs → united (take n xs) (drop n xs) ≡ xs
halved n xs h = united_append (take n xs) (drop n xs) (whole n xs h) ∙ take-append-drop n xs
