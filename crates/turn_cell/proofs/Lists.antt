-- Lists that begin with one another, and the entries of one seat.
use Rattle.std.proofs.Common.{◌≡◌, ◌≢◌, ℕ, ◌≤◌, ◌<◌, List, [], ◌∷◌, ◌++◌, length, cond, refl, sym, ap, ◌∙◌, subst, arith, ne_eqb, append_assoc, append-nil, length-append}
use Rattle.std.specs.Prelude.{All, ◌==◌}
use Rattle.std.proofs.lemmas.List.Elements.{All-head, All-tail, All-append, filter-append}
use Rattle.turn_cell.specs.Lists.{BeginsWith, entries_of, Appends, IsOfSeats}

module _ {E : Type 0} where
  pub begins_itself : (xs : List E) → BeginsWith xs xs
  begins_itself xs = ([], sym (append-nil xs))

  pub begins_trans : (xs ys zs : List E) → BeginsWith ys xs → BeginsWith zs ys → BeginsWith zs xs
  begins_trans xs ys zs p q = (p.0 ++ q.0, q.1 ∙ ap (λ l. l ++ q.0) p.1 ∙ append_assoc xs p.0 q.0)

  entries_of-append : (by : E → ℕ) (n : ℕ) (xs ys : List E) → entries_of by n (xs ++ ys) ≡ entries_of by n xs ++ entries_of by n ys
  entries_of-append by n xs ys = filter-append (λ e. by e == n) xs ys

  entries_of-others : (by : E → ℕ) (n m : ℕ) (ys : List E) → n ≢ m → All (λ e. by e ≡ m) ys → entries_of by n ys ≡ []
  entries_of-others by n m [] apart all = refl
  entries_of-others by n m (y ∷ ys) apart all =
      let here = All-head (λ e. by e ≡ m) y ys all in
      ap (λ b. cond b (y ∷ entries_of by n ys) (entries_of by n ys)) (ne_eqb (by y) n (λ e. apart (sym e ∙ here)))
      ∙ entries_of-others by n m ys apart (All-tail (λ e. by e ≡ m) y ys all)

  -- what a seat appends is of a seat
  pub appends-ours : (by : E → ℕ) (n seats : ℕ) (old new : List E) → 0 < n → n ≤ seats → Appends by n old new → IsOfSeats by seats old → IsOfSeats by seats new
  appends-ours by n seats old new low high h ours = subst (IsOfSeats by seats) (sym h.1)
      (All-append (λ e. (0 < by e) × (by e ≤ seats)) old h.0 ours (λ k d l. subst (λ m. (0 < m) × (m ≤ seats)) (sym (h.2 k d l)) (low, high)))

  -- what another seat appends leaves the entries of this one
  pub appends-others : (by : E → ℕ) (n m : ℕ) (less more : List E) → n ≢ m → Appends by m less more → entries_of by n more ≡ entries_of by n less
  appends-others by n m less more apart h =
      ap (entries_of by n) h.1 ∙ entries_of-append by n less h.0 ∙ ap (λ l. entries_of by n less ++ l) (entries_of-others by n m h.0 apart h.2) ∙ append-nil (entries_of by n less)

module _ {E : Type 0} where
  pub begins_nothing : (xs : List E) → BeginsWith xs []
  begins_nothing xs = (xs, refl)

  abbrev tail_of : List E → List E
  tail_of [] = []
  tail_of (x ∷ xs) = xs

  abbrev head_or : E → List E → E
  head_or d [] = d
  head_or d (x ∷ xs) = x

  tails : (x y : E) (xs ys : List E) → x ∷ xs ≡ y ∷ ys → xs ≡ ys
  tails x y xs ys e = ap tail_of e

  heads : (x y : E) (xs ys : List E) → x ∷ xs ≡ y ∷ ys → x ≡ y
  heads x y xs ys e = ap (head_or x) e

  -- of two beginnings of one list, the shorter begins the longer
  pub begins_shorter : (xs ys p q : List E) → xs ++ p ≡ ys ++ q → length xs ≤ length ys → BeginsWith ys xs
  begins_shorter [] ys p q e l = (ys, refl)
  begins_shorter (x ∷ xs) [] p q e l = absurd (omega arith)
  begins_shorter (x ∷ xs) (y ∷ ys) p q e l =
      let t = begins_shorter xs ys p q (tails x y (xs ++ p) (ys ++ q) e) (omega arith) in
      let h = sym (heads x y (xs ++ p) (ys ++ q) e) in
      (t.0, λ i. h i ∷ t.1 i)

  no_more : (xs : List E) → length xs ≡ 0 → xs ≡ []
  no_more [] e = refl
  no_more (x ∷ xs) e = absurd (omega arith)

  -- between two lists with the same entries of a seat
  pub between : (by : E → ℕ) (n : ℕ) (xs ys zs : List E) → BeginsWith ys xs → BeginsWith zs ys → entries_of by n xs ≡ entries_of by n zs → entries_of by n ys ≡ entries_of by n xs
  between by n xs ys zs p q e =
      let a : entries_of by n ys ≡ entries_of by n xs ++ entries_of by n p.0 = ap (entries_of by n) p.1 ∙ entries_of-append by n xs p.0 in
      let b : entries_of by n zs ≡ entries_of by n ys ++ entries_of by n q.0 = ap (entries_of by n) q.1 ∙ entries_of-append by n ys q.0 in
      let c = ap length a in
      let d = ap length b in
      let f = ap length e in
      let none : length (entries_of by n p.0) ≡ 0 = omega (arith, length-append (entries_of by n xs) (entries_of by n p.0), length-append (entries_of by n ys) (entries_of by n q.0)) in
      a ∙ ap (λ l. entries_of by n xs ++ l) (no_more (entries_of by n p.0) none) ∙ append-nil (entries_of by n xs)
