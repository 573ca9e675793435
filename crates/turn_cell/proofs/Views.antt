-- Facts about each view, and the numbers that the first seat keeps.
use Rattle.std.proofs.Common.{◌≡◌, ◌≢◌, ℕ, zero, suc, ◌+◌, ◌<◌, ◌≤◌, List, [], ◌∷◌, ◌++◌, length, set, refl, sym, ◌∙◌, subst, ⊎_elim, inl, inr, arith}
use mathlib.Core.Option.{some, some-injective, some-ne-none}
use lib.ListN.{get_elem?}
use Rattle.atomic_table.proofs.Lists.{at_set}
use Rattle.turn_cell.specs.Lists.{Among}
use Rattle.turn_cell.specs.Rule.{AllApart, count_up}
use Rattle.turn_cell.specs.ListLaws.{among-append}

module _ {A : Type 0} where
  pub set_there : (l : List A) (i : ℕ) (a b : A) → get_elem? l i ≡ some a → get_elem? (set l i b) i ≡ some b
  set_there [] i a b e = absurd (some-ne-none a (sym e))
  set_there (x ∷ xs) zero a b e = refl
  set_there (x ∷ xs) (suc i) a b e = set_there xs i a b e

  -- a fact of each view after one of them has changed
  pub each_set : (P : ℕ → A → Type 0) (l : List A) (i : ℕ) (a : A) → P i a → ((j : ℕ) (b : A) → j ≢ i → get_elem? l j ≡ some b → P j b) → (j : ℕ) (b : A) → get_elem? (set l i a) j ≡ some b → P j b
  each_set P l i a mine others j b e =
      ⊎_elim (λ (t : (j ≡ i) × (a ≡ b)). subst (λ (x : ℕ × A). P x.0 x.1) (λ k. (sym t.0 k, t.1 k)) mine)
      (λ (t : (j ≢ i) × (get_elem? l j ≡ some b)). others j b t.0 t.1) (at_set l i j a b e)

  -- a fact of each view after one more has come
  pub each_snoc : (P : ℕ → A → Type 0) (l : List A) (a : A) → P (length l) a → ((j : ℕ) (b : A) → get_elem? l j ≡ some b → P j b) → (j : ℕ) (b : A) → get_elem? (l ++ a ∷ []) j ≡ some b → P j b
  each_snoc P [] a last others zero b e = subst (P 0) (some-injective a b e) last
  each_snoc P [] a last others (suc j) b e = absurd (some-ne-none b (sym e))
  each_snoc P (x ∷ xs) a last others zero b e = others zero b e
  each_snoc P (x ∷ xs) a last others (suc j) b e = each_snoc (λ k c. P (suc k) c) xs a last (λ k c f. others (suc k) c f) j b e

  pub same_there : (l : List A) (i : ℕ) (a b : A) → get_elem? l i ≡ some a → get_elem? l i ≡ some b → a ≡ b
  same_there l i a b e f = some-injective a b (sym e ∙ f)

-- the numbers that are counted up
pub among_from : (k m n : ℕ) → Among n (count_up k m) → (k ≤ n) × (n < k + m)
among_from k zero n a = absurd a
among_from k (suc m) n (inl e) = (omega arith, omega arith)
among_from k (suc m) n (inr a) = let h = among_from (suc k) m n a in (let l = h.0 in omega arith, let l = h.1 in omega arith)

pub apart_up : (k m : ℕ) → AllApart (count_up k m)
apart_up k zero = tt
apart_up k (suc m) = ((λ a. let h = among_from (suc k) m k a in let l = h.0 in omega arith), apart_up (suc k) m)

pub among_first : (m : ℕ) → 0 < m → Among 1 (count_up 1 m)
among_first zero l = absurd (omega arith)
among_first (suc m) l = inl refl

pub apart-append : (xs ys : List ℕ) → AllApart xs → AllApart ys → ((n : ℕ) → Among n xs → Among n ys → ⊥) → AllApart (xs ++ ys)
apart-append [] ys p q d = q
apart-append (x ∷ xs) ys p q d = ((λ a. ⊎_elim (λ l. p.0 l) (λ r. d x (inl refl) r) (among-append x xs ys a)), apart-append xs ys p.1 q (λ n a b. d n (inr a) b))
