-- Atoms of which one is changed, and two lists, kept one after another without repeated ones.
use Rattle.std.proofs.Common.{◌≡◌, ℕ, zero, suc, ◌<◌, List, [], ◌∷◌, ◌++◌, length, map, fold, take, drop, sum_by, refl, sym, ap, ◌∙◌, subst, arith}
use Rattle.std.proofs.lemmas.List.Sums.{fold-append}
use Rattle.spl_terms.specs.declared.atom.Atom.{Atom}
use Rattle.spl_terms.specs.Clauses.{atom_symbols, added, distinct}
use Rattle.proof_steps.specs.Spots.{changed_at}
use Rattle.proof_steps.proofs.Distinct.{fold-grows, symbols-within}

pub changed-pieces : (h : Atom → Atom) (xs : List Atom) (k : ℕ) (y : Atom) → k < length xs → changed_at k (λ a. y) (map h xs) ≡ map h (take k xs) ++ y ∷ map h (drop (suc k) xs)
changed-pieces h [] k y b = absurd (omega arith)
changed-pieces h (x ∷ xs) zero y b = refl
changed-pieces h (x ∷ xs) (suc k) y b = ap (λ l. h x ∷ l) (changed-pieces h xs k y (omega arith))

module _ (h : Atom → Atom) (xs kept : List Atom) (k : ℕ) (y : Atom) (below : k < length xs) where
  abbrev pub with_pieces : List Atom
  with_pieces = fold added kept (changed_at k (λ a. y) (map h xs))

  pub kept-pieces : fold added (added (fold added kept (map h (take k xs))) y) (map h (drop (suc k) xs)) ≡ with_pieces
  kept-pieces = sym (ap (fold added kept) (changed-pieces h xs k y below) ∙ fold-append added kept (map h (take k xs)) (y ∷ map h (drop (suc k) xs)))

  pub large-third : 4096 < sum_by atom_symbols (fold added (added (fold added kept (map h (take k xs))) y) (map h (drop (suc k) xs))) → 4096 < sum_by atom_symbols with_pieces
  large-third e = subst (λ l. 4096 < sum_by atom_symbols l) kept-pieces e

  pub large-second : 4096 < sum_by atom_symbols (added (fold added kept (map h (take k xs))) y) → 4096 < sum_by atom_symbols with_pieces
  large-second e = large-third (omega (arith, e, fold-grows (map h (drop (suc k) xs)) (added (fold added kept (map h (take k xs))) y)))

  pub large-first : 4096 < sum_by atom_symbols (fold added kept (map h (take k xs))) → 4096 < sum_by atom_symbols with_pieces
  large-first e = large-third (omega (arith, e, fold-grows (y ∷ map h (drop (suc k) xs)) (fold added kept (map h (take k xs)))))

  -- the atom itself may be too large
  pub large-atom : 4096 < atom_symbols y → 4096 < sum_by atom_symbols with_pieces
  large-atom e = large-second (omega (arith, e, symbols-within (fold added kept (map h (take k xs))) y))

-- ---- two lists

module _ (a b : List Atom) where
  pub kept_two : fold added (fold added [] a) b ≡ distinct (a ++ b)
  kept_two = sym (fold-append added [] a b)

  pub large_both : 4096 < sum_by atom_symbols (fold added (fold added [] a) b) → 4096 < sum_by atom_symbols (distinct (a ++ b))
  large_both h = subst (λ xs. 4096 < sum_by atom_symbols xs) kept_two h

  pub large_one : 4096 < sum_by atom_symbols (fold added [] a) → 4096 < sum_by atom_symbols (distinct (a ++ b))
  large_one h = large_both (omega (arith, h, fold-grows b (fold added [] a)))
