-- What is symbol_counted in atoms grows where they are mapped to different places.
use Rattle.std.proofs.Common.{◌≡◌, inl, inr, ℕ, zero, suc, ◌<◌, ◌≤◌, true, List, [], ◌∷◌, length, map, sum, sum_by, Option, Some, None, remove, refl, sym, ap, subst, arith}
use Rattle.std.specs.Prelude.{IsSomeAnd, slice_get}
use Rattle.std.proofs.lemmas.Option.{slice_get_within, get_or_from_slice_get}
use Rattle.std.proofs.lemmas.List.Sums.{sum_by-cons, sum_by-remove}
use Rattle.spl_terms.specs.declared.term.Term.{Term, Var}
use Rattle.spl_terms.specs.declared.atom.Atom.{Atom}
use Rattle.spl_terms.specs.declared.atom.Atom.TheVariants.{Holds, Equal}
use Rattle.spl_terms.specs.Terms.{term_symbols, replace}
use Rattle.spl_terms.specs.Clauses.{atom_symbols, is_same, replace_in_atom}
use Rattle.spl_terms.specs.SameLaws.{flipped, same_cases}
use Rattle.spl_terms.specs.TermLaws.{Each, term_induction, term_symbols-Var, term_symbols-App, term_symbols-positive, replace-App}
use Rattle.spl_truth.specs.Redundancy.{MapsApart}

-- ---- a place taken out

-- where an element stands once the one at a place was taken out
abbrev behind : ℕ → ℕ → ℕ
behind zero zero = zero
behind zero (suc r) = r
behind (suc p) zero = zero
behind (suc p) (suc r) = suc (behind p r)

get_behind : {X : Type 0} (xs : List X) (p r : ℕ) → (r ≡ p → ⊥) → slice_get (remove xs p) (behind p r) ≡ slice_get xs r
get_behind [] zero zero h = absurd (h refl)
get_behind [] zero (suc r) h = refl
get_behind [] (suc p) zero h = refl
get_behind [] (suc p) (suc r) h = refl
get_behind (x ∷ xs) zero zero h = absurd (h refl)
get_behind (x ∷ xs) zero (suc r) h = refl
get_behind (x ∷ xs) (suc p) zero h = refl
get_behind (x ∷ xs) (suc p) (suc r) h = get_behind xs p r (λ e. h (ap suc e))

behind_apart : (p r s : ℕ) → (r ≡ p → ⊥) → (s ≡ p → ⊥) → behind p r ≡ behind p s → r ≡ s
behind_apart zero zero s h k e = absurd (h refl)
behind_apart zero (suc r) zero h k e = absurd (k refl)
behind_apart zero (suc r) (suc s) h k e = ap suc e
behind_apart (suc p) zero zero h k e = refl
behind_apart (suc p) zero (suc s) h k e = absurd (omega (arith, e))
behind_apart (suc p) (suc r) zero h k e = absurd (omega (arith, e))
behind_apart (suc p) (suc r) (suc s) h k e = ap suc (behind_apart p r s (λ q. h (ap suc q)) (λ q. k (ap suc q)) (omega (arith, e)))

there : {X : Type 0} (P : X → Type 0) (o : Option X) → IsSomeAnd o P → (x : X) × (o ≡ Some x) × P x
there P None h = absurd h
there P (Some x) h = (x, refl, h)

rest_mapped : (g : ℕ → Term) (a : Atom) (as' into : List Atom) (m : MapsApart g (a ∷ as') into) → MapsApart g as' (remove into (m.place 0))
rest_mapped g a as' into m = record {
  place = λ k. behind (m.place 0) (m.place (suc k));
  same = λ k x e. subst (λ o. IsSomeAnd o (λ b. is_same (replace_in_atom g x) b ≡ true)) (sym (get_behind into (m.place 0) (m.place (suc k)) (other k (slice_get_within as' k x e)))) (m.same (suc k) x e);
  apart = λ k l hk hl e. (let same = m.apart (suc k) (suc l) (omega (arith, hk)) (omega (arith, hl)) (behind_apart (m.place 0) (m.place (suc k)) (m.place (suc l)) (other k hk) (other l hl) e) in omega (arith, same));
}
  where
    other : (k : ℕ) → k < length as' → m.place (suc k) ≡ m.place 0 → ⊥
    other k h e = (let same = m.apart (suc k) 0 (omega (arith, h)) (omega arith) e in omega (arith, same))

-- what is no less in each image than in its atom is no less in all
pub mapped_sums : (w : Atom → ℕ) (g : ℕ → Term) → ((a b : Atom) → is_same (replace_in_atom g a) b ≡ true → w a ≤ w b) → (as' into : List Atom) → MapsApart g as' into → sum_by w as' ≤ sum_by w into
mapped_sums w g more [] into m = omega arith
mapped_sums w g more (a ∷ as') into m =
    let t = there (λ b. is_same (replace_in_atom g a) b ≡ true) (slice_get into (m.place 0)) (m.same 0 a refl) in
    let low = slice_get_within into (m.place 0) t.0 t.1 in
    let out = sum_by-remove w into (m.place 0) t.0 low in
    omega (arith, sum_by-cons w a as', mapped_sums w g more as' (remove into (m.place 0)) (rest_mapped g a as' into m), out, ap w (get_or_from_slice_get into (m.place 0) t.0 t.0 t.1), more a t.0 t.2)

-- ---- atoms

count_all : (xs : List Atom) → sum_by (λ a. 1) xs ≡ length xs
count_all [] = refl
count_all (x ∷ xs) = omega (arith, sum_by-cons (λ (a : Atom). 1) x xs, count_all xs)

pub mapped_length : (g : ℕ → Term) (as' into : List Atom) → MapsApart g as' into → length as' ≤ length into
mapped_length g as' into m = omega (arith, count_all as', count_all into, mapped_sums (λ a. 1) g (λ a b e. omega arith) as' into m)

-- ---- symbols

module _ (g : ℕ → Term) where
  all_grow : (ts : List Term) → Each (λ t. term_symbols t ≤ term_symbols (replace g t)) ts → sum (map term_symbols ts) ≤ sum (map term_symbols (map (replace g) ts))
  all_grow [] each = omega arith
  all_grow (t ∷ ts) each = omega (arith, each.0, all_grow ts each.1, sum_by-cons (λ m. m) (term_symbols t) (map term_symbols ts), sum_by-cons (λ m. m) (term_symbols (replace g t)) (map term_symbols (map (replace g) ts)))

  symbols_grow : (t : Term) → term_symbols t ≤ term_symbols (replace g t)
  symbols_grow =
      term_induction (λ t. term_symbols t ≤ term_symbols (replace g t))
      (λ v. omega (arith, term_symbols-Var v, term_symbols-positive (replace g (Var v))))
      (λ f ts each. omega (arith, term_symbols-App f ts, all_grow ts each, term_symbols-App f (map (replace g) ts), ap term_symbols (replace-App g f ts)))

  list_grow : (ts : List Term) → sum (map term_symbols ts) ≤ sum (map term_symbols (map (replace g) ts))
  list_grow [] = omega arith
  list_grow (t ∷ ts) = omega (arith, symbols_grow t, list_grow ts, sum_by-cons (λ m. m) (term_symbols t) (map term_symbols ts), sum_by-cons (λ m. m) (term_symbols (replace g t)) (map term_symbols (map (replace g) ts)))

  atom_grows : (a : Atom) → atom_symbols a ≤ atom_symbols (replace_in_atom g a)
  atom_grows (Holds p ts) = omega (arith, list_grow ts)
  atom_grows (Equal s t) = omega (arith, list_grow (s ∷ t ∷ []))

flipped_symbols : (a : Atom) → atom_symbols (flipped a) ≡ atom_symbols a
flipped_symbols (Holds p ts) = refl
flipped_symbols (Equal s t) =
    omega (arith, sum_by-cons (λ m. m) (term_symbols s) (term_symbols t ∷ []), sum_by-cons (λ m. m) (term_symbols t) (term_symbols s ∷ []), sum_by-cons (λ m. m) (term_symbols t) [], sum_by-cons (λ m. m) (term_symbols s) [])

image_symbols : (g : ℕ → Term) (a b : Atom) → is_same (replace_in_atom g a) b ≡ true → atom_symbols a ≤ atom_symbols b
image_symbols g a b e = elim (same_cases (replace_in_atom g a) b e) [
  | inl h ↦ omega (arith, atom_grows g a, ap atom_symbols h)
  | inr h ↦ omega (arith, atom_grows g a, flipped_symbols (replace_in_atom g a), ap atom_symbols h)
]

pub mapped_symbols : (g : ℕ → Term) (as' into : List Atom) → MapsApart g as' into → sum_by atom_symbols as' ≤ sum_by atom_symbols into
mapped_symbols g as' into m = mapped_sums atom_symbols g (image_symbols g) as' into m

-- ---- the parts of clauses

pub part_maps : (g : ℕ → Term) (xs ys xs' ys' : List Atom) → xs' ≡ xs → ys' ≡ ys → MapsApart g xs ys → MapsApart g xs' ys'
part_maps g xs ys xs' ys' e f m = subst (λ l. MapsApart g l ys') (sym e) (subst (MapsApart g xs) (sym f) m)
