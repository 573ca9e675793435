-- The features of a clause are no greater than those of a clause that it subsumes.
use Rattle.std.proofs.Common.{◌≡◌, inl, inr, ℕ, zero, suc, ◌+◌, ◌≤◌, Bool, true, false, ◌==◌, if◌then◌else◌, List, [], ◌∷◌, ◌++◌, length, map, fold, sum_by, get_or, set, length-set, get_or-set_same, get_or-set_other, refl, sym, ap, ◌∙◌, arith, eq-eqb}
use Rattle.std.specs.Prelude.{◌%◌, min, count_by, replicate}
use Rattle.std.specs.List.{flat_map}
use Rattle.std.proofs.lemmas.Bool.{eqb-true}
use Rattle.std.proofs.lemmas.List.Sums.{sum_by-cons, sum_by-append}
use Rattle.spl_terms.specs.declared.term.Term.{Term, Var}
use Rattle.spl_terms.specs.declared.atom.Atom.{Atom}
use Rattle.spl_terms.specs.declared.atom.Atom.TheVariants.{Holds, Equal}
use Rattle.spl_terms.specs.declared.clause.Part.TheVariants.{Constraint, Antecedent, Succedent}
use Rattle.spl_terms.specs.declared.clause.Clause.{Clause}
use Rattle.spl_terms.specs.Terms.{replace}
use Rattle.spl_terms.specs.Clauses.{is_same, replace_in_atom}
use Rattle.spl_terms.specs.SameLaws.{flipped, same_cases}
use Rattle.spl_terms.specs.TermLaws.{Each, term_induction, replace-App}
use Rattle.spl_truth.specs.Redundancy.{MapsApart, Subsumes}
use Rattle.subsume.specs.Tries.{AreAtMost}
use Rattle.subsume.specs.Features.{symbol_numbers, atom_numbers, numbers_of, symbol_counted, atom_counts, features}
use Rattle.subsume.proofs.Numbers.{numbers_Var, numbers_App}
use Rattle.subsume.proofs.Sums.{mapped_sums, mapped_length}

module _ (p : ℕ → Bool) where
  count_both : (xs ys : List ℕ) → count_by p (xs ++ ys) ≡ count_by p xs + count_by p ys
  count_both xs ys = sum_by-append (λ x. if p x then 1 else 0) xs ys

  count_first : (x : ℕ) (xs : List ℕ) → count_by p (x ∷ xs) ≡ (if p x then 1 else 0) + count_by p xs
  count_first x xs = sum_by-cons (λ y. if p y then 1 else 0) x xs

  module _ (g : ℕ → Term) where
    each_grows : (ts : List Term) → Each (λ t. count_by p (symbol_numbers t) ≤ count_by p (symbol_numbers (replace g t))) ts → count_by p (flat_map symbol_numbers ts) ≤ count_by p (flat_map symbol_numbers (map (replace g) ts))
    each_grows [] each = omega arith
    each_grows (t ∷ ts) each = omega (arith, each.0, each_grows ts each.1, count_both (symbol_numbers t) (flat_map symbol_numbers ts), count_both (symbol_numbers (replace g t)) (flat_map symbol_numbers (map (replace g) ts)))

    term_grows : (t : Term) → count_by p (symbol_numbers t) ≤ count_by p (symbol_numbers (replace g t))
    term_grows =
        term_induction (λ t. count_by p (symbol_numbers t) ≤ count_by p (symbol_numbers (replace g t)))
        (λ v. (let none : count_by p (symbol_numbers (Var v)) ≡ 0 = ap (count_by p) (numbers_Var v) in omega (arith, none)))
        (λ f ts each. omega (arith, each_grows ts each, ap (count_by p) (numbers_App f ts), count_first f.number (flat_map symbol_numbers ts), ap (λ t. count_by p (symbol_numbers t)) (replace-App g f ts), ap (count_by p) (numbers_App f (map (replace g) ts)), count_first f.number (flat_map symbol_numbers (map (replace g) ts))))

    terms_grow : (ts : List Term) → count_by p (flat_map symbol_numbers ts) ≤ count_by p (flat_map symbol_numbers (map (replace g) ts))
    terms_grow [] = omega arith
    terms_grow (t ∷ ts) = omega (arith, term_grows t, terms_grow ts, count_both (symbol_numbers t) (flat_map symbol_numbers ts), count_both (symbol_numbers (replace g t)) (flat_map symbol_numbers (map (replace g) ts)))

    atom_grows : (a : Atom) → count_by p (atom_numbers a) ≤ count_by p (atom_numbers (replace_in_atom g a))
    atom_grows (Holds q ts) = omega (arith, terms_grow ts, count_first q.number (flat_map symbol_numbers ts), count_first q.number (flat_map symbol_numbers (map (replace g) ts)))
    atom_grows (Equal s t) = omega (arith, term_grows s, term_grows t, count_both (symbol_numbers s) (symbol_numbers t), count_both (symbol_numbers (replace g s)) (symbol_numbers (replace g t)))

  flipped_numbers : (a : Atom) → count_by p (atom_numbers (flipped a)) ≡ count_by p (atom_numbers a)
  flipped_numbers (Holds q ts) = refl
  flipped_numbers (Equal s t) = omega (arith, count_both (symbol_numbers s) (symbol_numbers t), count_both (symbol_numbers t) (symbol_numbers s))

  image_numbers : (g : ℕ → Term) (a b : Atom) → is_same (replace_in_atom g a) b ≡ true → count_by p (atom_numbers a) ≤ count_by p (atom_numbers b)
  image_numbers g a b e = elim (same_cases (replace_in_atom g a) b e) [
    | inl h ↦ omega (arith, atom_grows g a, ap (λ x. count_by p (atom_numbers x)) h)
    | inr h ↦ omega (arith, atom_grows g a, flipped_numbers (replace_in_atom g a), ap (λ x. count_by p (atom_numbers x)) h)
  ]

  counts_sum : (atoms : List Atom) → count_by p (numbers_of atoms) ≡ sum_by (λ a. count_by p (atom_numbers a)) atoms
  counts_sum [] = refl
  counts_sum (a ∷ atoms) = omega (arith, count_both (atom_numbers a) (numbers_of atoms), counts_sum atoms, sum_by-cons (λ a. count_by p (atom_numbers a)) a atoms)

  mapped_numbers : (g : ℕ → Term) (atoms into : List Atom) → MapsApart g atoms into → count_by p (numbers_of atoms) ≤ count_by p (numbers_of into)
  mapped_numbers g atoms into m = omega (arith, counts_sum atoms, counts_sum into, mapped_sums (λ a. count_by p (atom_numbers a)) g (image_numbers g) atoms into m)

-- ---- one count

abbrev is_of : ℕ → ℕ → ℕ → Bool
is_of base q x = (base + x % 8) == q

module _ (base q : ℕ) where
  counted_long : (cs : List ℕ) (x : ℕ) → length (symbol_counted base cs x) ≡ length cs
  unfolding symbol_counted
  counted_long cs x = length-set cs (base + x % 8) _

  counted_once : (cs : List ℕ) (x : ℕ) → base + 8 ≤ length cs → get_or cs q 0 ≤ 4294967295 → get_or (symbol_counted base cs x) q 0 ≡ min (get_or cs q 0 + (if is_of base q x then 1 else 0)) 4294967295
  unfolding symbol_counted
  counted_once cs x long low = by_test ((base + x % 8) == q) refl
    where
      other : q ≡ base + x % 8 → ((base + x % 8) == q) ≡ false → ⊥
      other s e = (let t : ((base + x % 8) == q) ≡ true = eq-eqb (base + x % 8) q (sym s) in let both : true ≡ false = sym t ∙ e in absurd (cc))

      by_test : (t : Bool) → ((base + x % 8) == q) ≡ t → get_or (set cs (base + x % 8) (min (get_or cs (base + x % 8) 0 + 1) 4294967295)) q 0 ≡ min (get_or cs q 0 + (if t then 1 else 0)) 4294967295
      by_test true e =
          let same : base + x % 8 ≡ q = eqb-true (base + x % 8) q e in
          ap (λ n. get_or (set cs (base + x % 8) (min (get_or cs (base + x % 8) 0 + 1) 4294967295)) n 0) (sym same)
          ∙ get_or-set_same cs (base + x % 8) _ 0 (omega arith)
          ∙ ap (λ n. min (get_or cs n 0 + 1) 4294967295) same
      by_test false e = get_or-set_other cs (base + x % 8) q _ 0 (λ s. other s e) ∙ omega (arith, low)

  counted_long_all : (cs xs : List ℕ) → length (fold (symbol_counted base) cs xs) ≡ length cs
  counted_long_all cs [] = refl
  counted_long_all cs (x ∷ xs) = counted_long_all (symbol_counted base cs x) xs ∙ counted_long cs x

  counted_all : (cs xs : List ℕ) → base + 8 ≤ length cs → get_or cs q 0 ≤ 4294967295 → get_or (fold (symbol_counted base) cs xs) q 0 ≡ min (get_or cs q 0 + count_by (is_of base q) xs) 4294967295
  counted_all cs [] long low = omega (arith, low)
  counted_all cs (x ∷ xs) long low =
      let one = counted_once cs x long low in
      let all = counted_all (symbol_counted base cs x) xs (omega (arith, long, counted_long cs x)) (omega (arith, one)) in
      omega (arith, all, one, count_first (is_of base q) x xs)

-- ---- all counts

start_grows : (g : ℕ → Term) (c d : Clause) → MapsApart g c.constraint d.constraint → MapsApart g c.antecedent d.antecedent → MapsApart g c.succedent d.succedent → (q : ℕ) → get_or (atom_counts c) q 0 ≤ get_or (atom_counts d) q 0
start_grows g c d m n k zero = (let h = mapped_length g c.constraint d.constraint m in omega (arith, h))
start_grows g c d m n k (suc zero) = (let h = mapped_length g c.antecedent d.antecedent n in omega (arith, h))
start_grows g c d m n k (suc (suc zero)) = (let h = mapped_length g c.succedent d.succedent k in omega (arith, h))
start_grows g c d m n k (suc (suc (suc q))) = omega arith

zeros : (n q : ℕ) → (let none : ℕ = 0 in get_or (replicate n none) q none ≡ none)
zeros zero zero = refl
zeros zero (suc q) = refl
zeros (suc n) zero = refl
zeros (suc n) (suc q) = zeros n q

start_low : (c : Clause) (q : ℕ) → get_or (atom_counts c) q 0 ≤ 4294967295
start_low c zero = omega arith
start_low c (suc zero) = omega arith
start_low c (suc (suc zero)) = omega arith
start_low c (suc (suc (suc q))) = omega (arith, zeros 16 q)

module _ (c : Clause) where
  before : List ℕ
  before = fold (symbol_counted 3) (atom_counts c) (numbers_of c.constraint)

  middle : List ℕ
  middle = fold (symbol_counted 3) before (numbers_of c.antecedent)

  before_long : length before ≡ 19
  unfolding before
  before_long = counted_long_all 3 0 (atom_counts c) (numbers_of c.constraint)

  middle_long : length middle ≡ 19
  unfolding middle
  middle_long = counted_long_all 3 0 before (numbers_of c.antecedent) ∙ before_long

  features_long : length (features c) ≡ 19
  unfolding before middle
  features_long = counted_long_all 11 0 middle (numbers_of c.succedent) ∙ middle_long

  before_at : (q : ℕ) → get_or before q 0 ≡ min (get_or (atom_counts c) q 0 + count_by (is_of 3 q) (numbers_of c.constraint)) 4294967295
  unfolding before
  before_at q = counted_all 3 q (atom_counts c) (numbers_of c.constraint) (omega arith) (start_low c q)

  middle_at : (q : ℕ) → get_or middle q 0 ≡ min (get_or before q 0 + count_by (is_of 3 q) (numbers_of c.antecedent)) 4294967295
  unfolding middle
  middle_at q = counted_all 3 q before (numbers_of c.antecedent) (omega (arith, before_long)) (omega (arith, before_at q))

  features_at : (q : ℕ) → get_or (features c) q 0 ≡ min (get_or middle q 0 + count_by (is_of 11 q) (numbers_of c.succedent)) 4294967295
  unfolding before middle
  features_at q = counted_all 11 q middle (numbers_of c.succedent) (omega (arith, middle_long)) (omega (arith, middle_at q))

at_most : (xs ys : List ℕ) → length xs ≡ length ys → ((q : ℕ) → get_or xs q 0 ≤ get_or ys q 0) → AreAtMost xs ys
at_most [] [] e h = tt
at_most [] (y ∷ ys) e h = absurd (omega (arith, e))
at_most (x ∷ xs) [] e h = absurd (omega (arith, e))
at_most (x ∷ xs) (y ∷ ys) e h = (h 0, at_most xs ys (omega (arith, e)) (λ q. h (suc q)))

pub features_grow : (c d : Clause) → Subsumes c d → AreAtMost (features c) (features d)
features_grow c d s = at_most (features c) (features d) (features_long c ∙ sym (features_long d)) (λ q. (
    let m = s.each Constraint in
    let n = s.each Antecedent in
    let k = s.each Succedent in
    omega (arith, start_grows s.by c d m n k q, before_at c q, before_at d q, middle_at c q, middle_at d q, features_at c q, features_at d q, mapped_numbers (is_of 3 q) s.by c.constraint d.constraint m, mapped_numbers (is_of 3 q) s.by c.antecedent d.antecedent n, mapped_numbers (is_of 11 q) s.by c.succedent d.succedent k)))
