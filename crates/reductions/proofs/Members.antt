-- Lists of atoms as sets, up to exchanged sides: how many there are at most, and which one is missing.
use Rattle.std.proofs.Common.{◌≡◌, ◌⊎◌, inl, inr, ℕ, zero, suc, ◌<◌, ◌≤◌, Bool, true, false, ◌&&◌, List, [], ◌∷◌, length, map, Some, refl, sym, ap, subst, ◌∙◌, arith}
use Rattle.std.specs.Prelude.{slice_get}
use Rattle.std.specs.List.{list_any, list_all, AllByRecursion, IsDistinct}
use Rattle.std.specs.Cmp.{IsEquivalence}
use Rattle.std.proofs.lemmas.Bool.{or_cases, or_left, or_right, or_parts, and_parts, not-true, false≢true}
use Rattle.std.proofs.lemmas.Map.Keys.{IsDistinct-cons}
use Rattle.std.proofs.lemmas.Map.Made.{length-le_from_is_member}
use Rattle.spl_terms.specs.declared.atom.Atom.{Atom}
use Rattle.spl_terms.specs.BoolLaws.{equally}
use Rattle.spl_terms.specs.declared.term.Term.{Term}
use Rattle.spl_terms.specs.Clauses.{is_same, distinct, replace_in_atom}
use Rattle.spl_terms.specs.InOrder.{are_different}
use Rattle.spl_terms.specs.SameLaws.{same_self, same_turned, same_joined, same-replace}
use Rattle.spl_truth.specs.SymmetryLaws.{Blind, distinct-any}

-- whether one of the atoms is the same
abbrev pub among : Atom → List Atom → Bool
among a xs = list_any (is_same a) xs

same_laws : IsEquivalence is_same
same_laws = record {
  refl = same_self;
  symm = λ x y. equally _ _ (same_turned x y) (same_turned y x);
  congr = λ x y z e. equally _ _ (same_joined y x z (same_turned x y e)) (same_joined x y z e);
}

others_apart : (a : Atom) (xs : List Atom) → list_any (λ b. is_same b a) xs ≡ false → AllByRecursion (λ b. is_same a b ≡ false) xs
others_apart a [] e = tt
others_apart a (x ∷ xs) e =
    let p = or_parts (is_same x a) (list_any (λ b. is_same b a) xs) e in
    (same_laws.symm a x ∙ p.0, others_apart a xs p.1)

different-IsDistinct : (xs : List Atom) → are_different xs ≡ true → IsDistinct is_same xs
unfolding IsDistinct
different-IsDistinct [] d = tt
different-IsDistinct (x ∷ xs) d =
    let p = and_parts _ _ d in
    IsDistinct-cons is_same x xs (others_apart x xs (not-true _ p.0)) (different-IsDistinct xs p.1)

-- different atoms that are all among others are as many, at most
pub as_many_at_most : (xs ys : List Atom) → are_different xs ≡ true → ((a : Atom) → among a xs ≡ true → among a ys ≡ true) → length xs ≤ length ys
as_many_at_most xs ys d within = length-le_from_is_member same_laws xs ys (different-IsDistinct xs d) within

-- what is the same as one of them is among those where each of them is
pub among_each : (a : Atom) (xs ys : List Atom) → ((k : ℕ) (x : Atom) → slice_get xs k ≡ Some x → among x ys ≡ true) → among a xs ≡ true → among a ys ≡ true
among_each a [] ys h e = absurd (false≢true e)
among_each a (x ∷ xs) ys h e = elim (or_cases (is_same a x) (among a xs) e) [
  | inl here ↦ among_same a x ys here (h 0 x refl)
  | inr there ↦ among_each a xs ys (λ k y is. h (suc k) y is) there
]
  where
    among_same : (a x : Atom) (ys : List Atom) → is_same a x ≡ true → among x ys ≡ true → among a ys ≡ true
    among_same a x [] e f = absurd (false≢true f)
    among_same a x (y ∷ ys) e f = elim (or_cases (is_same x y) (among x ys) f) [
      | inl here ↦ or_left _ _ (same_joined a x y e here)
      | inr there ↦ or_right (is_same a y) _ (among_same a x ys e there)
    ]

-- one that is the same is among them
pub among_as : (a b : Atom) (ys : List Atom) → is_same a b ≡ true → among b ys ≡ true → among a ys ≡ true
among_as a b ys e f = among_each a (b ∷ []) ys (λ k x is. at k x is) (or_left _ _ e)
  where
    at : (k : ℕ) (x : Atom) → slice_get (b ∷ []) k ≡ Some x → among x ys ≡ true
    at zero x is = let same : b ≡ x = cc in subst (λ c. among c ys ≡ true) same f
    at (suc k) x is = absurd (cc)

pub among_at : (a x : Atom) (xs : List Atom) (k : ℕ) → slice_get xs k ≡ Some x → is_same a x ≡ true → among a xs ≡ true
among_at a x [] k is e = absurd (cc)
among_at a x (y ∷ xs) zero is e = (let same : y ≡ x = cc in or_left _ _ (ap (is_same a) same ∙ e))
among_at a x (y ∷ xs) (suc k) is e = or_right (is_same a y) _ (among_at a x xs k is e)

and_cases : (a b : Bool) → (a && b) ≡ false → (a ≡ false) ⊎ (b ≡ false)
and_cases true b e = inr e
and_cases false b e = inl refl

-- where the atoms are more than the others, one of them is none of these
pub missing : (xs ys : List Atom) → are_different xs ≡ true → length ys < length xs → (k : ℕ) × (a : Atom) × (slice_get xs k ≡ Some a) × (among a ys ≡ false)
missing xs ys d fewer = by_test (list_all (λ a. among a ys) xs) refl
  where
    each : (xs : List Atom) → list_all (λ a. among a ys) xs ≡ true → (k : ℕ) (x : Atom) → slice_get xs k ≡ Some x → among x ys ≡ true
    each [] e k x is = absurd (cc)
    each (y ∷ xs) e zero x is = (let same : y ≡ x = cc in subst (λ c. among c ys ≡ true) same (and_parts _ _ e).0)
    each (y ∷ xs) e (suc k) x is = each xs (and_parts _ _ e).1 k x is

    later : (x : Atom) (xs : List Atom) → (k : ℕ) × (a : Atom) × (slice_get xs k ≡ Some a) × (among a ys ≡ false) → (k : ℕ) × (a : Atom) × (slice_get (x ∷ xs) k ≡ Some a) × (among a ys ≡ false)
    later x xs r = (suc r.0, r.1, r.2, r.3)

    first : (xs : List Atom) → list_all (λ a. among a ys) xs ≡ false → (k : ℕ) × (a : Atom) × (slice_get xs k ≡ Some a) × (among a ys ≡ false)
    first [] e = absurd (false≢true (sym e))
    first (x ∷ xs) e = elim (and_cases (among x ys) (list_all (λ a. among a ys) xs) e) [
      | inl here ↦ (0, x, refl, here)
      | inr there ↦ later x xs (first xs there)
    ]

    by_test : (b : Bool) → list_all (λ a. among a ys) xs ≡ b → (k : ℕ) × (a : Atom) × (slice_get xs k ≡ Some a) × (among a ys ≡ false)
    by_test false e = first xs e
    by_test true e = (let le = as_many_at_most xs ys d (λ a h. among_each a xs ys (each xs e) h) in absurd (omega (arith, le, fewer)))

-- ---- repeats, and instances

blind : (a : Atom) (xs : List Atom) → AllByRecursion (Blind (is_same a)) xs
blind a [] = tt
blind a (x ∷ xs) = ((λ y e. same_laws.symm a x ∙ same_laws.congr x y a e ∙ same_laws.symm y a), blind a xs)

pub among_distinct : (a : Atom) (xs : List Atom) → among a (distinct xs) ≡ among a xs
among_distinct a xs = distinct-any (is_same a) xs (blind a xs)

pub among_replace : (g : ℕ → Term) (a : Atom) (xs : List Atom) → among a xs ≡ true → among (replace_in_atom g a) (map (replace_in_atom g) xs) ≡ true
among_replace g a [] e = absurd (false≢true e)
among_replace g a (x ∷ xs) e = elim (or_cases (is_same a x) (among a xs) e) [
  | inl here ↦ or_left _ _ (same-replace g a x here)
  | inr there ↦ or_right (is_same (replace_in_atom g a) (replace_in_atom g x)) _ (among_replace g a xs there)
]

-- an element of a list of instances
pub instance_there : (f : Atom → Atom) (xs : List Atom) (k : ℕ) (b : Atom) → slice_get (map f xs) k ≡ Some b → (a : Atom) × (slice_get xs k ≡ Some a) × (f a ≡ b)
instance_there f [] k b e = absurd (cc)
instance_there f (x ∷ xs) zero b e = (x, refl, cc)
instance_there f (x ∷ xs) (suc k) b e = instance_there f xs k b e
