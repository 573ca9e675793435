-- Hashes of atoms, and atoms that are filed under them.
use Rattle.std.proofs.Common.{◌≡◌, inl, inr, ℕ, zero, suc, ◌+◌, ◌-◌, ◌%◌, ◌^◌, ◌<◌, ◌≤◌, Bool, true, false, ◌||◌, cond, nat_eq, nat_lt, List, [], ◌∷◌, ◌++◌, length, map, fold, take, Some, None, refl, sym, ap, subst, ◌∙◌, arith, slice_get, length-append}
use Rattle.std.specs.Prelude.{is_some}
use Rattle.std.specs.List.{list_any}
use Rattle.std.specs.HashMap.{get, Updates}
use Rattle.std.proofs.lemmas.Bool.{false≢true, ltb-true, ltb-false, or_cases, or_left, or_right, or_parts}
use Rattle.spl_terms.specs.declared.term.Symbol.{Symbol}
use Rattle.spl_terms.specs.declared.term.Term.{Term, Var, App}
use Rattle.spl_terms.specs.declared.atom.Atom.{Atom}
use Rattle.spl_terms.specs.declared.atom.Atom.TheVariants.{Holds, Equal}
use Rattle.spl_terms.specs.Clauses.{is_same}
use Rattle.spl_terms.specs.Hashes.{mixed, hash_step, term_hash, atom_hash, Places, AreFiled}
use Rattle.spl_terms.specs.TermLaws.{fold-Var, fold-App}
use Rattle.spl_terms.specs.SameLaws.{flipped, same_cases}
use Rattle.std.proofs.lemmas.Option.{none-some, same_Some, slice_get_within}
use Rattle.spl_terms.specs.ListLaws.{get-left, get-right}

pub term_hash-Var : (v : ℕ) → term_hash (Var v) ≡ mixed 2 v
term_hash-Var v = fold-Var hash_step v

pub term_hash-App : (f : Symbol) (ts : List Term) → term_hash (App f ts) ≡ fold mixed (mixed 1 f.number) (map term_hash ts)
term_hash-App f ts = fold-App hash_step f ts

pub ruleset hash_laws = (term_hash-Var, term_hash-App)

-- ---- atoms that are the same have one hash

hash-flipped : (a : Atom) → atom_hash a ≡ atom_hash (flipped a)
hash-flipped (Holds p ts) = refl
hash-flipped (Equal s t) = ap (λ n. mixed 4 (n % 2 ^ 64)) (let e : term_hash s + term_hash t ≡ term_hash t + term_hash s = omega arith in e)

pub hash-same : (a b : Atom) → is_same a b ≡ true → atom_hash a ≡ atom_hash b
hash-same a b e = elim (same_cases a b e) [
  | inl h ↦ ap atom_hash h
  | inr h ↦ hash-flipped a ∙ ap atom_hash h
]

-- ---- one more is filed

pub filed-more : (atoms : List Atom) (old new : Places) (hash place : ℕ) → AreFiled atoms old → Updates nat_eq old new hash (Some place) → AreFiled atoms new
filed-more atoms old new hash place filed u k a low there =
    ap is_some (u.0 (atom_hash a)) ∙ by_test (nat_eq hash (atom_hash a)) (filed k a low there)
  where
    by_test : (t : Bool) → is_some (get nat_eq old (atom_hash a)) ≡ true → is_some (cond t (Some place) (get nat_eq old (atom_hash a))) ≡ true
    by_test true e = refl
    by_test false e = e

pub filed-there : (old new : Places) (hash place : ℕ) → Updates nat_eq old new hash (Some place) → is_some (get nat_eq new hash) ≡ true
filed-there old new hash place u = ap is_some u.1

module _ (x a : Atom) where
  only_one : (j : ℕ) → slice_get (x ∷ []) j ≡ Some a → x ≡ a
  only_one zero e = same_Some x a e
  only_one (suc j) e = absurd (none-some a e)

  past : (atoms : List Atom) (k : ℕ) → length atoms ≤ k → slice_get (atoms ++ x ∷ []) k ≡ Some a → x ≡ a
  past atoms k h there =
      let at : length atoms + (k - length atoms) ≡ k = omega (arith, h) in
      only_one (k - length atoms) (sym (get-right atoms (x ∷ []) (k - length atoms)) ∙ ap (slice_get (atoms ++ x ∷ [])) at ∙ there)

-- the atom comes to the end, and among the first eight or filed
pub filed-end : (atoms : List Atom) (places : Places) (x : Atom) → AreFiled atoms places → (8 ≤ length atoms → is_some (get nat_eq places (atom_hash x)) ≡ true) → AreFiled (atoms ++ x ∷ []) places
filed-end atoms places x filed last k a low there = by_test (nat_lt k (length atoms)) refl
  where
    by_test : (t : Bool) → nat_lt k (length atoms) ≡ t → is_some (get nat_eq places (atom_hash a)) ≡ true
    by_test true e = filed k a low (sym (get-left atoms (x ∷ []) k (ltb-true k (length atoms) e)) ∙ there)
    by_test false e =
        let h = ltb-false k (length atoms) e in
        let within = slice_get_within (atoms ++ x ∷ []) k a there in
        subst (λ y. is_some (get nat_eq places (atom_hash y)) ≡ true) (past x a atoms k h there) (last (omega (arith, h, low, within, length-append atoms (x ∷ []))))

-- ---- what is found, and what isn't

pub any_at : (p : Atom → Bool) (xs : List Atom) (k : ℕ) (x : Atom) → Some x ≡ slice_get xs k → p x ≡ true → list_any p xs ≡ true
any_at p [] k x e h = absurd (none-some x (sym e))
any_at p (y ∷ xs) zero x e h = or_left (p y) (list_any p xs) (ap p (same_Some y x (sym e)) ∙ h)
any_at p (y ∷ xs) (suc k) x e h = or_right (p y) (list_any p xs) (any_at p xs k x e h)

pub any_first : (p : Atom → Bool) (n : ℕ) (xs : List Atom) → list_any p (take n xs) ≡ true → list_any p xs ≡ true
any_first p zero xs e = absurd (false≢true e)
any_first p (suc n) [] e = e
any_first p (suc n) (x ∷ xs) e = elim (or_cases (p x) (list_any p (take n xs)) e) [
  | inl here ↦ or_left (p x) (list_any p xs) here
  | inr later ↦ or_right (p x) (list_any p xs) (any_first p n xs later)
]

none_at : (p : Atom → Bool) (n : ℕ) (xs : List Atom) → list_any p (take n xs) ≡ false → (k : ℕ) (x : Atom) → k < n → slice_get xs k ≡ Some x → p x ≡ false
none_at p zero xs h k x low e = absurd (omega (arith, low))
none_at p (suc n) [] h k x low e = absurd (none-some x e)
none_at p (suc n) (y ∷ xs) h zero x low e = ap p (sym (same_Some y x e)) ∙ (or_parts (p y) (list_any p (take n xs)) h).0
none_at p (suc n) (y ∷ xs) h (suc k) x low e = none_at p n xs (or_parts (p y) (list_any p (take n xs)) h).1 k x (omega (arith, low)) e

none_of : (p : Atom → Bool) (xs : List Atom) → ((k : ℕ) (x : Atom) → slice_get xs k ≡ Some x → p x ≡ false) → list_any p xs ≡ false
none_of p [] h = refl
none_of p (x ∷ xs) h = ap (λ b. b || list_any p xs) (h 0 x refl) ∙ none_of p xs (λ k y e. h (suc k) y e)

-- an atom that is none of the first eight, and under whose hash no place is filed, isn't there
pub not_filed : (atoms : List Atom) (places : Places) (x : Atom) → AreFiled atoms places → list_any (λ b. is_same x b) (take 8 atoms) ≡ false → None ≡ get nat_eq places (atom_hash x) → list_any (λ b. is_same x b) atoms ≡ false
not_filed atoms places x filed first none = none_of (λ b. is_same x b) atoms by_place
  where
    behind : (k : ℕ) (a : Atom) → 8 ≤ k → slice_get atoms k ≡ Some a → (t : Bool) → is_same x a ≡ t → is_same x a ≡ false
    behind k a low e false s = s
    behind k a low e true s = absurd (false≢true (ap is_some (none ∙ ap (get nat_eq places) (hash-same x a s)) ∙ filed k a low e))

    by_place : (k : ℕ) (a : Atom) → slice_get atoms k ≡ Some a → is_same x a ≡ false
    by_place k a e = by_test (nat_lt k 8) refl
      where
        by_test : (t : Bool) → nat_lt k 8 ≡ t → is_same x a ≡ false
        by_test true h = none_at (λ b. is_same x b) 8 atoms first k a (ltb-true k 8 h) e
        by_test false h = behind k a (ltb-false k 8 h) e (is_same x a) refl

pub only_first : (atoms : List Atom) (places : Places) (x : Atom) → AreFiled atoms places → None ≡ get nat_eq places (atom_hash x) → list_any (λ b. is_same x b) (take 8 atoms) ≡ list_any (λ b. is_same x b) atoms
only_first atoms places x filed none = by _ refl
  where
    by : (t : Bool) → list_any (λ b. is_same x b) (take 8 atoms) ≡ t → list_any (λ b. is_same x b) (take 8 atoms) ≡ list_any (λ b. is_same x b) atoms
    by true e = e ∙ sym (any_first (λ b. is_same x b) 8 atoms e)
    by false e = e ∙ sym (not_filed atoms places x filed e none)
