-- Atoms that are filed under their hashes, one more, and one that isn't.
use Rattle.std.proofs.Common.{◌≡◌, inl, inr, ℕ, zero, suc, ◌+◌, ◌%◌, ◌^◌, Bool, true, false, ◌||◌, cond, nat_eq, List, [], ◌∷◌, ◌++◌, Some, None, Result, Ok, Err, OnOk, OnErr, slice_get, refl, sym, subst, ap, ◌∙◌, arith}
use Rattle.std.specs.Prelude.{is_some}
use Rattle.std.specs.List.{list_any}
use Rattle.std.specs.HashMap.{get, Updates}
use Rattle.std.proofs.lemmas.Bool.{false≢true, or_left, or_right}
use Rattle.std.proofs.lemmas.Option.{none-some, same_Some}
use Rattle.spl_terms.specs.declared.atom.Atom.{Atom}
use Rattle.spl_terms.specs.declared.atom.Atom.TheVariants.{Holds, Equal}
use Rattle.spl_terms.specs.Clauses.{is_same}
use Rattle.spl_terms.specs.Hashes.{mixed, term_hash, atom_hash, Places}
use Rattle.spl_terms.specs.SameLaws.{flipped, same_cases}
use Rattle.normal_form.specs.Filed.{AllFiled}

hash-flipped : (a : Atom) → atom_hash a ≡ atom_hash (flipped a)
hash-flipped (Holds p ts) = refl
hash-flipped (Equal s t) = ap (λ n. mixed 4 (n % 2 ^ 64)) (let e : term_hash s + term_hash t ≡ term_hash t + term_hash s = omega arith in e)

hash-same : (a b : Atom) → is_same a b ≡ true → atom_hash a ≡ atom_hash b
hash-same a b e = elim (same_cases a b e) [
  | inl h ↦ ap atom_hash h
  | inr h ↦ hash-flipped a ∙ ap atom_hash h
]

module _ (old new : Places) (hash place : ℕ) (u : Updates nat_eq old new hash (Some place)) where
  still_filed : (atoms : List Atom) → AllFiled old atoms → AllFiled new atoms
  still_filed [] h = tt
  still_filed (a ∷ atoms) h = (ap is_some (u.0 (atom_hash a)) ∙ by_test (nat_eq hash (atom_hash a)) h.0, still_filed atoms h.1)
    where
      by_test : (t : Bool) → is_some (get nat_eq old (atom_hash a)) ≡ true → is_some (cond t (Some place) (get nat_eq old (atom_hash a))) ≡ true
      by_test true e = refl
      by_test false e = e

  -- with one more atom, under whose hash a place is filed now
  pub one_more_filed : (atoms : List Atom) (x : Atom) → hash ≡ atom_hash x → AllFiled old atoms → AllFiled new (atoms ++ x ∷ [])
  one_more_filed atoms x same h = behind atoms (still_filed atoms h)
    where
      behind : (as' : List Atom) → AllFiled new as' → AllFiled new (as' ++ x ∷ [])
      behind [] k = (ap (λ n. is_some (get nat_eq new n)) (sym same) ∙ ap is_some u.1, tt)
      behind (a ∷ as') k = (k.0, behind as' k.1)

  pub filed_still : (atoms : List Atom) → AllFiled old atoms → AllFiled new atoms
  filed_still = still_filed

-- an atom under whose hash no place is filed isn't there
pub not_filed : (atoms : List Atom) (places : Places) (x : Atom) → AllFiled places atoms → None ≡ get nat_eq places (atom_hash x) → false ≡ list_any (λ b. is_same x b) atoms
not_filed [] places x h none = refl
not_filed (a ∷ atoms) places x h none = by_test (is_same x a) refl (not_filed atoms places x h.1 none)
  where
    by_test : (t : Bool) → is_same x a ≡ t → false ≡ list_any (λ b. is_same x b) atoms → false ≡ (is_same x a || list_any (λ b. is_same x b) atoms)
    by_test true e k = absurd (false≢true (ap is_some (none ∙ ap (get nat_eq places) (hash-same x a e)) ∙ h.0))
    by_test false e k = k ∙ sym (ap (λ b. b || list_any (λ c. is_same x c) atoms) e)

pub any_at : (p : Atom → Bool) (xs : List Atom) (k : ℕ) (x : Atom) → Some x ≡ slice_get xs k → p x ≡ true → list_any p xs ≡ true
any_at p [] k x e h = absurd (none-some x (sym e))
any_at p (y ∷ xs) zero x e h = or_left (p y) (list_any p xs) (ap p (same_Some y x (sym e)) ∙ h)
any_at p (y ∷ xs) (suc k) x e h = or_right (p y) (list_any p xs) (any_at p xs k x e h)

-- whether the atom was added or there was no memory
pub filed_either : {T E : Type 0} (r : Result T E) (places : Places) (atoms new : List Atom) (x : Atom) → OnOk r (new ≡ atoms ++ x ∷ []) → OnErr r (new ≡ atoms) → AllFiled places (atoms ++ x ∷ []) → AllFiled places atoms → AllFiled places new
filed_either (Ok u) places atoms new x e f more same = subst (AllFiled places) (sym e) more
filed_either (Err u) places atoms new x e f more same = subst (AllFiled places) (sym f) same
