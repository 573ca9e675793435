-- The list of bindings by variables and the list by time.
use Rattle.std.proofs.Common.{◌≡◌, ℕ, ◌-◌, min, zero, suc, ◌≤◌, ◌<◌, Bool, true, false, ◌==◌, if◌then◌else◌, eq-eqb, List, [], ◌∷◌, ◌++◌, length, map, Option, Some, None, option_map, drop, set, refl, sym, ap, subst, ◌∙◌, arith}
use Rattle.std.specs.Prelude.{replicate, reverse}
use Rattle.std.specs.Borrow.{Bor}
use Rattle.std.proofs.lemmas.Bool.{eqb-true, false≢true}
use Rattle.std.proofs.lemmas.List.{length-set, get_or-set_same, get_or-set_other, map-set, map-append, reverse-append}
use Rattle.std.proofs.lemmas.Option.{unwrap_or-slice_get}
use Rattle.spl_terms.specs.declared.term.Term.{Term}
use Rattle.unify.specs.Bindings.{plain_terms, newest_first, term_at, bound_to, IsOnce, IsIndexed}

pub length_plain : (terms : List (Option (Bor Term))) → length (plain_terms terms) ≡ length terms
length_plain [] = refl
length_plain (t ∷ terms) = ap suc (length_plain terms)

-- ---- one more binding

abbrev of_bool : (v w : ℕ) → Bool → Type 0
of_bool v w b = (v == w) ≡ b

module _ (terms : List (Option Term)) (made : List (ℕ × Term)) (v : ℕ) (t : Term) (index : IsIndexed terms made) (below : v < length terms) (unbound : bound_to made v ≡ None) where
  found_after : (w : ℕ) (b : Bool) → (w == v) ≡ b → term_at (set terms v (Some t)) w ≡ (if b then Some t else bound_to made w)
  found_after w true e = ap (term_at (set terms v (Some t))) (eqb-true w v e) ∙ (unwrap_or-slice_get (set terms v (Some t)) v None ∙ get_or-set_same terms v (Some t) None below)
  found_after w false e = (unwrap_or-slice_get (set terms v (Some t)) w None ∙ get_or-set_other terms v w (Some t) None (λ same. false≢true (sym e ∙ eq-eqb w v same)) ∙ sym (unwrap_or-slice_get terms w None)) ∙ index.finds w

  pub bound_once : IsIndexed (set terms v (Some t)) ((v, t) ∷ made)
  bound_once = record {
    finds = λ w. found_after w (w == v) refl;
    once = subst (λ n. IsOnce n ((v, t) ∷ made)) (sym (length-set terms v (Some t))) (below, unbound, index.once);
  }

pub bound_in_fields : (terms : List (Option (Bor Term))) (made : List (ℕ × Bor Term)) (made' : List (ℕ × Bor Term)) (v : ℕ) (t : Bor Term) → IsIndexed (plain_terms terms) (newest_first made) → v < length terms → bound_to (newest_first made) v ≡ None → newest_first made' ≡ (v, t.now) ∷ newest_first made → IsIndexed (plain_terms (set terms v (Some t))) (newest_first made')
bound_in_fields terms made made' v t index below unbound is =
    let h = bound_once (plain_terms terms) (newest_first made) v t.now index (omega (arith, length_plain terms)) unbound in
    let p = sym (map-set (option_map (λ (x : Bor Term). x.now)) terms v (Some t)) in
    let q = sym is in
    subst (λ l. IsIndexed l (newest_first made')) p (subst (IsIndexed (set (plain_terms terms) v (Some t.now))) q h)

pub newest_last : (made : List (ℕ × Bor Term)) (v : ℕ) (t : Bor Term) → newest_first (made ++ (v, t) ∷ []) ≡ (v, t.now) ∷ newest_first made
newest_last made v t =
    ap reverse (map-append (λ (b : ℕ × Bor Term). (b.0, b.1.now)) made ((v, t) ∷ []))
    ∙ reverse-append (map (λ (b : ℕ × Bor Term). (b.0, b.1.now)) made) ((v, t.now) ∷ [])

-- ---- one binding less

module _ (terms : List (Option Term)) (b : ℕ × Term) (bs : List (ℕ × Term)) (index : IsIndexed terms (b ∷ bs)) where
  found_before : (w : ℕ) (c : Bool) → (w == b.0) ≡ c → term_at (set terms b.0 None) w ≡ bound_to bs w
  found_before w true e =
      ap (term_at (set terms b.0 None)) (eqb-true w b.0 e)
      ∙ (unwrap_or-slice_get (set terms b.0 None) b.0 None ∙ get_or-set_same terms b.0 None None index.once.0)
      ∙ sym (ap (bound_to bs) (eqb-true w b.0 e) ∙ index.once.1)
  found_before w false e =
      (unwrap_or-slice_get (set terms b.0 None) w None ∙ get_or-set_other terms b.0 w None None (λ same. false≢true (sym e ∙ eq-eqb w b.0 same)) ∙ sym (unwrap_or-slice_get terms w None))
      ∙ index.finds w
      ∙ ap (λ c. if c then Some b.1 else bound_to bs w) e

  pub undone_once : IsIndexed (set terms b.0 None) bs
  undone_once = record {
    finds = λ w. found_before w (w == b.0) refl;
    once = subst (λ n. IsOnce n bs) (sym (length-set terms b.0 None)) index.once.2;
  }

pub undone_in_fields : (terms : List (Option (Bor Term))) (made made' : List (ℕ × Bor Term)) (v : ℕ) (t : Bor Term) → IsIndexed (plain_terms terms) (newest_first made) → made ≡ made' ++ (v, t) ∷ [] → IsIndexed (plain_terms (set terms v None)) (newest_first made')
undone_in_fields terms made made' v t index is =
    let p = ap newest_first is ∙ newest_last made' v t in
    let h = undone_once (plain_terms terms) (v, t.now) (newest_first made') (subst (IsIndexed (plain_terms terms)) p index) in
    subst (λ l. IsIndexed l (newest_first made')) (sym (map-set (option_map (λ (x : Bor Term). x.now)) terms v None)) h

-- ---- as many bindings as before

-- the newest ones were dropped, and no more than those past the first `count`
pub record IsPast (count : ℕ) (old now : ℕ × List (ℕ × Term)) : Type 0 where
  pub as_many : now.0 ≡ old.0
  pub left : now.1 ≡ drop (length old.1 - length now.1) old.1
  pub fewer : length now.1 ≤ length old.1
  pub enough : min count (length old.1) ≤ length now.1

pub past_first : (count : ℕ) (old : ℕ × List (ℕ × Term)) → IsPast count old old
past_first count old =
    let none : length old.1 - length old.1 ≡ 0 = omega arith in
    record { as_many = refl; left = sym (ap (λ n. drop n old.1) none); fewer = omega arith; enough = omega arith }

drop_next : (n : ℕ) (xs : List (ℕ × Term)) → drop 1 (drop n xs) ≡ drop (suc n) xs
drop_next zero xs = refl
drop_next (suc n) [] = refl
drop_next (suc n) (x ∷ xs) = drop_next n xs

length_tail : (xs : List (ℕ × Term)) → 0 < length xs → suc (length (drop 1 xs)) ≡ length xs
length_tail [] h = absurd (omega arith)
length_tail (x ∷ xs) h = refl

pub past_on : (count : ℕ) (old now new : ℕ × List (ℕ × Term)) → count < length now.1 → new ≡ (now.0, drop 1 now.1) → IsPast count old now → IsPast count old new
past_on count old now new h is past =
    let made = ap (λ (b : ℕ × List (ℕ × Term)). b.1) is in
    let one : suc (length new.1) ≡ length now.1 = ap (λ l. suc (length l)) made ∙ length_tail now.1 (omega (arith, h)) in
    let next : suc (length old.1 - length now.1) ≡ length old.1 - length new.1 = (let f = past.fewer in omega (arith, one, f)) in
    record {
      as_many = ap (λ (b : ℕ × List (ℕ × Term)). b.0) is ∙ past.as_many;
      left = made ∙ ap (drop 1) past.left ∙ drop_next (length old.1 - length now.1) old.1 ∙ ap (λ n. drop n old.1) next;
      fewer = (let f = past.fewer in omega (arith, one, f));
      enough = (let e = past.enough in omega (arith, one, h, e));
    }

-- ---- no binding

none_at : (n v : ℕ) → term_at (plain_terms (replicate n None)) v ≡ None
none_at zero zero = refl
none_at zero (suc v) = refl
none_at (suc n) zero = refl
none_at (suc n) (suc v) = none_at n v

pub index_of_none : (n : ℕ) (terms : List (Option (Bor Term))) (made : List (ℕ × Bor Term)) → terms ≡ replicate n None → made ≡ [] → IsIndexed (plain_terms terms) (newest_first made)
index_of_none n terms made p q =
    let p' = sym p in
    let q' = sym q in
    subst (λ l. IsIndexed (plain_terms l) (newest_first made)) p' (subst (λ m. IsIndexed (plain_terms (replicate n None)) (newest_first m)) q' (record { finds = none_at n; once = tt }))
