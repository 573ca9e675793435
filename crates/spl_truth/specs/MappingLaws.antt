-- Laws with their proofs, not definitions that a reader must believe: where the target is in order, a substitution maps atoms apart
-- exactly where it maps them and makes different atoms of them, the test that code makes of a given substitution.
use Rattle.std.proofs.Common.{◌≡◌, ◌↔◌, ℕ, zero, suc, ◌+◌, ◌<◌, ◌≤◌, Bool, true, false, not, ◌||◌, cond, nat_lt, List, [], ◌∷◌, length, map, Option, Some, None, option_map, refl, sym, ap, ◌∙◌, subst, arith}
use Rattle.std.specs.Prelude.{slice_get, IsSomeAnd}
use Rattle.std.specs.List.{list_any, position_or_len}
use Rattle.std.proofs.lemmas.Bool.{ltb-true, ltb-false, false≢true, and_parts, and_from}
use Rattle.std.proofs.lemmas.Option.{slice_get-map, none-some, same_Some, slice_get_within}
use Rattle.spl_terms.specs.declared.term.Term.{Term}
use Rattle.spl_terms.specs.declared.atom.Atom.{Atom}
use Rattle.spl_terms.specs.Clauses.{is_same, replace_in_atom}
use Rattle.spl_terms.specs.InOrder.{are_different}
use Rattle.spl_terms.specs.ListLaws.{get-there}
use Rattle.spl_terms.specs.SameLaws.{same_turned, same_joined}
use Rattle.spl_truth.specs.Redundancy.{Maps, MapsApart}

-- ---- different atoms, by their places

none_at : (p : Atom → Bool) (xs : List Atom) (l : ℕ) (b : Atom) → list_any p xs ≡ false → slice_get xs l ≡ Some b → p b ≡ false
none_at p [] l b h e = absurd (none-some b e)
none_at p (x ∷ xs) zero b h e = ap p (sym (same_Some x b e)) ∙ (or_parts (p x) (list_any p xs) h).0
  where
    or_parts : (a b : Bool) → (a || b) ≡ false → (a ≡ false) × (b ≡ false)
    or_parts true b e = absurd (false≢true (sym e))
    or_parts false b e = (refl, e)
none_at p (x ∷ xs) (suc l) b h e = none_at p xs l b (rest (p x) (list_any p xs) h) e
  where
    rest : (a b : Bool) → (a || b) ≡ false → b ≡ false
    rest true b e = absurd (false≢true (sym e))
    rest false b e = e

none_of : (p : Atom → Bool) (xs : List Atom) → ((l : ℕ) (b : Atom) → slice_get xs l ≡ Some b → p b ≡ false) → list_any p xs ≡ false
none_of p [] h = refl
none_of p (x ∷ xs) h = λ i. both (p x) (list_any p xs) (h 0 x refl) (none_of p xs (λ l b e. h (suc l) b e)) i
  where
    both : (a b : Bool) → a ≡ false → b ≡ false → (a || b) ≡ false
    both a b e f = ap (λ c. c || b) e ∙ f

not_false : (b : Bool) → not b ≡ true → b ≡ false
not_false true e = absurd (false≢true e)
not_false false e = refl

pub different-at : (xs : List Atom) (k l : ℕ) (a b : Atom) → are_different xs ≡ true → k < l → slice_get xs k ≡ Some a → slice_get xs l ≡ Some b → is_same b a ≡ false
different-at [] k l a b d less e f = absurd (none-some a e)
different-at (x ∷ xs) k zero a b d less e f = absurd (omega arith)
different-at (x ∷ xs) zero (suc l) a b d less e f =
    ap (is_same b) (sym (same_Some x a e)) ∙ none_at (λ c. is_same c x) xs l b (not_false _ (and_parts _ _ d).0) f
different-at (x ∷ xs) (suc k) (suc l) a b d less e f = different-at xs k l a b (and_parts _ _ d).1 (omega arith) e f

pub at-different : (xs : List Atom) → ((k l : ℕ) (a b : Atom) → k < l → slice_get xs k ≡ Some a → slice_get xs l ≡ Some b → is_same b a ≡ false) → are_different xs ≡ true
at-different [] h = refl
at-different (x ∷ xs) h =
    and_from _ _ (ap not (none_of (λ c. is_same c x) xs (λ l b e. h 0 (suc l) x b (omega arith) refl e)))
    (at-different xs (λ k l a b less e f. h (suc k) (suc l) a b (omega arith) e f))

-- ---- the first atom that passes

first_passes : (p : Atom → Bool) (xs : List Atom) → list_any p xs ≡ true → IsSomeAnd (slice_get xs (position_or_len p xs)) (λ b. p b ≡ true)
first_passes p [] h = absurd (false≢true h)
first_passes p (x ∷ xs) h = by_test (p x) refl (first_passes p xs) h
  where
    by_test : (t : Bool) → p x ≡ t → (list_any p xs ≡ true → IsSomeAnd (slice_get xs (position_or_len p xs)) (λ b. p b ≡ true)) → (t || list_any p xs) ≡ true → IsSomeAnd (slice_get (x ∷ xs) (cond (not t) (1 + position_or_len p xs) 0)) (λ b. p b ≡ true)
    by_test true e later g = e
    by_test false e later g = let one : 1 + position_or_len p xs ≡ suc (position_or_len p xs) = omega arith in subst (λ (n : ℕ). IsSomeAnd (slice_get (x ∷ xs) n) (λ b. p b ≡ true)) (sym one) (later g)

-- what is there, as a value
there : (P : Atom → Type 0) (o : Option Atom) → IsSomeAnd o P → (b : Atom) × (o ≡ Some b) × P b
there P None h = absurd h
there P (Some b) h = (b, refl, h)

passes_there : (p : Atom → Bool) (xs : List Atom) (k : ℕ) (b : Atom) → slice_get xs k ≡ Some b → p b ≡ true → list_any p xs ≡ true
passes_there p [] k b e h = absurd (none-some b e)
passes_there p (x ∷ xs) zero b e h = ap (λ t. t || list_any p xs) (ap p (same_Some x b e) ∙ h)
passes_there p (x ∷ xs) (suc k) b e h = later (p x) (passes_there p xs k b e h)
  where
    later : (t : Bool) → list_any p xs ≡ true → (t || list_any p xs) ≡ true
    later true g = refl
    later false g = g

by_order : (P : Type 0) (m n : ℕ) → (m < n → P) → (n < m → P) → (m ≡ n → P) → P
by_order P m n f g h = first (nat_lt m n) refl
  where
    second : (t : Bool) → nat_lt n m ≡ t → n ≤ m → P
    second true e le = g (ltb-true n m e)
    second false e le = (let le' = ltb-false n m e in h (omega (arith, le, le')))

    first : (t : Bool) → nat_lt m n ≡ t → P
    first true e = f (ltb-true m n e)
    first false e = second (nat_lt n m) refl (ltb-false m n e)

-- ---- the law

module _ (h : ℕ → Term) (atoms into : List Atom) (into_different : are_different into ≡ true) where
  abbrev image : Atom → Atom
  image = replace_in_atom h

  apart_maps : MapsApart h atoms into → Maps h atoms into
  apart_maps m k a e = (let t = there _ (slice_get into (m.place k)) (m.same k a e) in passes_there (is_same (image a)) into (m.place k) t.0 t.1 t.2)

  -- two images that are the same have places that are the same
  same_places : (m : MapsApart h atoms into) (k l : ℕ) (a b : Atom) → k < l → slice_get atoms k ≡ Some a → slice_get atoms l ≡ Some b → is_same (image b) (image a) ≡ true → ⊥
  same_places m k l a b less e f same =
      let s = there _ (slice_get into (m.place k)) (m.same k a e) in
      let t = there _ (slice_get into (m.place l)) (m.same l b f) in
      let both : is_same t.0 s.0 ≡ true = same_joined t.0 (image b) s.0 (same_turned (image b) t.0 t.2) (same_joined (image b) (image a) s.0 same s.2) in
      by_order ⊥ (m.place k) (m.place l)
      (λ before. false≢true (sym (different-at into (m.place k) (m.place l) s.0 t.0 into_different before s.1 t.1) ∙ both))
      (λ after. false≢true (sym (different-at into (m.place l) (m.place k) t.0 s.0 into_different after t.1 s.1) ∙ same_turned t.0 s.0 both))
      (λ equal. (let q = m.apart k l (slice_get_within atoms k a e) (slice_get_within atoms l b f) equal in omega (arith, q, less)))

  apart_different : MapsApart h atoms into → are_different (map image atoms) ≡ true
  apart_different m = at-different (map image atoms) (λ k l a b less e f. (
      let x = image_there (slice_get atoms k) a (sym (slice_get-map image atoms k) ∙ e) in
      let y = image_there (slice_get atoms l) b (sym (slice_get-map image atoms l) ∙ f) in
      by_test b a (is_same b a) refl (λ g. same_places m k l x.0 y.0 less x.1 y.1 ((λ i. is_same (y.2 i) (x.2 i)) ∙ g))))
    where
      image_there : (o : Option Atom) (a : Atom) → option_map image o ≡ Some a → (c : Atom) × (o ≡ Some c) × (image c ≡ a)
      image_there None a e = absurd (none-some a e)
      image_there (Some c) a e = (c, refl, same_Some (image c) a e)

      by_test : (x y : Atom) (t : Bool) → is_same x y ≡ t → (is_same x y ≡ true → ⊥) → is_same x y ≡ false
      by_test x y true e no' = absurd (no' e)
      by_test x y false e no' = e

  -- back: each atom gets the first place that is the same as its image
  place_for : Option Atom → ℕ
  place_for None = 0
  place_for (Some a) = position_or_len (is_same (image a)) into

  maps_same : Maps h atoms into → (k : ℕ) (a : Atom) → slice_get atoms k ≡ Some a → IsSomeAnd (slice_get into (place_for (slice_get atoms k))) (λ b. is_same (image a) b ≡ true)
  unfolding place_for
  maps_same m k a e = subst (λ o. IsSomeAnd (slice_get into (place_for o)) (λ b. is_same (image a) b ≡ true)) (sym e) (first_passes (is_same (image a)) into (m k a e))

  different_apart : Maps h atoms into → are_different (map image atoms) ≡ true → (k l : ℕ) → k < l → l < length atoms → place_for (slice_get atoms k) ≡ place_for (slice_get atoms l) → ⊥
  different_apart m d k l less within same =
      let a = get-there atoms k (omega (arith, less, within)) in
      let b = get-there atoms l within in
      let x = there _ (slice_get into (place_for (slice_get atoms k))) (maps_same m k a.0 a.1) in
      let y = there _ (slice_get into (place_for (slice_get atoms l))) (maps_same m l b.0 b.1) in
      let e : x.0 ≡ y.0 = same_Some x.0 y.0 (sym x.1 ∙ ap (slice_get into) same ∙ y.1) in
      let both : is_same (image b.0) (image a.0) ≡ true = same_joined (image b.0) y.0 (image a.0) y.2 (ap (λ z. is_same z (image a.0)) (sym e) ∙ same_turned (image a.0) x.0 x.2) in
      false≢true (sym (different-at (map image atoms) k l (image a.0) (image b.0) d less (slice_get-map image atoms k ∙ ap (option_map image) a.1) (slice_get-map image atoms l ∙ ap (option_map image) b.1)) ∙ both)

  maps_apart : Maps h atoms into → are_different (map image atoms) ≡ true → MapsApart h atoms into
  maps_apart m d = record {
    place = λ k. place_for (slice_get atoms k);
    same = maps_same m;
    apart = λ k l hk hl same. by_order (k ≡ l) k l (λ less. absurd (different_apart m d k l less hl same)) (λ less. absurd (different_apart m d l k less hk (sym same))) (λ e. e);
  }

  -- mapped apart: mapped, and to different atoms
  pub maps-apart : MapsApart h atoms into ↔ (Maps h atoms into × (are_different (map image atoms) ≡ true))
  maps-apart = ((λ m. (apart_maps m, apart_different m)), (λ t. maps_apart t.0 t.1))
