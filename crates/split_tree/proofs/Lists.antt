-- Lists with more at their end, or with an item changed.
use Rattle.std.proofs.Common.{◌≡◌, ℕ, zero, suc, ◌+◌, ◌-◌, ◌<◌, ◌≤◌, eqb, eq-eqb, List, [], ◌∷◌, ◌++◌, length, take, drop, replicate, inl, inr, ◌⊎◌, Some, None, refl, sym, ◌∙◌, ap, arith, length-append}
use Rattle.std.specs.Prelude.{slice_set, insert}
use Rattle.std.specs.List.{slice_get}
use Rattle.std.specs.Option.{option_map}
use Rattle.std.proofs.lemmas.Bool.{cond-true, cond-false, ne_eqb, eqb-true, cases_lt, cases_Bool}
use Rattle.std.proofs.lemmas.List.{length-replicate, take_all}
use Rattle.spl_terms.specs.Clauses.{clause_symbols}
use Rattle.proof_steps.specs.declared.step.Line.{Line}
use Rattle.proof_steps.specs.Spots.{changed_at}
use Rattle.case_journal.specs.ListLaws.{get_left, get_right}
use Rattle.split_tree.specs.declared.caches.Retired.{Retired}
use Rattle.case_journal.specs.Paths.{replaced}
use Rattle.split_tree.specs.Caches.{spots_upto, upto, newest, newest_upto, IsNumbered, weights}

pub rest_slice : {A : Type 0} (xs ys : List A) → take (length (xs ++ ys) - length xs) (drop (length xs) (xs ++ ys)) ≡ ys
rest_slice [] ys = ap (λ n. take n ys) (let e : length ys - 0 ≡ length ys = omega arith in e) ∙ take_all (length ys) ys (omega arith)
rest_slice (x ∷ xs) ys = ap (λ n. take n (drop (length xs) (xs ++ ys))) (let e : suc (length (xs ++ ys)) - suc (length xs) ≡ length (xs ++ ys) - length xs = omega arith in e) ∙ rest_slice xs ys

-- ---- an item changed

pub length-changed_at : {A : Type 0} (k : ℕ) (f : A → A) (xs : List A) → length (changed_at k f xs) ≡ length xs
length-changed_at k f [] = refl
length-changed_at zero f (x ∷ xs) = refl
length-changed_at (suc k) f (x ∷ xs) = omega (arith, length-changed_at k f xs)

pub changed_at-here : {A : Type 0} (k : ℕ) (f : A → A) (xs : List A) → slice_get (changed_at k f xs) k ≡ option_map f (slice_get xs k)
changed_at-here k f [] = refl
changed_at-here zero f (x ∷ xs) = refl
changed_at-here (suc k) f (x ∷ xs) = changed_at-here k f xs

pub changed_at-elsewhere : {A : Type 0} (k j : ℕ) (f : A → A) (xs : List A) → (j ≡ k → ⊥) → slice_get (changed_at k f xs) j ≡ slice_get xs j
changed_at-elsewhere k j f [] h = refl
changed_at-elsewhere zero zero f (x ∷ xs) h = absurd (h refl)
changed_at-elsewhere zero (suc j) f (x ∷ xs) h = refl
changed_at-elsewhere (suc k) zero f (x ∷ xs) h = refl
changed_at-elsewhere (suc k) (suc j) f (x ∷ xs) h = changed_at-elsewhere k j f xs (λ e. h (ap suc e))

pub changed_at-set : {A : Type 0} (k : ℕ) (f : A → A) (xs : List A) (x y : A) → slice_get xs k ≡ Some x → y ≡ f x → slice_set xs k y ≡ changed_at k f xs
changed_at-set k f [] x y h e = cc
changed_at-set zero f (z ∷ xs) x y h e = let q : z ≡ x = cc in rw (e, q)
changed_at-set (suc k) f (z ∷ xs) x y h e = ap (λ zs. z ∷ zs) (changed_at-set k f xs x y h e)

-- ---- two leaves in the place of one

replaced-here : (leaf count : ℕ) (xs : List ℕ) (x : ℕ) → x ≡ leaf → replaced leaf count (x ∷ xs) ≡ count ∷ (count + 1) ∷ xs
replaced-here leaf count xs x e = cond-true (eqb x leaf) _ _ (eq-eqb x leaf e)

replaced-later : (leaf count : ℕ) (xs : List ℕ) (x : ℕ) → (x ≡ leaf → ⊥) → replaced leaf count (x ∷ xs) ≡ x ∷ replaced leaf count xs
replaced-later leaf count xs x e = cond-false (eqb x leaf) _ _ (ne_eqb x leaf e)

abbrev pub HasNot : ℕ → ℕ → List ℕ → Type 0
HasNot leaf place xs = (k x : ℕ) → k < place → slice_get xs k ≡ Some x → x ≡ leaf → ⊥

pub replaced_at : (leaf count place : ℕ) (xs : List ℕ) (x : ℕ) → slice_get xs place ≡ Some x → x ≡ leaf → HasNot leaf place xs → insert (slice_set xs place count) (suc place) (count + 1) ≡ replaced leaf count xs
replaced_at leaf count place [] x h e none = cc
replaced_at leaf count zero (y ∷ xs) x h e none = let q : y ≡ leaf = cc in sym (replaced-here leaf count xs y q)
replaced_at leaf count (suc place) (y ∷ xs) x h e none =
    ap (λ ys. y ∷ ys) (replaced_at leaf count place xs x h e (λ k z low g. none (suc k) z (omega arith) g))
    ∙ sym (replaced-later leaf count xs y (none 0 y (omega arith) refl))

pub replaced_none : (leaf count : ℕ) (xs : List ℕ) → HasNot leaf (length xs) xs → replaced leaf count xs ≡ xs
replaced_none leaf count [] none = refl
replaced_none leaf count (y ∷ xs) none =
    replaced-later leaf count xs y (none 0 y (omega arith) refl) ∙ ap (λ ys. y ∷ ys) (replaced_none leaf count xs (λ k z low g. none (suc k) z (omega arith) g))

-- ---- spots and numbers

pub length-spots_upto : (event n : ℕ) → length (spots_upto event n) ≡ n
length-spots_upto event zero = refl
length-spots_upto event (suc n) = omega (arith, length-append (spots_upto event n) (record { event = event; place = n } ∷ []), length-spots_upto event n)

-- ---- lists that are the same at each place

pub same_lists : {A : Type 0} (xs ys : List A) → length xs ≡ length ys → ((k : ℕ) → k < length xs → slice_get xs k ≡ slice_get ys k) → xs ≡ ys
same_lists [] [] long same = refl
same_lists [] (y ∷ ys) long same = absurd (omega arith)
same_lists (x ∷ xs) [] long same = absurd (omega arith)
same_lists (x ∷ xs) (y ∷ ys) long same =
    let h = same 0 (omega arith) in
    let q : x ≡ y = cc in
    let t : xs ≡ ys = same_lists xs ys (omega arith) (λ k low. same (suc k) (omega arith)) in
    λ i. q i ∷ t i

pub get_copies : {A : Type 0} (n k : ℕ) (x : A) → k < n → slice_get (replicate n x) k ≡ Some x
get_copies zero k x h = absurd (omega arith)
get_copies (suc n) zero x h = refl
get_copies (suc n) (suc k) x h = get_copies n k x (omega arith)

-- ---- the values of a function

pub length-upto : {A : Type 0} (f : ℕ → A) (n : ℕ) → length (upto f n) ≡ n
length-upto f zero = refl
length-upto f (suc n) = omega (arith, length-append (upto f n) (f n ∷ []), length-upto f n)

pub upto_at : {A : Type 0} (f : ℕ → A) (n k : ℕ) → k < n → slice_get (upto f n) k ≡ Some (f k)
upto_at f zero k h = absurd (omega arith)
upto_at f (suc n) k h =
    let long = length-upto f n in
    elim (cases_lt k n) [
      | inl low ↦ get_left (upto f n) (f n ∷ []) k (omega arith) ∙ upto_at f n k low
      | inr high ↦
          let at : k ≡ length (upto f n) + 0 = omega arith in
          let q : n ≡ k = omega arith in
          ap (slice_get (upto f n ++ f n ∷ [])) at ∙ (get_right (upto f n) (f n ∷ []) 0 ∙ ap (λ j. Some (f j)) q)
    ]

pub upto-same : {A : Type 0} (f g : ℕ → A) (n : ℕ) → ((k : ℕ) → f k ≡ g k) → upto f n ≡ upto g n
upto-same f g zero same = refl
upto-same f g (suc n) same = ap (λ xs. xs ++ f n ∷ []) (upto-same f g n same) ∙ ap (λ x. upto g n ++ x ∷ []) (same n)

cases_eq : (a b : ℕ) → (a ≡ b) ⊎ (a ≡ b → ⊥)
cases_eq a b = elim (cases_Bool (eqb a b)) [ inl t ↦ inl (eqb-true a b t) | inr f ↦ inr (λ q. let t = eq-eqb a b q in cc) ]

-- another value at one number
pub upto-changed : {A : Type 0} (f g : ℕ → A) (c : A → A) (k n : ℕ) → g k ≡ c (f k) → ((j : ℕ) → (j ≡ k → ⊥) → g j ≡ f j) → changed_at k c (upto f n) ≡ upto g n
upto-changed f g c k n here elsewhere =
    let xs = upto f n in
    same_lists (changed_at k c xs) (upto g n) (omega (arith, length-changed_at k c xs, length-upto f n, length-upto g n))
    (λ j low.
    let below : j < n = omega (arith, length-changed_at k c xs, length-upto f n) in
    elim (cases_eq j k) [
      | inl same ↦
          ap (λ i. slice_get (changed_at i c xs) j) (sym same) ∙ (changed_at-here j c xs ∙ (ap (option_map c) (upto_at f n j below) ∙ (ap (λ i. Some (c (f i))) same ∙ (ap Some (sym here) ∙ (ap (λ i. Some (g i)) (sym same) ∙ sym (upto_at g n j below))))))
      | inr apart ↦ changed_at-elsewhere k j c xs apart ∙ (upto_at f n j below ∙ (ap Some (sym (elsewhere j apart)) ∙ sym (upto_at g n j below)))
    ])

-- more numbers, at which it is the same
pub upto-more : {A : Type 0} (f : ℕ → A) (n m : ℕ) (x : A) → ((k : ℕ) → n ≤ k → f k ≡ x) → upto f (n + m) ≡ upto f n ++ replicate m x
upto-more f n m x rest =
    let xs = upto f n in
    let more = replicate m x in
    let long = length-replicate m x in
    same_lists (upto f (n + m)) (xs ++ more) (omega (arith, length-append xs more, length-upto f n, length-upto f (n + m)))
    (λ k low.
    let below : k < n + m = omega (arith, length-upto f (n + m)) in
    upto_at f (n + m) k below ∙ elim (cases_lt k n) [
      | inl old ↦ sym (get_left xs more k (omega (arith, length-upto f n)) ∙ upto_at f n k old)
      | inr new ↦
          let at : k ≡ length xs + (k - n) = omega (arith, length-upto f n) in
          ap Some (rest k new) ∙ sym (ap (slice_get (xs ++ more)) at ∙ (get_right xs more (k - n) ∙ get_copies m (k - n) x (omega arith)))
    ])

-- ---- the last records of clauses

pub set-changed_at : {A : Type 0} (k : ℕ) (xs : List A) (y : A) → slice_set xs k y ≡ changed_at k (λ x. y) xs
set-changed_at k [] y = refl
set-changed_at zero (x ∷ xs) y = refl
set-changed_at (suc k) (x ∷ xs) y = ap (λ zs. x ∷ zs) (set-changed_at k xs y)

-- one more record
pub newest-note : (n : ℕ) (rs : List Retired) (r : Retired) → 1 ≤ r.clause → changed_at (r.clause - 1) (λ o. Some (length rs)) (newest_upto n rs) ≡ newest_upto n (r ∷ rs)
newest-note n rs r some =
    let is : r.clause ≡ suc (r.clause - 1) = omega arith in
    upto-changed (λ k. newest (suc k) rs) (λ k. newest (suc k) (r ∷ rs)) (λ o. Some (length rs)) (r.clause - 1) n
    (cond-true (eqb r.clause (suc (r.clause - 1))) (Some (length rs)) (newest (suc (r.clause - 1)) rs) (eq-eqb r.clause (suc (r.clause - 1)) is))
    (λ k apart. cond-false (eqb r.clause (suc k)) (Some (length rs)) (newest (suc k) rs) (ne_eqb r.clause (suc k) (λ e. apart (omega arith))))

-- the clauses have one of the first n numbers
abbrev pub AreNumbered : ℕ → List Retired → Type 0
AreNumbered n [] = Unit {0}
AreNumbered n (r ∷ rs) = IsNumbered (Some r) n × AreNumbered n rs

newest_beyond : (n i : ℕ) (rs : List Retired) → AreNumbered n rs → n < i → newest i rs ≡ None
newest_beyond n i [] each h = refl
newest_beyond n i (r ∷ rs) each h = cond-false (eqb r.clause i) (Some (length rs)) (newest i rs) (ne_eqb r.clause i (λ q. let b = each.0.1 in omega arith)) ∙ newest_beyond n i rs each.1 h

pub newest-more : (n m : ℕ) (rs : List Retired) → AreNumbered n rs → newest_upto (n + m) rs ≡ newest_upto n rs ++ replicate m None
newest-more n m rs each = upto-more (λ k. newest (suc k) rs) n m None (λ k high. newest_beyond n (suc k) rs each (omega arith))

pub newest_none : (n : ℕ) → newest_upto n [] ≡ replicate n None
newest_none n = ap (λ j. newest_upto j []) (let e : n ≡ 0 + n = omega arith in e) ∙ newest-more 0 n [] tt

-- ---- sizes

pub weights-append : (xs ys : List Line) → weights (xs ++ ys) ≡ weights xs ++ weights ys
weights-append [] ys = refl
weights-append (x ∷ xs) ys = ap (λ r. clause_symbols x.stated.clause ∷ r) (weights-append xs ys)

pub weights-more : (k : ℕ) (xs : List Line) (l : Line) → slice_get xs k ≡ Some l → weights (take (suc k) xs) ≡ weights (take k xs) ++ clause_symbols l.stated.clause ∷ []
weights-more k [] l h = cc
weights-more zero (x ∷ xs) l h = let q : x ≡ l = cc in ap (λ y. clause_symbols y.stated.clause ∷ []) q
weights-more (suc k) (x ∷ xs) l h = ap (λ r. clause_symbols x.stated.clause ∷ r) (weights-more k xs l h)

pub weights_at : (k : ℕ) (xs : List Line) (l : Line) → slice_get xs k ≡ Some l → slice_get (weights xs) k ≡ Some (clause_symbols l.stated.clause)
weights_at k [] l h = cc
weights_at zero (x ∷ xs) l h = let q : x ≡ l = cc in ap (λ y. Some (clause_symbols y.stated.clause)) q
weights_at (suc k) (x ∷ xs) l h = weights_at k xs l h

pub length-weights : (xs : List Line) → length (weights xs) ≡ length xs
length-weights [] = refl
length-weights (x ∷ xs) = omega (arith, length-weights xs)
