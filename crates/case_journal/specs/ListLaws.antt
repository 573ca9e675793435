-- Laws that carry proofs, and no definitions that a reader must believe: lists with more at their end, or with an item changed.
use Rattle.std.proofs.Common.{◌≡◌, ℕ, zero, suc, ◌+◌, ◌-◌, ◌<◌, ◌≤◌, List, [], ◌∷◌, ◌++◌, length, take, inl, inr, Some, refl, sym, ◌∙◌, ap, arith}
use Rattle.std.specs.List.{slice_get}
use Rattle.std.proofs.lemmas.Bool.{cases_lt}
use Rattle.spl_terms.specs.declared.clause.Clause.{Clause}
use Rattle.proof_steps.specs.declared.step.Line.{Line}
use Rattle.proof_steps.specs.Steps.{numbered}
use Rattle.case_journal.specs.Journal.{input_line, input_lines, AreSmall}

pub get_more : {A : Type 0} (xs ys : List A) (k : ℕ) (x : A) → slice_get xs k ≡ Some x → slice_get (xs ++ ys) k ≡ Some x
get_more [] ys k x h = cc
get_more (y ∷ xs) ys zero x h = h
get_more (y ∷ xs) ys (suc k) x h = get_more xs ys k x h

pub get_right : {A : Type 0} (xs ys : List A) (k : ℕ) → slice_get (xs ++ ys) (length xs + k) ≡ slice_get ys k
get_right [] ys k = ap (slice_get ys) (omega arith)
get_right (x ∷ xs) ys k = ap (slice_get (x ∷ (xs ++ ys))) (let e : suc (length xs) + k ≡ suc (length xs + k) = omega arith in e) ∙ get_right xs ys k

pub get_left : {A : Type 0} (xs ys : List A) (k : ℕ) → k < length xs → slice_get (xs ++ ys) k ≡ slice_get xs k
get_left [] ys k h = absurd (omega arith)
get_left (x ∷ xs) ys zero h = refl
get_left (x ∷ xs) ys (suc k) h = get_left xs ys k (omega arith)

-- ---- spots and numbers

-- the steps of the first input clauses, with one more
pub input_lines-more : (n k : ℕ) (cs : List Clause) (c : Clause) → slice_get cs k ≡ Some c → input_lines n (take (suc k) cs) ≡ input_lines n (take k cs) ++ input_line (n + k) c ∷ []
input_lines-more n zero [] c h = cc
input_lines-more n (suc k) [] c h = cc
input_lines-more n zero (x ∷ xs) c h = let e : x ≡ c = cc in rw e (ap (λ j. input_line j c ∷ []) (let e : n ≡ n + 0 = omega arith in e))
input_lines-more n (suc k) (x ∷ xs) c h =
    let at : n + 1 + k ≡ n + suc k = omega arith in
    ap (λ r. input_line n x ∷ r) (input_lines-more (n + 1) k xs c h ∙ ap (λ j. input_lines (n + 1) (take k xs) ++ input_line j c ∷ []) at)

pub length-input_lines : (n : ℕ) (cs : List Clause) → length (input_lines n cs) ≡ length cs
length-input_lines n [] = refl
length-input_lines n (c ∷ cs) = omega (arith, length-input_lines (n + 1) cs)

pub numbered_get : {A : Type 0} (xs : List A) (n : ℕ) → 1 ≤ n → numbered xs n ≡ slice_get xs (n - 1)
numbered_get xs zero h = absurd (omega arith)
numbered_get xs (suc k) h = ap (slice_get xs) (let e : k ≡ suc k - 1 = omega arith in e)

-- ---- sizes

pub AreSmall-append : (xs ys : List Line) → AreSmall xs → AreSmall ys → AreSmall (xs ++ ys)
AreSmall-append xs ys a b k l h = elim (cases_lt k (length xs)) [
  | inl low ↦ a k l (sym (get_left xs ys k low) ∙ h)
  | inr high ↦
      let at : k ≡ length xs + (k - length xs) = omega arith in
      b (k - length xs) l (sym (ap (slice_get (xs ++ ys)) at ∙ get_right xs ys (k - length xs)) ∙ h)
]
