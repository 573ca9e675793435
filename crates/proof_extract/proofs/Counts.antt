-- Counting marks, and the numbers that the marked lines get.
use Rattle.std.proofs.Common.{◌≡◌, ℕ, zero, suc, ◌+◌, ◌-◌, ◌<◌, ◌≤◌, Bool, true, false, List, [], ◌∷◌, length, take, Some, refl, sym, ap, ◌∙◌, arith, rules}
use Rattle.std.specs.Prelude.{slice_index_or, min}
use Rattle.std.specs.List.{slice_get}
use Rattle.std.proofs.lemmas.List.{take_min}
use Rattle.proof_extract.specs.Extracting.{IsMarked, marked_count, new_number}
use Rattle.proof_extract.specs.Marking.{counts_from}
use Rattle.proof_extract.proofs.Renumbered.{KeepsOrder}

pub count_step : (b : Bool) (bs : List Bool) → marked_count (b ∷ bs) ≡ marked_count (b ∷ []) + marked_count bs
count_step true bs = omega arith
count_step false bs = omega arith

pub one_at_most : (b : Bool) → marked_count (b ∷ []) ≤ 1
one_at_most true = omega arith
one_at_most false = omega arith

-- the count at each place
count_at_place : (bs : List Bool) (n k : ℕ) → k < length bs → slice_get (counts_from n bs) k ≡ Some (n + marked_count (take (suc k) bs))
count_at_place [] n k h = absurd (omega (arith, h))
count_at_place (b ∷ bs) n zero h = ap Some (let e : marked_count (b ∷ []) ≡ marked_count (take 1 (b ∷ bs)) = ap (λ t. marked_count (b ∷ t)) (search rules) in ap (λ m. n + m) e)
count_at_place (b ∷ bs) n (suc k) h =
    let e : n + marked_count (b ∷ []) + marked_count (take (suc k) bs) ≡ n + marked_count (take (suc (suc k)) (b ∷ bs)) = omega (arith, count_step b (take (suc k) bs)) in
    count_at_place bs (n + marked_count (b ∷ [])) k (omega (arith, h)) ∙ ap Some e

pub length_counts : (bs : List Bool) (n : ℕ) → length (counts_from n bs) ≡ length bs
length_counts [] n = refl
length_counts (b ∷ bs) n = omega (arith, length_counts bs (n + marked_count (b ∷ [])))

index_here : (xs : List ℕ) (k : ℕ) → k < length xs → slice_get xs k ≡ Some (slice_index_or xs k 0)
index_here [] k h = absurd (omega (arith, h))
index_here (x ∷ xs) zero h = refl
index_here (x ∷ xs) (suc k) h = index_here xs k (omega (arith, h))

-- the new number of a line, by the count at the last place that it reaches
pub number_at : (marks : List Bool) (counts : List ℕ) (number end : ℕ) → counts ≡ counts_from 0 marks → end ≡ min number (length counts) → 0 < end → slice_index_or counts (end - 1) 0 ≡ new_number marks number
number_at marks counts number end is size some =
    let long : length counts ≡ length marks = ap length is ∙ length_counts marks 0 in
    let within : end - 1 < length counts = omega (arith, size, some) in
    let here : slice_get counts (end - 1) ≡ Some (slice_index_or counts (end - 1) 0) = index_here counts (end - 1) within in
    let one : suc (end - 1) ≡ min number (length marks) = omega (arith, size, some, long) in
    let there : slice_get counts (end - 1) ≡ Some (0 + marked_count (take (suc (end - 1)) marks)) = ap (λ cs. slice_get cs (end - 1)) is ∙ count_at_place marks 0 (end - 1) (omega (arith, within, long)) in
    let same : Some (slice_index_or counts (end - 1) 0) ≡ Some (0 + marked_count (take (suc (end - 1)) marks)) = sym here ∙ there in
    let value : slice_index_or counts (end - 1) 0 ≡ 0 + marked_count (take (suc (end - 1)) marks) = cc in
    value ∙ omega arith ∙ ap (λ n. marked_count (take n marks)) one ∙ ap marked_count (take_min number marks)

-- ---- new numbers

-- the count up to a marked place, and past it
pub count_at : (bs : List Bool) (m : ℕ) → slice_get bs m ≡ Some true → marked_count (take (suc m) bs) ≡ suc (marked_count (take m bs))
count_at [] m e = absurd (cc)
count_at (true ∷ bs) zero e = refl
count_at (false ∷ bs) zero e = absurd (cc)
count_at (true ∷ bs) (suc m) e = ap suc (count_at bs m e)
count_at (false ∷ bs) (suc m) e = count_at bs m e

-- more places have as many marks or more
count_rises : (bs : List Bool) (m n : ℕ) → m ≤ n → marked_count (take m bs) ≤ marked_count (take n bs)
count_rises bs zero n h = let e : take 0 bs ≡ [] = search rules in omega (arith, ap marked_count e)
count_rises bs (suc m) zero h = absurd (omega arith)
count_rises [] (suc m) (suc n) h = omega arith
count_rises (true ∷ bs) (suc m) (suc n) h = omega (arith, count_rises bs m n (omega arith))
count_rises (false ∷ bs) (suc m) (suc n) h = count_rises bs m n (omega arith)

-- the marked lines keep their order
pub new_numbers_rise : (bs : List Bool) → KeepsOrder (IsMarked bs) (new_number bs)
new_numbers_rise bs m zero p q h = absurd (cc)
new_numbers_rise bs m (suc n) p q h = omega (arith, count_rises bs m n (omega arith), count_at bs n q)
