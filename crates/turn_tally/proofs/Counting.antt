-- How long a list is, where each seat's entries are known.
use Rattle.std.proofs.Common.{◌≡◌, ◌≢◌, ℕ, zero, suc, ◌+◌, ◌*◌, ◌<◌, ◌≤◌, List, [], ◌∷◌, length, cond, refl, sym, ap, ◌∙◌, arith, eq-eqb, ne_eqb, length-append}
use Rattle.std.proofs.lemmas.List.Elements.{All-head, All-tail}
use Rattle.std.proofs.Math.Nat.{suc-mul}
use mathlib.Core.Logic.{dite}
use native.Mathlib.Decide.{ℕ_discrete}
use Rattle.turn_cell.specs.Lists.{entries_of, IsOfSeats}
use Rattle.turn_tally.specs.declared.entry.Entry.{Entry}
use Rattle.turn_tally.specs.Tallies.{tally_entry, seat_of, entries_upto}

-- how many entries the seats 1 to n have
count_to : ℕ → List Entry → ℕ
count_to zero xs = 0
count_to (suc n) xs = count_to n xs + length (entries_of seat_of (suc n) xs)

of_same : (k : ℕ) (x : Entry) (xs : List Entry) → x.seat ≡ k → length (entries_of seat_of k (x ∷ xs)) ≡ suc (length (entries_of seat_of k xs))
of_same k x xs e = ap (λ b. length (cond b (x ∷ entries_of seat_of k xs) (entries_of seat_of k xs))) (eq-eqb x.seat k e)

of_other : (k : ℕ) (x : Entry) (xs : List Entry) → x.seat ≢ k → length (entries_of seat_of k (x ∷ xs)) ≡ length (entries_of seat_of k xs)
of_other k x xs e = ap (λ b. length (cond b (x ∷ entries_of seat_of k xs) (entries_of seat_of k xs))) (ne_eqb x.seat k e)

count_none : (n : ℕ) → count_to n [] ≡ 0
unfolding count_to
count_none zero = refl
count_none (suc n) = let e = count_none n in omega arith

count_above : (n : ℕ) (x : Entry) (xs : List Entry) → n < x.seat → count_to n (x ∷ xs) ≡ count_to n xs
unfolding count_to
count_above zero x xs l = refl
count_above (suc n) x xs l = let e = count_above n x xs (omega arith) in let o = of_other (suc n) x xs (λ z. omega arith) in omega arith

count_one : (n : ℕ) (x : Entry) (xs : List Entry) → 0 < x.seat → x.seat ≤ n → count_to n (x ∷ xs) ≡ suc (count_to n xs)
unfolding count_to
count_one zero x xs low high = absurd (omega arith)
count_one (suc n) x xs low high = dite (ℕ_discrete x.seat (suc n))
    (λ e. let a = count_above n x xs (omega arith) in let o = of_same (suc n) x xs e in omega arith)
    (λ e. let a = count_one n x xs low (omega arith) in let o = of_other (suc n) x xs e in omega arith)

count_all : (n : ℕ) (xs : List Entry) → IsOfSeats seat_of n xs → length xs ≡ count_to n xs
count_all n [] h = sym (count_none n)
count_all n (x ∷ xs) h =
    let here = All-head (λ e. (0 < e.seat) × (e.seat ≤ n)) x xs h in
    ap suc (count_all n xs (All-tail (λ e. (0 < e.seat) × (e.seat ≤ n)) x xs h)) ∙ sym (count_one n x xs here.0 here.1)

length-entries_upto : (k n : ℕ) → length (entries_upto k n) ≡ n
length-entries_upto k zero = refl
length-entries_upto k (suc n) = let e = length-entries_upto k n in omega (arith, length-append (entries_upto k n) (tally_entry k (suc n) ∷ []))

count_numbered : (seats n : ℕ) (xs : List Entry) → ((k : ℕ) → 0 < k → k ≤ seats → entries_of seat_of k xs ≡ entries_upto k n) → count_to seats xs ≡ seats * n
unfolding count_to
count_numbered zero n xs h = omega arith
count_numbered (suc m) n xs h =
    let front = count_numbered m n xs (λ k low high. h k low (omega arith)) in
    let last = ap length (h (suc m) (omega arith) (omega arith)) ∙ length-entries_upto (suc m) n in
    let all = suc-mul m n in
    omega arith

-- where each seat has n entries, and no other number has any
pub length_whole : (seats n : ℕ) (xs : List Entry) → IsOfSeats seat_of seats xs → ((k : ℕ) → 0 < k → k ≤ seats → entries_of seat_of k xs ≡ entries_upto k n) → length xs ≡ seats * n
length_whole seats n xs ours h = count_all seats xs ours ∙ count_numbered seats n xs h
