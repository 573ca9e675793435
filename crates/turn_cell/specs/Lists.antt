-- Words on lists of entries, each of which names a seat, and on lists of seats' numbers.
use Rattle.std.specs.Prelude.{◌≡◌, ◌⊎◌, ℕ, ◌<◌, ◌≤◌, List, [], ◌∷◌, ◌++◌, length, cond, nat_lt, ◌==◌, All, filter}

-- the list `all` begins with what was seen of it
abbrev pub BeginsWith : {E : Type 0} → List E → List E → Type 0
BeginsWith {E} all seen = (rest : List E) × (all ≡ seen ++ rest)

-- the entries of the seat n, in their order
abbrev pub entries_of : {E : Type 0} → (E → ℕ) → ℕ → List E → List E
entries_of by n es = filter (λ e. by e == n) es

-- the new list is the old one, and then entries of the seat n
abbrev pub Appends : {E : Type 0} → (E → ℕ) → ℕ → List E → List E → Type 0
Appends {E} by n old new = (more : List E) × (new ≡ old ++ more) × All (λ e. by e ≡ n) more

-- n is one of the numbers
abbrev pub Among : ℕ → List ℕ → Type 0
Among n [] = ⊥
Among n (x ∷ xs) = (n ≡ x) ⊎ Among n xs

-- all seats' numbers, from 1 on, are among these
abbrev pub HasAllSeats : ℕ → List ℕ → Type 0
HasAllSeats seats numbers = (n : ℕ) → 0 < n → n ≤ seats → Among n numbers

-- the new list begins with the old one, and has of the seats with these numbers just the entries that the old one has
abbrev pub Continues : {E : Type 0} → (E → ℕ) → List ℕ → List E → List E → Type 0
Continues by numbers old new = BeginsWith new old × ((n : ℕ) → Among n numbers → entries_of by n new ≡ entries_of by n old)

-- each entry is of a seat with a number from 1 to `seats`
abbrev pub IsOfSeats : {E : Type 0} → (E → ℕ) → ℕ → List E → Type 0
IsOfSeats by seats es = All (λ e. (0 < by e) × (by e ≤ seats)) es

-- the longer of two lists, the first where they are as long
abbrev pub longer : {E : Type 0} → List E → List E → List E
longer xs ys = cond (nat_lt (length xs) (length ys)) ys xs
