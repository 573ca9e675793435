-- Laws with their proofs, not definitions that a reader must believe: a component is closed, since no atom outside shares a
-- variable with one inside.
use Rattle.std.proofs.Common.{◌≡◌, ◌⊎◌, inl, inr, ℕ, zero, suc, ◌+◌, ◌<◌, ◌≤◌, Bool, true, false, not, ◌||◌, List, [], ◌∷◌, length, map, replicate, refl, sym, ap, ◌∙◌, arith, length-set}
use Rattle.std.specs.List.{list_any}
use Rattle.std.proofs.lemmas.List.{length-replicate}
use Rattle.clause_parts.specs.Parts.{share, marked, spread_from, spread, spread_times, only, component}
use Rattle.spl_terms.specs.ListLaws.{same_first, same_rest}
use Rattle.clause_parts.specs.MarkLaws.{stays, length-spread_from}

-- how many marks are set
abbrev pub set_count : List Bool → ℕ
set_count [] = 0
set_count (true ∷ bs) = suc (set_count bs)
set_count (false ∷ bs) = set_count bs

count_within : (bs : List Bool) → set_count bs ≤ length bs
count_within [] = omega arith
count_within (true ∷ bs) = omega (arith, count_within bs)
count_within (false ∷ bs) = omega (arith, count_within bs)

kept_count : (others lists : List (List ℕ)) (bs : List Bool) → length bs ≡ length lists → set_count bs ≤ set_count (spread_from others lists bs)
kept_count others [] [] e = omega arith
kept_count others [] (b ∷ bs) e = absurd (omega (arith, e))
kept_count others (vs ∷ more) [] e = absurd (omega (arith, e))
kept_count others (vs ∷ more) (true ∷ bs) e = let h : length bs ≡ length more = omega (arith, e) in omega (arith, kept_count others more bs h)
kept_count others (vs ∷ more) (false ∷ bs) e = let h : length bs ≡ length more = omega (arith, e) in by_test (kept_count others more bs h) (list_any (share vs) others)
  where
    by_test : set_count bs ≤ set_count (spread_from others more bs) → (b : Bool) → set_count bs ≤ set_count (b ∷ spread_from others more bs)
    by_test k true = omega (arith, k)
    by_test k false = k

-- a round that adds no mark changes nothing
grows : (others lists : List (List ℕ)) (bs : List Bool) → length bs ≡ length lists → (spread_from others lists bs ≡ bs) ⊎ (set_count bs < set_count (spread_from others lists bs))
grows others [] [] e = inl refl
grows others [] (b ∷ bs) e = absurd (omega (arith, e))
grows others (vs ∷ more) [] e = absurd (omega (arith, e))
grows others (vs ∷ more) (true ∷ bs) e =
    let h : length bs ≡ length more = omega (arith, e) in
    elim (grows others more bs h) [
      | inl same ↦ inl (ap (λ l. true ∷ l) same)
      | inr more' ↦ inr (omega (arith, more'))
    ]
grows others (vs ∷ more) (false ∷ bs) e =
    let h : length bs ≡ length more = omega (arith, e) in
    by_test (kept_count others more bs h) (grows others more bs h) (list_any (share vs) others)
  where
    by_test : set_count bs ≤ set_count (spread_from others more bs) → (spread_from others more bs ≡ bs) ⊎ (set_count bs < set_count (spread_from others more bs)) → (b : Bool) → (b ∷ spread_from others more bs ≡ false ∷ bs) ⊎ (set_count bs < set_count (b ∷ spread_from others more bs))
    by_test k g true = inr (omega (arith, k))
    by_test k (inl same) false = inl (ap (λ l. false ∷ l) same)
    by_test k (inr more') false = inr more'

full : (others lists : List (List ℕ)) (bs : List Bool) → length bs ≡ length lists → length bs ≤ set_count bs → spread_from others lists bs ≡ bs
full others [] [] e f = refl
full others [] (b ∷ bs) e f = absurd (omega (arith, e))
full others (vs ∷ more) [] e f = absurd (omega (arith, e))
full others (vs ∷ more) (true ∷ bs) e f =
    let h : length bs ≡ length more = omega (arith, e) in
    let k : length bs ≤ set_count bs = omega (arith, f) in
    ap (λ l. true ∷ l) (full others more bs h k)
full others (vs ∷ more) (false ∷ bs) e f = absurd (omega (arith, f, count_within bs))

closes_after : (n : ℕ) (lists : List (List ℕ)) (bs : List Bool) → length bs ≡ length lists → length lists ≤ set_count bs + n → spread lists (spread_times n lists bs) ≡ spread_times n lists bs
closes_after zero lists bs e f = let k : length bs ≤ set_count bs = omega (arith, e, f) in full (marked bs lists) lists bs e k
closes_after (suc n) lists bs e f =
    elim (grows (marked bs lists) lists bs e) [
      | inl same ↦ (let s = stays (suc n) lists bs same in ap (spread lists) s ∙ same ∙ sym s)
      | inr more ↦ closes_after n lists (spread lists bs) (length-spread_from (marked bs lists) lists bs e) (omega (arith, f, more))
    ]

-- one more round marks no other atom
pub component_closed : (k : ℕ) (lists : List (List ℕ)) → spread lists (component k lists) ≡ component k lists
component_closed k lists = closes_after (length lists) lists (only k lists) (length-set (replicate (length lists) false) k true ∙ length-replicate (length lists) false) (omega arith)

-- ---- variables of closed marks

-- no list without a mark shares a variable with the others
apart_from : (others lists : List (List ℕ)) (bs : List Bool) → spread_from others lists bs ≡ bs → list_any (λ vs. list_any (share vs) others) (marked (map not bs) lists) ≡ false
apart_from others [] [] e = refl
apart_from others [] (b ∷ bs) e = refl
apart_from others (vs ∷ more) [] e = refl
apart_from others (vs ∷ more) (true ∷ bs) e = apart_from others more bs (same_rest _ _ _ _ e)
apart_from others (vs ∷ more) (false ∷ bs) e =
    let here : list_any (share vs) others ≡ false = same_first _ _ _ _ e in
    let rest = apart_from others more bs (same_rest _ _ _ _ e) in
    λ i. here i || rest i

-- the rest of a component shares no variable with it
pub component_apart : (k : ℕ) (lists : List (List ℕ)) → list_any (λ vs. list_any (share vs) (marked (component k lists) lists)) (marked (map not (component k lists)) lists) ≡ false
component_apart k lists = apart_from (marked (component k lists) lists) lists (component k lists) (component_closed k lists)
