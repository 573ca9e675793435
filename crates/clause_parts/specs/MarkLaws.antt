-- Laws with their proofs, not definitions that a reader must believe: when lists of numbers share one, what spreading marks
-- keeps, and how many marks there are.
use Rattle.std.proofs.Common.{◌≡◌, ℕ, zero, suc, ◌+◌, ◌-◌, ◌<◌, ◌≤◌, Bool, true, false, ◌||◌, ◌==◌, List, [], ◌∷◌, ◌++◌, length, refl, ap, ◌∙◌, arith, length-append, length-set, replicate, if◌then◌else◌}
use Rattle.std.specs.List.{list_any}
use Rattle.std.proofs.lemmas.List.{length-replicate, length-map}
use Rattle.std.proofs.lemmas.List.Folds.{list_any-append}
use Rattle.spl_terms.specs.BoolLaws.{or-exchange}
use Rattle.spl_terms.specs.declared.clause.Clause.{Clause}
use Rattle.spl_terms.specs.Clauses.{atom_variables, atoms_of}
use Rattle.clause_parts.specs.Parts.{variable_lists, share, marked, spread_from, spread, spread_times, only, component}
use Rattle.clause_parts.specs.Marking.{marked_variables}

-- ---- shared numbers

none_shared : (vs : List ℕ) → share vs [] ≡ false
none_shared [] = refl
none_shared (v ∷ vs) = none_shared vs

share-append : (vs xs ys : List ℕ) → share vs (xs ++ ys) ≡ (share vs xs || share vs ys)
share-append [] xs ys = refl
share-append (v ∷ vs) xs ys =
    (let p = list_any-append (λ w. v == w) xs ys in let q = share-append vs xs ys in λ i. p i || q i)
    ∙ or-exchange (list_any (λ w. v == w) xs) (list_any (λ w. v == w) ys) (share vs xs) (share vs ys)

-- whether one of the lists has a variable of vs is told by all of them together
pub share-reached : (vs : List ℕ) (bs : List Bool) (lists : List (List ℕ)) → share vs (marked_variables bs lists) ≡ list_any (share vs) (marked bs lists)
share-reached vs [] lists = none_shared vs
share-reached vs (b ∷ bs) [] = none_shared vs
share-reached vs (true ∷ bs) (ws ∷ lists) = share-append vs ws (marked_variables bs lists) ∙ ap (λ b. share vs ws || b) (share-reached vs bs lists)
share-reached vs (false ∷ bs) (ws ∷ lists) = share-reached vs bs lists

-- ---- spreading

pub stays : (n : ℕ) (lists : List (List ℕ)) (bs : List Bool) → spread lists bs ≡ bs → spread_times n lists bs ≡ bs
stays zero lists bs e = refl
stays (suc n) lists bs e = ap (spread_times n lists) e ∙ stays n lists bs e

-- ---- how many marks there are

pub length-spread_from : (others lists : List (List ℕ)) (bs : List Bool) → length bs ≡ length lists → length (spread_from others lists bs) ≡ length lists
length-spread_from others [] bs e = refl
length-spread_from others (vs ∷ more) [] e = absurd (omega (arith, e))
length-spread_from others (vs ∷ more) (b ∷ bs) e = let h : length bs ≡ length more = omega (arith, e) in omega (arith, length-spread_from others more bs h)

length-times : (n : ℕ) (lists : List (List ℕ)) (bs : List Bool) → length bs ≡ length lists → length (spread_times n lists bs) ≡ length lists
length-times zero lists bs e = e
length-times (suc n) lists bs e = length-times n lists (spread lists bs) (length-spread_from (marked bs lists) lists bs e)

pub length-component : (k : ℕ) (lists : List (List ℕ)) → length (component k lists) ≡ length lists
length-component k lists = length-times (length lists) lists (only k lists) (length-set (replicate (length lists) false) k true ∙ length-replicate (length lists) false)

pub length-lists : (c : Clause) → length (variable_lists c) ≡ length (atoms_of c)
length-lists c = length-map (atoms_of c) atom_variables

pub length-atoms : (c : Clause) → length (variable_lists c) ≡ length c.constraint + length c.antecedent + length c.succedent
length-atoms c = omega (arith, length-lists c, length-append (c.constraint ++ c.antecedent) c.succedent, length-append c.constraint c.antecedent)
