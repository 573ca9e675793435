-- Marks of atoms: how they spread, and what they pick.
use Rattle.std.proofs.Common.{◌≡◌, ℕ, zero, suc, ◌+◌, ◌-◌, ◌<◌, ◌≤◌, Bool, true, false, not, ◌||◌, ◌==◌, List, [], ◌∷◌, ◌++◌, length, map, refl, sym, ap, ◌∙◌, arith, append_assoc, append-nil, length-drop, take, subst, add-one, Option, Some, None, option_and_then, if◌then◌else◌}
use Rattle.std.specs.List.{list_any}
use Rattle.std.specs.List.{slice_get}
use Rattle.std.proofs.lemmas.List.{map-append}
use Rattle.spl_terms.specs.declared.atom.Atom.{Atom}
use Rattle.spl_terms.specs.declared.clause.Clause.{Clause}
use Rattle.spl_terms.specs.Clauses.{atom_variables, atoms_of}
use Rattle.spl_terms.specs.TermLaws.{term_variables-Var, term_variables-App}
use Rattle.clause_parts.specs.Parts.{variable_lists, share, marked, spread_from, spread, spread_times, component, has_succedent, first_head, if_rest, left_marks, succedent_marks}
use Rattle.spl_terms.specs.ListLaws.{get-left, get-behind}
use Rattle.clause_parts.specs.MarkLaws.{share-reached, stays, length-component, length-lists, length-atoms}
use Rattle.clause_parts.specs.Marking.{marked_variables, spread_over, all_if}

pub ruleset variable_laws = (term_variables-Var, term_variables-App, append_assoc, append-nil)

pub lists_are : (c : Clause) → variable_lists c ≡ map atom_variables c.constraint ++ map atom_variables c.antecedent ++ map atom_variables c.succedent
lists_are c = map-append atom_variables (c.constraint ++ c.antecedent) c.succedent ∙ ap (λ l. l ++ map atom_variables c.succedent) (map-append atom_variables c.constraint c.antecedent)

pub ruleset list_laws = (lists_are)

-- ---- the variables of the marked atoms

pub reached_step : (b : Bool) (bs : List Bool) (vs : List ℕ) (more : List (List ℕ)) (found : List ℕ) → (found ++ all_if b vs) ++ marked_variables bs more ≡ found ++ marked_variables (b ∷ bs) (vs ∷ more)
reached_step true bs vs more found = append_assoc found vs (marked_variables bs more)
reached_step false bs vs more found = append_assoc found [] (marked_variables bs more)

pub none_reached : (bs : List Bool) → marked_variables bs [] ≡ []
none_reached [] = refl
none_reached (b ∷ bs) = refl

pub ruleset reached_laws = (reached_step, none_reached, append-nil)

-- ---- marked atoms

pub marked_step : (b : Bool) (bs : List Bool) (a : Atom) (atoms : List Atom) (made : List Atom) → (made ++ all_if b (a ∷ [])) ++ marked bs atoms ≡ made ++ marked (b ∷ bs) (a ∷ atoms)
marked_step true bs a atoms made = append_assoc made (a ∷ []) (marked bs atoms)
marked_step false bs a atoms made = append_assoc made [] (marked bs atoms)

pub none_marked : (bs : List Bool) → marked {A = Atom} bs [] ≡ []
none_marked [] = refl
none_marked (b ∷ bs) = refl

pub ruleset marked_laws = (marked_step, none_marked, append-nil)

-- ---- spreading

pub no_spread : (variables : List ℕ) (lists : List (List ℕ)) → spread_over variables lists [] ≡ []
no_spread variables [] = refl
no_spread variables (vs ∷ more) = refl

pub spread_step : (variables vs : List ℕ) (b : Bool) (bs : List Bool) (more : List (List ℕ)) (made : List Bool) → (made ++ (b || share vs variables) ∷ []) ++ spread_over variables more bs ≡ made ++ spread_over variables (vs ∷ more) (b ∷ bs)
spread_step variables vs b bs more made = append_assoc made ((b || share vs variables) ∷ []) (spread_over variables more bs)

pub ruleset spread_laws = (spread_step, no_spread, append-nil)

over_from : (variables : List ℕ) (others : List (List ℕ)) → ((vs : List ℕ) → share vs variables ≡ list_any (share vs) others) → (lists : List (List ℕ)) (bs : List Bool) → spread_over variables lists bs ≡ spread_from others lists bs
over_from variables others same [] bs = refl
over_from variables others same (vs ∷ more) [] = refl
over_from variables others same (vs ∷ more) (b ∷ bs) = let p = same vs in let q = over_from variables others same more bs in λ i. (b || p i) ∷ q i

pub spread_is : (lists : List (List ℕ)) (bs : List Bool) → spread_over (marked_variables bs lists) lists bs ≡ spread lists bs
spread_is lists bs = over_from (marked_variables bs lists) (marked bs lists) (λ vs. share-reached vs bs lists) lists bs

pub one_round : (n : ℕ) (lists : List (List ℕ)) (bs : List Bool) → 0 < n → spread_times (n - 1) lists (spread lists bs) ≡ spread_times n lists bs
one_round zero lists bs h = absurd (omega arith)
one_round (suc n) lists bs h = let e : suc n - 1 ≡ n = omega arith in ap (λ m. spread_times m lists (spread lists bs)) e

pub ruleset rounds = (stays, one_round)

-- ---- how many marks there are

pub ruleset lengths = (length-component, length-lists)

pub ruleset atom_counts = (length-atoms)

-- ---- the first component with an atom of the succedent

pub head_here : (c : Clause) (n k : ℕ) → k < n → has_succedent c (component k (variable_lists c)) ≡ true → Some (component k (variable_lists c)) ≡ first_head (n - k) k c
head_here c n k h e =
    let one : n - k ≡ suc (n - (k + 1)) = omega arith in
    sym (ap (λ m. first_head m k c) one ∙ ap (λ b. if b then Some (component k (variable_lists c)) else first_head (n - (k + 1)) (suc k) c) e)

pub head_later : (c : Clause) (n k : ℕ) → k < n → has_succedent c (component k (variable_lists c)) ≡ false → first_head (n - (k + 1)) (k + 1) c ≡ first_head (n - k) k c
head_later c n k h e =
    let one : n - k ≡ suc (n - (k + 1)) = omega arith in
    ap (λ j. first_head (n - (k + 1)) j c) (sym (add-one' k))
    ∙ sym (ap (λ m. first_head m k c) one ∙ ap (λ b. if b then Some (component k (variable_lists c)) else first_head (n - (k + 1)) (suc k) c) e)
  where
    add-one' : (k : ℕ) → suc k ≡ k + 1
    add-one' k = omega arith

pub ruleset heads = (head_here, head_later)

-- what is found has a mark in the succedent
head_has : (n k : ℕ) (c : Clause) (marks : List Bool) → first_head n k c ≡ Some marks → (has_succedent c marks ≡ true) × (length marks ≡ length (variable_lists c))
head_has zero k c marks e = absurd (cc)
head_has (suc n) k c marks e = by_test (head_has n (suc k) c marks) (has_succedent c (component k (variable_lists c))) refl e
  where
    by_test : (first_head n (suc k) c ≡ Some marks → (has_succedent c marks ≡ true) × (length marks ≡ length (variable_lists c))) → (b : Bool) → has_succedent c (component k (variable_lists c)) ≡ b → (if b then Some (component k (variable_lists c)) else first_head n (suc k) c) ≡ Some marks → (has_succedent c marks ≡ true) × (length marks ≡ length (variable_lists c))
    by_test later true t f = let same : component k (variable_lists c) ≡ marks = cc in (subst (λ m. has_succedent c m ≡ true) same t, subst (λ m. length m ≡ length (variable_lists c)) same (length-component k (variable_lists c)))
    by_test later false t f = later f

-- one mark cannot be set and not set
not_both : (bs : List Bool) → length bs < 2 → list_any (λ b. b) bs ≡ true → list_any not bs ≡ false
not_both [] h e = refl
not_both (true ∷ []) h e = refl
not_both (false ∷ []) h e = absurd (cc)
not_both (b ∷ d ∷ bs) h e = absurd (omega arith)

-- with fewer than two atoms in the succedent there are no parts
pub few_have_none : (c : Clause) → length c.succedent < 2 → None ≡ left_marks c
few_have_none c h = by_head (first_head (length (atoms_of c)) 0 c) refl
  where
    few : (marks : List Bool) → length marks ≡ length (variable_lists c) → length (succedent_marks c marks) < 2
    few marks e = omega (arith, e, h, length-atoms c, length-drop (length c.constraint + length c.antecedent) marks)

    by_head : (o : Option (List Bool)) → first_head (length (atoms_of c)) 0 c ≡ o → None ≡ option_and_then (if_rest c) o
    by_head None e = refl
    by_head (Some marks) e =
        let found = head_has (length (atoms_of c)) 0 c marks e in
        sym (ap (λ b. if b then Some marks else None) (not_both (succedent_marks c marks) (few marks found.1) found.0))

-- ---- comparing

pub next_alike : (xs ys : List Bool) (n : ℕ) → take n xs ≡ take n ys → slice_get xs n ≡ slice_get ys n → take (n + 1) xs ≡ take (n + 1) ys
next_alike xs ys n before here = rw add-one (from xs ys n before here)
  where
    from : (xs ys : List Bool) (n : ℕ) → take n xs ≡ take n ys → slice_get xs n ≡ slice_get ys n → take (suc n) xs ≡ take (suc n) ys
    from [] [] n e f = refl
    from [] (y ∷ ys) zero e f = absurd (cc)
    from [] (y ∷ ys) (suc n) e f = absurd (cc)
    from (x ∷ xs) [] zero e f = absurd (cc)
    from (x ∷ xs) [] (suc n) e f = absurd (cc)
    from (x ∷ xs) (y ∷ ys) zero e f = let h : x ≡ y = cc in ap (λ z. z ∷ []) h
    from (x ∷ xs) (y ∷ ys) (suc n) e f = let h : x ≡ y = cc in let t : take n xs ≡ take n ys = cc in let r = from xs ys n t f in λ i. h i ∷ r i

-- ---- the atom at a place of all of them

pub ruleset get_laws = (get-left, get-behind)
