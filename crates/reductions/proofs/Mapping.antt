-- Atoms listed with their parts: what holds of each of them, and what a search for a mapping answers.
use Rattle.std.proofs.Common.{◌≡◌, ◌⊎◌, inl, inr, ℕ, zero, suc, ◌<◌, ◌≤◌, ◌-◌, Bool, true, false, ◌||◌, ◌==◌, nat_lt, if◌then◌else◌, List, [], ◌∷◌, ◌++◌, length, take, drop, get_or, Some, unwrap_or, refl, sym, ap, subst, ◌∙◌, arith}
use Rattle.std.specs.Prelude.{slice_get, IsPermutation}
use Rattle.std.specs.List.{list_any, AllByRecursion, flat_map}
use Rattle.std.proofs.lemmas.Bool.{ltb-true, lt-ltb}
use Rattle.std.proofs.lemmas.Option.{slice_get-get_or}
use Rattle.std.proofs.lemmas.List.Elements.{recursion_from_All, All-from_recursion}
use Rattle.std.proofs.lemmas.List.Sorted.{All-permutation, IsPermutation-sym}
use Rattle.spl_terms.specs.declared.term.Term.{Term, Var}
use Rattle.spl_terms.specs.declared.atom.Atom.{Atom}
use Rattle.spl_terms.specs.declared.clause.Part.{Part}
use Rattle.spl_terms.specs.declared.clause.Part.TheVariants.{Constraint, Antecedent, Succedent}
use Rattle.spl_terms.specs.declared.clause.Clause.{Clause}
use Rattle.spl_terms.specs.Clauses.{atom_terms, atom_variables, is_same, part_of, replace_in_atom}
use Rattle.spl_terms.specs.InOrder.{IsInOrder, variables}
use Rattle.spl_terms.specs.InOrderLaws.{in_clause, variables-below}
use Rattle.spl_terms.specs.VariableLaws.{has, itself, has-append-left, has-append-right}
use Rattle.spl_truth.specs.Truth.{entry}
use Rattle.spl_truth.specs.EntryLaws.{length-entries_below, entry-entries_below}
use Rattle.spl_truth.specs.Unifiers.{occurs, HaveVariablesBelow, entries_below}
use Rattle.proof_steps.specs.Steps.{without}
use Rattle.unify.specs.Bindings.{filled}
use Rattle.unify.specs.Matches.{Agrees, IsFound, FoundOrNot}
use Rattle.reductions.proofs.Searching.{bound_after}
use Rattle.reductions.specs.declared.folding.PartAtom.{PartAtom}
use Rattle.reductions.specs.Folding.{Folds, FoldsSomewhere, in_part, atoms_in_parts, plain, AreMapped, HaveAtomsBelow, AreBoundBelow, AreSought, AreRestored, Searched}

-- ---- the first atom, and those behind it

taken_whole : (xs : List PartAtom) (n : ℕ) → n ≡ length xs → take n xs ≡ xs
taken_whole [] zero e = refl
taken_whole [] (suc n) e = refl
taken_whole (x ∷ xs) zero e = absurd (omega (arith, e))
taken_whole (x ∷ xs) (suc n) e = ap (λ l. x ∷ l) (taken_whole xs n (omega (arith, e)))

abbrev one : PartAtom → Part × Atom
one a = (a.part, a.atom.now)

pub first_and_rest : (atoms : List PartAtom) (first : PartAtom) → 1 ≤ length atoms → first ≡ get_or atoms 0 first → plain atoms ≡ (first.part, first.atom.now) ∷ plain (take (length atoms - 1) (drop 1 atoms))
first_and_rest [] first h e = absurd (omega (arith, h))
first_and_rest (x ∷ xs) first h e =
    let whole : take (suc (length xs) - 1) xs ≡ xs = taken_whole xs (suc (length xs) - 1) (omega arith) in
    λ i. one (sym e i) ∷ plain (sym whole i)

-- ---- what holds of each atom

module _ (P : Part × Atom → Type 0) where
  all_append : (xs ys : List (Part × Atom)) → AllByRecursion P xs → AllByRecursion P ys → AllByRecursion P (xs ++ ys)
  all_append [] ys h k = k
  all_append (x ∷ xs) ys h k = (h.0, all_append xs ys h.1 k)

  all_left : (xs ys : List (Part × Atom)) → AllByRecursion P (xs ++ ys) → AllByRecursion P xs
  all_left [] ys h = tt
  all_left (x ∷ xs) ys h = (h.0, all_left xs ys h.1)

  all_right : (xs ys : List (Part × Atom)) → AllByRecursion P (xs ++ ys) → AllByRecursion P ys
  all_right [] ys h = h
  all_right (x ∷ xs) ys h = all_right xs ys h.1

  at_each : (part : Part) (xs : List Atom) → AllByRecursion P (in_part part xs) → (k : ℕ) (a : Atom) → slice_get xs k ≡ Some a → P (part, a)
  at_each part [] h k a is = absurd (cc)
  at_each part (x ∷ xs) h zero a is = (let same : x ≡ a = cc in subst (λ y. P (part, y)) same h.0)
  at_each part (x ∷ xs) h (suc k) a is = at_each part xs h.1 k a is

  each_at : (part : Part) (xs : List Atom) → ((k : ℕ) (a : Atom) → slice_get xs k ≡ Some a → P (part, a)) → AllByRecursion P (in_part part xs)
  each_at part [] h = tt
  each_at part (x ∷ xs) h = (h 0 x refl, each_at part xs (λ k a is. h (suc k) a is))

  abbrev OfClause : Clause → Type 0
  OfClause c = (part : Part) (k : ℕ) (a : Atom) → slice_get (part_of c part) k ≡ Some a → P (part, a)

  of_clause : (c : Clause) → AllByRecursion P (atoms_in_parts c) → OfClause c
  of_clause c h Constraint = at_each Constraint c.constraint (all_left (in_part Constraint c.constraint) (in_part Antecedent c.antecedent) (all_left (in_part Constraint c.constraint ++ in_part Antecedent c.antecedent) (in_part Succedent c.succedent) h))
  of_clause c h Antecedent = at_each Antecedent c.antecedent (all_right (in_part Constraint c.constraint) (in_part Antecedent c.antecedent) (all_left (in_part Constraint c.constraint ++ in_part Antecedent c.antecedent) (in_part Succedent c.succedent) h))
  of_clause c h Succedent = at_each Succedent c.succedent (all_right (in_part Constraint c.constraint ++ in_part Antecedent c.antecedent) (in_part Succedent c.succedent) h)

  clause_of_all : (c : Clause) → OfClause c → AllByRecursion P (atoms_in_parts c)
  clause_of_all c h =
      all_append (in_part Constraint c.constraint ++ in_part Antecedent c.antecedent) (in_part Succedent c.succedent)
      (all_append (in_part Constraint c.constraint) (in_part Antecedent c.antecedent) (each_at Constraint c.constraint (h Constraint)) (each_at Antecedent c.antecedent (h Antecedent)))
      (each_at Succedent c.succedent (h Succedent))

  -- in any order
  pub from_order : (c : Clause) (atoms : List (Part × Atom)) → IsPermutation (atoms_in_parts c) atoms → AllByRecursion P atoms → OfClause c
  from_order c atoms order h = of_clause c (recursion_from_All P (atoms_in_parts c) (All-permutation P atoms (atoms_in_parts c) (IsPermutation-sym (atoms_in_parts c) atoms order) (All-from_recursion P atoms h)))

  pub in_any_order : (c : Clause) (atoms : List (Part × Atom)) → IsPermutation (atoms_in_parts c) atoms → OfClause c → AllByRecursion P atoms
  in_any_order c atoms order h = recursion_from_All P atoms (All-permutation P (atoms_in_parts c) atoms order (All-from_recursion P (atoms_in_parts c) (clause_of_all c h)))

-- ---- variables below a number

pub atom_below : (vars : ℕ) (c : Clause) (atoms : List (Part × Atom)) → IsPermutation (atoms_in_parts c) atoms → HaveAtomsBelow vars atoms → (part : Part) (k : ℕ) (a : Atom) → slice_get (part_of c part) k ≡ Some a → HaveVariablesBelow vars (atom_terms a)
atom_below vars c atoms order h = from_order (λ x. HaveVariablesBelow vars (atom_terms x.1)) c atoms order h

all_below : (n : ℕ) (vs : List ℕ) → ((v : ℕ) → has v vs ≡ true → v < n) → AllByRecursion (λ v. v < n) vs
all_below n [] h = tt
all_below n (v ∷ vs) h = (h v (ap (λ b. b || list_any (λ w. v == w) vs) (itself v)), all_below n vs (λ w e. h w (later (w == v) e)))
  where
    later : (b : Bool) {c : Bool} → c ≡ true → (b || c) ≡ true
    later true e = refl
    later false e = e

has_atom : (xs : List Atom) (k : ℕ) (a : Atom) → slice_get xs k ≡ Some a → (v : ℕ) → has v (atom_variables a) ≡ true → has v (flat_map atom_variables xs) ≡ true
has_atom [] k a is v e = absurd (cc)
has_atom (x ∷ xs) zero a is v e = (let same : a ≡ x = cc in has-append-left v (atom_variables x) (flat_map atom_variables xs) (ap (λ y. has v (atom_variables y)) (sym same) ∙ e))
has_atom (x ∷ xs) (suc k) a is v e = has-append-right v (atom_variables x) (flat_map atom_variables xs) (has_atom xs k a is v e)

pub in_order_below : (c : Clause) → IsInOrder c → (part : Part) (k : ℕ) (a : Atom) → slice_get (part_of c part) k ≡ Some a → HaveVariablesBelow (variables c) (atom_terms a)
in_order_below c o part k a is = All-from_recursion (λ v. v < variables c) (atom_variables a) (all_below (variables c) (atom_variables a) (λ v e. variables-below c o v (in_clause c part v (has_atom (part_of c part) k a is v e))))

pub clause_atoms_below : (c : Clause) → IsInOrder c → (atoms : List (Part × Atom)) → IsPermutation (atoms_in_parts c) atoms → HaveAtomsBelow (variables c) atoms
clause_atoms_below c o atoms order =
    in_any_order (λ x. HaveVariablesBelow (variables c) (atom_terms x.1)) c atoms order
    (in_order_below c o)

-- ---- mapped without an atom

module _ (c : Clause) (part : Part) (place : ℕ) (atoms : List (Part × Atom)) (order : IsPermutation (atoms_in_parts c) atoms) (there : place < length (part_of c part)) where
  pub mapped_folds : (g : ℕ → Term) → AreMapped g (without part place c) atoms → Folds g part place c
  mapped_folds g h = record { there = there; maps = from_order (λ x. list_any (is_same (replace_in_atom g x.1)) (part_of (without part place c) x.0) ≡ true) c atoms order h }

  pub folds_mapped : (g : ℕ → Term) → Folds g part place c → AreMapped g (without part place c) atoms
  folds_mapped g f = in_any_order (λ x. list_any (is_same (replace_in_atom g x.1)) (part_of (without part place c) x.0) ≡ true) c atoms order f.maps

-- ---- the answer as entries

-- the same below the number, and each other variable itself
abbrev cut : ℕ → (ℕ → Term) → ℕ → Term
cut n s v = if nat_lt v n then s v else Var v

cut_below : (n : ℕ) (s : ℕ → Term) (v : ℕ) → v < n → cut n s v ≡ s v
cut_below n s v h = ap (λ b. if b then s v else Var v) (lt-ltb v n h)

cut_beyond : (n : ℕ) (s : ℕ → Term) (v : ℕ) → n ≤ v → cut n s v ≡ Var v
cut_beyond n s v h = by_test (nat_lt v n) refl
  where
    by_test : (b : Bool) → nat_lt v n ≡ b → (if b then s v else Var v) ≡ Var v
    by_test true e = absurd (let less = ltb-true v n e in omega (arith, less, h))
    by_test false e = refl

cut_entries : (n m : ℕ) (s : ℕ → Term) → m ≤ n → entries_below m s ≡ entries_below m (cut n s)
cut_entries n zero s h = refl
cut_entries n (suc m) s h = (let rest = cut_entries n m s (omega (arith, h)) in let last = sym (cut_below n s m (omega (arith, h))) in λ i. rest i ++ last i ∷ [])

entry_below : (n : ℕ) (s : ℕ → Term) (v : ℕ) → v < n → entry (entries_below n s) v ≡ s v
entry_below n s v h =
    ap (λ l. entry l v) (cut_entries n n s (omega arith))
    ∙ ap (λ (g : ℕ → Term). g v) (entry-entries_below n (cut n s) (cut_beyond n s))
    ∙ cut_below n s v h

pub entries_agree : (n : ℕ) (made : List (ℕ × Term)) → AreBoundBelow n made → Agrees (entry (entries_below n (filled made))) made
entries_agree n made low v t e = entry_below n (filled made) v (low v t e) ∙ ap (λ o. unwrap_or o (Var v)) e

nothing_bound : (n : ℕ) → AreBoundBelow n []
nothing_bound n v t e = absurd (cc)

module _ (asked : (ℕ → Term) → Type 0) (vars : ℕ) (start end : ℕ × List (ℕ × Term)) (ok : Bool) (begins : start ≡ (vars, [])) (h : Searched asked start end ok) where
  pub entries_found : (entries : List Term) → ok ≡ true → entries ≡ entries_below vars (filled end.1) → (length entries ≡ vars) × asked (entry entries)
  entries_found entries e is =
      let f : AreSought asked start end = subst (Searched asked start end) e h in
      let as_many : end.0 ≡ vars = f.as_many ∙ ap (λ (b : ℕ × List (ℕ × Term)). b.0) begins in
      let low : AreBoundBelow vars end.1 = subst (λ n. AreBoundBelow n end.1) as_many f.bound in
      (ap length is ∙ length-entries_below vars (filled end.1), subst (λ l. asked (entry l)) (sym is) (f.onward (entry (entries_below vars (filled end.1))) (entries_agree vars end.1 low)).1)

  pub nothing_found : ok ≡ false → (g : ℕ → Term) → asked g → ⊥
  nothing_found e g x =
      let f : AreRestored asked start end = subst (Searched asked start end) e h in
      f.none g (subst (λ (b : ℕ × List (ℕ × Term)). Agrees g b.1) (sym begins) (λ v t here. absurd (cc))) x

-- an atom that was read from a part
pub atom_there : (xs ys : List Atom) (k : ℕ) (a : Atom) → k < length xs → ys ≡ xs → a ≡ get_or ys k a → slice_get xs k ≡ Some a
atom_there xs ys k a low same is = slice_get-get_or xs k a low ∙ ap Some (ap (λ l. get_or l k a) (sym same) ∙ sym is)

-- one of three parts
pub some_part : (g : ℕ → Term) (c : Clause) → FoldsSomewhere g c → (((k : ℕ) × Folds g Constraint k c) ⊎ ((k : ℕ) × Folds g Antecedent k c)) ⊎ ((k : ℕ) × Folds g Succedent k c)
some_part g c (Constraint, k, f) = inl (inl (k, f))
some_part g c (Antecedent, k, f) = inl (inr (k, f))
some_part g c (Succedent, k, f) = inr (k, f)

-- ---- the answer of one match as entries

pub matched_entries : (vars : ℕ) (asked : (ℕ → Term) → Type 0) (ts : List Term) (start end : ℕ × List (ℕ × Term)) (ok : Bool) (entries : List Term) → start ≡ (vars, []) → ok ≡ true → HaveVariablesBelow vars ts → FoundOrNot asked (λ v. list_any (occurs v) ts) start.1 end.1 ok → entries ≡ entries_below vars (filled end.1) → (length entries ≡ vars) × asked (entry entries)
matched_entries vars asked ts start end ok entries begins e low h is =
    let old : FoundOrNot asked (λ v. list_any (occurs v) ts) [] end.1 ok = subst (λ (b : ℕ × List (ℕ × Term)). FoundOrNot asked (λ v. list_any (occurs v) ts) b.1 end.1 ok) begins h in
    let f : IsFound asked (λ v. list_any (occurs v) ts) [] end.1 = subst (FoundOrNot asked (λ v. list_any (occurs v) ts) [] end.1) e old in
    let below : AreBoundBelow vars end.1 = bound_after vars vars asked ts [] end.1 ok refl e low old (nothing_bound vars) in
    (ap length is ∙ length-entries_below vars (filled end.1), subst (λ l. asked (entry l)) (sym is) (f.done (entry (entries_below vars (filled end.1))) (entries_agree vars end.1 below)))

pub nothing_matches : (vars : ℕ) (asked : (ℕ → Term) → Type 0) (inside : ℕ → Bool) (start end : ℕ × List (ℕ × Term)) (ok : Bool) → start ≡ (vars, []) → ok ≡ false → FoundOrNot asked inside start.1 end.1 ok → (g : ℕ → Term) → asked g → ⊥
nothing_matches vars asked inside start end ok begins e h g x =
    (subst (FoundOrNot asked inside start.1 end.1) e h) g (subst (λ (b : ℕ × List (ℕ × Term)). Agrees g b.1) (sym begins) (λ v t here. absurd (cc))) x
