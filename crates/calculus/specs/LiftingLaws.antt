-- Laws with their proofs, not definitions that a reader must believe: where two eligible atoms have a unifier, there is an
-- inference, since its restrictions fit both premises and make the atoms the same.
use Rattle.std.proofs.Common.{◌≡◌, inl, inr, ℕ, zero, suc, ◌+◌, ◌<◌, true, false, ◌&&◌, ◌==◌, if◌then◌else◌, List, [], ◌∷◌, ◌++◌, length, map, take, drop, get_or, Option, Some, None, MatchOption, option_map, refl, sym, ap, ◌∙◌, subst, arith, eq-eqb, length-take, length-drop}
use Rattle.std.specs.Prelude.{option_to_list, slice_get, unwrap_or}
use Rattle.std.specs.List.{flat_map, AllByRecursion}
use Rattle.std.proofs.lemmas.List.Folds.{list_any-append}
use Rattle.std.proofs.lemmas.List.{get_or-take, get_or-drop}
use Rattle.std.proofs.lemmas.Option.{unwrap_or-slice_get, slice_get-get_or, slice_get-map}
use Rattle.std.proofs.lemmas.Bool.{eqb-true}
use Rattle.std.proofs.lemmas.List.Elements.{All-from_recursion}
use Rattle.spl_terms.specs.declared.term.Term.{Term, Var, App}
use Rattle.spl_terms.specs.declared.atom.Atom.{Atom}
use Rattle.spl_terms.specs.declared.atom.Atom.TheVariants.{Holds, Equal}
use Rattle.spl_terms.specs.declared.clause.Part.{Part}
use Rattle.spl_terms.specs.declared.clause.Part.TheVariants.{Constraint, Antecedent, Succedent}
use Rattle.spl_terms.specs.declared.clause.Clause.{Clause}
use Rattle.spl_terms.specs.Terms.{replace, term_variables}
use Rattle.spl_terms.specs.Clauses.{is_same, atom_variables, replace_in_atom, part_of, in_order}
use Rattle.spl_terms.specs.TermLaws.{Each, term_induction}
use Rattle.spl_terms.specs.TermLaws.{term_variables-Var, term_variables-App}
use Rattle.spl_truth.specs.Truth.{entry, apply}
use Rattle.spl_truth.specs.Unifiers.{HasVariablesBelow, HasNoUnifier, IsMostGeneral, ForTermsBelow, IsUnifierOrNone, solution, entries_below, unifier}
use Rattle.spl_terms.specs.TermLaws.{replace-Var, replace-App}
use Rattle.spl_truth.specs.InstanceLaws.{atom-replace-replace}
use Rattle.spl_terms.specs.SameLaws.{same_self}
use Rattle.std.proofs.lemmas.Bool.{or_cases, or_left, or_right}
use Rattle.spl_truth.specs.OccurrenceLaws.{same_arguments, same_symbols}
use Rattle.spl_truth.specs.EntryLaws.{length-entries_below}
use Rattle.proof_steps.specs.declared.step.Line.{Line}
use Rattle.proof_steps.specs.declared.step.Rule.TheVariants.{Resolve}
use Rattle.proof_steps.specs.Steps.{has_entries, is_negative, both_same, may_resolve, resolvent, resolved, resolution, states}
use Rattle.dep_sets.specs.Assumptions.{united}
use Rattle.spl_terms.specs.InOrder.{IsInOrder, variables}
use Rattle.calculus.specs.declared.kept.Kept.{Kept}
use Rattle.calculus.specs.Inferences.{clause_of, renamed_apart, variables_of_both, first_part, second_part, by_unifier_of_both, atom_unifier, resolve}
use Rattle.spl_terms.specs.VariableLaws.{has, itself, renamed_variables_atom}
use Rattle.spl_terms.specs.InOrderLaws.{in_clause, variables-below}

-- ---- entries of the two parts of a list

entry-get : (s : List Term) (v : ℕ) → entry s v ≡ get_or s v (Var v)
entry-get s v = unwrap_or-slice_get s v (Var v)

pub entry-take : (n : ℕ) (u : List Term) (v : ℕ) → v < n → entry (take n u) v ≡ entry u v
entry-take n u v h = entry-get (take n u) v ∙ get_or-take n u v (Var v) h ∙ sym (entry-get u v)

entry_there : (s : List Term) (v : ℕ) (d : Term) → v < length s → entry s v ≡ get_or s v d
entry_there s v d h = ap (λ o. unwrap_or o (Var v)) (slice_get-get_or s v d h)

pub entry-drop : (n : ℕ) (u : List Term) (v : ℕ) → n + v < length u → entry (drop n u) v ≡ entry u (n + v)
entry-drop n u v h =
    let within : v < length (drop n u) = omega (arith, length-drop n u) in
    entry_there (drop n u) v (Var 0) within ∙ get_or-drop n u v (Var 0) ∙ sym (entry_there u (n + v) (Var 0) h)

-- ---- terms and atoms see the variables that stand in them

module _ (h k : ℕ → Term) where
  abbrev Agree : List ℕ → Type 0
  Agree vs = (v : ℕ) → has v vs ≡ true → h v ≡ k v

  agree_first : (vs ws : List ℕ) → Agree (vs ++ ws) → Agree vs
  agree_first vs ws u v e = u v (list_any-append (λ w. v == w) vs ws ∙ or_left _ _ e)

  agree_second : (vs ws : List ℕ) → Agree (vs ++ ws) → Agree ws
  agree_second vs ws u v e = u v (list_any-append (λ w. v == w) vs ws ∙ or_right _ _ e)

  agree_each : (ts : List Term) → Each (λ t. Agree (term_variables t) → replace h t ≡ replace k t) ts → Agree (flat_map term_variables ts) → map (replace h) ts ≡ map (replace k) ts
  agree_each [] each u = refl
  agree_each (t ∷ ts) each u = λ i. each.0 (agree_first (term_variables t) (flat_map term_variables ts) u) i ∷ agree_each ts each.1 (agree_second (term_variables t) (flat_map term_variables ts) u) i

  pub agree_term : (t : Term) → Agree (term_variables t) → replace h t ≡ replace k t
  agree_term =
      term_induction (λ t. Agree (term_variables t) → replace h t ≡ replace k t)
      (λ v u. replace-Var h v ∙ u v (ap (has v) (term_variables-Var v) ∙ or_left (v == v) false (itself v)) ∙ sym (replace-Var k v))
      (λ f ts each u. replace-App h f ts ∙ ap (App f) (agree_each ts each (subst Agree (term_variables-App f ts) u)) ∙ sym (replace-App k f ts))

  agree_terms : (ts : List Term) → Agree (flat_map term_variables ts) → map (replace h) ts ≡ map (replace k) ts
  agree_terms [] u = refl
  agree_terms (t ∷ ts) u = λ i. agree_term t (agree_first (term_variables t) (flat_map term_variables ts) u) i ∷ agree_terms ts (agree_second (term_variables t) (flat_map term_variables ts) u) i

  pub agree_atom : (a : Atom) → Agree (atom_variables a) → replace_in_atom h a ≡ replace_in_atom k a
  agree_atom (Holds p ts) u = ap (Holds p) (agree_terms ts u)
  agree_atom (Equal s t) u =
      let one = agree_term s (agree_first (term_variables s) (term_variables t ++ []) u) in
      let two = agree_term t (agree_first (term_variables t) [] (agree_second (term_variables s) (term_variables t ++ []) u)) in
      λ i. Equal (one i) (two i)

-- ---- variables of an atom of a clause in order

in_atoms : (atoms : List Atom) (i : ℕ) (a : Atom) (v : ℕ) → slice_get atoms i ≡ Some a → has v (atom_variables a) ≡ true → has v (flat_map atom_variables atoms) ≡ true
in_atoms [] i a v e h = absurd (cc)
in_atoms (b ∷ atoms) zero a v e h = let q : b ≡ a = cc in list_any-append (λ w. v == w) (atom_variables b) (flat_map atom_variables atoms) ∙ or_left _ _ (ap (λ x. has v (atom_variables x)) q ∙ h)
in_atoms (b ∷ atoms) (suc i) a v e h = list_any-append (λ w. v == w) (atom_variables b) (flat_map atom_variables atoms) ∙ or_right _ _ (in_atoms atoms i a v e h)

pub atom_below : (c : Clause) → IsInOrder c → (part : Part) (i : ℕ) (a : Atom) → slice_get (part_of c part) i ≡ Some a → (v : ℕ) → has v (atom_variables a) ≡ true → v < variables c
atom_below c o part i a e v h = variables-below c o v (in_clause c part v (in_atoms (part_of c part) i a v e h))

pub all_below : (n : ℕ) (vs : List ℕ) → ((v : ℕ) → has v vs ≡ true → v < n) → AllByRecursion (λ v. v < n) vs
all_below n [] h = tt
all_below n (v ∷ vs) h = (h v (or_left (v == v) (has v vs) (itself v)), all_below n vs (λ w e. h w (or_right (w == v) (has w vs) e)))

-- a number of the mapped list comes from one of the list
has-map : (n : ℕ → ℕ) (vs : List ℕ) (v : ℕ) → has v (map n vs) ≡ true → (w : ℕ) × (has w vs ≡ true) × (v ≡ n w)
has-map n [] v e = absurd (cc)
has-map n (x ∷ vs) v e = elim (or_cases (v == n x) (has v (map n vs)) e) [
  | inl here ↦ (x, or_left (x == x) (has x vs) (itself x), eqb-true v (n x) here)
  | inr there ↦ (let more = has-map n vs v there in (more.0, or_right (more.0 == x) (has more.0 vs) more.1, more.2))
]

-- a variable of a raised atom of q is below the number of variables of both
pub renamed_apart_below : (p q : Kept) → IsInOrder (clause_of q) → (part : Part) (j : ℕ) (b : Atom) → slice_get (part_of (clause_of q) part) j ≡ Some b → (v : ℕ) → has v (atom_variables (renamed_apart p b)) ≡ true → v < variables_of_both p q
renamed_apart_below p q oq part j b h v k =
    let n : ℕ = variables (clause_of p) in
    let from = has-map (λ w. n + w) (atom_variables b) v (ap (has v) (sym (renamed_variables_atom (λ w. n + w) b)) ∙ k) in
    let low = atom_below (clause_of q) oq part j b h from.0 from.1 in
    omega (arith, low, from.2)

-- ---- the length of a unifier

pub length-unifier : (vars : ℕ) (a b : Term) (u : List Term) → unifier vars a b ≡ Some u → length u ≡ vars
length-unifier vars a b u = by_answer (solution vars Var ((a, b) ∷ []))
  where
    by_answer : (o : Option (ℕ → Term)) → option_map (entries_below vars) o ≡ Some u → length u ≡ vars
    by_answer None e = absurd (cc)
    by_answer (Some s) e = let q : entries_below vars s ≡ u = cc in ap length (sym q) ∙ length-entries_below vars s

-- ---- both restrictions fit

module _ (p q : Kept) (u : List Term) (long : length u ≡ variables_of_both p q) where
  pub first_fits : has_entries (first_part p u).terms (clause_of p) ≡ true
  first_fits = eq-eqb _ _ (omega (arith, long, length-take (variables (clause_of p)) u))

  pub second_fits : has_entries (second_part p u).terms (clause_of q) ≡ true
  second_fits = eq-eqb _ _ (omega (arith, long, length-drop (variables (clause_of p)) u))

  pub first_agrees : IsInOrder (clause_of p) → (part : Part) (i : ℕ) (a : Atom) → slice_get (part_of (clause_of p) part) i ≡ Some a → replace_in_atom (entry (first_part p u).terms) a ≡ replace_in_atom (entry u) a
  first_agrees o part i a e = agree_atom (entry (first_part p u).terms) (entry u) a (λ v h. entry-take (variables (clause_of p)) u v (atom_below (clause_of p) o part i a e v h))

  pub second_agrees : IsInOrder (clause_of q) → (part : Part) (j : ℕ) (b : Atom) → slice_get (part_of (clause_of q) part) j ≡ Some b → replace_in_atom (entry (second_part p u).terms) b ≡ replace_in_atom (entry u) (renamed_apart p b)
  second_agrees o part j b e =
      let n : ℕ = variables (clause_of p) in
      agree_atom (entry (second_part p u).terms) (λ v. replace (entry u) (Var (n + v))) b
      (λ v h. (let low : v < variables (clause_of q) = atom_below (clause_of q) o part j b e v h in entry-drop n u v (omega (arith, long, low)) ∙ sym (replace-Var (entry u) (n + v))))
      ∙ sym (atom-replace-replace (entry u) (λ v. Var (n + v)) b)

-- ---- a unifier of two predicate atoms gives a resolvent

-- the two atoms become the same
made_same : ForTermsBelow IsUnifierOrNone → (p q : Kept) → IsInOrder (clause_of p) → IsInOrder (clause_of q) → (part : Part) (i j : ℕ) (a b : Atom) (u : List Term) → slice_get (clause_of p).succedent i ≡ Some a → slice_get (part_of (clause_of q) part) j ≡ Some b → atom_unifier (variables_of_both p q) a (renamed_apart p b) ≡ Some u → (length u ≡ variables_of_both p q) × (is_same (replace_in_atom (entry (first_part p u).terms) a) (replace_in_atom (entry (second_part p u).terms) b) ≡ true)
made_same most_general p q op oq part i j (Holds f ss) (Holds g ts) u e h unified =
    let n : ℕ = variables (clause_of p) in
    let vars : ℕ = variables_of_both p q in
    let rs : List Term = map (replace (λ v. Var (n + v))) ts in
    let long : length u ≡ vars = length-unifier vars (App f ss) (App g rs) u unified in
    let left : HasVariablesBelow vars (App f ss) = All-from_recursion (λ v. v < vars) _ (all_below vars (term_variables (App f ss)) (λ v k. below_left v (ap (has v) (sym (term_variables-App f ss)) ∙ k))) in
    let right : HasVariablesBelow vars (App g rs) = All-from_recursion (λ v. v < vars) _ (all_below vars (term_variables (App g rs)) (λ v k. below_right v (ap (has v) (sym (term_variables-App g rs)) ∙ k))) in
    let general : IsMostGeneral (App f ss) (App g rs) (entry u) = subst (λ o. MatchOption o (HasNoUnifier (App f ss) (App g rs)) (λ entries. IsMostGeneral (App f ss) (App g rs) (entry entries))) unified (most_general vars (App f ss) (App g rs) left right) in
    let both : App f (map (replace (entry u)) ss) ≡ App g (map (replace (entry u)) rs) = sym (replace-App (entry u) f ss) ∙ general.unifies ∙ replace-App (entry u) g rs in
    let atoms : replace_in_atom (entry u) (Holds f ss) ≡ replace_in_atom (entry u) (renamed_apart p (Holds g ts)) = (λ k. Holds (same_symbols f g _ _ both k) (same_arguments f g _ _ both k)) in
    let first = first_agrees p q u long op Succedent i (Holds f ss) e in
    let second = second_agrees p q u long oq part j (Holds g ts) h in
    (long, (λ k. is_same (first k) (second k)) ∙ subst (λ x. is_same (replace_in_atom (entry u) (Holds f ss)) x ≡ true) atoms (same_self (replace_in_atom (entry u) (Holds f ss))))
  where
    below_left : (v : ℕ) → has v (flat_map term_variables ss) ≡ true → v < variables_of_both p q
    below_left v k = (let low = atom_below (clause_of p) op Succedent i (Holds f ss) e v k in omega (arith, low))

    below_right : (v : ℕ) → has v (flat_map term_variables (map (replace (λ w. Var (variables (clause_of p) + w))) ts)) ≡ true → v < variables_of_both p q
    below_right v k = renamed_apart_below p q oq part j (Holds g ts) h v k
made_same most_general p q op oq part i j (Holds f ss) (Equal s t) u e h unified = absurd (cc)
made_same most_general p q op oq part i j (Equal s t) b u e h unified = absurd (cc)

-- the one line that the unifier gives
pub resolve_there : ForTermsBelow IsUnifierOrNone → (p q : Kept) → IsInOrder (clause_of p) → IsInOrder (clause_of q) → (part : Part) → is_negative part ≡ true → (i j : ℕ) (a b : Atom) (u : List Term) → slice_get (clause_of p).succedent i ≡ Some a → slice_get (part_of (clause_of q) part) j ≡ Some b → atom_unifier (variables_of_both p q) a (renamed_apart p b) ≡ Some u → (l : Line) × (resolve part p q (i, a) (j, b) ≡ l ∷ [])
resolve_there most_general p q op oq part negative i j a b u e h unified =
    let same = made_same most_general p q op oq part i j a b u e h unified in
    let x : Clause = apply (first_part p u).terms (clause_of p) in
    let y : Clause = apply (second_part p u).terms (clause_of q) in
    let fit : (has_entries (first_part p u).terms (clause_of p) && has_entries (second_part p u).terms (clause_of q)) ≡ true = (λ k. first_fits p q u same.0 k && second_fits p q u same.0 k) in
    let left : slice_get x.succedent i ≡ Some (replace_in_atom (entry (first_part p u).terms) a) = slice_get-map (replace_in_atom (entry (first_part p u).terms)) (clause_of p).succedent i ∙ ap (option_map (replace_in_atom (entry (first_part p u).terms))) e in
    let right : slice_get (part_of y part) j ≡ Some (replace_in_atom (entry (second_part p u).terms) b) = part_replaced part ∙ slice_get-map (replace_in_atom (entry (second_part p u).terms)) (part_of (clause_of q) part) j ∙ ap (option_map (replace_in_atom (entry (second_part p u).terms))) h in
    let may : may_resolve i part j x y ≡ true = (λ k. negative k && both_same (left k) (right k)) ∙ same.1 in
    let made : resolution i part j (first_part p u).terms (second_part p u).terms (clause_of p) (clause_of q) ≡ Some (in_order (resolvent i part j x y)) = (λ k. if fit k then resolved i part j x y else None) ∙ (λ k. if may k then Some (in_order (resolvent i part j x y)) else None) in
    (_, (λ k. by_unifier_of_both p q (λ s t. Resolve i part j s t) (unified k)) ∙ ap (λ o. option_to_list (option_map (λ c. record { step = record { rule = Resolve i part j (first_part p u) (second_part p u); parents = p.number ∷ q.number ∷ [] }; stated = c }) (option_map (λ c. states c (united p.statement.deps q.statement.deps)) o))) made)
  where
    part_replaced : (part : Part) → slice_get (part_of (apply (second_part p u).terms (clause_of q)) part) j ≡ slice_get (map (replace_in_atom (entry (second_part p u).terms)) (part_of (clause_of q) part)) j
    part_replaced Constraint = refl
    part_replaced Antecedent = refl
    part_replaced Succedent = refl
