-- Facts about the atoms of a conclusion before its unifier is applied.
use Rattle.std.proofs.Common.{◌≡◌, inl, inr, ℕ, zero, suc, ◌+◌, ◌<◌, Bool, true, false, ◌==◌, List, [], ◌∷◌, ◌++◌, map, take, drop, get_or, length, Option, Some, None, option_and_then, refl, sym, ap, subst, ◌∙◌, arith, append-nil}
use Rattle.std.specs.Prelude.{slice_get, is_some}
use Rattle.std.specs.List.{AllByRecursion}
use Rattle.std.proofs.lemmas.Bool.{or_cases, false≢true, eqb-true}
use Rattle.std.proofs.lemmas.List.{map-append}
use Rattle.std.proofs.lemmas.List.Elements.{recursion_from_All}
use Rattle.spl_terms.specs.declared.term.Term.{Term, Var, App}
use Rattle.spl_terms.specs.declared.term.Term.TheViews.{outs-Var, outs-App}
use Rattle.spl_terms.specs.declared.atom.Atom.{Atom}
use Rattle.spl_terms.specs.declared.atom.Atom.TheVariants.{Holds, Equal}
use Rattle.spl_terms.specs.declared.clause.Part.{Part}
use Rattle.spl_terms.specs.declared.clause.Part.TheVariants.{Constraint, Antecedent, Succedent}
use Rattle.spl_terms.specs.declared.clause.Spot.{Spot}
use Rattle.spl_terms.specs.declared.clause.Clause.{Clause}
use Rattle.spl_terms.specs.Terms.{replace, term_variables}
use Rattle.spl_terms.specs.Clauses.{part_of, replace_in_atom}
use Rattle.spl_terms.specs.InOrder.{variables}
use Rattle.spl_terms.specs.InOrderLaws.{replace_in_atom-itself}
use Rattle.spl_terms.specs.VariableLaws.{has}
use Rattle.spl_terms.specs.TermLaws.{term_induction, replace-App}
use Rattle.spl_truth.specs.Places.{part_eq}
use Rattle.spl_truth.specs.Truth.{entry, apply}
use Rattle.spl_truth.specs.EntryLaws.{length-entries_below, entry-entries_below}
use Rattle.spl_truth.specs.Unifiers.{HasVariablesBelow, entries_below}
use Rattle.proof_steps.specs.Spots.{changed_at, arguments_step, with_arguments_step, subterm, with_subterm, term_under, with_term_under, with_part, with_term_at}
use Rattle.proof_steps.specs.Steps.{without, joined, sides_of}
use Rattle.calculus.specs.Inferences.{clause_of}
use Rattle.calculus.specs.LiftingLaws.{atom_below, agree_term, entry-take, second_agrees}
use Rattle.unify.specs.Bindings.{substitution}
use Rattle.superposition.specs.declared.building.Literals.{Literals}
use Rattle.superposition.specs.declared.pairs.Pair.{Pair}
use Rattle.superposition.specs.declared.rewriting.Rewriting.{Rewriting}
use Rattle.superposition.specs.Words.{IsAtomBelow}
use Rattle.superposition.specs.Pairs.{IsPair}
use Rattle.superposition.specs.Walks.{IsReady, raised_atom}
use Rattle.superposition.specs.Sizes.{entries_from, resolvent_by, paramodulant_by}
use Rattle.superposition.proofs.Unified.{first_entries}
use Rattle.superposition.proofs.Resolving.{atom_fits}
use Rattle.superposition.proofs.Alone.{left_below, right_below}
use Rattle.superposition.proofs.Instances.{changed_instances}

-- ---- parts

part_instances : (s : List Term) (c : Clause) (of : Part) → part_of (apply s c) of ≡ map (replace_in_atom (entry s)) (part_of c of)
part_instances s c Constraint = refl
part_instances s c Antecedent = refl
part_instances s c Succedent = refl

part_joined : (x y : Clause) (of : Part) → part_of x of ++ part_of y of ≡ part_of (joined x y) of
part_joined x y Constraint = refl
part_joined x y Antecedent = refl
part_joined x y Succedent = refl

-- atoms of one clause alone
pub alone : (f g h : Atom → Atom) (xs : List Atom) → map f xs ++ (map g [] ++ (map h [] ++ map g [])) ≡ map f xs
alone f g h xs = append-nil (map f xs)

-- with one more behind them
pub with_last : (f g : Atom → Atom) (xs ys zs more : List Atom) (a : Atom) → xs ++ ys ≡ zs → more ≡ a ∷ [] → map f (xs ++ ys) ++ (map g [] ++ (map f more ++ map g [])) ≡ map f (zs ++ a ∷ [])
with_last f g xs ys zs more a is other = (λ k. map f (is k) ++ (map f (other k) ++ [])) ∙ ap (λ l. map f zs ++ l) (append-nil (map f (a ∷ []))) ∙ sym (map-append f zs (a ∷ []))

-- what is held alone
pub held_alone : (lent new old : List Atom) (x y : Atom) → lent ≡ new → new ≡ old ++ x ∷ [] → old ≡ [] → x ≡ y → lent ≡ y ∷ []
held_alone lent new old x y same pushed none is = same ∙ pushed ∙ (λ k. none k ++ is k ∷ [])

-- ---- both premises

module _ (pair : Pair) (known : IsPair pair) (made : List (ℕ × Term)) where
  abbrev p : Clause
  p = clause_of pair.p.now

  abbrev q : Clause
  q = clause_of pair.q.now

  abbrev u : List Term
  u = entries_below pair.both (substitution made)

  abbrev first : Atom → Atom
  first = replace_in_atom (entry (entries_from 0 pair.first made))

  abbrev second : Atom → Atom
  second = replace_in_atom (entry (entries_from pair.first pair.both made))

  abbrev raised_both : Atom → Atom
  raised_both = replace_in_atom (entry (entries_from 0 pair.both made))

  all : pair.both ≡ pair.first + variables q
  all = omega (arith, known.first, known.both)

  first_there : entries_from 0 pair.first made ≡ take pair.first u
  first_there = first_entries pair.first (variables q) pair.both (substitution made) all

  -- what is left of the first one, and a part of the other one
  joined_part : (x y : Clause) (of : Part) (xs ys : List Atom) → xs ≡ part_of x of → ys ≡ part_of y of → map first xs ++ ys ≡ part_of (joined (apply (take pair.first u) x) y) of
  joined_part x y of xs ys is other =
      (λ k. map first (is k) ++ other k)
      ∙ ap (λ e. map (replace_in_atom (entry e)) (part_of x of) ++ part_of y of) first_there
      ∙ ap (λ l. l ++ part_of y of) (sym (part_instances (take pair.first u) x of))
      ∙ part_joined (apply (take pair.first u) x) y of

  second_part : (y : Clause) (of : Part) (others rest : List Atom) → others ++ rest ≡ part_of y of → map second others ++ map second rest ≡ part_of (apply (drop pair.first u) y) of
  second_part y of others rest is = sym (map-append second others rest) ∙ ap (map second) is ∙ sym (part_instances (drop pair.first u) y of)

  pub resolved_part : (literals : Literals) (of : Part) (before behind others rest : List Atom) → before ++ behind ≡ part_of (without Succedent literals.i p) of → others ++ rest ≡ part_of (without literals.part literals.j q) of →
      map first (before ++ behind) ++ (map second others ++ (map raised_both [] ++ map second rest)) ≡ part_of (resolvent_by pair literals u) of
  resolved_part literals of before behind others rest is other =
      joined_part (without Succedent literals.i p) (apply (drop pair.first u) (without literals.part literals.j q)) of (before ++ behind) (map second others ++ map second rest) is (second_part (without literals.part literals.j q) of others rest other)

-- ---- another term at the end of a path

module _ (h : ℕ → Term) (w : Term) where
  abbrev Commutes : List ℕ → Type 0
  Commutes path = (t : Term) → is_some (subterm path t) ≡ true → replace h (with_subterm path w t) ≡ with_subterm path (replace h w) (replace h t)

  commutes_in : (path : List ℕ) → Commutes path → (ts : List Term) (k : ℕ) → is_some (option_and_then (subterm path) (slice_get ts k)) ≡ true → map (replace h) (changed_at k (with_subterm path w) ts) ≡ changed_at k (with_subterm path (replace h w)) (map (replace h) ts)
  commutes_in path on [] k e = refl
  commutes_in path on (t ∷ ts) zero e = ap (λ x. x ∷ map (replace h) ts) (on t e)
  commutes_in path on (t ∷ ts) (suc k) e = ap (λ l. replace h t ∷ l) (commutes_in path on ts k e)

  commutes : (path : List ℕ) → Commutes path
  commutes [] = λ t e. refl
  commutes (k ∷ path) =
      term_induction (λ t. is_some (subterm (k ∷ path) t) ≡ true → replace h (with_subterm (k ∷ path) w t) ≡ with_subterm (k ∷ path) (replace h w) (replace h t))
      (λ v e. absurd (false≢true (sym (ap (λ ts. is_some (option_and_then (subterm path) (slice_get ts k))) (ap arguments_step (outs-Var v))) ∙ e)))
      (λ f ts each e.
      ap (replace h) (ap (with_arguments_step (changed_at k (with_subterm path w))) (outs-App f ts))
      ∙ replace-App h f (changed_at k (with_subterm path w) ts)
      ∙ ap (App f) (commutes_in path (commutes path) ts k (sym (ap (λ xs. is_some (option_and_then (subterm path) (slice_get xs k))) (ap arguments_step (outs-App f ts))) ∙ e))
      ∙ sym (ap (with_subterm (k ∷ path) (replace h w)) (replace-App h f ts) ∙ ap (with_arguments_step (changed_at k (with_subterm path (replace h w)))) (outs-App f (map (replace h) ts))))

  pub commutes_under : (path : List ℕ) (a : Atom) → is_some (term_under path a) ≡ true → replace_in_atom h (with_term_under path w a) ≡ with_term_under path (replace h w) (replace_in_atom h a)
  commutes_under [] a e = absurd (false≢true e)
  commutes_under (k ∷ path) (Holds f ts) e = ap (Holds f) (commutes_in path (commutes path) ts k e)
  commutes_under (zero ∷ path) (Equal s t) e = ap (λ x. Equal x (replace h t)) (commutes path s e)
  commutes_under (suc zero ∷ path) (Equal s t) e = ap (Equal (replace h s)) (commutes path t e)
  commutes_under (suc (suc k) ∷ path) (Equal s t) e = absurd (false≢true e)

-- ---- the atom at the spot

each_low : (n : ℕ) (vs : List ℕ) → AllByRecursion (λ w. w < n) vs → (v : ℕ) → has v vs ≡ true → v < n
each_low n [] h v e = absurd (false≢true e)
each_low n (w ∷ vs) h v e = elim (or_cases (v == w) (has v vs) e) [
  | inl here ↦ subst (λ x. x < n) (sym (eqb-true v w here)) h.0
  | inr more ↦ each_low n vs h.1 v more
]

second_of : {x y s t : Term} → ◌≡◌ {A = Option (Term × Term)} (Some (x, y)) (Some (s, t)) → y ≡ t
second_of {x} {y} h = ap second_or h
  where
    second_or : Option (Term × Term) → Term
    second_or None = y
    second_or (Some both) = both.1

-- the second side of an equation has its variables
second_below : (n : ℕ) (right : Bool) (a : Atom) (s t : Term) → IsAtomBelow n a → sides_of right a ≡ Some (s, t) → HasVariablesBelow n t
second_below n right (Holds f ts) s t below h = absurd (cc)
second_below n false (Equal x y) s t below h = subst (HasVariablesBelow n) (second_of h) (right_below n (Equal x y) x y refl below)
second_below n true (Equal x y) s t below h = subst (HasVariablesBelow n) (second_of h) (left_below n (Equal x y) x y refl below)

module _ (r : Rewriting) (ready : IsReady r) (made : List (ℕ × Term)) (path : List ℕ) (leads : is_some (term_under path (raised_atom r)) ≡ true) where
  abbrev known : IsPair r.pair
  known = ready.pair

  abbrev i : ℕ
  i = r.equation.place

  abbrev by : Term
  by = r.equation.right_side.now

  abbrev v : List Term
  v = entries_below r.pair.both (substitution made)

  abbrev new : Term
  new = replace (entry (take r.pair.first v)) by

  by_below : HasVariablesBelow r.pair.first by
  by_below = by_atom (slice_get (clause_of r.pair.p.now).succedent i) refl ready.equation.stands
    where
      by_atom : (o : Option Atom) → slice_get (clause_of r.pair.p.now).succedent i ≡ o → option_and_then (sides_of r.equation.right) o ≡ Some (r.equation.left_side.now, by) → HasVariablesBelow r.pair.first by
      by_atom None there h = absurd (cc)
      by_atom (Some a) there h =
          second_below r.pair.first r.equation.right a r.equation.left_side.now by
          (atom_fits r.pair.first a (λ w e. (let low : w < variables (clause_of r.pair.p.now) = atom_below (clause_of r.pair.p.now) known.p_in_order Succedent i a there w e in omega (arith, low, known.first))))
          h

  new_there : replace (entry v) by ≡ new
  new_there = sym (agree_term (entry (take r.pair.first v)) (entry v) by (λ w e. entry-take r.pair.first v w (each_low r.pair.first (term_variables by) (recursion_from_All (λ x. x < r.pair.first) (term_variables by) by_below) w e)))

  atom_there : replace_in_atom (entry v) (raised_atom r) ≡ replace_in_atom (entry (drop r.pair.first v)) r.atom.now
  atom_there =
      sym (second_agrees r.pair.p.now r.pair.q.now v (length-entries_below r.pair.both (substitution made) ∙ known.both) known.q_in_order r.part r.place r.atom.now ready.atom)
      ∙ ap (λ n. replace_in_atom (entry (drop n v)) r.atom.now) (sym known.first)

  pub changed_there : (x : Atom) → x ≡ with_term_under path by (raised_atom r) → replace_in_atom (entry (entries_from 0 r.pair.both made)) x ≡ with_term_under path new (replace_in_atom (entry (entries_from r.pair.first r.pair.both made)) r.atom.now)
  changed_there x is =
      ap (replace_in_atom (entry v)) is
      ∙ commutes_under (entry v) by path (raised_atom r) leads
      ∙ (λ k. with_term_under path (new_there k) (atom_there k))

  -- at the spot's part, the changed atom stands in the place of the other one
  abbrev spot : Spot
  spot = record { part = r.part; place = r.place; path = path }

  same_part : (of part : Part) → part_eq of part ≡ true → of ≡ part
  same_part Constraint Constraint e = refl
  same_part Constraint Antecedent e = absurd (false≢true e)
  same_part Constraint Succedent e = absurd (false≢true e)
  same_part Antecedent Constraint e = absurd (false≢true e)
  same_part Antecedent Antecedent e = refl
  same_part Antecedent Succedent e = absurd (false≢true e)
  same_part Succedent Constraint e = absurd (false≢true e)
  same_part Succedent Antecedent e = absurd (false≢true e)
  same_part Succedent Succedent e = refl

  part_changed : (f : List Atom → List Atom) (part : Part) (c : Clause) → f (part_of c part) ≡ part_of (with_part f part c) part
  part_changed f Constraint c = refl
  part_changed f Antecedent c = refl
  part_changed f Succedent c = refl

  part_kept : (f : List Atom → List Atom) (part of : Part) (c : Clause) → part_eq of part ≡ false → part_of c of ≡ part_of (with_part f part c) of
  part_kept f Constraint Constraint c e = absurd (false≢true (sym e))
  part_kept f Constraint Antecedent c e = refl
  part_kept f Constraint Succedent c e = refl
  part_kept f Antecedent Constraint c e = refl
  part_kept f Antecedent Antecedent c e = absurd (false≢true (sym e))
  part_kept f Antecedent Succedent c e = refl
  part_kept f Succedent Constraint c e = refl
  part_kept f Succedent Antecedent c e = refl
  part_kept f Succedent Succedent c e = absurd (false≢true (sym e))

  abbrev other : Atom → Atom
  other = replace_in_atom (entry (entries_from r.pair.first r.pair.both made))

  abbrev changing : List Atom → List Atom
  changing = changed_at r.place (with_term_under path new)

  atom_stands : (xs : List Atom) (k : ℕ) (a : Atom) → slice_get xs k ≡ Some a → (k < length xs) × (a ≡ get_or xs k a)
  atom_stands [] k a e = absurd (cc)
  atom_stands (x ∷ xs) zero a e = let same : x ≡ a = cc in (omega arith, sym same)
  atom_stands (x ∷ xs) (suc k) a e = let more = atom_stands xs k a e in (omega (arith, more.0), more.1)

  pub changed_part : (of : Part) (before behind atoms changed : List Atom) → part_eq of r.part ≡ true → before ++ behind ≡ part_of (without Succedent i (clause_of r.pair.p.now)) of → atoms ≡ part_of (clause_of r.pair.q.now) of → changed ≡ with_term_under path by (raised_atom r) ∷ [] →
      map (replace_in_atom (entry (entries_from 0 r.pair.first made))) (before ++ behind)
      ++ (map other (take r.place atoms) ++ (map (replace_in_atom (entry (entries_from 0 r.pair.both made))) changed ++ map other (drop (r.place + 1) atoms)))
      ≡ part_of (paramodulant_by r.pair i spot by v) of
  changed_part of before behind atoms changed same is all one =
      let t : List Term = drop r.pair.first v in
      let part : of ≡ r.part = same_part of r.part same in
      let stands = atom_stands atoms r.place r.atom.now (ap (λ xs. slice_get xs r.place) (all ∙ ap (part_of (clause_of r.pair.q.now)) part) ∙ ready.atom) in
      let x : Atom = with_term_under path by (raised_atom r) in
      let made_here : map (replace_in_atom (entry (entries_from 0 r.pair.both made))) changed ≡ with_term_under path new (other r.atom.now) ∷ [] = ap (map (replace_in_atom (entry (entries_from 0 r.pair.both made)))) one ∙ ap (λ y. y ∷ []) (changed_there x refl) in
      let whole : map other (take r.place atoms) ++ (map (replace_in_atom (entry (entries_from 0 r.pair.both made))) changed ++ map other (drop (r.place + 1) atoms)) ≡ part_of (with_term_at spot new (apply t (clause_of r.pair.q.now))) of =
      ap (λ l. map other (take r.place atoms) ++ (l ++ map other (drop (r.place + 1) atoms))) made_here
      ∙ changed_instances r.place (with_term_under path new) other atoms r.atom.now stands.0 stands.1
      ∙ ap (λ xs. changing (map other xs)) all
      ∙ ap changing (sym (part_instances t (clause_of r.pair.q.now) of))
      ∙ subst (λ k. changing (part_of (apply t (clause_of r.pair.q.now)) of) ≡ part_of (with_part changing k (apply t (clause_of r.pair.q.now))) of) part (part_changed changing of (apply t (clause_of r.pair.q.now))) in
      joined_part r.pair known made (without Succedent i (clause_of r.pair.p.now)) (with_term_at spot new (apply t (clause_of r.pair.q.now))) of (before ++ behind) _ is whole

  pub kept_part : (of : Part) (before behind atoms : List Atom) → part_eq of r.part ≡ false → before ++ behind ≡ part_of (without Succedent i (clause_of r.pair.p.now)) of → atoms ≡ part_of (clause_of r.pair.q.now) of →
      map (replace_in_atom (entry (entries_from 0 r.pair.first made))) (before ++ behind)
      ++ (map other atoms ++ (map (replace_in_atom (entry (entries_from 0 r.pair.both made))) [] ++ map other []))
      ≡ part_of (paramodulant_by r.pair i spot by v) of
  kept_part of before behind atoms apart is all =
      let t : List Term = drop r.pair.first v in
      joined_part r.pair known made (without Succedent i (clause_of r.pair.p.now)) (with_term_at spot new (apply t (clause_of r.pair.q.now))) of (before ++ behind) _ is
      (append-nil (map other atoms) ∙ ap (map other) all ∙ sym (part_instances t (clause_of r.pair.q.now) of) ∙ part_kept changing r.part of (apply t (clause_of r.pair.q.now)) apart)

-- the entries by which variables are raised
pub raising_there : (r : Rewriting) → IsReady r → replace_in_atom (entry (drop r.pair.first (entries_below r.pair.both Var))) r.atom.now ≡ raised_atom r
raising_there r ready =
    let w : List Term = entries_below r.pair.both Var in
    ap (λ n. replace_in_atom (entry (drop n w)) r.atom.now) ready.pair.first
    ∙ second_agrees r.pair.p.now r.pair.q.now w (length-entries_below r.pair.both Var ∙ ready.pair.both) ready.pair.q_in_order r.part r.place r.atom.now ready.atom
    ∙ ap (λ h. replace_in_atom h (raised_atom r)) (entry-entries_below r.pair.both Var (λ v past. refl))
    ∙ replace_in_atom-itself (raised_atom r)
