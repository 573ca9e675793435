-- Facts about superposition on its way through an atom.
use Rattle.std.proofs.Common.{◌≡◌, ℕ, zero, suc, ◌+◌, ◌<◌, ◌≤◌, Bool, true, false, ◌&&◌, All, List, [], ◌∷◌, ◌++◌, length, map, take, drop, get_or, Option, Some, None, option_map, option_and_then, refl, sym, ap, ◌∙◌, subst, arith, append_assoc, append-nil, if◌then◌else◌}
use Rattle.std.specs.Prelude.{option_to_list, slice_get, sum, unwrap_or, Result, Ok, is_some}
use Rattle.std.specs.Borrow.{Bor}
use Rattle.std.specs.List.{AllByRecursion, flat_map, enumerate_from}
use Rattle.std.proofs.lemmas.Grind.{flat_map-append}
use Rattle.std.proofs.lemmas.List.Elements.{All-from_recursion, recursion_from_All}
use Rattle.std.proofs.lemmas.List.Folds.{flat_map-map}
use Rattle.std.proofs.lemmas.List.FromFn.{length-enumerate_from, get_or-enumerate_from}
use Rattle.std.proofs.lemmas.List.Sums.{sum_by-cons}
use Rattle.std.proofs.lemmas.Option.{slice_get-get_or, slice_get-map, slice_get_within}
use Rattle.spl_terms.specs.declared.term.Symbol.{Symbol}
use Rattle.spl_terms.specs.declared.term.Term.{Term, Var, App}
use Rattle.spl_terms.specs.declared.term.Term.TheViews.{outs-App}
use Rattle.spl_terms.specs.declared.atom.Atom.{Atom}
use Rattle.spl_terms.specs.declared.atom.Atom.TheVariants.{Holds, Equal}
use Rattle.spl_terms.specs.declared.clause.Part.{Part}
use Rattle.spl_terms.specs.declared.clause.Part.TheVariants.{Antecedent, Succedent}
use Rattle.spl_terms.specs.declared.clause.Spot.{Spot}
use Rattle.spl_terms.specs.declared.clause.Clause.{Clause}
use Rattle.spl_terms.specs.Terms.{term_variables, term_symbols, term_eq, replace}
use Rattle.spl_terms.specs.Clauses.{in_order, atom_terms, replace_in_atom}
use Rattle.spl_terms.specs.InOrder.{variables}
use Rattle.spl_terms.specs.TermLaws.{fold-Var, fold-App, replace-App, term_variables-App}
use Rattle.spl_truth.specs.declared.replace.Subst.{Subst}
use Rattle.spl_truth.specs.Unifiers.{HasVariablesBelow, HaveVariablesBelow, unifier}
use Rattle.spl_truth.specs.Orders.{is_not_below}
use Rattle.dep_sets.specs.Assumptions.{united}
use Rattle.proof_steps.specs.declared.step.Rule.TheVariants.{Paramodulate}
use Rattle.proof_steps.specs.declared.step.Line.{Line}
use Rattle.proof_steps.specs.Spots.{arguments_step, arguments_of, subterm, term_under, atom_at, with_term_at}
use Rattle.proof_steps.specs.Steps.{when, states, sides_of, paramodulation, has_entries, joined, without, rewritten}
use Rattle.calculus.specs.declared.kept.Kept.{Kept}
use Rattle.calculus.specs.Inferences.{Reading, clause_of, variables_of_both, first_part, second_part, by_entries, by_unifier_of_both, renamed_apart, eligible_in, readings, equations_of, paths_step, paths_in, paths_of, spots_in, spots_of, is_upper_side, rewriting_unifier, superpose, superpositions}
use Rattle.superposition.specs.declared.equations.Equation.{Equation}
use Rattle.superposition.specs.declared.pairs.Pair.{Pair}
use Rattle.superposition.specs.declared.rewriting.Rewriting.{Rewriting}
use Rattle.superposition.specs.declared.error.InferError.{InferError}
use Rattle.superposition.specs.Appending.{IsPrefixAppended, Appended}
use Rattle.superposition.specs.AppendingLaws.{then_more, then_none}
use Rattle.superposition.specs.Words.{plain, IsAtomBelow, line_of_both}
use Rattle.superposition.specs.Pairs.{IsPair, raised}
use Rattle.superposition.specs.Readings.{reading_of, AreJudged, AreReadIn}
use Rattle.superposition.specs.Standings.{IsStanding}
use Rattle.superposition.specs.Walks.{AreUsable, IsReady, IsUpperAt, IsSide, raised_atom, superpose_in, superpose_lent, superpose_in_parts, rewrite, rewrite_below, rewrite_argument}
use Rattle.superposition.proofs.Stating.{stated_line, both_line, there_of, sides_replaced}
use Rattle.superposition.proofs.Resolving.{first_below, second_below, eligible_there, apply-without}
use Rattle.superposition.proofs.Alone.{left_below, right_below}
use Rattle.superposition.proofs.Instances.{leads_under}
use Rattle.proof_steps.specs.declared.step.Statement.{Statement}
use Rattle.spl_truth.specs.Truth.{entry, apply}
use Rattle.calculus.specs.Found.{ParamodulantsAreFound}
use Rattle.superposition.proofs.Skipped.{lower_raised, upper_raised}

-- ---- at one place

abbrev spot_at : Part → ℕ → List ℕ → Spot
spot_at part place path = record { part = part; place = place; path = path }

module _ (r : Rewriting) (ready : IsReady r) (path : List ℕ) where
  abbrev p : Kept
  p = r.pair.p.now

  abbrev q : Kept
  q = r.pair.q.now

  abbrev e : Reading
  e = reading_of r.equation

  abbrev lines : Option (List Term) → List Line
  lines = by_unifier_of_both p q (λ s t. Paramodulate e.place e.right (spot_at r.part r.place path) s t)

  whole : (o : Option (List Term)) → rewriting_unifier r.pair.both e (raised_atom r) path ≡ o → rewrite r path ≡ lines o
  whole o unified =
      ap (λ x. lines (option_and_then (λ b. rewriting_unifier (variables_of_both p q) e (renamed_apart p b) path) x)) ready.atom
      ∙ ap lines (ap (λ k. rewriting_unifier k e (raised_atom r) path) (sym ready.pair.both) ∙ unified)

  pub no_superposed_line : rewriting_unifier r.pair.both e (raised_atom r) path ≡ None → [] ≡ rewrite r path
  no_superposed_line none = sym (whole None none)

  -- the unifier that keeps the order is that of the left side and the term that stands there
  unifier_there : (vars : ℕ) (w : Term) (u : List Term) → term_under path (raised_atom r) ≡ Some w → rewriting_unifier vars e (raised_atom r) path ≡ Some u → unifier vars e.left_side w ≡ Some u
  unifier_there vars w u stands unified = kept_same (unifier vars e.left_side w) (sym (ap (λ o. option_and_then (λ u. when (test u) u) (option_and_then (unifier vars e.left_side) o)) stands) ∙ unified)
    where
      test : List Term → Bool
      test u = is_not_below u e.left_side e.right_side && is_upper_side u (raised_atom r) path

      by_test : (b : Bool) (x : List Term) → when b x ≡ Some u → Some x ≡ Some u
      by_test true x h = h
      by_test false x h = absurd (cc)

      kept_same : (o : Option (List Term)) → option_and_then (λ u. when (test u) u) o ≡ Some u → o ≡ Some u
      kept_same None h = h
      kept_same (Some x) h = by_test (test x) x h

  -- what is stated is what is concluded where the terms are the same
  one_of : {A B : Type 0} (f : A → B) (g : Clause → A) (c : Clause) (fit : Bool) (same : Term → Bool) (o : Option Term) (l : B) → option_to_list (option_map f (option_map g (if fit then option_and_then (λ x. when (same x) c) o else None))) ≡ l ∷ [] → (if fit then option_and_then (λ x. when (same x) c) o else None) ≡ Some c
  one_of f g c false same o l h = absurd (cc)
  one_of f g c true same None l h = absurd (cc)
  one_of f g c true same (Some x) l h = by_test (same x) h
    where
      by_test : (b : Bool) → option_to_list (option_map f (option_map g (when b c))) ≡ l ∷ [] → when b c ≡ Some c
      by_test true h = refl
      by_test false h = absurd (cc)

  pub paramodulation_is : ParamodulantsAreFound → (w : Term) → term_under path (raised_atom r) ≡ Some w → (u : List Term) (s t : Subst) (held : List ℕ) (made : Clause) → rewriting_unifier r.pair.both e (raised_atom r) path ≡ Some u → s.terms ≡ take r.pair.first u → t.terms ≡ drop r.pair.first u → held ≡ path →
      made ≡ joined (apply s.terms (without Succedent e.place (clause_of p))) (with_term_at (spot_at r.part r.place held) (replace (entry s.terms) e.right_side) (apply t.terms (clause_of q))) →
      option_map in_order (Some made) ≡ paramodulation e.place e.right (spot_at r.part r.place held) s.terms t.terms (clause_of p) (clause_of q)
  paramodulation_is law w stands u s t held made unified is other same built =
      let left : s ≡ first_part p u = ap by_entries (is ∙ ap (λ k. take k u) ready.pair.first) in
      let right : t ≡ second_part p u = ap by_entries (other ∙ ap (λ k. drop k u) ready.pair.first) in
      let first : List Term = (first_part p u).terms in
      let second : List Term = (second_part p u).terms in
      let x : Clause = apply first (clause_of p) in
      let y : Clause = apply second (clause_of q) in
      let spot : Spot = spot_at r.part r.place path in
      let there = there_of (sides_of e.right) (slice_get (clause_of p).succedent e.place) (e.left_side, e.right_side) ready.equation.stands in
      let whole_unifier : rewriting_unifier (variables_of_both p q) e (raised_atom r) path ≡ Some u = ap (λ k. rewriting_unifier k e (raised_atom r) path) (sym ready.pair.both) ∙ unified in
      let line = law p q ready.pair.p_in_order ready.pair.q_in_order e spot there.0 r.atom.now w u there.1 there.2 ready.atom stands (unifier_there (variables_of_both p q) w u stands whole_unifier) whole_unifier in
      let l : Term = replace (entry first) e.left_side in
      let new : Term = replace (entry first) e.right_side in
      let c : Clause = in_order (joined (without Succedent e.place x) (with_term_at spot new y)) in
      let fit : Bool = has_entries first (clause_of p) && has_entries second (clause_of q) in
      let o : Option Term = option_and_then (term_under path) (atom_at r.part r.place y) in
      let sides : option_and_then (sides_of e.right) (slice_get x.succedent e.place) ≡ Some (l, new) =
      ap (option_and_then (sides_of e.right)) (slice_get-map (replace_in_atom (entry first)) (clause_of p).succedent e.place ∙ ap (option_map (replace_in_atom (entry first))) there.1)
      ∙ sides_replaced (entry first) e.right there.0
      ∙ ap (option_map (λ both. (replace (entry first) both.0, replace (entry first) both.1))) there.2 in
      let form : paramodulation e.place e.right spot first second (clause_of p) (clause_of q) ≡ (if fit then option_and_then (λ z. when (term_eq z l) c) o else None) = ap (λ z. if fit then option_and_then (rewritten e.place spot x y) z else None) sides in
      let stated : Statement → Line = stated_line (Paramodulate e.place e.right spot (first_part p u) (second_part p u)) (p.number ∷ q.number ∷ []) in
      let deps = united p.statement.deps q.statement.deps in
      let found = sym (ap (λ z. option_to_list (option_map stated (option_map (λ c. states c deps) z))) form) ∙ sym (whole (Some u) unified) ∙ line.1 in
      let all : paramodulation e.place e.right spot first second (clause_of p) (clause_of q) ≡ Some c = form ∙ one_of stated (λ c. states c deps) c fit (λ z. term_eq z l) o line.0 found in
      ap (λ d. Some (in_order d)) (built
      ∙ (λ k. joined (apply (left k).terms (without Succedent e.place (clause_of p))) (with_term_at (spot_at r.part r.place (same k)) (replace (entry (left k).terms) e.right_side) (apply (right k).terms (clause_of q))))
      ∙ ap (λ d. joined d (with_term_at spot new y)) (apply-without Succedent e.place first (clause_of p)))
      ∙ sym all
      ∙ (λ k. paramodulation e.place e.right (spot_at r.part r.place (sym same k)) (sym left k).terms (sym right k).terms (clause_of p) (clause_of q))

  pub superposed_line : (u : List Term) (s t : Subst) (held : List ℕ) (made : Option Clause) → rewriting_unifier r.pair.both e (raised_atom r) path ≡ Some u → s.terms ≡ take r.pair.first u → t.terms ≡ drop r.pair.first u → held ≡ path →
      option_map in_order made ≡ paramodulation e.place e.right (spot_at r.part r.place held) s.terms t.terms (clause_of p) (clause_of q) →
      option_to_list (option_map (line_of_both p q (Paramodulate e.place e.right (spot_at r.part r.place held) s t)) made) ≡ rewrite r path
  superposed_line u s t held made unified is other same concluded =
      let left : s ≡ first_part p u = ap by_entries (is ∙ ap (λ k. take k u) ready.pair.first) in
      let right : t ≡ second_part p u = ap by_entries (other ∙ ap (λ k. drop k u) ready.pair.first) in
      let deps = united p.statement.deps q.statement.deps in
      ap option_to_list (both_line p q (Paramodulate e.place e.right (spot_at r.part r.place held) s t) made _ concluded)
      ∙ (λ k. option_to_list (option_map (stated_line (Paramodulate e.place e.right (spot_at r.part r.place (same k)) (left k) (right k)) (p.number ∷ q.number ∷ [])) (option_map (λ c. states c deps) (paramodulation e.place e.right (spot_at r.part r.place (same k)) (left k).terms (right k).terms (clause_of p) (clause_of q)))))
      ∙ sym (whole (Some u) unified)

-- the equation is one of the succedent
pub equation_within : (r : Rewriting) → IsReady r → r.equation.place < length (clause_of r.pair.p.now).succedent
equation_within r ready = by_atom (slice_get (clause_of r.pair.p.now).succedent r.equation.place) refl ready.equation.stands
  where
    by_atom : (o : Option Atom) → slice_get (clause_of r.pair.p.now).succedent r.equation.place ≡ o → option_and_then (sides_of r.equation.right) o ≡ Some (r.equation.left_side.now, r.equation.right_side.now) → r.equation.place < length (clause_of r.pair.p.now).succedent
    by_atom None there h = absurd (cc)
    by_atom (Some a) there h = slice_get_within (clause_of r.pair.p.now).succedent r.equation.place a there

-- and the path leads to a subterm of the atom as it stands
pub spot_there : (r : Rewriting) → IsReady r → (path held : List ℕ) (w : Term) → held ≡ path → term_under path (raised_atom r) ≡ Some w → is_some (option_and_then (term_under held) (atom_at r.part r.place (clause_of r.pair.q.now))) ≡ true
spot_there r ready path held w same stands =
    ap (λ o. is_some (option_and_then (term_under held) o)) ready.atom
    ∙ ap (λ l. is_some (term_under l r.atom.now)) same
    ∙ sym (leads_under (variables (clause_of r.pair.p.now)) path r.atom.now)
    ∙ ap is_some stands

-- the unifier by that of the left side and the term that stands there
pub rewriting_of : (vars : ℕ) (e : Reading) (b : Atom) (path : List ℕ) (w : Term) → term_under path b ≡ Some w → rewriting_unifier vars e b path ≡ option_and_then (λ u. when (is_not_below u e.left_side e.right_side && is_upper_side u b path) u) (unifier vars e.left_side w)
rewriting_of vars e b path w stands = ap (λ o. option_and_then (λ u. when (is_not_below u e.left_side e.right_side && is_upper_side u b path) u) (option_and_then (unifier vars e.left_side) o)) stands

-- ---- the walk

module _ (r : Rewriting) where
  walk_arguments : (path : List ℕ) (n : ℕ) (ts : List Term) → rewrite_below r path (flat_map (λ x. map (λ rest. x.0 ∷ rest) x.1) (enumerate_from n (map paths_in ts))) ≡ flat_map (rewrite_argument r path) (enumerate_from n ts)
  walk_arguments path n [] = refl
  walk_arguments path n (t ∷ ts) =
      flat_map-append (λ rest. rewrite r (path ++ rest)) (map (λ rest. n ∷ rest) (paths_in t)) (flat_map (λ x. map (λ rest. x.0 ∷ rest) x.1) (enumerate_from (n + 1) (map paths_in ts)))
      ∙ ap (λ l. rewrite_argument r path (n, t) ++ l) (walk_arguments path (n + 1) ts)

  pub walk_variable : (path : List ℕ) (t : Term) (v : ℕ) → t ≡ Var v → [] ≡ rewrite_below r path (paths_in t)
  walk_variable path t v is = sym (ap (λ x. rewrite_below r path (paths_in x)) is ∙ ap (rewrite_below r path) (fold-Var paths_step v))

  pub walk_application : (path : List ℕ) (t : Term) (f : Symbol) (ts : List Term) → t ≡ App f ts → rewrite r path ++ flat_map (rewrite_argument r path) (enumerate_from 0 ts) ≡ rewrite_below r path (paths_in t)
  walk_application path t f ts is = sym (
      ap (λ x. rewrite_below r path (paths_in x)) is
      ∙ ap (rewrite_below r path) (fold-App paths_step f ts)
      ∙ (λ k. rewrite r (append-nil path k) ++ walk_arguments path 0 ts k))

  pub walk_deeper : (path : List ℕ) (k : ℕ) (t : Term) → rewrite_below r (path ++ k ∷ []) (paths_in t) ≡ rewrite_argument r path (k, t)
  walk_deeper path k t =
      (λ j. flat_map (λ rest. rewrite r (append_assoc path (k ∷ []) rest j)) (paths_in t))
      ∙ sym (flat_map-map (λ rest. rewrite r (path ++ rest)) (λ rest. k ∷ rest) (paths_in t))

  pub walk_predicate : (a : Atom) (f : Symbol) (ts : List Term) → a ≡ Holds f ts → flat_map (rewrite_argument r []) (enumerate_from 0 ts) ≡ flat_map (rewrite r) (paths_of a)
  walk_predicate a f ts is = sym (ap (λ x. flat_map (rewrite r) (paths_of x)) is ∙ walk_arguments [] 0 ts)

-- ---- what stands there

subterm_deeper : (path : List ℕ) (w : Term) (f : Symbol) (ts : List Term) (k : ℕ) (t : Term) → subterm path w ≡ Some (App f ts) → slice_get ts k ≡ Some t → subterm (path ++ k ∷ []) w ≡ Some t
subterm_deeper [] w f ts k t e there =
    let q : w ≡ App f ts = cc in
    ap (λ x. option_and_then (subterm []) (slice_get (arguments_of x) k)) q
    ∙ ap (λ xs. option_and_then (subterm []) (slice_get xs k)) (ap arguments_step (outs-App f ts))
    ∙ ap (option_and_then (subterm [])) there
subterm_deeper (j ∷ path) w f ts k t e there = by_option (slice_get (arguments_of w) j) (λ x h. subterm_deeper path x f ts k t h there) e
  where
    by_option : (o : Option Term) → ((x : Term) → subterm path x ≡ Some (App f ts) → subterm (path ++ k ∷ []) x ≡ Some t) → option_and_then (subterm path) o ≡ Some (App f ts) → option_and_then (subterm (path ++ k ∷ [])) o ≡ Some t
    by_option None more h = absurd (cc)
    by_option (Some x) more h = more x h

pub stands_deeper : (path : List ℕ) (b : Atom) (w : Term) (f : Symbol) (ts : List Term) → term_under path b ≡ Some w → w ≡ App f ts → (k : ℕ) (t : Term) → slice_get ts k ≡ Some t → term_under (path ++ k ∷ []) b ≡ Some t
stands_deeper [] b w f ts stands is k t there = absurd (cc)
stands_deeper (j ∷ path) b w f ts stands is k t there = by_option (slice_get (atom_terms b) j) (stands ∙ ap Some is)
  where
    by_option : (o : Option Term) → option_and_then (subterm path) o ≡ Some (App f ts) → option_and_then (subterm (path ++ k ∷ [])) o ≡ Some t
    by_option None h = absurd (cc)
    by_option (Some x) h = subterm_deeper path x f ts k t h there

-- the same of raised terms
pub raised_deeper : (lift : ℕ) (path : List ℕ) (b : Atom) (w : Term) (f : Symbol) (ts : List Term) → term_under path b ≡ Some (raised lift w) → w ≡ App f ts → (k : ℕ) (t : Term) → slice_get ts k ≡ Some t → term_under (path ++ k ∷ []) b ≡ Some (raised lift t)
raised_deeper lift path b w f ts stands is k t there =
    stands_deeper path b (raised lift w) f (map (raised lift) ts) stands (ap (raised lift) is ∙ replace-App (λ v. Var (lift + v)) f ts) k (raised lift t) (slice_get-map (raised lift) ts k ∙ ap (option_map (raised lift)) there)

pub raised_below : (vars lift : ℕ) (w : Term) (f : Symbol) (ts : List Term) → w ≡ App f ts → HasVariablesBelow vars (raised lift w) → HaveVariablesBelow vars (map (raised lift) ts)
raised_below vars lift w f ts is h = subst (λ vs. All (λ v. v < vars) vs) (ap term_variables (ap (raised lift) is ∙ replace-App (λ v. Var (lift + v)) f ts) ∙ term_variables-App f (map (raised lift) ts)) h

first_each : {X : Type 0} (P : X → Type 0) (xs ys : List X) → AllByRecursion P (xs ++ ys) → AllByRecursion P xs × AllByRecursion P ys
first_each P [] ys h = (tt, h)
first_each P (x ∷ xs) ys h = let more = first_each P xs ys h.1 in ((h.0, more.0), more.1)

pub each_below : (vars : ℕ) (ts : List Term) (k : ℕ) (t : Term) → HaveVariablesBelow vars ts → slice_get ts k ≡ Some t → HasVariablesBelow vars t
each_below vars ts k t h e = All-from_recursion (λ v. v < vars) (term_variables t) (at_place ts k (recursion_from_All (λ v. v < vars) (flat_map term_variables ts) h) e)
  where
    at_place : (ts : List Term) (k : ℕ) → AllByRecursion (λ v. v < vars) (flat_map term_variables ts) → slice_get ts k ≡ Some t → AllByRecursion (λ v. v < vars) (term_variables t)
    at_place [] k h e = absurd (cc)
    at_place (x ∷ ts) zero h e = let same : x ≡ t = cc in subst (λ y. AllByRecursion (λ v. v < vars) (term_variables y)) same (first_each (λ v. v < vars) (term_variables x) (flat_map term_variables ts) h).0
    at_place (x ∷ ts) (suc k) h e = at_place ts k (first_each (λ v. v < vars) (term_variables x) (flat_map term_variables ts) h).1 e

-- ---- the atom of a predicate, and the sides of an equation

module _ (r : Rewriting) (ready : IsReady r) where
  lifted : (t : Term) → raised (variables (clause_of r.pair.p.now)) t ≡ raised r.pair.first t
  lifted t = ap (λ n. raised n t) (sym ready.pair.first)

  atom_below : IsAtomBelow r.pair.both (raised_atom r)
  atom_below = second_below r.pair ready.pair r.part r.place r.atom.now ready.atom

  module _ (f : Symbol) (ts : List Term) (is : r.atom.now ≡ Holds f ts) where
    raised_holds : raised_atom r ≡ Holds f (map (raised r.pair.first) ts)
    raised_holds = ap (renamed_apart r.pair.p.now) is ∙ (λ k. Holds f (map (λ t. lifted t k) ts))

    pub arguments_there : (k : ℕ) (t : Term) → slice_get ts k ≡ Some t → term_under (k ∷ []) (raised_atom r) ≡ Some (raised r.pair.first t)
    arguments_there k t there = ap (term_under (k ∷ [])) raised_holds ∙ ap (option_and_then (subterm [])) (slice_get-map (raised r.pair.first) ts k ∙ ap (option_map (raised r.pair.first)) there)

    pub arguments_below : HaveVariablesBelow r.pair.both (map (raised r.pair.first) ts)
    arguments_below = subst (IsAtomBelow r.pair.both) raised_holds atom_below

    pub holds_upper : (k : ℕ) → IsUpperAt r (k ∷ [])
    holds_upper k e u = ap (λ a. is_upper_side u a (k ∷ [])) raised_holds

  module _ (s t : Term) (is : r.atom.now ≡ Equal s t) where
    raised_equal : raised_atom r ≡ Equal (raised r.pair.first s) (raised r.pair.first t)
    raised_equal = ap (renamed_apart r.pair.p.now) is ∙ (λ k. Equal (lifted s k) (lifted t k))

    pub left_side_is : IsStanding r.side s t → IsSide r 0 s
    left_side_is known = record {
      stands = ap (term_under (0 ∷ [])) raised_equal;
      below = left_below r.pair.both (raised_atom r) (raised r.pair.first s) (raised r.pair.first t) raised_equal atom_below;
      upper = λ e u. ap (λ a. is_upper_side u a (0 ∷ [])) raised_equal ∙ upper_raised r.pair.first s t (subst (λ x. IsStanding x s t) e known) u;
      lower = λ e u path. ap (λ a. is_upper_side u a (0 ∷ path)) raised_equal ∙ lower_raised r.pair.first s t (subst (λ x. IsStanding x s t) e known) u;
    }

    pub right_side_is : IsStanding r.side t s → IsSide r 1 t
    right_side_is known = record {
      stands = ap (term_under (1 ∷ [])) raised_equal;
      below = right_below r.pair.both (raised_atom r) (raised r.pair.first s) (raised r.pair.first t) raised_equal atom_below;
      upper = λ e u. ap (λ a. is_upper_side u a (1 ∷ [])) raised_equal ∙ upper_raised r.pair.first t s (subst (λ x. IsStanding x t s) e known) u;
      lower = λ e u path. ap (λ a. is_upper_side u a (1 ∷ path)) raised_equal ∙ lower_raised r.pair.first t s (subst (λ x. IsStanding x t s) e known) u;
    }

-- ---- equations in their places

abbrev Stands : Kept → Reading → Type 0
Stands p e = option_and_then (sides_of e.right) (slice_get (clause_of p).succedent e.place) ≡ Some (e.left_side, e.right_side)

readings_stand : (p : Kept) (xs : List (ℕ × Atom)) → AllByRecursion (λ x. atom_at Succedent x.0 (clause_of p) ≡ Some x.1) xs → AllByRecursion (Stands p) (flat_map readings xs)
readings_stand p [] h = tt
readings_stand p ((i, Holds f ts) ∷ xs) h = readings_stand p xs h.1
readings_stand p ((i, Equal s t) ∷ xs) h = (ap (option_and_then (sides_of false)) h.0, (ap (option_and_then (sides_of true)) h.0, readings_stand p xs h.1))

-- the same of equations that are lent
pub read_in : (p : Kept) (xs : List (ℕ × Atom)) (made held : List Equation) → AllByRecursion (λ x. atom_at Succedent x.0 (clause_of p) ≡ Some x.1) xs → map reading_of made ≡ flat_map readings xs → held ≡ made → AreReadIn (clause_of p) held
read_in p xs made held there is same = lend held (subst (AllByRecursion (Stands p)) (sym (ap (map reading_of) same ∙ is)) (readings_stand p xs there))
  where
    lend : (equations : List Equation) → AllByRecursion (Stands p) (map reading_of equations) → AreReadIn (clause_of p) equations
    lend [] h = tt
    lend (e ∷ equations) h = (h.0, lend equations h.1)

first_of : {x y s t : Term} → ◌≡◌ {A = Option (Term × Term)} (Some (x, y)) (Some (s, t)) → x ≡ s
first_of {x} h = ap (λ (o : Option (Term × Term)). unwrap_or (option_map (λ p. p.0) o) x) h

-- the left side of an equation that stands there has the variables of the premise
stands_below : (pair : Pair) → IsPair pair → (e : Reading) → Stands pair.p.now e → HasVariablesBelow pair.both e.left_side
stands_below pair known e h = by_atom (slice_get (clause_of pair.p.now).succedent e.place) refl h
  where
    by_sides : (right : Bool) (a : Atom) (s t : Term) → IsAtomBelow pair.both a → sides_of right a ≡ Some (s, t) → HasVariablesBelow pair.both s
    by_sides right (Holds f ts) s t below h = absurd (cc)
    by_sides false (Equal x y) s t below h = subst (HasVariablesBelow pair.both) (first_of h) (left_below pair.both (Equal x y) x y refl below)
    by_sides true (Equal x y) s t below h = subst (HasVariablesBelow pair.both) (first_of h) (right_below pair.both (Equal x y) x y refl below)

    by_atom : (o : Option Atom) → slice_get (clause_of pair.p.now).succedent e.place ≡ o → option_and_then (sides_of e.right) o ≡ Some (e.left_side, e.right_side) → HasVariablesBelow pair.both e.left_side
    by_atom None there h = absurd (cc)
    by_atom (Some a) there h = by_sides e.right a e.left_side e.right_side (first_below pair known e.place a there) h

all_usable : (pair : Pair) → IsPair pair → (equations : List Equation) → AllByRecursion (Stands pair.p.now) (map reading_of equations) → AreJudged equations → AreUsable pair equations
all_usable pair known [] h judged = tt
all_usable pair known (e ∷ equations) h judged = (record { stands = h.0; left_below = stands_below pair known (reading_of e) h.0; judged = judged.0 }, all_usable pair known equations h.1 judged.1)

pub usable_equations : (pair : Pair) → IsPair pair → (p : Kept) → pair.p.now ≡ p → (made held : List Equation) → map reading_of made ≡ equations_of p → AreJudged made → held ≡ made → AreUsable pair held
usable_equations pair known p this made held is judged same =
    all_usable pair known held
    (subst (λ k. AllByRecursion (Stands k) (map reading_of held)) (sym this) (subst (AllByRecursion (Stands p)) (sym (ap (map reading_of) same ∙ is)) (readings_stand p (eligible_in p Succedent) (eligible_there p Succedent))))
    (subst AreJudged (sym same) judged)

-- ---- the whole list

flat_map-flat_map : {X Y Z : Type 0} (f : Y → List Z) (g : X → List Y) (xs : List X) → flat_map f (flat_map g xs) ≡ flat_map (λ x. flat_map f (g x)) xs
flat_map-flat_map f g [] = refl
flat_map-flat_map f g (x ∷ xs) = flat_map-append f (g x) (flat_map g xs) ∙ ap (λ l. flat_map f (g x) ++ l) (flat_map-flat_map f g xs)

module _ (p q : Kept) (e : Reading) where
  in_part : (part : Part) (places lends : List (ℕ × Bor Atom)) → plain places ≡ eligible_in q part → lends ≡ places → flat_map (superpose_lent p q e part) lends ≡ flat_map (superpose p q e) (spots_in q part)
  in_part part places lends is same =
      sym (flat_map-map (superpose_in p q e part) (λ y. (y.0, y.1.now)) lends)
      ∙ ap (flat_map (superpose_in p q e part)) (ap plain same ∙ is)
      ∙ sym (λ k. flat_map (λ y. flat_map-map (superpose p q e) (spot_at part y.0) (paths_of y.1) k) (eligible_in q part))
      ∙ sym (flat_map-flat_map (superpose p q e) (λ y. map (spot_at part y.0) (paths_of y.1)) (eligible_in q part))

  in_parts : (antecedent antecedents succedent succedents : List (ℕ × Bor Atom)) → plain antecedent ≡ eligible_in q Antecedent → antecedents ≡ antecedent → plain succedent ≡ eligible_in q Succedent → succedents ≡ succedent → superpose_in_parts p q antecedents succedents e ≡ flat_map (superpose p q e) (spots_of q)
  in_parts antecedent antecedents succedent succedents left same right there = (λ k. in_part Antecedent antecedent antecedents left same k ++ in_part Succedent succedent succedents right there k) ∙ sym (flat_map-append (superpose p q e) (spots_in q Antecedent) (spots_in q Succedent))

pub superpositions_are : (p q p' q' : Kept) (made held : List Equation) (antecedent antecedents succedent succedents : List (ℕ × Bor Atom)) → p' ≡ p → q' ≡ q → map reading_of made ≡ equations_of p → held ≡ made → plain antecedent ≡ eligible_in q Antecedent → antecedents ≡ antecedent → plain succedent ≡ eligible_in q Succedent → succedents ≡ succedent →
    flat_map (λ e. superpose_in_parts p' q' antecedents succedents (reading_of e)) held ≡ superpositions p q
superpositions_are p q p' q' made held antecedent antecedents succedent succedents this that is same left there right again =
    (λ k. flat_map (λ e. superpose_in_parts (this k) (that k) antecedents succedents (reading_of e)) held)
    ∙ sym (flat_map-map (superpose_in_parts p q antecedents succedents) reading_of held)
    ∙ ap (flat_map (superpose_in_parts p q antecedents succedents)) (ap (map reading_of) same ∙ is)
    ∙ (λ k. flat_map (λ e. in_parts p q e antecedent antecedents succedent succedents left there right again k) (equations_of p))

-- ---- arguments one by one

module _ (ts : List Term) (k : ℕ) (t : Term) (within : k < length ts) (is : t ≡ get_or ts k t) where
  pub argument_within : k < length (enumerate_from 0 ts)
  argument_within = omega (arith, length-enumerate_from 0 ts)

  pub argument_is : ◌≡◌ {A = ℕ × Term} (k, t) (get_or (enumerate_from 0 ts) k (k, t))
  argument_is =
      let z : 0 + k ≡ k = omega arith in
      sym (get_or-enumerate_from 0 ts k (k, t) within ∙ (λ i. (z i, sym is i)))

  pub argument_there : slice_get ts k ≡ Some t
  argument_there = slice_get-get_or ts k t within ∙ ap Some (sym is)

pub argument_symbols : (ts : List Term) (k : ℕ) (t : Term) → k < length ts → t ≡ get_or ts k t → term_symbols t ≤ sum (map term_symbols ts)
argument_symbols [] k t h e = absurd (omega (arith, h))
argument_symbols (u ∷ ts) zero t h e = omega (arith, sum_by-cons (λ n. n) (term_symbols u) (map term_symbols ts), ap term_symbols e)
argument_symbols (u ∷ ts) (suc k) t h e = omega (arith, sum_by-cons (λ n. n) (term_symbols u) (map term_symbols ts), argument_symbols ts k t (omega (arith, h)) e)

pub arguments_end : (ts : List Term) (k : ℕ) → length ts ≤ k → length (enumerate_from 0 ts) ≤ k
arguments_end ts k past = omega (arith, length-enumerate_from 0 ts)

-- ---- what was appended on the way

module _ (r : Rewriting) (path held : List ℕ) (same : held ≡ path) (t : Term) (f : Symbol) (ts items : List Term) (is : t ≡ App f ts) (there : items ≡ ts) (old mid : List Line) where
  pub term_stops : (e : InferError) → IsPrefixAppended (rewrite r held) old mid e → IsPrefixAppended (rewrite_below r path (paths_in t)) old mid e
  term_stops e h =
      subst (λ l. IsPrefixAppended l old mid e) (walk_application r path t f ts is)
      (then_none (rewrite r path) (flat_map (rewrite_argument r path) (enumerate_from 0 ts)) old mid e (subst (λ p. IsPrefixAppended (rewrite r p) old mid e) same h))

  pub term_goes_on : (new : List Line) (u : Unit {0}) (x : Result (Unit {0}) InferError) → Appended (rewrite r held) old mid (Ok u) → Appended (flat_map (rewrite_argument r path) (enumerate_from 0 items)) mid new x → Appended (rewrite_below r path (paths_in t)) old new x
  term_goes_on new u x h rest =
      subst (λ l. Appended l old new x) (walk_application r path t f ts is)
      (then_more (rewrite r path) (flat_map (rewrite_argument r path) (enumerate_from 0 ts)) old mid new u x (subst (λ p. Appended (rewrite r p) old mid (Ok u)) same h) (subst (λ l. Appended (flat_map (rewrite_argument r path) (enumerate_from 0 l)) mid new x) there rest))

pub argument_below : (r : Rewriting) (path held : List ℕ) (k : ℕ) (t : Term) → held ≡ path ++ k ∷ [] → rewrite_below r held (paths_in t) ≡ rewrite_argument r path (k, t)
argument_below r path held k t same = ap (λ p. rewrite_below r p (paths_in t)) same ∙ walk_deeper r path k t
