-- Where a side of an eligible equation and a subterm have a unifier that keeps the order, there is an inference; so too for
-- the rules on one clause.
use Rattle.std.proofs.Common.{◌≡◌, ℕ, zero, suc, ◌<◌, Bool, true, false, ◌&&◌, ◌==◌, if◌then◌else◌, List, [], ◌∷◌, ◌++◌, length, map, Some, None, MatchOption, option_map, option_and_then, refl, sym, ap, ◌∙◌, subst, arith}
use Rattle.std.specs.Prelude.{option_to_list, slice_get}
use Rattle.std.specs.List.{flat_map}
use Rattle.std.proofs.lemmas.List.Folds.{list_any-append}
use Rattle.std.proofs.lemmas.Option.{slice_get-map}
use Rattle.std.proofs.lemmas.List.Elements.{All-from_recursion}
use Rattle.spl_terms.specs.declared.term.Symbol.{Symbol}
use Rattle.spl_terms.specs.declared.term.Term.{Term, Var, App}
use Rattle.spl_terms.specs.declared.term.Term.TheViews.{outs-Var, outs-App}
use Rattle.spl_terms.specs.declared.atom.Atom.{Atom}
use Rattle.spl_terms.specs.declared.atom.Atom.TheVariants.{Holds, Equal}
use Rattle.spl_terms.specs.declared.clause.Part.{Part}
use Rattle.spl_terms.specs.declared.clause.Part.TheVariants.{Constraint, Antecedent, Succedent}
use Rattle.spl_terms.specs.declared.clause.Spot.{Spot}
use Rattle.spl_terms.specs.declared.clause.Clause.{Clause}
use Rattle.spl_terms.specs.Terms.{replace, term_variables, term_eq}
use Rattle.spl_terms.specs.Clauses.{atom_variables, replace_in_atom, part_of, in_order}
use Rattle.spl_terms.specs.TermLaws.{term_induction, term_eq-refl}
use Rattle.spl_terms.specs.TermLaws.{term_variables-App}
use Rattle.spl_truth.specs.Truth.{entry, apply}
use Rattle.spl_truth.specs.Unifiers.{HasVariablesBelow, HasNoUnifier, IsMostGeneral, ForTermsBelow, IsUnifierOrNone, unifier}
use Rattle.spl_terms.specs.TermLaws.{replace-App}
use Rattle.std.proofs.lemmas.Bool.{or_left, or_right}
use Rattle.proof_steps.specs.Spots.{arguments_step, arguments_of, subterm, term_under}
use Rattle.proof_steps.specs.Spots.{atom_at, with_term_at}
use Rattle.proof_steps.specs.Steps.{when, states, has_entries, without, joined, sides_of, rewritten, paramodulated, paramodulation}
use Rattle.spl_terms.specs.InOrder.{IsInOrder, variables}
use Rattle.calculus.specs.declared.kept.Kept.{Kept}
use Rattle.calculus.specs.Inferences.{Reading, clause_of, renamed_apart, variables_of_both, first_part, second_part, by_unifier_of_both, rewriting_unifier, superpose}
use Rattle.dep_sets.specs.Assumptions.{united}
use Rattle.proof_steps.specs.declared.step.Line.{Line}
use Rattle.proof_steps.specs.declared.step.Rule.TheVariants.{Paramodulate}
use Rattle.spl_terms.specs.VariableLaws.{has}
use Rattle.calculus.specs.LiftingLaws.{entry-take, agree_term, atom_below, renamed_apart_below, all_below, length-unifier, first_fits, second_fits, second_agrees}

-- ---- subterms of instances

-- a term is a variable or an application
by_form : (P : Term → Type 0) → ((v : ℕ) → P (Var v)) → ((f : Symbol) (ts : List Term) → P (App f ts)) → (t : Term) → P t
by_form P at_var at_app = term_induction P at_var (λ f ts each. at_app f ts)

arguments-Var : (v : ℕ) → arguments_of (Var v) ≡ []
arguments-Var v = ap arguments_step (outs-Var v)

arguments-App : (f : Symbol) (ts : List Term) → arguments_of (App f ts) ≡ ts
arguments-App f ts = ap arguments_step (outs-App f ts)

module _ (h : ℕ → Term) where
  abbrev Commutes : List ℕ → Type 0
  Commutes path = (t w : Term) → subterm path t ≡ Some w → subterm path (replace h t) ≡ Some (replace h w)

  below_replaced : (path : List ℕ) → Commutes path → (ts : List Term) (k : ℕ) (w : Term) → option_and_then (subterm path) (slice_get ts k) ≡ Some w → option_and_then (subterm path) (slice_get (map (replace h) ts) k) ≡ Some (replace h w)
  below_replaced path c [] k w e = absurd (cc)
  below_replaced path c (t ∷ ts) zero w e = c t w e
  below_replaced path c (t ∷ ts) (suc k) w e = below_replaced path c ts k w e

  step_replaced : (path : List ℕ) → Commutes path → (k : ℕ) (w : Term) (t : Term) → option_and_then (subterm path) (slice_get (arguments_of t) k) ≡ Some w → option_and_then (subterm path) (slice_get (arguments_of (replace h t)) k) ≡ Some (replace h w)
  step_replaced path c k w = by_form (λ t. option_and_then (subterm path) (slice_get (arguments_of t) k) ≡ Some w → option_and_then (subterm path) (slice_get (arguments_of (replace h t)) k) ≡ Some (replace h w)) at_var at_app
    where
      at_var : (v : ℕ) → option_and_then (subterm path) (slice_get (arguments_of (Var v)) k) ≡ Some w → option_and_then (subterm path) (slice_get (arguments_of (replace h (Var v))) k) ≡ Some (replace h w)
      at_var v e = absurd (let f = sym (ap (λ ts. option_and_then (subterm path) (slice_get ts k)) (arguments-Var v)) ∙ e in cc)

      at_app : (f : Symbol) (ts : List Term) → option_and_then (subterm path) (slice_get (arguments_of (App f ts)) k) ≡ Some w → option_and_then (subterm path) (slice_get (arguments_of (replace h (App f ts))) k) ≡ Some (replace h w)
      at_app f ts e =
          ap (λ x. option_and_then (subterm path) (slice_get (arguments_of x) k)) (replace-App h f ts)
          ∙ ap (λ xs. option_and_then (subterm path) (slice_get xs k)) (arguments-App f (map (replace h) ts))
          ∙ below_replaced path c ts k w (sym (ap (λ xs. option_and_then (subterm path) (slice_get xs k)) (arguments-App f ts)) ∙ e)

  pub subterm-replace : (path : List ℕ) → Commutes path
  subterm-replace [] t w e = let q : t ≡ w = cc in ap (λ x. Some (replace h x)) q
  subterm-replace (k ∷ path) t w e = step_replaced path (subterm-replace path) k w t e

  pub term_under-replace : (path : List ℕ) (b : Atom) (w : Term) → term_under path b ≡ Some w → term_under path (replace_in_atom h b) ≡ Some (replace h w)
  term_under-replace [] b w e = absurd (cc)
  term_under-replace (k ∷ path) (Holds p ts) w e = below_replaced path (subterm-replace path) ts k w e
  term_under-replace (k ∷ path) (Equal s t) w e = below_replaced path (subterm-replace path) (s ∷ t ∷ []) k w e

-- ---- variables of subterms

abbrev Inner : List ℕ → Type 0
Inner path = (t w : Term) → subterm path t ≡ Some w → (v : ℕ) → has v (term_variables w) ≡ true → has v (term_variables t) ≡ true

below_inner : (path : List ℕ) → Inner path → (ts : List Term) (k : ℕ) (w : Term) → option_and_then (subterm path) (slice_get ts k) ≡ Some w → (v : ℕ) → has v (term_variables w) ≡ true → has v (flat_map term_variables ts) ≡ true
below_inner path i [] k w e v h = absurd (cc)
below_inner path i (t ∷ ts) zero w e v h = list_any-append (λ x. v == x) (term_variables t) (flat_map term_variables ts) ∙ or_left _ _ (i t w e v h)
below_inner path i (t ∷ ts) (suc k) w e v h = list_any-append (λ x. v == x) (term_variables t) (flat_map term_variables ts) ∙ or_right _ _ (below_inner path i ts k w e v h)

step_inner : (path : List ℕ) → Inner path → (k : ℕ) (w : Term) (v : ℕ) → has v (term_variables w) ≡ true → (t : Term) → option_and_then (subterm path) (slice_get (arguments_of t) k) ≡ Some w → has v (term_variables t) ≡ true
step_inner path i k w v h = by_form (λ t. option_and_then (subterm path) (slice_get (arguments_of t) k) ≡ Some w → has v (term_variables t) ≡ true) at_var at_app
  where
    at_var : (x : ℕ) → option_and_then (subterm path) (slice_get (arguments_of (Var x)) k) ≡ Some w → has v (term_variables (Var x)) ≡ true
    at_var x e = absurd (let f = sym (ap (λ ts. option_and_then (subterm path) (slice_get ts k)) (arguments-Var x)) ∙ e in cc)

    at_app : (f : Symbol) (ts : List Term) → option_and_then (subterm path) (slice_get (arguments_of (App f ts)) k) ≡ Some w → has v (term_variables (App f ts)) ≡ true
    at_app f ts e = ap (has v) (term_variables-App f ts) ∙ below_inner path i ts k w (sym (ap (λ xs. option_and_then (subterm path) (slice_get xs k)) (arguments-App f ts)) ∙ e) v h

subterm-inner : (path : List ℕ) → Inner path
subterm-inner [] t w e v h = let q : t ≡ w = cc in ap (λ x. has v (term_variables x)) q ∙ h
subterm-inner (k ∷ path) t w e v h = step_inner path (subterm-inner path) k w v h t e

pub term_under-inner : (path : List ℕ) (b : Atom) (w : Term) → term_under path b ≡ Some w → (v : ℕ) → has v (term_variables w) ≡ true → has v (atom_variables b) ≡ true
term_under-inner [] b w e v h = absurd (cc)
term_under-inner (k ∷ path) (Holds p ts) w e v h = below_inner path (subterm-inner path) ts k w e v h
term_under-inner (k ∷ path) (Equal s t) w e v h = below_inner path (subterm-inner path) (s ∷ t ∷ []) k w e v h

-- ---- a unifier of a side and a subterm gives a line

agree_sides : (h k : ℕ → Term) (l : Term) → ((v : ℕ) → has v (term_variables l) ≡ true → h v ≡ k v) → replace h l ≡ replace k l
agree_sides = agree_term

-- the sides of an instance are the instances of the sides
pub sides-replace : (h : ℕ → Term) (right : Bool) (a : Atom) (l r : Term) → sides_of right a ≡ Some (l, r) → sides_of right (replace_in_atom h a) ≡ Some (replace h l, replace h r)
sides-replace h right (Holds p ts) l r e = absurd (cc)
sides-replace h false (Equal s t) l r e = let q : ◌≡◌ {A = Term × Term} (s, t) (l, r) = cc in ap (λ (x : Term × Term). Some (replace h x.0, replace h x.1)) q
sides-replace h true (Equal s t) l r e = let q : ◌≡◌ {A = Term × Term} (t, s) (l, r) = cc in ap (λ (x : Term × Term). Some (replace h x.0, replace h x.1)) q

-- a variable of the first side is one of the atom
pub sides-inner : (right : Bool) (a : Atom) (l r : Term) → sides_of right a ≡ Some (l, r) → (v : ℕ) → has v (term_variables l) ≡ true → has v (atom_variables a) ≡ true
sides-inner right (Holds p ts) l r e v h = absurd (cc)
sides-inner false (Equal s t) l r e v h = let q : ◌≡◌ {A = Term × Term} (s, t) (l, r) = cc in let f : l ≡ s = sym (ap (λ (x : Term × Term). x.0) q) in list_any-append (λ x. v == x) (term_variables s) (term_variables t ++ []) ∙ or_left _ _ (ap (λ x. has v (term_variables x)) (sym f) ∙ h)
sides-inner true (Equal s t) l r e v h = let q : ◌≡◌ {A = Term × Term} (t, s) (l, r) = cc in let f : l ≡ t = sym (ap (λ (x : Term × Term). x.0) q) in list_any-append (λ x. v == x) (term_variables s) (term_variables t ++ []) ∙ or_right _ _ (list_any-append (λ x. v == x) (term_variables t) [] ∙ or_left _ _ (ap (λ x. has v (term_variables x)) (sym f) ∙ h))

module _ (most_general : ForTermsBelow IsUnifierOrNone) (p q : Kept) (op : IsInOrder (clause_of p)) (oq : IsInOrder (clause_of q)) (i : ℕ) (right : Bool) (spot : Spot) (a b : Atom) (l r w : Term) (u : List Term)
    (first : slice_get (clause_of p).succedent i ≡ Some a) (sides : sides_of right a ≡ Some (l, r)) (second : atom_at spot.part spot.place (clause_of q) ≡ Some b) (under : term_under spot.path (renamed_apart p b) ≡ Some w)
    (unified : unifier (variables_of_both p q) l w ≡ Some u) where
  long : length u ≡ variables_of_both p q
  long = length-unifier (variables_of_both p q) l w u unified

  left_low : (v : ℕ) → has v (term_variables l) ≡ true → v < variables (clause_of p)
  left_low v h = atom_below (clause_of p) op Succedent i a first v (sides-inner right a l r sides v h)

  both_low : (v : ℕ) → has v (term_variables l) ≡ true → v < variables_of_both p q
  both_low v h = (let low = left_low v h in omega (arith, low))

  inner_low : (v : ℕ) → has v (term_variables w) ≡ true → v < variables_of_both p q
  inner_low v h = renamed_apart_below p q oq spot.part spot.place b second v (term_under-inner spot.path (renamed_apart p b) w under v h)

  -- the side and the subterm become one
  pub made_one : replace (entry (first_part p u).terms) l ≡ replace (entry u) w
  made_one =
      let vars : ℕ = variables_of_both p q in
      let x : HasVariablesBelow vars l = All-from_recursion (λ v. v < vars) _ (all_below vars (term_variables l) both_low) in
      let y : HasVariablesBelow vars w = All-from_recursion (λ v. v < vars) _ (all_below vars (term_variables w) inner_low) in
      let general : IsMostGeneral l w (entry u) = subst (λ o. MatchOption o (HasNoUnifier l w) (λ entries. IsMostGeneral l w (entry entries))) unified (most_general vars l w x y) in
      agree_sides (entry (first_part p u).terms) (entry u) l (λ v h. entry-take (variables (clause_of p)) u v (left_low v h)) ∙ general.unifies

  -- the rule applies
  pub superposed : (c : Clause) × (paramodulation i right spot (first_part p u).terms (second_part p u).terms (clause_of p) (clause_of q) ≡ Some c)
  superposed =
      let s : List Term = (first_part p u).terms in
      let t : List Term = (second_part p u).terms in
      let x : Clause = apply s (clause_of p) in
      let y : Clause = apply t (clause_of q) in
      let fit : (has_entries s (clause_of p) && has_entries t (clause_of q)) ≡ true = (λ k. first_fits p q u long k && second_fits p q u long k) in
      let left : slice_get x.succedent i ≡ Some (replace_in_atom (entry s) a) = slice_get-map (replace_in_atom (entry s)) (clause_of p).succedent i ∙ ap (option_map (replace_in_atom (entry s))) first in
      let there : atom_at spot.part spot.place y ≡ Some (replace_in_atom (entry u) (renamed_apart p b)) = part_replaced spot.part t ∙ slice_get-map (replace_in_atom (entry t)) (part_of (clause_of q) spot.part) spot.place ∙ ap (option_map (replace_in_atom (entry t))) second ∙ ap Some (second_agrees p q u long oq spot.part spot.place b second) in
      let same : term_eq (replace (entry u) w) (replace (entry s) l) ≡ true = ap (λ z. term_eq z (replace (entry s) l)) (sym made_one) ∙ term_eq-refl (replace (entry s) l) in (
        _,
        (λ k. if fit k then paramodulated i right spot x y else None)
            ∙ (λ k. option_and_then (rewritten i spot x y) (option_and_then (sides_of right) (left k)))
            ∙ ap (option_and_then (rewritten i spot x y)) (sides-replace (entry s) right a l r sides)
            ∙ (λ k. option_and_then (λ z. when (term_eq z (replace (entry s) l)) (in_order (joined (without Succedent i x) (with_term_at spot (replace (entry s) r) y)))) (option_and_then (term_under spot.path) (there k)))
            ∙ ap (option_and_then (λ z. when (term_eq z (replace (entry s) l)) (in_order (joined (without Succedent i x) (with_term_at spot (replace (entry s) r) y))))) (term_under-replace (entry u) spot.path (renamed_apart p b) w under)
            ∙ ap (λ z. when z (in_order (joined (without Succedent i x) (with_term_at spot (replace (entry s) r) y)))) same,
      )
    where
      part_replaced : (part : Part) (t : List Term) → slice_get (part_of (apply t (clause_of q)) part) spot.place ≡ slice_get (map (replace_in_atom (entry t)) (part_of (clause_of q) part)) spot.place
      part_replaced Constraint t = refl
      part_replaced Antecedent t = refl
      part_replaced Succedent t = refl

-- the one line that the unifier gives
pub superpose_there : ForTermsBelow IsUnifierOrNone → (p q : Kept) → IsInOrder (clause_of p) → IsInOrder (clause_of q) → (e : Reading) (spot : Spot) (a b : Atom) (w : Term) (u : List Term) → slice_get (clause_of p).succedent e.place ≡ Some a → sides_of e.right a ≡ Some (e.left_side, e.right_side) → atom_at spot.part spot.place (clause_of q) ≡ Some b → term_under spot.path (renamed_apart p b) ≡ Some w → unifier (variables_of_both p q) e.left_side w ≡ Some u → rewriting_unifier (variables_of_both p q) e (renamed_apart p b) spot.path ≡ Some u → (l : Line) × (superpose p q e spot ≡ l ∷ [])
superpose_there most_general p q op oq e spot a b w u first sides second under unified high =
    let made = superposed most_general p q op oq e.place e.right spot a b e.left_side e.right_side w u first sides second under unified in (
      _,
      (λ k. by_unifier_of_both p q (λ s t. Paramodulate e.place e.right spot s t) (option_and_then (λ b. rewriting_unifier (variables_of_both p q) e (renamed_apart p b) spot.path) (second k)))
          ∙ ap (by_unifier_of_both p q (λ s t. Paramodulate e.place e.right spot s t)) high
          ∙ ap (λ o. option_to_list (option_map (λ c. record { step = record { rule = Paramodulate e.place e.right spot (first_part p u) (second_part p u); parents = p.number ∷ q.number ∷ [] }; stated = c }) (option_map (λ c. states c (united p.statement.deps q.statement.deps)) o))) made.1,
    )
