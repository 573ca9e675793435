-- All that has stood in a clause while it was edited is as true as the clause, wherever the equations are true.
use Rattle.std.proofs.Common.{◌≡◌, ◌⊎◌, inl, inr, ℕ, zero, suc, ◌+◌, Bool, true, false, not, ◌&&◌, ◌||◌, if◌then◌else◌, List, [], ◌∷◌, ◌++◌, length, map, fold, Contains, Option, Some, None, option_and_then, refl, sym, ap, subst, ◌∙◌, arith}
use Rattle.std.specs.List.{list_any, slice_get}
use Rattle.std.proofs.lemmas.Bool.{false≢true, and_parts, or_left, or_right}
use Rattle.std.proofs.lemmas.Option.{none-some, same_Some, slice_get_within}
use Rattle.std.proofs.Math.Bool.{or-false}
use Rattle.std.proofs.lemmas.List.Folds.{list_any-append}
use Rattle.std.proofs.lemmas.List.Elements.{All-nil, All-cons}
use Rattle.std.proofs.lemmas.List.{map-append}
use Rattle.spl_terms.specs.declared.term.Term.{Term}
use Rattle.spl_terms.specs.declared.atom.Atom.{Atom}
use Rattle.spl_terms.specs.declared.atom.Atom.TheVariants.{Holds, Equal}
use Rattle.spl_terms.specs.declared.clause.Part.{Part}
use Rattle.spl_terms.specs.declared.clause.Part.TheVariants.{Constraint, Antecedent, Succedent}
use Rattle.spl_terms.specs.declared.clause.Spot.{Spot}
use Rattle.spl_terms.specs.declared.clause.Clause.{Clause}
use Rattle.spl_terms.specs.Terms.{replace, term_eq}
use Rattle.spl_terms.specs.TermLaws.{term_eq-true}
use Rattle.spl_terms.specs.ListLaws.{get-left, get-right}
use Rattle.spl_terms.specs.Clauses.{no_atoms, part_of, replace_in_atom, replace_in}
use Rattle.spl_truth.specs.Truth.{entry, apply, truth, unit_clause, IsUsable}
use Rattle.spl_truth.specs.InstanceLaws.{at_each, AllGround, atom-ground, clause-ground, clause-replace-replace}
use Rattle.proof_steps.specs.declared.step.Statement.{Statement}
use Rattle.proof_steps.specs.Spots.{changed_at, with_part, atom_at, term_under, with_term_under}
use Rattle.proof_steps.specs.Steps.{when, numbered, has_entries, sides_of}
use Rattle.proof_steps.specs.StepLaws.{Contains-cons_cases}
use Rattle.calculus.specs.declared.note.Edit.{Edit}
use Rattle.calculus.specs.Notes.{EditState, only_atom, unit_atom, edit_sides, edited_atom, set_atom, edited_at, edit_once, edited}
use Rattle.justification.proofs.EditSteps.{none_stays}
use Rattle.justification.proofs.Forced.{Forced, forced_always, forced_then, forced_both, equally_turned}
use Rattle.justification.proofs.Options.{chosen, mapped, passed, chained}
use Rattle.justification.proofs.Replaced.{replaced_in_atom}

-- ---- atoms that stand in lists

-- the atom stands in the list
abbrev pub Stands : List Atom → Atom → Type 0
Stands xs a = (j : ℕ) × (slice_get xs j ≡ Some a)

stands_left : (xs ys : List Atom) (a : Atom) → Stands xs a → Stands (xs ++ ys) a
stands_left xs ys a (j, e) = (j, get-left xs ys j (slice_get_within xs j a e) ∙ e)

stands_last : (xs : List Atom) (a : Atom) → Stands (xs ++ a ∷ []) a
stands_last xs a = (length xs + 0, get-right xs (a ∷ []) 0)

stands_changed : (xs : List Atom) (k j : ℕ) (a b : Atom) → slice_get (changed_at k (λ c. a) xs) j ≡ Some b → (b ≡ a) ⊎ Stands xs b
stands_changed [] k j a b e = absurd (none-some b e)
stands_changed (x ∷ xs) zero zero a b e = inl (sym (same_Some a b e))
stands_changed (x ∷ xs) zero (suc j) a b e = inr (suc j, e)
stands_changed (x ∷ xs) (suc k) zero a b e = inr (0, e)
stands_changed (x ∷ xs) (suc k) (suc j) a b e = elim (stands_changed xs k j a b e) [ inl h ↦ inl h | inr s ↦ inr (suc s.0, s.1) ]

-- what stands there now is among what has stood there
abbrev pub IsKept : EditState → Type 0
IsKept x = (part : Part) (j : ℕ) (a : Atom) → slice_get (part_of x.now part) j ≡ Some a → Stands (part_of x.ever part) a

pub kept_first : (c : Clause) → IsKept (record { now = c; ever = c })
kept_first c part j a e = (j, e)

kept_set : (spot : Spot) (x : EditState) (a : Atom) → IsKept x → IsKept (set_atom spot x a)
kept_set spot x a kept = by_part spot.part
  where
    at_spot : (now ever : List Atom) → ((j : ℕ) (b : Atom) → slice_get now j ≡ Some b → Stands ever b) → (j : ℕ) (b : Atom) → slice_get (changed_at spot.place (λ c. a) now) j ≡ Some b → Stands (ever ++ a ∷ []) b
    at_spot now ever before j b e = elim (stands_changed now spot.place j a b e) [
      | inl h ↦ subst (Stands (ever ++ a ∷ [])) (sym h) (stands_last ever a)
      | inr s ↦ stands_left ever (a ∷ []) b (before s.0 b s.1)
    ]

    by_part : (p : Part) → IsKept (record { now = with_part (changed_at spot.place (λ b. a)) p x.now; ever = with_part (λ atoms. atoms ++ a ∷ []) p x.ever })
    by_part Constraint Constraint j b e = at_spot x.now.constraint x.ever.constraint (kept Constraint) j b e
    by_part Constraint Antecedent j b e = kept Antecedent j b e
    by_part Constraint Succedent j b e = kept Succedent j b e
    by_part Antecedent Constraint j b e = kept Constraint j b e
    by_part Antecedent Antecedent j b e = at_spot x.now.antecedent x.ever.antecedent (kept Antecedent) j b e
    by_part Antecedent Succedent j b e = kept Succedent j b e
    by_part Succedent Constraint j b e = kept Constraint j b e
    by_part Succedent Antecedent j b e = kept Antecedent j b e
    by_part Succedent Succedent j b e = at_spot x.now.succedent x.ever.succedent (kept Succedent) j b e

-- ---- one edit, taken apart

pub record IsEdited (earlier : List Statement) (x : EditState) (e : Edit) (y : EditState) : Type 0 where
  pub statement : Statement
  pub found : numbered earlier e.equation ≡ Some statement
  pub equation : Atom
  pub alone : unit_atom (apply e.subst.terms statement.clause) ≡ Some equation
  pub first_side : Term
  pub second_side : Term
  pub sides : sides_of e.right_to_left equation ≡ Some (first_side, second_side)
  pub atom : Atom
  pub there : atom_at e.spot.part e.spot.place x.now ≡ Some atom
  pub under : term_under e.spot.path atom ≡ Some first_side
  pub made : set_atom e.spot x (with_term_under e.spot.path second_side atom) ≡ y

pub taken_apart : (earlier : List Statement) (x : EditState) (e : Edit) (y : EditState) → edit_once earlier x e ≡ Some y → IsEdited earlier x e y
taken_apart earlier x e y is =
    let both = chained (edited_at x e.spot) (option_and_then (λ d. edit_sides e d.clause) (numbered earlier e.equation)) y is in
    let statement = chained (λ d. edit_sides e d.clause) (numbered earlier e.equation) both.0 both.1 in
    let entries = chosen (has_entries e.subst.terms statement.0.clause) (option_and_then (sides_of e.right_to_left) (unit_atom (apply e.subst.terms statement.0.clause))) both.0 statement.2 in
    let equation = chained (sides_of e.right_to_left) (unit_atom (apply e.subst.terms statement.0.clause)) both.0 entries.1 in
    let set' = mapped (set_atom e.spot x) (option_and_then (λ a. edited_atom e.spot.path a both.0) (atom_at e.spot.part e.spot.place x.now)) y both.2 in
    let atom = chained (λ a. edited_atom e.spot.path a both.0) (atom_at e.spot.part e.spot.place x.now) set'.0 set'.1 in
    let under = chained (λ u. when (term_eq u both.0.0) (with_term_under e.spot.path both.0.1 atom.0)) (term_under e.spot.path atom.0) set'.0 atom.2 in
    let made = passed (term_eq under.0 both.0.0) (with_term_under e.spot.path both.0.1 atom.0) set'.0 under.2 in
    record {
      statement = statement.0;
      found = statement.1;
      equation = equation.0;
      alone = equation.1;
      first_side = both.0.0;
      second_side = both.0.1;
      sides = equation.2;
      atom = atom.0;
      there = atom.1;
      under = under.1 ∙ ap Some (term_eq-true under.0 both.0.0 made.0);
      made = ap (set_atom e.spot x) made.1 ∙ set'.2;
    }

-- ---- truth

unit_is : (c : Clause) (q : Atom) → unit_atom c ≡ Some q → c ≡ unit_clause q
unit_is c q e =
    let shape = chosen _ _ q e in
    let none = and_parts _ _ shape.0 in
    (λ i. record { constraint = empty c.constraint none.0 i; antecedent = empty c.antecedent none.1 i; succedent = only c.succedent shape.1 i })
  where
    empty : (xs : List Atom) → no_atoms xs ≡ true → xs ≡ []
    empty [] h = refl
    empty (x ∷ xs) h = absurd (false≢true h)

    only : (xs : List Atom) → only_atom xs ≡ Some q → xs ≡ q ∷ []
    only [] h = absurd (none-some q h)
    only (x ∷ []) h = ap (λ y. y ∷ []) (same_Some x q h)
    only (x ∷ y ∷ xs) h = absurd (none-some q h)

absorbed : (b c : Bool) → (c ≡ true → b ≡ true) → (b || c) ≡ b
absorbed true c h = refl
absorbed false true h = sym (h refl)
absorbed false false h = refl

module _ (g : ℕ → Term) (q : Atom → Bool) where
  stands_passes : (xs : List Atom) (j : ℕ) (a : Atom) → slice_get xs j ≡ Some a → q (replace_in_atom g a) ≡ true → list_any q (at_each g xs) ≡ true
  stands_passes [] j a e h = absurd (none-some a e)
  stands_passes (x ∷ xs) zero a e h = or_left _ _ (ap (λ y. q (replace_in_atom g y)) (same_Some x a e) ∙ h)
  stands_passes (x ∷ xs) (suc j) a e h = or_right _ _ (stands_passes xs j a e h)

  -- one more atom, as true as one that stands there, changes nothing
  one_more : (xs : List Atom) (a b : Atom) → Stands xs a → q (replace_in_atom g a) ≡ q (replace_in_atom g b) → list_any q (at_each g (xs ++ b ∷ [])) ≡ list_any q (at_each g xs)
  one_more xs a b s same =
      ap (list_any q) (map-append (replace_in_atom g) xs (b ∷ []))
      ∙ list_any-append q (at_each g xs) (replace_in_atom g b ∷ [])
      ∙ ap (λ t. list_any q (at_each g xs) || t) (or-false (q (replace_in_atom g b)))
      ∙ absorbed _ _ (λ h. stands_passes xs s.0 a s.1 (same ∙ h))

more_atom : (g : ℕ → Term) (t : Atom → Bool) (part : Part) (c : Clause) (a b : Atom) → Stands (part_of c part) a → t (replace_in_atom g a) ≡ t (replace_in_atom g b) → truth t (replace_in g (with_part (λ atoms. atoms ++ b ∷ []) part c)) ≡ truth t (replace_in g c)
more_atom g t Constraint c a b s same = ap (λ x. (x || list_any (λ y. not (t y)) (at_each g c.antecedent)) || list_any t (at_each g c.succedent)) (one_more g (λ y. not (t y)) c.constraint a b s (ap not same))
more_atom g t Antecedent c a b s same = ap (λ x. (list_any (λ y. not (t y)) (at_each g c.constraint) || x) || list_any t (at_each g c.succedent)) (one_more g (λ y. not (t y)) c.antecedent a b s (ap not same))
more_atom g t Succedent c a b s same = ap (λ x. (list_any (λ y. not (t y)) (at_each g c.constraint) || list_any (λ y. not (t y)) (at_each g c.antecedent)) || x) (one_more g t c.succedent a b s same)

module _ (clauses : List Clause) (g : ℕ → Term) (all : AllGround g) where
  -- an instance of one of the clauses is true
  pub instance_forced : (d : Clause) → Contains clauses d → (s : List Term) → Forced clauses (λ t. truth t (replace_in g (apply s d)) ≡ true)
  instance_forced d among s = record {
    listed = replace_in g (apply s d) ∷ [];
    usable = All-cons (IsUsable clauses) (replace_in g (apply s d)) [] (inl (d, among, ((λ v. replace g (entry s v)), sym (clause-replace-replace g (entry s) d), clause-ground g all (apply s d)))) (All-nil (IsUsable clauses));
    forces = λ assignment e. (and_parts _ _ e).0;
  }

  sides_forced : (right : Bool) (e : Atom) (l r : Term) → sides_of right e ≡ Some (l, r) → Forced clauses (λ t. t (replace_in_atom g e) ≡ t (Equal (replace g l) (replace g r)))
  sides_forced right (Holds p ts) l r e = absurd (cc)
  sides_forced false (Equal s u) l r e =
      let is : (s, u) ≡ (l, r) = same_Some (s, u) (l, r) e in
      forced_always clauses (λ t. ap (λ (w : Term × Term). t (Equal (replace g w.0) (replace g w.1))) is)
  sides_forced true (Equal s u) l r e =
      let is : (u, s) ≡ (l, r) = same_Some (u, s) (l, r) e in
      forced_then clauses (equally_turned clauses (replace_in_atom g (Equal s u)) (atom-ground g all (Equal s u)))
      (λ t h. h ∙ ap (λ (w : Term × Term). t (Equal (replace g w.0) (replace g w.1))) is)

  -- after an edit all that has stood there is as true as before
  edit_forced : (earlier : List Statement) (x : EditState) (e : Edit) (y : EditState) → IsKept x → (w : IsEdited earlier x e y) → Contains clauses w.statement.clause → Forced clauses (λ t. truth t (replace_in g y.ever) ≡ truth t (replace_in g x.ever))
  edit_forced earlier x e y kept w among =
      let l : Term = w.first_side in
      let r : Term = w.second_side in
      let a : Atom = w.atom in
      let a' : Atom = with_term_under e.spot.path r a in
      forced_then clauses
      (forced_both clauses (forced_both clauses (instance_forced w.statement.clause among e.subst.terms) (sides_forced e.right_to_left w.equation l r w.sides)) (replaced_in_atom clauses g all l r e.spot.path a w.under))
      (λ t h.
      let equation : t (replace_in_atom g w.equation) ≡ true = sym (or-false (t (replace_in_atom g w.equation))) ∙ ap (λ c. truth t (replace_in g c)) (sym (unit_is _ w.equation w.alone)) ∙ h.0.0 in
      let same : t (replace_in_atom g a) ≡ t (replace_in_atom g a') = h.1 (sym h.0.1 ∙ equation) in
      ap (λ (z : EditState). truth t (replace_in g z.ever)) (sym w.made)
      ∙ more_atom g t e.spot.part x.ever a a' (kept e.spot.part e.spot.place a w.there) same)

  module _ (earlier : List Statement) where
    abbrev step : Option EditState → Edit → Option EditState
    step x e = option_and_then (λ y. edit_once earlier y e) x

    edits_from : (edits : List Edit) (x w : EditState) → IsKept x →
        ((n : ℕ) (d : Statement) → Contains (map (λ (e : Edit). e.equation) edits) n → numbered earlier n ≡ Some d → Contains clauses d.clause) →
        fold step (Some x) edits ≡ Some w → Forced clauses (λ t. truth t (replace_in g w.ever) ≡ truth t (replace_in g x.ever))
    edits_from [] x w kept among is = forced_always clauses (λ t. ap (λ (z : EditState). truth t (replace_in g z.ever)) (sym (same_Some x w is)))
    edits_from (e ∷ edits) x w kept among is = by_answer (λ y k l. edits_from edits y w k (λ n d c. among n d (later n c)) l) (edit_once earlier x e) refl is
      where
        later : (n : ℕ) → Contains (map (λ (e : Edit). e.equation) edits) n → Contains (map (λ (e : Edit). e.equation) (e ∷ edits)) n
        later n (k, below, is) = (suc k, omega (arith, below), is)

        by_answer : ((y : EditState) → IsKept y → fold step (Some y) edits ≡ Some w → Forced clauses (λ t. truth t (replace_in g w.ever) ≡ truth t (replace_in g y.ever))) → (o : Option EditState) → edit_once earlier x e ≡ o → fold step o edits ≡ Some w → Forced clauses (λ t. truth t (replace_in g w.ever) ≡ truth t (replace_in g x.ever))
        by_answer rest None h k = absurd (none-some w (sym (none_stays earlier edits) ∙ k))
        by_answer rest (Some y) h k =
            let first = taken_apart earlier x e y h in
            let kept_y : IsKept y = subst IsKept first.made (kept_set e.spot x (with_term_under e.spot.path first.second_side first.atom) kept) in
            forced_then clauses
            (forced_both clauses (edit_forced earlier x e y kept first (among e.equation first.statement (0, omega arith, refl) first.found)) (rest y kept_y k))
            (λ t h. h.1 ∙ h.0)

    -- all that has stood in a clause is as true as the clause
    pub edits_forced : (c : Clause) (edits : List Edit) (w : EditState) →
        ((n : ℕ) (d : Statement) → Contains (map (λ (e : Edit). e.equation) edits) n → numbered earlier n ≡ Some d → Contains clauses d.clause) →
        edited earlier c edits ≡ Some w → Forced clauses (λ t. truth t (replace_in g w.ever) ≡ truth t (replace_in g c))
    edits_forced c edits w among is = edits_from edits (record { now = c; ever = c }) w (kept_first c) among is
