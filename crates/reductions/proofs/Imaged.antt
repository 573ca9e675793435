-- An edit that does in a clause what a step did in one that is mapped into it.
use Rattle.std.proofs.Common.{◌≡◌, inl, inr, ℕ, ◌<◌, Bool, true, false, not, Bor, if◌then◌else◌, ◌++◌, List, [], ◌∷◌, length, map, get_or, Option, Some, None, option_map, option_and_then, refl, sym, ap, subst, ◌∙◌}
use Rattle.std.specs.Prelude.{slice_get, unwrap_or, Contains, IsSome, IsSomeAnd, MatchBool, MatchOption}
use Rattle.std.specs.List.{list_any}
use Rattle.std.proofs.lemmas.Bool.{eq-eqb, eqb-true, false≢true}
use Rattle.std.proofs.lemmas.Option.{none-some, same_Some, slice_get-map, slice_get_within, slice_get-get_or}
use Rattle.std.proofs.lemmas.List.{length-map}
use Rattle.spl_terms.specs.declared.term.Symbol.{Symbol}
use Rattle.spl_terms.specs.declared.term.Term.{Term, Var}
use Rattle.spl_terms.specs.declared.atom.Atom.{Atom}
use Rattle.spl_terms.specs.declared.atom.Atom.TheVariants.{Holds, Equal}
use Rattle.spl_terms.specs.declared.clause.Part.{Part}
use Rattle.spl_terms.specs.declared.clause.Part.TheVariants.{Constraint, Antecedent, Succedent}
use Rattle.spl_terms.specs.declared.clause.Spot.{Spot}
use Rattle.spl_terms.specs.declared.clause.Clause.{Clause}
use Rattle.spl_terms.specs.Terms.{term_eq, replace}
use Rattle.spl_terms.specs.TermLaws.{term_eq-refl, term_eq-true}
use Rattle.spl_terms.specs.Clauses.{is_same, part_of, replace_in_atom}
use Rattle.spl_terms.specs.InOrder.{IsInOrder, variables}
use Rattle.spl_terms.specs.ListLaws.{get-there}
use Rattle.spl_terms.specs.SameLaws.{flipped, same_cases, same_self, same_flipped}
use Rattle.spl_truth.specs.declared.replace.Subst.{Subst}
use Rattle.spl_truth.specs.Truth.{entry, apply}
use Rattle.spl_truth.specs.InstanceLaws.{atom-replace-replace}
use Rattle.spl_truth.specs.Redundancy.{MapsApart, EachPart, Subsumes}
use Rattle.proof_steps.specs.declared.step.Statement.{Statement}
use Rattle.proof_steps.specs.declared.step.Line.{Line}
use Rattle.proof_steps.specs.Spots.{atom_at, changed_at, term_under, with_part, with_term_under, with_term_at}
use Rattle.proof_steps.specs.Steps.{when, numbered, has_entries, sides_of}
use Rattle.proof_steps.specs.StepLaws.{some_and}
use Rattle.calculus.specs.declared.kept.Kept.{Kept}
use Rattle.calculus.specs.declared.note.Edit.{Edit}
use Rattle.calculus.specs.Inferences.{clause_of}
use Rattle.calculus.specs.LiftingLaws.{agree_atom, atom_below}
use Rattle.calculus.specs.ReductionLaws.{IsStatedAs}
use Rattle.calculus.specs.Notes.{EditState, unit_atom, edit_sides, edited_atom, set_atom, edited_at, edit_once}
use Rattle.reductions.specs.Rewriting.{IsEquation}
use Rattle.subsume.specs.Subsuming.{SubsumesBy}
use Rattle.reductions.specs.Chains.{HasNumber, HasClause, HaveOneClause, AreInOrder, rewriting_of, IsRewrittenTo, ShrinksOrRewrites, shrinks, rewrites, AreTurned, IsMovedPath, IsImageEdit, IsEditBy, EditsAlong, edits_once}
use Rattle.reductions.proofs.Apart.{changed_apart, standing_subsumes, stands_itself, subsumes_joined}
use Rattle.reductions.proofs.Mapping.{atom_there}
use Rattle.reductions.proofs.Members.{among_at}
use Rattle.reductions.proofs.Paths.{changed_as, term_under-replace, with_term_under-replace, other_side_under, other_side_with}
use Rattle.reductions.proofs.Rewritings.{sides_replaced}
use Rattle.reductions.proofs.Stating.{given_some}

-- ---- entries under another substitution

entry_map : (g : ℕ → Term) (s : List Term) (v : ℕ) → v < length s → entry (map (replace g) s) v ≡ replace g (entry s v)
entry_map g s v low =
    let t = get-there s v low in
    ap (λ o. unwrap_or o (Var v)) (slice_get-map (replace g) s v ∙ ap (option_map (replace g)) t.1) ∙ sym (ap (λ o. replace g (unwrap_or o (Var v))) t.1)

module _ (d : Clause) (ordered : IsInOrder d) (g : ℕ → Term) (s : List Term) (fits : has_entries s d ≡ true) (right : Bool) (l r : Term) (is : IsEquation right d l r) where
  abbrev raised : List Term
  raised = map (replace g) s

  as_many : length s ≡ variables d
  as_many = eqb-true _ _ fits

  raised_atom : replace_in_atom (entry raised) is.equation ≡ replace_in_atom g (replace_in_atom (entry s) is.equation)
  raised_atom =
      agree_atom (entry raised) (λ v. replace g (entry s v)) is.equation
      (λ v h. entry_map g s v (subst (λ n. v < n) (sym as_many) (atom_below d ordered Succedent 0 is.equation (ap (λ c. slice_get c.succedent 0) is.alone) v h)))
      ∙ sym (atom-replace-replace g (entry s) is.equation)

  raised_sides : ◌≡◌ {A = Term × Term} (replace (entry raised) l, replace (entry raised) r) (replace g (replace (entry s) l), replace g (replace (entry s) r))
  raised_sides =
      same_Some _ _
      (sym (sides_replaced (entry raised) right is.equation l r is.sides)
      ∙ ap (sides_of right) raised_atom
      ∙ sides_replaced g right (replace_in_atom (entry s) is.equation) (replace (entry s) l) (replace (entry s) r) (sides_replaced (entry s) right is.equation l r is.sides))

  raised_fits : has_entries raised d ≡ true
  raised_fits = eq-eqb _ _ (length-map s (replace g) ∙ as_many)

  -- the sides of the instance
  pub edit_sides_are : (edit : Edit) → edit.right_to_left ≡ right → edit.subst.terms ≡ raised → edit_sides edit d ≡ Some (replace g (replace (entry s) l), replace g (replace (entry s) r))
  edit_sides_are edit e_right e_terms =
      (λ i. if has_entries (e_terms i) d then option_and_then (sides_of (e_right i)) (unit_atom (apply (e_terms i) d)) else None)
      ∙ ap (λ t. if t then option_and_then (sides_of right) (unit_atom (apply raised d)) else None) raised_fits
      ∙ ap (λ c. option_and_then (sides_of right) (unit_atom (apply raised c))) is.alone
      ∙ sides_replaced (entry raised) right is.equation l r is.sides
      ∙ ap Some raised_sides

-- ---- at the other atom

-- the subterm of an atom that is the same, and what it becomes with another term there
record IsDoneThere (a b : Atom) (path moved : List ℕ) (u w : Term) : Type 0 where
  pub stands : term_under moved b ≡ Some u
  pub same : is_same (with_term_under path w a) (with_term_under moved w b) ≡ true

done_there : (a b : Atom) (path moved : List ℕ) (u w : Term) → term_under path a ≡ Some u → IsMovedPath a b path moved → IsDoneThere a b path moved u w
done_there a b path moved u w stands (inl (same, way)) = record {
  stands = (λ i. term_under (way i) (sym same i)) ∙ stands;
  same = (λ i. is_same (with_term_under path w a) (with_term_under (way i) w (sym same i))) ∙ same_self (with_term_under path w a);
}
done_there a b path moved u w stands (inr (o, way)) =
    let turned : Atom = Equal o.left_side o.right_side in
    let there : term_under path turned ≡ Some u = ap (term_under path) (sym o.first) ∙ stands in record {
      stands = (λ i. term_under (way i) (o.second i)) ∙ other_side_under path o.left_side o.right_side u there;
      same = (λ i. is_same (with_term_under path w (o.first i)) (((λ k. with_term_under (way k) w (o.second k)) ∙ other_side_with path w o.left_side o.right_side u there) i)) ∙ same_flipped (with_term_under path w turned);
    }

-- ---- in the clause

changed_parts : (g : ℕ → Term) (part : Part) (k j : ℕ) (f f' : Atom → Atom) (c d : Clause) → MapsApart g (changed_at k f (part_of c part)) (changed_at j f' (part_of d part)) → EachPart (MapsApart g) c d → EachPart (MapsApart g) (with_part (changed_at k f) part c) (with_part (changed_at j f') part d)
changed_parts g Constraint k j f f' c d m each Constraint = m
changed_parts g Constraint k j f f' c d m each Antecedent = each Antecedent
changed_parts g Constraint k j f f' c d m each Succedent = each Succedent
changed_parts g Antecedent k j f f' c d m each Constraint = each Constraint
changed_parts g Antecedent k j f f' c d m each Antecedent = m
changed_parts g Antecedent k j f f' c d m each Succedent = each Succedent
changed_parts g Succedent k j f f' c d m each Constraint = each Constraint
changed_parts g Succedent k j f f' c d m each Antecedent = each Antecedent
changed_parts g Succedent k j f f' c d m each Succedent = m

same_part : (f f' : List Atom → List Atom) (part : Part) (c : Clause) → f (part_of c part) ≡ f' (part_of c part) → with_part f part c ≡ with_part f' part c
same_part f f' Constraint c e = λ i. record c { constraint = e i }
same_part f f' Antecedent c e = λ i. record c { antecedent = e i }
same_part f f' Succedent c e = λ i. record c { succedent = e i }

module _ (m : ℕ) (right : Bool) (spot : Spot) (s : Subst) (d e made now : Clause) (edit : Edit) (ordered : IsInOrder d) (w : IsRewrittenTo d right spot s e made) (x : IsImageEdit m right spot s e now edit) where
  abbrev g : ℕ → Term
  g = entry x.by

  abbrev old_term : Term
  old_term = replace g (replace (entry s.terms) w.left_side)

  abbrev new_term : Term
  new_term = replace g (replace (entry s.terms) w.right_side)

  abbrev image : Atom
  image = replace_in_atom g x.atom

  stands : term_under spot.path x.atom ≡ Some (replace (entry s.terms) w.left_side)
  stands = ap (term_under spot.path) (same_Some x.atom w.atom (sym x.there ∙ w.there)) ∙ w.stands

  done : IsDoneThere image x.image spot.path edit.spot.path old_term new_term
  done = done_there image x.image spot.path edit.spot.path old_term new_term (term_under-replace g spot.path x.atom (replace (entry s.terms) w.left_side) stands) x.path

  abbrev changed : Atom
  changed = with_term_under edit.spot.path new_term x.image

  image_at : atom_at edit.spot.part edit.spot.place now ≡ Some x.image
  image_at = ap (λ p. atom_at p edit.spot.place now) x.part ∙ x.image_there

  edited_here : edited_atom edit.spot.path x.image (old_term, new_term) ≡ Some changed
  edited_here =
      ap (option_and_then (λ u. when (term_eq u old_term) changed)) done.stands
      ∙ ap (λ t. when t changed) (term_eq-refl old_term)

  edit_done : (earlier : List Statement) (ever : Clause) → IsStatedAs earlier m d → edit_once earlier (record { now = now; ever = ever }) edit ≡ Some (set_atom edit.spot (record { now = now; ever = ever }) changed)
  edit_done earlier ever there =
      let state : EditState = record { now = now; ever = ever } in
      ap (option_and_then (edited_at state edit.spot)) (ap (option_and_then (λ c. edit_sides edit c.clause)) (ap (numbered earlier) x.number ∙ there.1) ∙ edit_sides_are d ordered g s.terms w.entries right w.left_side w.right_side w.is edit x.direction x.entries)
      ∙ ap (option_map (set_atom edit.spot state)) (ap (option_and_then (λ a. edited_atom edit.spot.path a (old_term, new_term))) image_at ∙ edited_here)

  -- the new side as the code takes it
  new_side : (side : Term) → side ≡ w.right_side → replace (entry edit.subst.terms) side ≡ new_term
  new_side side e = (λ i. replace (entry (x.entries i)) (e i)) ∙ ap (λ (p : Term × Term). p.1) (raised_sides d ordered g s.terms w.entries right w.left_side w.right_side w.is)

  module _ (new : Term) (after : Clause) (e_new : new ≡ new_term) (e_after : after ≡ with_term_at edit.spot new now) where
    after_changed : after ≡ with_part (changed_at edit.spot.place (λ b. changed)) edit.spot.part now
    after_changed =
        e_after
        ∙ ap (λ t. with_term_at edit.spot t now) e_new
        ∙ same_part (changed_at edit.spot.place (with_term_under edit.spot.path new_term)) (changed_at edit.spot.place (λ b. changed)) edit.spot.part now
        (changed_as edit.spot.place (with_term_under edit.spot.path new_term) (λ b. changed) (part_of now edit.spot.part) x.image image_at refl)

    pub is_edit : IsEditBy m d now after edit
    is_edit = record { number = x.number; atom = changed; makes = after_changed; once = edit_done }

    abbrev between : Clause
    between = with_term_at spot (replace (entry s.terms) w.right_side) e

    here_same : is_same image x.image ≡ true
    here_same = same_way x.path
      where
        same_way : IsMovedPath image x.image spot.path edit.spot.path → is_same image x.image ≡ true
        same_way (inl (same, way)) = ap (is_same image) (sym same) ∙ same_self image
        same_way (inr (o, way)) = (λ i. is_same (o.first i) (o.second i)) ∙ same_flipped (Equal o.left_side o.right_side)

    still_same : is_same (replace_in_atom g (with_term_under spot.path (replace (entry s.terms) w.right_side) x.atom)) changed ≡ true
    still_same = ap (λ y. is_same y changed) (with_term_under-replace g (replace (entry s.terms) w.right_side) spot.path x.atom (replace (entry s.terms) w.left_side) stands) ∙ done.same

    between_maps : EachPart (MapsApart g) between after
    between_maps = subst (EachPart (MapsApart g) between) (sym (after_changed ∙ ap (λ p. with_part (changed_at edit.spot.place (λ b. changed)) p now) x.part))
        (changed_parts g spot.part spot.place edit.spot.place (with_term_under spot.path (replace (entry s.terms) w.right_side)) (λ b. changed) e now
        (changed_apart g (part_of e spot.part) (part_of now spot.part) spot.place edit.spot.place x.atom x.image (with_term_under spot.path (replace (entry s.terms) w.right_side)) (λ b. changed) x.there x.image_there here_same still_same (x.maps spot.part))
        x.maps)

    pub image_subsumes : Subsumes made after
    image_subsumes =
        subsumes_joined made between after
        (subst (λ c. Subsumes c between) (sym w.makes) (standing_subsumes between between (stands_itself between)))
        (record { by = g; each = between_maps })

-- ---- as the code finds it

-- atoms that are the same are equal, unless they are equations; then the first sides tell
pub holds_equal : (a b : Atom) (p : Symbol) (ts : List Term) → a ≡ Holds p ts → is_same a b ≡ true → a ≡ b
holds_equal a b p ts is e = elim (same_cases a b e) [
  | inl same ↦ same
  | inr turned ↦ is ∙ sym (ap flipped is) ∙ turned
]

first_or : Term → Atom → Term
first_or t (Holds p ts) = t
first_or t (Equal x y) = x

second_or : Term → Atom → Term
second_or t (Holds p ts) = t
second_or t (Equal x y) = y

pub sides_tell : (a b : Atom) (l r x y : Term) (t : Bool) → a ≡ Equal l r → b ≡ Equal x y → is_same a b ≡ true → t ≡ term_eq l x → MatchBool (not t) (AreTurned a b) (a ≡ b)
unfolding first_or second_or
sides_tell a b l r x y true e_a e_b same is =
    let first : l ≡ x = term_eq-true l x (sym is) in
    elim (same_cases a b same) [
      | inl equal ↦ equal
      | inr turned ↦ (
          let both : Equal r l ≡ Equal x y = sym (ap flipped e_a) ∙ turned ∙ e_b in
          let crossed : r ≡ x = ap (first_or r) both in
          let other : l ≡ y = ap (second_or l) both in
          e_a ∙ (λ i. Equal (first i) ((crossed ∙ sym first ∙ other) i)) ∙ sym e_b
          )
    ]
sides_tell a b l r x y false e_a e_b same is = elim (same_cases a b same) [
  | inl equal ↦ (let first : l ≡ x = ap (first_or l) (sym e_a ∙ equal ∙ e_b) in absurd (false≢true (is ∙ ap (term_eq l) (sym first) ∙ term_eq-refl l)))
  | inr turned ↦ record { left_side = l; right_side = r; first = e_a; second = sym turned ∙ ap flipped e_a }
]

module _ (e now : Clause) (by : Subst) (part : Part) (place : ℕ) (low : place < length (part_of e part)) (read atoms : List Atom) (atom image : Atom) (maps : SubsumesBy e now by.terms) (e_read : read ≡ part_of e part) (e_atom : atom ≡ get_or read place atom) (e_image : image ≡ replace_in_atom (entry by.terms) atom) (e_atoms : atoms ≡ part_of now part) where
  there : slice_get (part_of e part) place ≡ Some atom
  there = atom_there (part_of e part) read place atom low e_read e_atom

  pub image_among : list_any (is_same image) atoms ≡ true
  image_among =
      let b = some_and (slice_get (part_of now part) ((maps.maps part).place place)) (λ b. is_same (replace_in_atom (entry by.terms) atom) b ≡ true) ((maps.maps part).same place atom there) in
      (λ i. list_any (is_same (e_image i)) (e_atoms i)) ∙ among_at (replace_in_atom (entry by.terms) atom) b.0 (part_of now part) ((maps.maps part).place place) b.1 b.2

  pub image_place : (o : Option ℕ) → MatchOption o (list_any (is_same image) atoms ≡ true → ⊥) (λ k. IsSomeAnd (slice_get atoms k) (λ b. is_same image b ≡ true)) → IsSome o
  image_place None h = absurd (h image_among)
  image_place (Some k) h = refl

  module _ (o : Option ℕ) (k : ℕ) (found : MatchOption o (list_any (is_same image) atoms ≡ true → ⊥) (λ k. IsSomeAnd (slice_get atoms k) (λ b. is_same image b ≡ true))) (is : o ≡ Some k) where
    image_here : (b : Atom) × (slice_get atoms k ≡ Some b) × (is_same image b ≡ true)
    image_here = some_and (slice_get atoms k) (λ b. is_same image b ≡ true) (given_some _ (λ k. IsSomeAnd (slice_get atoms k) (λ b. is_same image b ≡ true)) o k is found)

    pub image_low : k < length atoms
    image_low = slice_get_within atoms k image_here.0 image_here.1

    module _ (other : Atom) (e_other : other ≡ get_or atoms k other) where
      other_there : slice_get atoms k ≡ Some other
      other_there = slice_get-get_or atoms k other image_low ∙ ap Some (sym e_other)

      pub image_same : is_same image other ≡ true
      image_same = ap (is_same image) (same_Some other image_here.0 (sym other_there ∙ image_here.1)) ∙ image_here.2

      pub image_edit : (m : ℕ) (right : Bool) (path : List ℕ) (s : Subst) (moved : List ℕ) (terms : List Term) → IsMovedPath image other path moved → terms ≡ map (replace (entry by.terms)) s.terms → IsImageEdit m right (record { part = part; place = place; path = path }) s e now (record { equation = m; subst = record { terms = terms }; right_to_left = right; spot = record { part = part; place = k; path = moved } })
      image_edit m right path s moved terms way e_terms = record {
        by = by.terms;
        maps = maps.maps;
        number = refl;
        direction = refl;
        entries = e_terms;
        part = refl;
        atom = atom;
        there = there;
        image = other;
        image_there = ap (λ l. slice_get l k) (sym e_atoms) ∙ other_there;
        path = subst (λ a. IsMovedPath a other path moved) e_image way;
      }

-- ---- along a line

pub is_some_and : {A : Type 0} (o : Option A) (P : A → Type 0) → IsSomeAnd o P → IsSome o
is_some_and None P h = absurd h
is_some_and (Some x) P h = refl

-- a line that rewrites, as the code reads it, and the listed clause that it finds
module _ (listed : List Kept) (e : Clause) (l : Line) (m : ℕ) (right : Bool) (spot : Spot) (s : Subst) (is : rewriting_of l.step ≡ Some (m, right, spot, s)) (does : ShrinksOrRewrites listed e l) where
  rewriting_line : (d : Clause) × HasClause listed m d × IsRewrittenTo d right spot s e l.stated.clause
  rewriting_line = at does
    where
      at : ShrinksOrRewrites listed e l → (d : Clause) × HasClause listed m d × IsRewrittenTo d right spot s e l.stated.clause
      at (shrinks none h) = absurd (none-some (m, right, spot, s) (sym none ∙ is))
      at (rewrites k right' spot' s' d here h w) =
          let same : ◌≡◌ {A = ℕ × Bool × Spot × Subst} (k, right', spot', s') (m, right, spot, s) = same_Some (k, right', spot', s') (m, right, spot, s) (sym here ∙ is) in
          subst (λ (x : ℕ × Bool × Spot × Subst). (d : Clause) × HasClause listed x.0 d × IsRewrittenTo d x.1 x.2 x.3 e l.stated.clause) same (d, h, w)

  pub spot_low : spot.place < length (part_of e spot.part)
  spot_low = (let r = rewriting_line in slice_get_within (part_of e spot.part) spot.place r.2.atom r.2.there)

  pub number_there : HasNumber listed m
  number_there = (let r = rewriting_line in record { kept = r.1.kept; among = r.1.among; number = r.1.number })

  module _ (one : HaveOneClause listed) (kept : Kept) (among : Contains listed kept) (number : kept.number ≡ m) where
    is_equation : IsEquation right (clause_of kept) rewriting_line.2.left_side rewriting_line.2.right_side
    is_equation =
        let r = rewriting_line in
        subst (λ c. IsEquation right c r.2.left_side r.2.right_side) (one m r.0 (clause_of kept) r.1 (record { kept = kept; among = among; number = number; clause = refl })) r.2.is

    module _ (sides : Option (Bor Term)) (known : (x y : Term) → IsEquation right (clause_of kept) x y → IsSomeAnd sides (λ side. side.now ≡ y)) where
      pub side_there : IsSome sides
      side_there = is_some_and sides (λ side. side.now ≡ rewriting_line.2.right_side) (known rewriting_line.2.left_side rewriting_line.2.right_side is_equation)

      module _ (side : Bor Term) (e_side : sides ≡ Some side) (ordered : AreInOrder listed) (now after : Clause) (edit : Edit) (x : IsImageEdit m right spot s e now edit) (new : Term) (e_new : new ≡ replace (entry edit.subst.terms) side.now) (e_after : after ≡ with_term_at edit.spot new now) where
        abbrev rewritten : (d : Clause) × HasClause listed m d × IsRewrittenTo d right spot s e l.stated.clause
        rewritten = rewriting_line

        equation_ordered : IsInOrder rewritten.0
        equation_ordered = subst IsInOrder rewritten.1.clause (ordered rewritten.1.kept rewritten.1.among)

        side_is : side.now ≡ rewritten.2.right_side
        side_is = subst (λ o. IsSomeAnd o (λ side. side.now ≡ rewritten.2.right_side)) e_side (known rewritten.2.left_side rewritten.2.right_side is_equation)

        new_is : new ≡ replace (entry x.by) (replace (entry s.terms) rewritten.2.right_side)
        new_is = e_new ∙ new_side m right spot s rewritten.0 e l.stated.clause now edit equation_ordered rewritten.2 x side.now side_is

        pub edited_along : (old all : List Edit) → all ≡ old ++ edit ∷ [] → EditsAlong listed l now after old all
        edited_along old all more = edits_once m right spot s rewritten.0 edit is rewritten.1 (is_edit m right spot s rewritten.0 e l.stated.clause now edit equation_ordered rewritten.2 x new after new_is e_after) more

        pub subsumes_along : Subsumes l.stated.clause after
        subsumes_along = image_subsumes m right spot s rewritten.0 e l.stated.clause now edit equation_ordered rewritten.2 x new after new_is e_after

-- a line that doesn't rewrite
pub shrunk_along : (listed : List Kept) (e now : Clause) (l : Line) → rewriting_of l.step ≡ None → ShrinksOrRewrites listed e l → Subsumes e now → Subsumes l.stated.clause now
shrunk_along listed e now l none (shrinks _ h) maps = subsumes_joined l.stated.clause e now h maps
shrunk_along listed e now l none (rewrites m right spot s d here h w) maps = absurd (none-some (m, right, spot, s) (sym none ∙ here))
