-- What edits make, step by step.
use Rattle.std.proofs.Common.{◌≡◌, ℕ, zero, suc, ◌<◌, Bool, true, false, ◌&&◌, if◌then◌else◌, List, [], ◌∷◌, ◌++◌, length, drop, get_or, drop-cons, map, fold, Option, Some, None, option_map, option_and_then, refl, sym, ap, subst, ◌∙◌, arith}
use Rattle.std.specs.Prelude.{IsSomeAnd}
use Rattle.std.specs.List.{slice_get, slice_set}
use Rattle.spl_terms.specs.declared.term.Term.{Term}
use Rattle.spl_terms.specs.declared.atom.Atom.{Atom}
use Rattle.spl_terms.specs.declared.atom.Atom.TheVariants.{Holds, Equal}
use Rattle.spl_terms.specs.declared.clause.Clause.{Clause}
use Rattle.spl_terms.specs.Terms.{replace}
use Rattle.spl_terms.specs.Clauses.{no_atoms, replace_in_atom}
use Rattle.spl_truth.specs.Truth.{entry, apply}
use Rattle.proof_steps.specs.declared.step.Statement.{Statement}
use Rattle.proof_steps.specs.Steps.{has_entries, numbered, sides_of}
use Rattle.justification.specs.Instances.{instance_sides, edited_from}
use Rattle.calculus.specs.declared.note.Edit.{Edit}
use Rattle.calculus.specs.Notes.{EditState, only_atom, unit_atom, edit_sides, edited_atom, edited_at, edit_once}
use Rattle.proof_steps.specs.Spots.{changed_at}
use Rattle.justification.proofs.Paths.{changed_here}

-- ---- the sides of the instance are the instances of the sides

abbrev both_instances : List Term → Term × Term → Term × Term
both_instances s (l, r) = instance_sides s l r

only-instance : (s : List Term) (atoms : List Atom) → only_atom (map (replace_in_atom (entry s)) atoms) ≡ option_map (replace_in_atom (entry s)) (only_atom atoms)
only-instance s [] = refl
only-instance s (a ∷ []) = refl
only-instance s (a ∷ b ∷ more) = refl

none-instance : (s : List Term) (atoms : List Atom) → no_atoms (map (replace_in_atom (entry s)) atoms) ≡ no_atoms atoms
none-instance s [] = refl
none-instance s (a ∷ atoms) = refl

pub unit-instance : (s : List Term) (c : Clause) → unit_atom (apply s c) ≡ option_map (replace_in_atom (entry s)) (unit_atom c)
unit-instance s c =
    (λ i. if none-instance s c.constraint i && none-instance s c.antecedent i then only-instance s c.succedent i else None)
    ∙ by_test (no_atoms c.constraint && no_atoms c.antecedent)
  where
    by_test : (b : Bool) → (if b then option_map (replace_in_atom (entry s)) (only_atom c.succedent) else None) ≡ option_map (replace_in_atom (entry s)) (if b then only_atom c.succedent else None)
    by_test true = refl
    by_test false = refl

side-instances : (s : List Term) (right : Bool) (a : Atom) → sides_of right (replace_in_atom (entry s) a) ≡ option_map (both_instances s) (sides_of right a)
side-instances s right (Holds p ts) = refl
side-instances s false (Equal l r) = refl
side-instances s true (Equal l r) = refl

sides_under : (s : List Term) (right : Bool) (o : Option Atom) → option_and_then (sides_of right) (option_map (replace_in_atom (entry s)) o) ≡ option_map (both_instances s) (option_and_then (sides_of right) o)
sides_under s right None = refl
sides_under s right (Some a) = side-instances s right a

pub sides-instances : (e : Edit) (d : Clause) → edit_sides e d ≡ (if has_entries e.subst.terms d then option_map (both_instances e.subst.terms) (option_and_then (sides_of e.right_to_left) (unit_atom d)) else None)
sides-instances e d = ap (λ o. if has_entries e.subst.terms d then o else None) (ap (option_and_then (sides_of e.right_to_left)) (unit-instance e.subst.terms d) ∙ sides_under e.subst.terms e.right_to_left (unit_atom d))

-- ---- one edit

module _ (earlier : List Statement) (x : EditState) (e : Edit) where
  abbrev from_statement : Option Statement → Option EditState
  from_statement o = option_and_then (edited_at x e.spot) (option_and_then (λ d. edit_sides e d.clause) o)

  pub not_there : None ≡ numbered earlier e.equation → edit_once earlier x e ≡ None
  not_there n = ap from_statement (sym n)

  module _ (d : Statement) (there : Some d ≡ numbered earlier e.equation) where
    found : edit_once earlier x e ≡ option_and_then (edited_at x e.spot) (if has_entries e.subst.terms d.clause then option_map (both_instances e.subst.terms) (option_and_then (sides_of e.right_to_left) (unit_atom d.clause)) else None)
    found = ap from_statement (sym there) ∙ ap (option_and_then (edited_at x e.spot)) (sides-instances e d.clause)

    no_sides : (b : Bool) → option_and_then (edited_at x e.spot) (if b then option_map (both_instances e.subst.terms) None else None) ≡ None
    no_sides true = refl
    no_sides false = refl

    pub no_equation : option_and_then (sides_of e.right_to_left) (unit_atom d.clause) ≡ None → edit_once earlier x e ≡ None
    no_equation n = found ∙ ap (λ o. option_and_then (edited_at x e.spot) (if has_entries e.subst.terms d.clause then option_map (both_instances e.subst.terms) o else None)) n ∙ no_sides (has_entries e.subst.terms d.clause)

    pub other_entries : false ≡ has_entries e.subst.terms d.clause → edit_once earlier x e ≡ None
    other_entries n = found ∙ ap (λ b. option_and_then (edited_at x e.spot) (if b then option_map (both_instances e.subst.terms) (option_and_then (sides_of e.right_to_left) (unit_atom d.clause)) else None)) (sym n)

    pub with_sides : (l r : Term) → option_and_then (sides_of e.right_to_left) (unit_atom d.clause) ≡ Some (l, r) → true ≡ has_entries e.subst.terms d.clause → edit_once earlier x e ≡ edited_at x e.spot (instance_sides e.subst.terms l r)
    with_sides l r sides all =
        found
        ∙ (λ i. option_and_then (edited_at x e.spot) (if sym all i then option_map (both_instances e.subst.terms) (sides i) else None))

pub ruleset edit_laws = (not_there, no_equation, other_entries, with_sides)

-- ---- all edits

-- where one edit can't be applied, all can't
pub none_stays : (earlier : List Statement) (edits : List Edit) → edited_from earlier None edits ≡ None
none_stays earlier [] = refl
none_stays earlier (e ∷ edits) = none_stays earlier edits

-- ---- one part

get_there : (xs : List Atom) (k : ℕ) (x : Atom) → k < length xs → x ≡ get_or xs k x → slice_get xs k ≡ Some x
get_there [] k x h e = absurd (omega (arith, h))
get_there (y ∷ xs) zero x h e = ap Some (sym e)
get_there (y ∷ xs) (suc k) x h e = get_there xs k x (omega (arith, h)) e

-- the atom at the place is edited and put back, and a copy of it is kept
pub edited_part : (path : List ℕ) (sides : Term × Term) (now ever now' ever' : List Atom) (place : ℕ) (x made y copy : Atom) →
    place < length now → x ≡ get_or now place x → made ≡ x → edited_atom path made sides ≡ Some y → copy ≡ y → now' ≡ slice_set now place y → ever' ≡ ever ++ copy ∷ [] →
    IsSomeAnd (option_and_then (λ a. edited_atom path a sides) (slice_get now place)) (λ a. (now' ≡ changed_at place (λ b. a) now) × (ever' ≡ ever ++ a ∷ []))
edited_part path sides now ever now' ever' place x made y copy below at same edit copied put kept =
    let whole : option_and_then (λ a. edited_atom path a sides) (slice_get now place) ≡ Some y = ap (option_and_then (λ a. edited_atom path a sides)) (get_there now place x below at) ∙ ap (λ a. edited_atom path a sides) (sym same) ∙ edit in
    subst (λ o. IsSomeAnd o (λ a. (now' ≡ changed_at place (λ b. a) now) × (ever' ≡ ever ++ a ∷ []))) (sym whole)
    (put ∙ changed_here place now y below, kept ∙ ap (λ a. ever ++ a ∷ []) copied)

-- where the edit at this place can't be applied, all can't
pub stopped : (earlier : List Statement) (first x : EditState) (edits : List Edit) (i : ℕ) (e : Edit) →
    i < length edits → e ≡ get_or edits i e → edited_from earlier (Some x) (drop i edits) ≡ edited_from earlier (Some first) edits → edit_once earlier x e ≡ None → edited_from earlier (Some first) edits ≡ None
stopped earlier first x edits i e below at so_far none =
    sym so_far
    ∙ ap (edited_from earlier (Some x)) (drop-cons edits i e below ∙ ap (λ y. y ∷ drop (suc i) edits) (sym at))
    ∙ ap (λ o. edited_from earlier o (drop (suc i) edits)) none
    ∙ none_stays earlier (drop (suc i) edits)
