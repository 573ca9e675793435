-- Notes that say why a clause may be hidden: a tautology, a clause that another one subsumes, or a clause that equations
-- rewrite into what another one subsumes (Weidenbach 2001, the section on reductions). The form of notes is this
-- project's own.
use Rattle.std.specs.Prelude.{◌≡◌, ◌⊎◌, ℕ, ◌<◌, true, ◌&&◌, if◌then◌else◌, List, [], ◌∷◌, ◌++◌, map, fold, Option, Some, None, option_map, option_and_then, Contains}
use Rattle.spl_terms.specs.declared.term.Term.{Term}
use Rattle.spl_terms.specs.declared.atom.Atom.{Atom}
use Rattle.spl_terms.specs.declared.clause.Spot.{Spot}
use Rattle.spl_terms.specs.declared.clause.Clause.{Clause}
use Rattle.spl_terms.specs.Terms.{term_eq}
use Rattle.spl_terms.specs.Clauses.{no_atoms}
use Rattle.spl_truth.specs.declared.replace.Subst.{Subst}
use Rattle.spl_truth.specs.Truth.{entry, apply}
use Rattle.spl_truth.specs.Redundancy.{is_tautology}
use Rattle.proof_steps.specs.declared.step.Statement.{Statement}
use Rattle.proof_steps.specs.Spots.{atom_at, term_under, with_term_under, changed_at, with_part}
use Rattle.proof_steps.specs.Steps.{when, numbered, has_entries, sides_of}
use Rattle.spl_truth.specs.Redundancy.{Maps, MapsApart, EachPart}
use Rattle.calculus.specs.declared.note.Edit.{Edit}
use Rattle.calculus.specs.declared.note.Why.{Why}
use Rattle.calculus.specs.declared.note.Why.TheVariants.{Tautology, Subsumed, Rewritten}
use Rattle.calculus.specs.declared.note.HideNote.{HideNote}
use Rattle.proof_steps.specs.Covering.{IsVariant}

-- ---- reasons

-- the numbers of the clauses for which the hidden one isn't needed
abbrev pub reasons_of : Why → List ℕ
reasons_of Tautology = []
reasons_of (Subsumed by s) = by ∷ []
reasons_of (Rewritten reduct s edits) = reduct ∷ map (λ e. e.equation) edits

-- ---- edits

-- a clause while it is edited: what stands there now, and all atoms that have stood there, each in its part
pub record EditState : Type 0 where
  pub now : Clause
  pub ever : Clause

abbrev pub only_atom : List Atom → Option Atom
only_atom [] = None
only_atom (a ∷ []) = Some a
only_atom (a ∷ b ∷ more) = None

-- the one atom of a clause that has no other, where it is in the succedent
abbrev pub unit_atom : Clause → Option Atom
unit_atom c = if no_atoms c.constraint && no_atoms c.antecedent then only_atom c.succedent else None

-- the sides of the instance of the equation, in the direction of the edit
abbrev pub edit_sides : Edit → Clause → Option (Term × Term)
edit_sides e d = if has_entries e.subst.terms d then option_and_then (sides_of e.right_to_left) (unit_atom (apply e.subst.terms d)) else None

-- the atom with the second side in the place of the first, where that stands at the path
abbrev pub edited_atom : List ℕ → Atom → Term × Term → Option Atom
edited_atom path a (l, r) = option_and_then (λ u. when (term_eq u l) (with_term_under path r a)) (term_under path a)

-- the atom stands at the spot from now on
abbrev pub set_atom : Spot → EditState → Atom → EditState
set_atom spot x a = record { now = with_part (changed_at spot.place (λ b. a)) spot.part x.now; ever = with_part (λ atoms. atoms ++ a ∷ []) spot.part x.ever }

-- the state after the first of these sides was replaced at the spot by the second; nothing where it doesn't stand there
abbrev pub edited_at : EditState → Spot → Term × Term → Option EditState
edited_at x spot sides = option_map (set_atom spot x) (option_and_then (λ a. edited_atom spot.path a sides) (atom_at spot.part spot.place x.now))

-- after one edit
abbrev pub edit_once : List Statement → EditState → Edit → Option EditState
edit_once earlier x e = option_and_then (edited_at x e.spot) (option_and_then (λ d. edit_sides e d.clause) (numbered earlier e.equation))

-- after all edits, in order
abbrev pub edited : List Statement → Clause → List Edit → Option EditState
edited earlier c edits = fold (λ x e. option_and_then (λ y. edit_once earlier y e) x) (Some (record { now = c; ever = c })) edits

-- ---- justified notes

-- the number is that of the first equation
abbrev pub IsFirstEquation : ℕ → List Edit → Type 0
IsFirstEquation n [] = ⊥
IsFirstEquation n (e ∷ edits) = n ≡ e.equation

-- clause number `by` maps into the hidden clause, different places to different places; of two variants it is the older one
pub record IsSubsumedNote (earlier : List Statement) (hidden by : ℕ) (s : Subst) (c : Clause) : Type 0 where
  pub reason : Statement
  pub found : numbered earlier by ≡ Some reason
  pub entries : has_entries s.terms reason.clause ≡ true
  pub maps : EachPart (MapsApart (entry s.terms)) reason.clause c
  pub older : IsVariant reason.clause c → by < hidden

-- the reduct maps into a clause, where two of its atoms may meet in one
pub record IsMapped (earlier : List Statement) (reduct : ℕ) (s : Subst) (c : Clause) : Type 0 where
  pub reason : Statement
  pub found : numbered earlier reduct ≡ Some reason
  pub entries : has_entries s.terms reason.clause ≡ true
  pub maps : EachPart (Maps (entry s.terms)) reason.clause c

-- the edits apply, and the reduct maps into all that has stood there; where that is a tautology, the first equation
-- counts as mapped
pub record IsRewrittenNote (earlier : List Statement) (reduct : ℕ) (s : Subst) (edits : List Edit) (c : Clause) : Type 0 where
  pub whole : EditState
  pub applied : edited earlier c edits ≡ Some whole
  pub maps : IsMapped earlier reduct s whole.ever ⊎ (IsFirstEquation reduct edits × (is_tautology whole.ever ≡ true))

-- the case of the note holds for this clause
abbrev pub IsReasoned : List Statement → ℕ → Clause → Why → Type 0
IsReasoned earlier hidden c Tautology = is_tautology c ≡ true
IsReasoned earlier hidden c (Subsumed by s) = IsSubsumedNote earlier hidden by s c
IsReasoned earlier hidden c (Rewritten reduct s edits) = IsRewrittenNote earlier reduct s edits c

-- the hidden clause is there and is no reason for itself, and the case of the note holds
pub record IsJustified (note : HideNote) (earlier : List Statement) : Type 0 where
  pub hidden : Statement
  pub found : numbered earlier note.hidden ≡ Some hidden
  pub others : Contains (reasons_of note.why) note.hidden → ⊥
  pub reasoned : IsReasoned earlier note.hidden hidden.clause note.why
