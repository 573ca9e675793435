-- Chains of reductions, and notes that hide the first clause of a chain.
use Rattle.std.specs.Prelude.{◌≡◌, ◌⊎◌, ℕ, zero, suc, Bool, true, List, [], ◌∷◌, ◌++◌, map, length, Contains, Option, Some, None, slice_get}
use Rattle.std.specs.List.{list_any}
use Rattle.spl_terms.specs.declared.term.Term.{Term}
use Rattle.spl_terms.specs.declared.atom.Atom.{Atom}
use Rattle.spl_terms.specs.declared.atom.Atom.TheVariants.{Equal}
use Rattle.spl_terms.specs.declared.clause.Part.{Part}
use Rattle.spl_terms.specs.declared.clause.Spot.{Spot}
use Rattle.spl_terms.specs.declared.clause.Clause.{Clause}
use Rattle.spl_terms.specs.Terms.{replace}
use Rattle.spl_terms.specs.Clauses.{in_order, is_same, part_of, replace_in_atom}
use Rattle.spl_terms.specs.InOrder.{IsInOrder}
use Rattle.spl_truth.specs.declared.replace.Subst.{Subst}
use Rattle.spl_truth.specs.Truth.{entry}
use Rattle.spl_truth.specs.Redundancy.{MapsApart, EachPart, Subsumes}
use Rattle.proof_steps.specs.declared.step.Rule.{Rule}
use Rattle.proof_steps.specs.declared.step.Rule.TheVariants.{Paramodulate}
use Rattle.proof_steps.specs.declared.step.Step.{Step}
use Rattle.proof_steps.specs.declared.step.Statement.{Statement}
use Rattle.proof_steps.specs.declared.step.Line.{Line}
use Rattle.proof_steps.specs.Spots.{changed_at, with_part, term_under, with_term_at}
use Rattle.proof_steps.specs.Steps.{has_entries}
use Rattle.calculus.specs.declared.kept.Kept.{Kept}
use Rattle.calculus.specs.declared.note.Edit.{Edit}
use Rattle.calculus.specs.declared.note.HideNote.{HideNote}
use Rattle.calculus.specs.Inferences.{clause_of}
use Rattle.calculus.specs.Reductions.{AreReductions}
use Rattle.calculus.specs.ReductionLaws.{end_of, AreConcludedFrom, IsStatedAs}
use Rattle.calculus.specs.Notes.{reasons_of, edit_once, edited, set_atom, IsJustified}
use Rattle.reductions.specs.Rewriting.{IsEquation}

-- ---- a chain

-- one of the clauses has this number
pub record HasNumber (listed : List Kept) (m : ℕ) : Type 0 where
  pub kept : Kept
  pub among : Contains listed kept
  pub number : kept.number ≡ m

-- one of them is this clause, with this number
pub record HasClause (listed : List Kept) (m : ℕ) (d : Clause) : Type 0 where
  pub kept : Kept
  pub among : Contains listed kept
  pub number : kept.number ≡ m
  pub clause : clause_of kept ≡ d

-- the same, and the number isn't that of the hidden clause
abbrev pub HasOther : ℕ → List Kept → ℕ → Clause → Type 0
HasOther hidden listed m d = HasClause listed m d × (m ≡ hidden → ⊥)

-- each is stated with its number
abbrev pub AreStatedIn : List Statement → List Kept → Type 0
AreStatedIn earlier listed = (k : Kept) → Contains listed k → IsStatedAs earlier k.number (clause_of k)

-- the lines are a chain of reductions that begins with clause n, which is e: each reduces what the one before it states, by
-- itself or by one of the listed clauses, and states what its step concludes
pub record IsChain (hidden : ℕ) (listed : List Kept) (n : ℕ) (e : Clause) (lines : List Line) : Type 0 where
  pub input : List Clause
  pub earlier : List Statement
  pub first : IsStatedAs earlier n e
  pub others : AreStatedIn earlier listed
  pub reductions : AreReductions (HasOther hidden listed) (suc (length earlier)) n e lines
  pub concluded : AreConcludedFrom input earlier lines

-- ---- its note

-- the note hides the first clause of the chain; its reasons are the reduct and listed clauses, and it is justified wherever
-- these clauses and both ends of the chain have their numbers
pub record IsNoteOf (number : ℕ) (e : Clause) (lines : List Line) (reduct : ℕ) (listed : List Kept) (note : HideNote) : Type 0 where
  pub hides : note.hidden ≡ number
  pub reasons : (m : ℕ) → Contains (reasons_of note.why) m → (m ≡ reduct) ⊎ HasNumber listed m
  pub justified : (earlier : List Statement) → IsStatedAs earlier number e → IsStatedAs earlier reduct (end_of e lines) → AreStatedIn earlier listed → IsJustified note earlier

-- ---- one line

abbrev pub rewriting_of_rule : Rule → List ℕ → Option (ℕ × Bool × Spot × Subst)
rewriting_of_rule (Paramodulate i right spot s t) (m ∷ n ∷ []) = Some (m, right, spot, s)
rewriting_of_rule _ _ = None

-- the number of the equation by which the step rewrites, its direction, the spot, and the entries for its variables
abbrev pub rewriting_of : Step → Option (ℕ × Bool × Spot × Subst)
rewriting_of st = rewriting_of_rule st.rule st.parents

-- an instance of the equation rewrites the first clause into the second one, up to order
pub record IsRewrittenTo (d : Clause) (right : Bool) (spot : Spot) (s : Subst) (e made : Clause) : Type 0 where
  pub left_side : Term
  pub right_side : Term
  pub is : IsEquation right d left_side right_side
  pub entries : has_entries s.terms d ≡ true
  pub atom : Atom
  pub there : slice_get (part_of e spot.part) spot.place ≡ Some atom
  pub stands : term_under spot.path atom ≡ Some (replace (entry s.terms) left_side)
  pub makes : made ≡ in_order (with_term_at spot (replace (entry s.terms) right_side) e)

-- the line rewrites the clause by a listed one, or what it states subsumes the clause
pub data ShrinksOrRewrites (listed : List Kept) (e : Clause) (l : Line) : Type 0 where
  shrinks : rewriting_of l.step ≡ None → Subsumes l.stated.clause e → ShrinksOrRewrites listed e l
  rewrites : (m : ℕ) (right : Bool) (spot : Spot) (s : Subst) (d : Clause) → rewriting_of l.step ≡ Some (m, right, spot, s) → HasClause listed m d → IsRewrittenTo d right spot s e l.stated.clause → ShrinksOrRewrites listed e l

-- listed clauses with one number are equal
abbrev pub HaveOneClause : List Kept → Type 0
HaveOneClause listed = (m : ℕ) (c d : Clause) → HasClause listed m c → HasClause listed m d → c ≡ d

-- each is in order
abbrev pub AreInOrder : List Kept → Type 0
AreInOrder listed = (k : Kept) → Contains listed k → IsInOrder (clause_of k)

-- ---- its edit

-- a path to a term of an equation, where the sides are exchanged
abbrev pub to_other_side : List ℕ → List ℕ
to_other_side [] = []
to_other_side (zero ∷ path) = 1 ∷ path
to_other_side (suc k ∷ path) = 0 ∷ path

-- the second atom is the first one, an equation, with its sides exchanged
pub record AreTurned (a b : Atom) : Type 0 where
  pub left_side : Term
  pub right_side : Term
  pub first : a ≡ Equal left_side right_side
  pub second : b ≡ Equal right_side left_side

-- a path of the first atom as one of the second one, which is the same up to exchanged sides
abbrev pub IsMovedPath : (a b : Atom) (path moved : List ℕ) → Type 0
IsMovedPath a b path moved = ((a ≡ b) × (moved ≡ path)) ⊎ (AreTurned a b × (moved ≡ to_other_side path))

-- the first clause is mapped into the second one, and the edit rewrites there the image of what stands at the spot
pub record IsImageEdit (m : ℕ) (right : Bool) (spot : Spot) (s : Subst) (e now : Clause) (edit : Edit) : Type 0 where
  pub by : List Term
  pub maps : EachPart (MapsApart (entry by)) e now
  pub number : edit.equation ≡ m
  pub direction : edit.right_to_left ≡ right
  pub entries : edit.subst.terms ≡ map (replace (entry by)) s.terms
  pub part : edit.spot.part ≡ spot.part
  pub atom : Atom
  pub there : slice_get (part_of e spot.part) spot.place ≡ Some atom
  pub image : Atom
  pub image_there : slice_get (part_of now spot.part) edit.spot.place ≡ Some image
  pub path : IsMovedPath (replace_in_atom (entry by) atom) image spot.path edit.spot.path

-- the edit by this equation, which has number m, makes the second clause of the first one
pub record IsEditBy (m : ℕ) (d before after : Clause) (edit : Edit) : Type 0 where
  pub number : edit.equation ≡ m
  pub atom : Atom
  pub makes : after ≡ with_part (changed_at edit.spot.place (λ b. atom)) edit.spot.part before
  pub once : (earlier : List Statement) (ever : Clause) → IsStatedAs earlier m d → edit_once earlier (record { now = before; ever = ever }) edit ≡ Some (set_atom edit.spot (record { now = before; ever = ever }) atom)

-- where the line rewrites, one edit more does so too; else nothing is done
pub data EditsAlong (listed : List Kept) (l : Line) (before after : Clause) (old new : List Edit) : Type 0 where
  edits_nothing : rewriting_of l.step ≡ None → after ≡ before → new ≡ old → EditsAlong listed l before after old new
  edits_once : (m : ℕ) (right : Bool) (spot : Spot) (s : Subst) (d : Clause) (edit : Edit) → rewriting_of l.step ≡ Some (m, right, spot, s) → HasClause listed m d → IsEditBy m d before after edit → new ≡ old ++ edit ∷ [] → EditsAlong listed l before after old new

-- ---- all edits

-- their equations are listed and don't have the number of the hidden clause, and they make the second clause of the first one,
-- wherever the listed clauses have their numbers; what stands there now is among what has stood there
pub record AreEditsTo (hidden : ℕ) (listed : List Kept) (e now : Clause) (edits : List Edit) : Type 0 where
  pub numbers : (m : ℕ) → Contains (map (λ x. x.equation) edits) m → HasNumber listed m × (m ≡ hidden → ⊥)
  pub leads : (earlier : List Statement) → AreStatedIn earlier listed → (ever : Clause) × (edited earlier e edits ≡ Some (record { now = now; ever = ever })) × ((part : Part) (k : ℕ) (a : Atom) → slice_get (part_of now part) k ≡ Some a → list_any (is_same a) (part_of ever part) ≡ true)
