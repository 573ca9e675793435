-- The sides of an instance of an equation, and what edits make of a state.
use Rattle.std.specs.Prelude.{List, fold, Option, option_and_then}
use Rattle.spl_terms.specs.declared.term.Term.{Term}
use Rattle.spl_terms.specs.Terms.{replace}
use Rattle.spl_truth.specs.Truth.{entry}
use Rattle.proof_steps.specs.declared.step.Statement.{Statement}
use Rattle.calculus.specs.declared.note.Edit.{Edit}
use Rattle.calculus.specs.Notes.{EditState, edit_once}

-- both sides with each variable replaced by its entry
abbrev pub instance_sides : List Term → Term → Term → Term × Term
instance_sides s left right = (replace (entry s) left, replace (entry s) right)

-- after all edits, in order, from here
abbrev pub edited_from : List Statement → Option EditState → List Edit → Option EditState
edited_from earlier from edits = fold (λ x e. option_and_then (λ y. edit_once earlier y e) x) from edits
