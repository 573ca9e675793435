use Rattle.std.proofs.Common.{◌≡◌, ◌+◌, ◌*◌, max, drop}
use denote.Param.Weighed.{most}
use Rattle.normal_form.specs.Choices.{chosen_in_one, chosen_in_each}
use Rattle.normal_form.specs.Gathering.{gathered}
use Rattle.normal_form.specs.Blocks.{place_below}
use Rattle.normal_form.specs.Listing.{forms_of}
use Rattle.normal_form.proofs.Finding.{CanFind, CanTake}
use Rattle.formulas.specs.Trees.{tree_size}
use Rattle.normal_form.proofs.walk.+walk.Given as goal

abbrev pub decreases-add : goal.decreases-add
decreases-add l = 4 * tree_size l.formula.now + 3

abbrev pub decreases-add_positive : goal.decreases-add_positive
decreases-add_positive l = 4 * tree_size l.formula.now + 2

abbrev pub decreases-add_negative : goal.decreases-add_negative
decreases-add_negative l = 4 * tree_size l.formula.now + 2

abbrev pub decreases-add_both : goal.decreases-add_both
decreases-add_both l = 4 * max (tree_size l.left.now) (tree_size l.right.now) + 4

abbrev pub decreases-add_one : goal.decreases-add_one
decreases-add_one l = 4 * max (tree_size l.left.now) (tree_size l.right.now) + 4

abbrev pub decreases-add_equivalence : goal.decreases-add_equivalence
decreases-add_equivalence l = 4 * max (tree_size l.left.now) (tree_size l.right.now) + 5

abbrev pub decreases-add_difference : goal.decreases-add_difference
decreases-add_difference l = 4 * max (tree_size l.left.now) (tree_size l.right.now) + 5

abbrev pub decreases-add_universal : goal.decreases-add_universal
decreases-add_universal l = 4 * tree_size l.part.now + 4

abbrev pub decreases-add_existential : goal.decreases-add_existential
decreases-add_existential l = 4 * tree_size l.part.now + 4

abbrev pub decreases-add_in_one : goal.decreases-add_in_one
decreases-add_in_one l = 4 * most (λ t. tree_size t + 1) l.parts.now + 1

abbrev pub invariant-add_in_one-loop-part : goal.invariant-add_in_one-loop-part
invariant-add_in_one-loop-part l = record {
  can : CanFind (forms_of l.fn.sign (drop l.part-index l.parts)) l.next l.place;
  same : chosen_in_one (forms_of l.fn.sign (drop l.part-index l.parts)) (place_below l.fn.walk.scopes l.next) l.place ≡ chosen_in_one (forms_of l.fn.sign l.parts) (place_below l.fn.walk.scopes l.fn.next) l.fn.place;
  kept : l.walk.scopes ≡ l.fn.walk.scopes;
  as_before : l.walk.clause ≡ l.fn.walk.clause;
}

abbrev pub decreases-add_in_each : goal.decreases-add_in_each
decreases-add_in_each l = 4 * most (λ t. tree_size t + 1) l.parts.now + 1

abbrev pub invariant-add_in_each-loop-part : goal.invariant-add_in_each-loop-part
invariant-add_in_each-loop-part l = record {
  can : CanTake (forms_of l.fn.sign (drop l.part-index l.parts)) l.next l.place l.rest;
  made : gathered l.walk.clause (chosen_in_each (forms_of l.fn.sign (drop l.part-index l.parts)) (place_below l.fn.walk.scopes l.next) l.place) ≡ gathered l.fn.walk.clause (chosen_in_each (forms_of l.fn.sign l.parts) (place_below l.fn.walk.scopes l.fn.next) l.fn.place);
  kept : l.walk.scopes ≡ l.fn.walk.scopes;
}
