use Rattle.std.proofs.Common.{◌≡◌, ◌++◌, ◌+◌, ◌*◌, ◌≤◌, max, drop}
use denote.Param.Weighed.{most}
use Rattle.formulas.specs.Trees.{tree_size}
use Rattle.normal_form.specs.Blocks.{place_below}
use Rattle.normal_form.specs.Listing.{forms_of, arities_in}
use Rattle.normal_form.specs.Walking.{skolem_count}
use Rattle.normal_form.proofs.arities.+listing.Given as goal

abbrev pub decreases-list : goal.decreases-list
decreases-list l = 4 * tree_size l.formula.now + 3

abbrev pub decreases-list_positive : goal.decreases-list_positive
decreases-list_positive l = 4 * tree_size l.formula.now + 2

abbrev pub decreases-list_negative : goal.decreases-list_negative
decreases-list_negative l = 4 * tree_size l.formula.now + 2

abbrev pub decreases-list_two : goal.decreases-list_two
decreases-list_two l = 4 * max (tree_size l.left.now) (tree_size l.right.now) + 4

abbrev pub decreases-list_agreement : goal.decreases-list_agreement
decreases-list_agreement l = 4 * max (tree_size l.left.now) (tree_size l.right.now) + 5

abbrev pub decreases-list_difference : goal.decreases-list_difference
decreases-list_difference l = 4 * max (tree_size l.left.now) (tree_size l.right.now) + 5

abbrev pub decreases-list_universal : goal.decreases-list_universal
decreases-list_universal l = 4 * tree_size l.part.now + 4

abbrev pub decreases-list_existential : goal.decreases-list_existential
decreases-list_existential l = 4 * tree_size l.part.now + 4

abbrev pub decreases-list_all : goal.decreases-list_all
decreases-list_all l = 4 * most (λ t. tree_size t + 1) l.parts.now + 1

abbrev pub invariant-list_all-loop-part : goal.invariant-list_all-loop-part
invariant-list_all-loop-part l = record {
  room : l.next + skolem_count (forms_of l.fn.sign (drop l.part-index l.parts)) ≤ 65536;
  listed : l.listing.arities ++ arities_in (forms_of l.fn.sign (drop l.part-index l.parts)) (place_below l.fn.listing.scopes l.next) ≡ l.fn.listing.arities ++ arities_in (forms_of l.fn.sign l.parts) (place_below l.fn.listing.scopes l.fn.next);
  kept : l.listing.scopes ≡ l.fn.listing.scopes;
}
