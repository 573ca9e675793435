use Rattle.std.proofs.Common.{◌∙◌, ◌++◌, ◌∷◌, [], List, Option, Some, refl, ap, rules}
use Rattle.subsume.specs.declared.slots.HeldClause.{HeldClause}
use Rattle.std.proofs.Common.{◌≡◌, None, subst}
use Rattle.std.specs.Prelude.{slice_get}
use Rattle.subsume.proofs.Pairs.{answers_already, answers_inserted, still_found, found_after, answers_put, put_found}
use Rattle.subsume.proofs.index.FeatureIndex.insert.Goals as goal

pub returns-in-Some-clause-ok : goal.returns-in-Some-clause-ok
returns-in-Some-clause-ok c = answers_already c.self.inside.slots.items _ c.args.self.now c.args.clause.now c.args.key c.as_slice.ensures.value c.self.view_is _ c.in-Some.ensures

pub invariant_of-self-in_err-leaf : goal.invariant_of-self-in_err-leaf
invariant_of-self-in_err-leaf c = found_after _ _ _ _ c.in_ok-reserve.ensures.items c.in_err-leaf.ensures.grown c.self.invariant

pub invariant_of-self-in_err-child_made : goal.invariant_of-self-in_err-child_made
invariant_of-self-in_err-child_made c =
    found_after _ _ c.self.inside.slots.items _ c.in_ok-reserve.ensures.items c.in_err-child_made.ensures.grown (found_after c.self.inside.trie _ c.self.inside.slots.items _ refl c.in_ok-leaf.ensures.grown c.self.invariant)

pub invariant_of-self-2 : goal.invariant_of-self-2
invariant_of-self-2 c =
    still_found c.self.inside.slots.items c.as_slice.result.now c.args.self.now c.args.clause.now c.args.key c.as_slice.ensures.value c.self.view_is
    c.push_reserved.new.self.items c.in_ok-copy.field-0 c.in_ok-copy.ensures
    (c.push_reserved.ensures.items ∙ ap (λ (l : List (Option HeldClause)). l ++ Some (record { clause = c.in_ok-copy.field-0; key = c.args.key }) ∷ []) c.in_ok-reserve.ensures.items)
    c.self.inside.trie c.made.new.self c.child_made.new.self c.features-counts.result c.in_ok-leaf.leaf c.len-slot.result c.in_ok-child_made.field-0
    c.self.invariant c.in_ok-leaf.ensures.grown c.in_ok-child_made.ensures.grown c.features-counts.ensures c.in_ok-leaf.ensures.down.0 c.in_ok-child_made.ensures.child.0 (search rules) c.in-None.ensures

pub returns-clause-ok : goal.returns-clause-ok
returns-clause-ok c =
    answers_inserted c.self.inside.slots.items c.as_slice.result.now c.args.self.now c.args.clause.now c.args.key c.as_slice.ensures.value c.self.view_is
    c.push_reserved.new.self.items c.in_ok-copy.field-0 c.in_ok-copy.ensures
    (c.push_reserved.ensures.items ∙ ap (λ (l : List (Option HeldClause)). l ++ Some (record { clause = c.in_ok-copy.field-0; key = c.args.key }) ∷ []) c.in_ok-reserve.ensures.items)

pub invariant_of-self : goal.invariant_of-self
invariant_of-self c =
    put_found c.self.inside.slots.items c.as_slice.result.now c.args.self.now c.args.clause.now c.args.key c.as_slice.ensures.value c.self.view_is c.in_ok-copy.field-0 c.in_ok-copy.ensures c.in-Some-empty_slot.slot
    (subst (λ l. slice_get l c.in-Some-empty_slot.slot ≡ Some None) c.as_slice-2.ensures.value c.in-Some-empty_slot.ensures.0)
    c.self.inside.trie c.features-counts.result c.self.invariant c.features-counts.ensures c.in-Some-empty_slot.ensures.1 c.in-None.ensures

pub returns-in-Some-empty_slot-clause-ok : goal.returns-in-Some-empty_slot-clause-ok
returns-in-Some-empty_slot-clause-ok c =
    answers_put c.self.inside.slots.items c.as_slice.result.now c.args.self.now c.args.clause.now c.args.key c.as_slice.ensures.value c.self.view_is c.in_ok-copy.field-0 c.in_ok-copy.ensures c.in-Some-empty_slot.slot
    (subst (λ l. slice_get l c.in-Some-empty_slot.slot ≡ Some None) c.as_slice-2.ensures.value c.in-Some-empty_slot.ensures.0)
