use Rattle.std.proofs.Common.{◌≡◌, [], ◌∷◌, ◌++◌, ℕ, ◌+◌, ◌/◌, ◌%◌, ◌<◌, List, drop, true, false, Err, refl, sym, subst, ap, ◌∙◌, arith}
use Rattle.formulas.specs.Negations.{Form, signed_form}
use Rattle.formulas.specs.Counts.{clause_count, existentials}
use Rattle.formulas.specs.FormLaws.{form-True, form-False, form-Atom, form-Not, form-Implies, form-not_Implies, form-Equiv, form-not_Equiv, form-And, form-Or}
use Rattle.normal_form.specs.Choices.{literals_chosen, chosen_in_each, product_count}
use Rattle.normal_form.specs.Skolem.{Place, behind}
use Rattle.normal_form.specs.Blocks.{place_below, universal_block, existential_block}
use Rattle.normal_form.proofs.BlockLemmas.{form-foralls, form-not_foralls, form-exists, form-not_exists, place-universal, place-existential, chosen-for_each, chosen-for_any}
use Rattle.normal_form.specs.Gathering.{gathered, IsGathered}
use Rattle.normal_form.specs.Walking.{CanAdd, AreFresh}
use Rattle.formulas.specs.Bindings.{bindings}
use Rattle.formulas.specs.BindingLaws.{bindings-Not, bindings-And, bindings-Or, bindings-Implies, bindings-Equiv, bindings-foralls, bindings-exists}
use Rattle.normal_form.proofs.Freshness.{fresh_left, fresh_right, fresh_part, fresh_behind}
use Rattle.normal_form.specs.declared.scope.Block.{Block}
use Rattle.normal_form.proofs.Walks.{can_left, can_right, can_universal, can_existential, exact_clauses, exact_skolems}
use Rattle.normal_form.specs.Listing.{forms_of}
use Rattle.normal_form.proofs.Finding.{CanTake}
use Rattle.normal_form.proofs.Found.{can_find, here, next_found, popped, can_take, next_taken, next_made, element_most, drop_past, gathered_two, stopped}
use Rattle.normal_form.proofs.Several.{all_chosen, some_chosen}
use Rattle.normal_form.proofs.walk.+walk.Goals as goal

pub add_positive-returns-in-True-clause-added : goal.add_positive-returns-in-True-clause-added
add_positive-returns-in-True-clause-added t c =
    sym (ap (λ f. gathered c.args.walk.now.clause (literals_chosen f (place_below c.args.walk.now.scopes c.args.next) c.args.place)) (ap (λ u. signed_form u true) c.in-True.ensures.shown ∙ form-True true))

pub add_positive-returns-in-False-clause-added : goal.add_positive-returns-in-False-clause-added
add_positive-returns-in-False-clause-added t c =
    sym (ap (λ f. gathered c.args.walk.now.clause (literals_chosen f (place_below c.args.walk.now.scopes c.args.next) c.args.place)) (ap (λ u. signed_form u true) c.in-False.ensures.shown ∙ form-False true))

pub add_positive-returns-in-Atom-clause-added : goal.add_positive-returns-in-Atom-clause-added
add_positive-returns-in-Atom-clause-added t c =
    subst (λ f. IsGathered (gathered c.args.walk.now.clause (literals_chosen f (place_below c.args.walk.now.scopes c.args.next) c.args.place)) c.add_atom.new.walk.clause c.add_atom.result)
    (sym (ap (λ u. signed_form u true) c.in-Atom.ensures.shown ∙ form-Atom c.in-Atom.atom.now true)) c.add_atom.ensures.added

pub add_positive-add_negative-requires : goal.add_positive-add_negative-requires
add_positive-add_negative-requires t c = (
  omega (arith, c.decreases, c.in-Not.ensures.smaller),
  (subst (λ f. CanAdd f c.args.next c.args.place) (ap (λ u. signed_form u true) c.in-Not.ensures.shown ∙ form-Not c.in-Not.part.now true) c.requires.can, subst (AreFresh c.args.walk.now.scopes) (ap bindings c.in-Not.ensures.shown ∙ bindings-Not c.in-Not.part.now) c.requires.fresh),
)

pub add_positive-returns-in-Not-clause-added : goal.add_positive-returns-in-Not-clause-added
add_positive-returns-in-Not-clause-added t c =
    subst (λ f. IsGathered (gathered c.args.walk.now.clause (literals_chosen f (place_below c.args.walk.now.scopes c.args.next) c.args.place)) c.add_negative.new.walk.clause c.add_negative.result)
    (sym (ap (λ u. signed_form u true) c.in-Not.ensures.shown ∙ form-Not c.in-Not.part.now true)) c.add_negative.ensures.added

pub add_positive-add_both-requires : goal.add_positive-add_both-requires
add_positive-add_both-requires t c = (
  omega (arith, c.decreases, c.in-Implies.ensures.smaller),
  (subst (λ f. CanAdd f c.args.next c.args.place) (ap (λ u. signed_form u true) c.in-Implies.ensures.shown ∙ form-Implies c.in-Implies.left.now c.in-Implies.right.now) c.requires.can, (fresh_left c.args.walk.now.scopes (bindings c.in-Implies.left.now) (bindings c.in-Implies.right.now) (subst (AreFresh c.args.walk.now.scopes) (ap bindings c.in-Implies.ensures.shown ∙ bindings-Implies c.in-Implies.left.now c.in-Implies.right.now) c.requires.fresh), fresh_right c.args.walk.now.scopes (bindings c.in-Implies.left.now) (bindings c.in-Implies.right.now) (subst (AreFresh c.args.walk.now.scopes) (ap bindings c.in-Implies.ensures.shown ∙ bindings-Implies c.in-Implies.left.now c.in-Implies.right.now) c.requires.fresh))),
)

pub add_positive-returns-in-Implies-clause-added : goal.add_positive-returns-in-Implies-clause-added
add_positive-returns-in-Implies-clause-added t c =
    subst (λ f. IsGathered (gathered c.args.walk.now.clause (literals_chosen f (place_below c.args.walk.now.scopes c.args.next) c.args.place)) c.add_both.new.walk.clause c.add_both.result)
    (sym (ap (λ u. signed_form u true) c.in-Implies.ensures.shown ∙ form-Implies c.in-Implies.left.now c.in-Implies.right.now)) c.add_both.ensures.added

pub add_positive-add_in_one-requires : goal.add_positive-add_in_one-requires
add_positive-add_in_one-requires t c = (
  omega (arith, c.decreases, c.in-And.ensures.smaller),
  (subst (λ f. CanAdd f c.args.next c.args.place) (ap (λ u. signed_form u true) c.in-And.ensures.shown ∙ form-And c.in-And.parts.now true) c.requires.can, subst (AreFresh c.args.walk.now.scopes) (ap bindings c.in-And.ensures.shown ∙ bindings-And c.in-And.parts.now) c.requires.fresh),
)

pub add_positive-returns-in-And-clause-added : goal.add_positive-returns-in-And-clause-added
add_positive-returns-in-And-clause-added t c =
    subst (λ f. IsGathered (gathered c.args.walk.now.clause (literals_chosen f (place_below c.args.walk.now.scopes c.args.next) c.args.place)) c.add_in_one.new.walk.clause c.add_in_one.result)
    (sym (ap (λ u. signed_form u true) c.in-And.ensures.shown ∙ form-And c.in-And.parts.now true)) c.add_in_one.ensures.added

pub add_positive-add_in_each-requires : goal.add_positive-add_in_each-requires
add_positive-add_in_each-requires t c = (
  omega (arith, c.decreases, c.in-Or.ensures.smaller),
  (
    subst (λ f. CanAdd f c.args.next c.args.place) (ap (λ u. signed_form u true) c.in-Or.ensures.shown ∙ form-Or c.in-Or.parts.now true) c.requires.can,
    (ap (λ x. x.clauses) c.count-rest.ensures ∙ exact_clauses (signed_form c.args.formula.now true) c.requires.can.few ∙ ap clause_count (ap (λ u. signed_form u true) c.in-Or.ensures.shown ∙ form-Or c.in-Or.parts.now true), subst (AreFresh c.args.walk.now.scopes) (ap bindings c.in-Or.ensures.shown ∙ bindings-Or c.in-Or.parts.now) c.requires.fresh),
  ),
)

pub add_positive-returns-in-Or-clause-added : goal.add_positive-returns-in-Or-clause-added
add_positive-returns-in-Or-clause-added t c =
    subst (λ f. IsGathered (gathered c.args.walk.now.clause (literals_chosen f (place_below c.args.walk.now.scopes c.args.next) c.args.place)) c.add_in_each.new.walk.clause c.add_in_each.result)
    (sym (ap (λ u. signed_form u true) c.in-Or.ensures.shown ∙ form-Or c.in-Or.parts.now true)) c.add_in_each.ensures.added

pub add_positive-add_equivalence-requires : goal.add_positive-add_equivalence-requires
add_positive-add_equivalence-requires t c = (
  omega (arith, c.decreases, c.in-Equiv.ensures.smaller),
  (subst (λ f. CanAdd f c.args.next c.args.place) (ap (λ u. signed_form u true) c.in-Equiv.ensures.shown ∙ form-Equiv c.in-Equiv.left.now c.in-Equiv.right.now) c.requires.can, (fresh_left c.args.walk.now.scopes (bindings c.in-Equiv.left.now) (bindings c.in-Equiv.right.now) (subst (AreFresh c.args.walk.now.scopes) (ap bindings c.in-Equiv.ensures.shown ∙ bindings-Equiv c.in-Equiv.left.now c.in-Equiv.right.now) c.requires.fresh), fresh_right c.args.walk.now.scopes (bindings c.in-Equiv.left.now) (bindings c.in-Equiv.right.now) (subst (AreFresh c.args.walk.now.scopes) (ap bindings c.in-Equiv.ensures.shown ∙ bindings-Equiv c.in-Equiv.left.now c.in-Equiv.right.now) c.requires.fresh))),
)

pub add_positive-returns-in-Equiv-clause-added : goal.add_positive-returns-in-Equiv-clause-added
add_positive-returns-in-Equiv-clause-added t c =
    subst (λ f. IsGathered (gathered c.args.walk.now.clause (literals_chosen f (place_below c.args.walk.now.scopes c.args.next) c.args.place)) c.add_equivalence.new.walk.clause c.add_equivalence.result)
    (sym (ap (λ u. signed_form u true) c.in-Equiv.ensures.shown ∙ form-Equiv c.in-Equiv.left.now c.in-Equiv.right.now)) c.add_equivalence.ensures.added

pub add_positive-add_universal-requires : goal.add_positive-add_universal-requires
add_positive-add_universal-requires t c = (
  omega (arith, c.decreases, c.in-Forall.ensures.smaller),
  (subst (λ f. CanAdd f c.args.next c.args.place) (ap (λ u. signed_form u true) c.in-Forall.ensures.shown ∙ form-foralls c.in-Forall.first c.in-Forall.count c.in-Forall.part.now) c.requires.can, subst (AreFresh c.args.walk.now.scopes) (ap bindings c.in-Forall.ensures.shown ∙ bindings-foralls c.in-Forall.first c.in-Forall.count c.in-Forall.part.now) c.requires.fresh),
)

pub add_positive-returns-in-Forall-clause-added : goal.add_positive-returns-in-Forall-clause-added
add_positive-returns-in-Forall-clause-added t c =
    subst (λ f. IsGathered (gathered c.args.walk.now.clause (literals_chosen f (place_below c.args.walk.now.scopes c.args.next) c.args.place)) c.add_universal.new.walk.clause c.add_universal.result)
    (sym (ap (λ u. signed_form u true) c.in-Forall.ensures.shown ∙ form-foralls c.in-Forall.first c.in-Forall.count c.in-Forall.part.now)) c.add_universal.ensures.added

pub add_positive-add_existential-requires : goal.add_positive-add_existential-requires
add_positive-add_existential-requires t c = (
  omega (arith, c.decreases, c.in-Exists.ensures.smaller),
  (subst (λ f. CanAdd f c.args.next c.args.place) (ap (λ u. signed_form u true) c.in-Exists.ensures.shown ∙ form-exists c.in-Exists.first c.in-Exists.count c.in-Exists.part.now) c.requires.can, subst (AreFresh c.args.walk.now.scopes) (ap bindings c.in-Exists.ensures.shown ∙ bindings-exists c.in-Exists.first c.in-Exists.count c.in-Exists.part.now) c.requires.fresh),
)

pub add_positive-returns-in-Exists-clause-added : goal.add_positive-returns-in-Exists-clause-added
add_positive-returns-in-Exists-clause-added t c =
    subst (λ f. IsGathered (gathered c.args.walk.now.clause (literals_chosen f (place_below c.args.walk.now.scopes c.args.next) c.args.place)) c.add_existential.new.walk.clause c.add_existential.result)
    (sym (ap (λ u. signed_form u true) c.in-Exists.ensures.shown ∙ form-exists c.in-Exists.first c.in-Exists.count c.in-Exists.part.now)) c.add_existential.ensures.added

pub add_negative-returns-in-True-clause-added : goal.add_negative-returns-in-True-clause-added
add_negative-returns-in-True-clause-added t c =
    sym (ap (λ f. gathered c.args.walk.now.clause (literals_chosen f (place_below c.args.walk.now.scopes c.args.next) c.args.place)) (ap (λ u. signed_form u false) c.in-True.ensures.shown ∙ form-True false))

pub add_negative-returns-in-False-clause-added : goal.add_negative-returns-in-False-clause-added
add_negative-returns-in-False-clause-added t c =
    sym (ap (λ f. gathered c.args.walk.now.clause (literals_chosen f (place_below c.args.walk.now.scopes c.args.next) c.args.place)) (ap (λ u. signed_form u false) c.in-False.ensures.shown ∙ form-False false))

pub add_negative-returns-in-Atom-clause-added : goal.add_negative-returns-in-Atom-clause-added
add_negative-returns-in-Atom-clause-added t c =
    subst (λ f. IsGathered (gathered c.args.walk.now.clause (literals_chosen f (place_below c.args.walk.now.scopes c.args.next) c.args.place)) c.add_atom.new.walk.clause c.add_atom.result)
    (sym (ap (λ u. signed_form u false) c.in-Atom.ensures.shown ∙ form-Atom c.in-Atom.atom.now false)) c.add_atom.ensures.added

pub add_negative-add_positive-requires : goal.add_negative-add_positive-requires
add_negative-add_positive-requires t c = (
  omega (arith, c.decreases, c.in-Not.ensures.smaller),
  (subst (λ f. CanAdd f c.args.next c.args.place) (ap (λ u. signed_form u false) c.in-Not.ensures.shown ∙ form-Not c.in-Not.part.now false) c.requires.can, subst (AreFresh c.args.walk.now.scopes) (ap bindings c.in-Not.ensures.shown ∙ bindings-Not c.in-Not.part.now) c.requires.fresh),
)

pub add_negative-returns-in-Not-clause-added : goal.add_negative-returns-in-Not-clause-added
add_negative-returns-in-Not-clause-added t c =
    subst (λ f. IsGathered (gathered c.args.walk.now.clause (literals_chosen f (place_below c.args.walk.now.scopes c.args.next) c.args.place)) c.add_positive.new.walk.clause c.add_positive.result)
    (sym (ap (λ u. signed_form u false) c.in-Not.ensures.shown ∙ form-Not c.in-Not.part.now false)) c.add_positive.ensures.added

pub add_negative-add_one-requires : goal.add_negative-add_one-requires
add_negative-add_one-requires t c = (
  omega (arith, c.decreases, c.in-Implies.ensures.smaller),
  (subst (λ f. CanAdd f c.args.next c.args.place) (ap (λ u. signed_form u false) c.in-Implies.ensures.shown ∙ form-not_Implies c.in-Implies.left.now c.in-Implies.right.now) c.requires.can, (fresh_left c.args.walk.now.scopes (bindings c.in-Implies.left.now) (bindings c.in-Implies.right.now) (subst (AreFresh c.args.walk.now.scopes) (ap bindings c.in-Implies.ensures.shown ∙ bindings-Implies c.in-Implies.left.now c.in-Implies.right.now) c.requires.fresh), fresh_right c.args.walk.now.scopes (bindings c.in-Implies.left.now) (bindings c.in-Implies.right.now) (subst (AreFresh c.args.walk.now.scopes) (ap bindings c.in-Implies.ensures.shown ∙ bindings-Implies c.in-Implies.left.now c.in-Implies.right.now) c.requires.fresh))),
)

pub add_negative-returns-in-Implies-clause-added : goal.add_negative-returns-in-Implies-clause-added
add_negative-returns-in-Implies-clause-added t c =
    subst (λ f. IsGathered (gathered c.args.walk.now.clause (literals_chosen f (place_below c.args.walk.now.scopes c.args.next) c.args.place)) c.add_one.new.walk.clause c.add_one.result)
    (sym (ap (λ u. signed_form u false) c.in-Implies.ensures.shown ∙ form-not_Implies c.in-Implies.left.now c.in-Implies.right.now)) c.add_one.ensures.added

pub add_negative-add_in_each-requires : goal.add_negative-add_in_each-requires
add_negative-add_in_each-requires t c = (
  omega (arith, c.decreases, c.in-And.ensures.smaller),
  (
    subst (λ f. CanAdd f c.args.next c.args.place) (ap (λ u. signed_form u false) c.in-And.ensures.shown ∙ form-And c.in-And.parts.now false) c.requires.can,
    (ap (λ x. x.clauses) c.count-rest.ensures ∙ exact_clauses (signed_form c.args.formula.now false) c.requires.can.few ∙ ap clause_count (ap (λ u. signed_form u false) c.in-And.ensures.shown ∙ form-And c.in-And.parts.now false), subst (AreFresh c.args.walk.now.scopes) (ap bindings c.in-And.ensures.shown ∙ bindings-And c.in-And.parts.now) c.requires.fresh),
  ),
)

pub add_negative-returns-in-And-clause-added : goal.add_negative-returns-in-And-clause-added
add_negative-returns-in-And-clause-added t c =
    subst (λ f. IsGathered (gathered c.args.walk.now.clause (literals_chosen f (place_below c.args.walk.now.scopes c.args.next) c.args.place)) c.add_in_each.new.walk.clause c.add_in_each.result)
    (sym (ap (λ u. signed_form u false) c.in-And.ensures.shown ∙ form-And c.in-And.parts.now false)) c.add_in_each.ensures.added

pub add_negative-add_in_one-requires : goal.add_negative-add_in_one-requires
add_negative-add_in_one-requires t c = (
  omega (arith, c.decreases, c.in-Or.ensures.smaller),
  (subst (λ f. CanAdd f c.args.next c.args.place) (ap (λ u. signed_form u false) c.in-Or.ensures.shown ∙ form-Or c.in-Or.parts.now false) c.requires.can, subst (AreFresh c.args.walk.now.scopes) (ap bindings c.in-Or.ensures.shown ∙ bindings-Or c.in-Or.parts.now) c.requires.fresh),
)

pub add_negative-returns-in-Or-clause-added : goal.add_negative-returns-in-Or-clause-added
add_negative-returns-in-Or-clause-added t c =
    subst (λ f. IsGathered (gathered c.args.walk.now.clause (literals_chosen f (place_below c.args.walk.now.scopes c.args.next) c.args.place)) c.add_in_one.new.walk.clause c.add_in_one.result)
    (sym (ap (λ u. signed_form u false) c.in-Or.ensures.shown ∙ form-Or c.in-Or.parts.now false)) c.add_in_one.ensures.added

pub add_negative-add_difference-requires : goal.add_negative-add_difference-requires
add_negative-add_difference-requires t c = (
  omega (arith, c.decreases, c.in-Equiv.ensures.smaller),
  (subst (λ f. CanAdd f c.args.next c.args.place) (ap (λ u. signed_form u false) c.in-Equiv.ensures.shown ∙ form-not_Equiv c.in-Equiv.left.now c.in-Equiv.right.now) c.requires.can, (fresh_left c.args.walk.now.scopes (bindings c.in-Equiv.left.now) (bindings c.in-Equiv.right.now) (subst (AreFresh c.args.walk.now.scopes) (ap bindings c.in-Equiv.ensures.shown ∙ bindings-Equiv c.in-Equiv.left.now c.in-Equiv.right.now) c.requires.fresh), fresh_right c.args.walk.now.scopes (bindings c.in-Equiv.left.now) (bindings c.in-Equiv.right.now) (subst (AreFresh c.args.walk.now.scopes) (ap bindings c.in-Equiv.ensures.shown ∙ bindings-Equiv c.in-Equiv.left.now c.in-Equiv.right.now) c.requires.fresh))),
)

pub add_negative-returns-in-Equiv-clause-added : goal.add_negative-returns-in-Equiv-clause-added
add_negative-returns-in-Equiv-clause-added t c =
    subst (λ f. IsGathered (gathered c.args.walk.now.clause (literals_chosen f (place_below c.args.walk.now.scopes c.args.next) c.args.place)) c.add_difference.new.walk.clause c.add_difference.result)
    (sym (ap (λ u. signed_form u false) c.in-Equiv.ensures.shown ∙ form-not_Equiv c.in-Equiv.left.now c.in-Equiv.right.now)) c.add_difference.ensures.added

pub add_negative-add_existential-requires : goal.add_negative-add_existential-requires
add_negative-add_existential-requires t c = (
  omega (arith, c.decreases, c.in-Forall.ensures.smaller),
  (subst (λ f. CanAdd f c.args.next c.args.place) (ap (λ u. signed_form u false) c.in-Forall.ensures.shown ∙ form-not_foralls c.in-Forall.first c.in-Forall.count c.in-Forall.part.now) c.requires.can, subst (AreFresh c.args.walk.now.scopes) (ap bindings c.in-Forall.ensures.shown ∙ bindings-foralls c.in-Forall.first c.in-Forall.count c.in-Forall.part.now) c.requires.fresh),
)

pub add_negative-returns-in-Forall-clause-added : goal.add_negative-returns-in-Forall-clause-added
add_negative-returns-in-Forall-clause-added t c =
    subst (λ f. IsGathered (gathered c.args.walk.now.clause (literals_chosen f (place_below c.args.walk.now.scopes c.args.next) c.args.place)) c.add_existential.new.walk.clause c.add_existential.result)
    (sym (ap (λ u. signed_form u false) c.in-Forall.ensures.shown ∙ form-not_foralls c.in-Forall.first c.in-Forall.count c.in-Forall.part.now)) c.add_existential.ensures.added

pub add_negative-add_universal-requires : goal.add_negative-add_universal-requires
add_negative-add_universal-requires t c = (
  omega (arith, c.decreases, c.in-Exists.ensures.smaller),
  (subst (λ f. CanAdd f c.args.next c.args.place) (ap (λ u. signed_form u false) c.in-Exists.ensures.shown ∙ form-not_exists c.in-Exists.first c.in-Exists.count c.in-Exists.part.now) c.requires.can, subst (AreFresh c.args.walk.now.scopes) (ap bindings c.in-Exists.ensures.shown ∙ bindings-exists c.in-Exists.first c.in-Exists.count c.in-Exists.part.now) c.requires.fresh),
)

pub add_negative-returns-in-Exists-clause-added : goal.add_negative-returns-in-Exists-clause-added
add_negative-returns-in-Exists-clause-added t c =
    subst (λ f. IsGathered (gathered c.args.walk.now.clause (literals_chosen f (place_below c.args.walk.now.scopes c.args.next) c.args.place)) c.add_universal.new.walk.clause c.add_universal.result)
    (sym (ap (λ u. signed_form u false) c.in-Exists.ensures.shown ∙ form-not_exists c.in-Exists.first c.in-Exists.count c.in-Exists.part.now)) c.add_universal.ensures.added

pub add-add_positive-requires : goal.add-add_positive-requires
add-add_positive-requires t c = (omega (arith, c.decreases), (subst (λ b. CanAdd (signed_form c.args.formula.now b) c.args.next c.args.place) c.if-sign.true c.requires.can, c.requires.fresh))

pub add-returns-then-sign-clause-added : goal.add-returns-then-sign-clause-added
add-returns-then-sign-clause-added t c =
    subst (λ b. IsGathered (gathered c.args.walk.now.clause (literals_chosen (signed_form c.args.formula.now b) (place_below c.args.walk.now.scopes c.args.next) c.args.place)) c.add_positive.new.walk.clause c.add_positive.result)
    (sym c.if-sign.true) c.add_positive.ensures.added

pub add-add_negative-requires : goal.add-add_negative-requires
add-add_negative-requires t c = (omega (arith, c.decreases), (subst (λ b. CanAdd (signed_form c.args.formula.now b) c.args.next c.args.place) c.if-sign.false c.requires.can, c.requires.fresh))

pub add-returns-else-sign-clause-added : goal.add-returns-else-sign-clause-added
add-returns-else-sign-clause-added t c =
    subst (λ b. IsGathered (gathered c.args.walk.now.clause (literals_chosen (signed_form c.args.formula.now b) (place_below c.args.walk.now.scopes c.args.next) c.args.place)) c.add_negative.new.walk.clause c.add_negative.result)
    (sym c.if-sign.false) c.add_negative.ensures.added

pub add_both-add-requires : goal.add_both-add-requires
add_both-add-requires t c =
    (let f : Form = signed_form c.args.left.now c.args.left_sign in
    let g : Form = signed_form c.args.right.now c.args.right_sign in
    let rows : c.count-rows.result.clauses ≡ clause_count g = ap (λ x. x.clauses) c.count-rows.ensures ∙ exact_clauses g (can_right f g c.args.next c.args.place c.requires.can).few in
    (omega (arith, c.decreases), (subst (λ n. CanAdd f c.args.next (c.args.place / n)) (sym rows) (can_left f g c.args.next c.args.place c.requires.can), c.requires.left)))

pub add_both-add-requires-2 : goal.add_both-add-requires-2
add_both-add-requires-2 t c =
    (let f : Form = signed_form c.args.left.now c.args.left_sign in
    let g : Form = signed_form c.args.right.now c.args.right_sign in
    let rows : c.count-rows.result.clauses ≡ clause_count g = ap (λ x. x.clauses) c.count-rows.ensures ∙ exact_clauses g (can_right f g c.args.next c.args.place c.requires.can).few in
    let skolems : c.count-skolems.result.skolems ≡ existentials f = ap (λ x. x.skolems) c.count-skolems.ensures ∙ exact_skolems f (let room = (can_left f g c.args.next c.args.place c.requires.can).room in omega arith) in
    (omega (arith, c.decreases), (subst (λ n. CanAdd g (c.args.next + c.count-skolems.result.skolems) (c.args.place % n)) (sym rows) (subst (λ n. CanAdd g (c.args.next + n) (c.args.place % clause_count g)) (sym skolems) (can_right f g c.args.next c.args.place c.requires.can)), subst (λ bs. AreFresh bs (bindings c.args.right.now)) (sym c.in-Ok.ensures.kept) c.requires.right)))

pub add_universal-add-requires : goal.add_universal-add-requires
add_universal-add-requires t c =
    (let f : Form = signed_form c.args.part.now c.args.sign in
    let b : Block = universal_block c.args.first c.args.count in
    let pushed : c.push_universal.new.walk.scopes ≡ c.args.walk.now.scopes ++ b ∷ [] = c.in-Ok.ensures.pushed in (
      omega (arith, c.decreases),
      (can_universal c.args.first c.args.count f c.args.next c.args.place c.requires.can, subst (λ bs. AreFresh bs (bindings c.args.part.now)) (sym pushed) (fresh_behind c.args.walk.now.scopes b (bindings c.args.part.now) c.requires.fresh)),
    ))

pub add_universal-returns-clause-added : goal.add_universal-returns-clause-added
add_universal-returns-clause-added t c =
    (let f : Form = signed_form c.args.part.now c.args.sign in
    let b : Block = universal_block c.args.first c.args.count in
    let pushed : c.push_universal.new.walk.scopes ≡ c.args.walk.now.scopes ++ b ∷ [] = c.in-Ok.ensures.pushed in
    c.in-Ok-add.ensures.added
    ∙ ap (λ d. gathered d (literals_chosen f (place_below c.push_universal.new.walk.scopes c.args.next) c.args.place)) c.push_universal.ensures.kept
    ∙ ap (λ p. gathered c.args.walk.now.clause (literals_chosen f p c.args.place)) (ap (λ bs. place_below bs c.args.next) pushed ∙ place-universal c.args.walk.now.scopes c.args.first c.args.count c.args.next)
    ∙ ap (gathered c.args.walk.now.clause) (sym (chosen-for_each c.args.first c.args.count f (place_below c.args.walk.now.scopes c.args.next) c.args.place)))

pub add_existential-overflow_add-next : goal.add_existential-overflow_add-next
add_existential-overflow_add-next t c =
    (let room = (can_existential c.args.first c.args.count (signed_form c.args.part.now c.args.sign) c.args.next c.args.place c.requires.can).room in omega (arith, room))

pub add_existential-returns-clause-kept : goal.add_existential-returns-clause-kept
add_existential-returns-clause-kept t c =
    popped c.args.walk.now.scopes c.pop.new.self c.add.new.walk.scopes (existential_block c.args.first c.args.count (signed_form c.args.part.now c.args.sign) (place_below c.args.walk.now.scopes c.args.next)) c.pop.result
    (c.in-Ok-add.ensures.kept ∙ c.in-Ok.ensures.pushed c.args.sign) c.pop.ensures

pub add_existential-add-requires : goal.add_existential-add-requires
add_existential-add-requires t c =
    (let f : Form = signed_form c.args.part.now c.args.sign in
    let b : Block = existential_block c.args.first c.args.count f (place_below c.args.walk.now.scopes c.args.next) in
    let pushed : c.push_existential.new.walk.scopes ≡ c.args.walk.now.scopes ++ b ∷ [] = c.in-Ok.ensures.pushed c.args.sign in (
      omega (arith, c.decreases),
      (can_existential c.args.first c.args.count f c.args.next c.args.place c.requires.can, subst (λ bs. AreFresh bs (bindings c.args.part.now)) (sym pushed) (fresh_behind c.args.walk.now.scopes b (bindings c.args.part.now) c.requires.fresh)),
    ))

pub add_existential-returns-clause-added : goal.add_existential-returns-clause-added
add_existential-returns-clause-added t c =
    (let f : Form = signed_form c.args.part.now c.args.sign in
    let b : Block = existential_block c.args.first c.args.count f (place_below c.args.walk.now.scopes c.args.next) in
    let pushed : c.push_existential.new.walk.scopes ≡ c.args.walk.now.scopes ++ b ∷ [] = c.in-Ok.ensures.pushed c.args.sign in
    c.in-Ok-add.ensures.added
    ∙ ap (λ d. gathered d (literals_chosen f (place_below c.push_existential.new.walk.scopes (c.args.next + c.args.count)) c.args.place)) c.push_existential.ensures.kept
    ∙ ap (λ p. gathered c.args.walk.now.clause (literals_chosen f p c.args.place)) (ap (λ bs. place_below bs (c.args.next + c.args.count)) pushed ∙ place-existential c.args.walk.now.scopes c.args.first c.args.count c.args.next f)
    ∙ ap (gathered c.args.walk.now.clause) (sym (chosen-for_any c.args.first c.args.count f (place_below c.args.walk.now.scopes c.args.next) c.args.place)))

pub add_in_one-loop-part-init : goal.add_in_one-loop-part-init
add_in_one-loop-part-init t c = record {
  can = can_find (forms_of c.args.sign c.args.parts.now) c.args.next c.args.place c.requires.can;
  same = refl;
  kept = refl;
  as_before = refl;
}

pub add_in_one-add-requires : goal.add_in_one-add-requires
add_in_one-add-requires t c =
    (let counted = ap (λ x. x.clauses) c.count-count.ensures in
    let below : c.loop-part.place < clause_count (signed_form c.part-item.result c.args.sign) = omega (arith, counted, c.if-place-count.true) in
    let small = element_most c.args.parts.now c.loop-part.part-index c.part-item.result c.loop-part-test.true c.part-item.is in (
      omega (arith, c.decreases, small),
      (
        next_found c.args.sign c.args.parts.now c.loop-part.part-index c.part-item.result c.loop-part.next c.loop-part.place c.loop-part-test.true c.part-item.is c.loop-part.invariant.can below,
        subst (λ bs. AreFresh bs (bindings c.part-item.result)) (sym c.loop-part.invariant.kept) (fresh_part c.args.walk.now.scopes c.args.parts.now c.loop-part.part-index c.part-item.result c.loop-part-test.true c.part-item.is c.requires.fresh),
      ),
    ))

pub add_in_one-returns-then-place-count-clause-added : goal.add_in_one-returns-then-place-count-clause-added
add_in_one-returns-then-place-count-clause-added t c =
    (let f : Form = signed_form c.part-item.result c.args.sign in
    let fs = forms_of c.args.sign c.args.parts.now in
    let counted = ap (λ x. x.clauses) c.count-count.ensures in
    let below : c.loop-part.place < clause_count f = omega (arith, counted, c.if-place-count.true) in
    let picked = here c.args.sign c.args.parts.now c.loop-part.part-index c.part-item.result (place_below c.args.walk.now.scopes c.loop-part.next) c.loop-part.place c.loop-part-test.true c.part-item.is below in
    let all = all_chosen fs (place_below c.args.walk.now.scopes c.args.next) c.args.place c.requires.can.within in
    let list = ap (λ bs. literals_chosen f (place_below bs c.loop-part.next) c.loop-part.place) c.loop-part.invariant.kept ∙ sym picked ∙ c.loop-part.invariant.same ∙ sym all in
    subst (λ made. IsGathered made c.add.new.walk.clause c.add.result) (λ i. gathered (c.loop-part.invariant.as_before i) (list i)) c.add.ensures.added)

pub add_in_each-loop-part-init : goal.add_in_each-loop-part-init
add_in_each-loop-part-init t c = record {
  can = can_take (forms_of c.args.sign c.args.parts.now) c.args.next c.args.place c.args.rest c.requires.can c.requires.exact;
  made = refl;
  kept = refl;
}

pub add_in_each-nonzero_div-place : goal.add_in_each-nonzero_div-place
add_in_each-nonzero_div-place t c =
    (let f : Form = signed_form c.part-item.result c.args.sign in
    let taken = next_taken c.args.sign c.args.parts.now c.loop-part.part-index c.part-item.result c.loop-part.next c.loop-part.place c.loop-part.rest c.loop-part-test.true c.part-item.is c.loop-part.invariant.can in
    let rows = ap (λ x. x.clauses) c.count-count.ensures ∙ exact_clauses f taken.few in
    subst (λ n. 0 < n) (sym (ap (λ n. c.loop-part.rest / n) rows ∙ taken.divided)) taken.left)

pub add_in_each-nonzero_rem-place : goal.add_in_each-nonzero_rem-place
add_in_each-nonzero_rem-place t c =
    (let f : Form = signed_form c.part-item.result c.args.sign in
    let taken = next_taken c.args.sign c.args.parts.now c.loop-part.part-index c.part-item.result c.loop-part.next c.loop-part.place c.loop-part.rest c.loop-part-test.true c.part-item.is c.loop-part.invariant.can in
    let rows = ap (λ x. x.clauses) c.count-count.ensures ∙ exact_clauses f taken.few in
    subst (λ n. 0 < n) (sym (ap (λ n. c.loop-part.rest / n) rows ∙ taken.divided)) taken.left)

pub add_in_each-add-requires : goal.add_in_each-add-requires
add_in_each-add-requires t c =
    (let f : Form = signed_form c.part-item.result c.args.sign in
    let taken = next_taken c.args.sign c.args.parts.now c.loop-part.part-index c.part-item.result c.loop-part.next c.loop-part.place c.loop-part.rest c.loop-part-test.true c.part-item.is c.loop-part.invariant.can in
    let rows = ap (λ x. x.clauses) c.count-count.ensures ∙ exact_clauses f taken.few in
    let small = element_most c.args.parts.now c.loop-part.part-index c.part-item.result c.loop-part-test.true c.part-item.is in
    (omega (arith, c.decreases, small), (subst (λ n. CanAdd f c.loop-part.next (c.loop-part.place / n)) (sym (ap (λ n. c.loop-part.rest / n) rows ∙ taken.divided)) taken.can, subst (λ bs. AreFresh bs (bindings c.part-item.result)) (sym c.loop-part.invariant.kept) (fresh_part c.args.walk.now.scopes c.args.parts.now c.loop-part.part-index c.part-item.result c.loop-part-test.true c.part-item.is c.requires.fresh))))

pub add_in_each-loop-part-preserved : goal.add_in_each-loop-part-preserved
add_in_each-loop-part-preserved t c =
    (let f : Form = signed_form c.part-item.result c.args.sign in
    let fs : List Form = forms_of c.args.sign (drop (c.loop-part.part-index + 1) c.args.parts.now) in
    let next : ℕ = c.loop-part.next in
    let place : ℕ = c.loop-part.place in
    let p : Place = place_below c.args.walk.now.scopes next in
    let taken = next_taken c.args.sign c.args.parts.now c.loop-part.part-index c.part-item.result next place c.loop-part.rest c.loop-part-test.true c.part-item.is c.loop-part.invariant.can in
    let rows = ap (λ x. x.clauses) c.count-count.ensures ∙ exact_clauses f taken.few in
    let d : c.loop-part.rest / c.count-count.result.clauses ≡ product_count fs = ap (λ n. c.loop-part.rest / n) rows ∙ taken.divided in
    let sk : c.count-count.result.skolems ≡ existentials f = ap (λ x. x.skolems) c.count-count.ensures ∙ exact_skolems f taken.few_skolems in
    let list = next_made c.args.sign c.args.parts.now c.loop-part.part-index c.part-item.result p place c.loop-part-test.true c.part-item.is in
    record {
      can = subst (λ n. CanTake fs (next + c.count-count.result.skolems) (place % n) n) (sym d) (subst (λ n. CanTake fs (next + n) (place % product_count fs) (product_count fs)) (sym sk) taken.later);
      made =
          ap (λ m. gathered m (chosen_in_each fs (place_below c.args.walk.now.scopes (next + c.count-count.result.skolems)) (place % (c.loop-part.rest / c.count-count.result.clauses)))) c.in-Ok.ensures.added
          ∙ (λ i. gathered (gathered c.loop-part.walk.clause (literals_chosen f (place_below (c.loop-part.invariant.kept i) next) (place / d i))) (chosen_in_each fs (place_below c.args.walk.now.scopes (next + sk i)) (place % d i)))
          ∙ sym (gathered_two c.loop-part.walk.clause (literals_chosen f p (place / product_count fs)) (chosen_in_each fs (behind f p) (place % product_count fs)))
          ∙ ap (gathered c.loop-part.walk.clause) (sym list)
          ∙ c.loop-part.invariant.made;
      kept = c.in-Ok.ensures.kept ∙ c.loop-part.invariant.kept;
    })

pub add_in_each-returns-clause-added : goal.add_in_each-returns-clause-added
add_in_each-returns-clause-added t c =
    (let fs : List Form = forms_of c.args.sign c.args.parts.now in
    let can = can_take fs c.args.next c.args.place c.args.rest c.requires.can c.requires.exact in
    let none = drop_past c.args.parts.now c.loop-part.part-index c.loop-part-test.false in
    sym (ap (λ us. gathered c.loop-part.walk.clause (chosen_in_each (forms_of c.args.sign us) (place_below c.args.walk.now.scopes c.loop-part.next) c.loop-part.place)) none)
    ∙ c.loop-part.invariant.made
    ∙ ap (gathered c.args.walk.now.clause) (sym (some_chosen fs (place_below c.args.walk.now.scopes c.args.next) c.args.place can.within)))

pub add_both-returns-in-Err-clause-added : goal.add_both-returns-in-Err-clause-added
add_both-returns-in-Err-clause-added t c =
    (let f : Form = signed_form c.args.left.now c.args.left_sign in
    let g : Form = signed_form c.args.right.now c.args.right_sign in
    let p : Place = place_below c.args.walk.now.scopes c.args.next in
    let rows : c.count-rows.result.clauses ≡ clause_count g = ap (λ x. x.clauses) c.count-rows.ensures ∙ exact_clauses g (can_right f g c.args.next c.args.place c.requires.can).few in
    let here' = subst (λ n. IsGathered {T = Unit {0}} (gathered c.args.walk.now.clause (literals_chosen f p (c.args.place / n))) c.add.new.walk.clause (Err c.in-Err.stop)) rows c.in-Err.ensures.added in
    stopped c.args.walk.now.clause (literals_chosen f p (c.args.place / clause_count g)) (literals_chosen g (behind f p) (c.args.place % clause_count g)) c.add.new.walk.clause c.add.new.walk.clause c.in-Err.stop here')

pub add_both-returns-clause-added : goal.add_both-returns-clause-added
add_both-returns-clause-added t c =
    (let f : Form = signed_form c.args.left.now c.args.left_sign in
    let g : Form = signed_form c.args.right.now c.args.right_sign in
    let p : Place = place_below c.args.walk.now.scopes c.args.next in
    let rows : c.count-rows.result.clauses ≡ clause_count g = ap (λ x. x.clauses) c.count-rows.ensures ∙ exact_clauses g (can_right f g c.args.next c.args.place c.requires.can).few in
    let skolems : c.count-skolems.result.skolems ≡ existentials f = ap (λ x. x.skolems) c.count-skolems.ensures ∙ exact_skolems f (let room = (can_left f g c.args.next c.args.place c.requires.can).room in omega arith) in
    let made : c.add.new.walk.clause ≡ gathered c.args.walk.now.clause (literals_chosen f p (c.args.place / clause_count g)) = c.in-Ok.ensures.added ∙ ap (λ n. gathered c.args.walk.now.clause (literals_chosen f p (c.args.place / n))) rows in
    subst (λ m. IsGathered m c.add-2.new.walk.clause c.add-2.result)
    ((λ i. gathered (made i) (literals_chosen g (place_below (c.in-Ok.ensures.kept i) (c.args.next + skolems i)) (c.args.place % rows i)))
    ∙ sym (gathered_two c.args.walk.now.clause (literals_chosen f p (c.args.place / clause_count g)) (literals_chosen g (behind f p) (c.args.place % clause_count g))))
    c.add-2.ensures.added)

pub add_universal-returns-in-Err-add-clause-added : goal.add_universal-returns-in-Err-add-clause-added
add_universal-returns-in-Err-add-clause-added t c =
    (let f : Form = signed_form c.args.part.now c.args.sign in
    subst (λ m. IsGathered {T = Unit {0}} m c.add.new.walk.clause (Err c.in-Err-add.stop))
    (ap (λ d. gathered d (literals_chosen f (place_below c.push_universal.new.walk.scopes c.args.next) c.args.place)) c.push_universal.ensures.kept
    ∙ ap (λ p. gathered c.args.walk.now.clause (literals_chosen f p c.args.place)) (ap (λ bs. place_below bs c.args.next) c.in-Ok.ensures.pushed ∙ place-universal c.args.walk.now.scopes c.args.first c.args.count c.args.next)
    ∙ ap (gathered c.args.walk.now.clause) (sym (chosen-for_each c.args.first c.args.count f (place_below c.args.walk.now.scopes c.args.next) c.args.place)))
    c.in-Err-add.ensures.added)

pub add_existential-returns-in-Err-add-clause-added : goal.add_existential-returns-in-Err-add-clause-added
add_existential-returns-in-Err-add-clause-added t c =
    (let f : Form = signed_form c.args.part.now c.args.sign in
    subst (λ m. IsGathered {T = Unit {0}} m c.add.new.walk.clause (Err c.in-Err-add.stop))
    (ap (λ d. gathered d (literals_chosen f (place_below c.push_existential.new.walk.scopes (c.args.next + c.args.count)) c.args.place)) c.push_existential.ensures.kept
    ∙ ap (λ p. gathered c.args.walk.now.clause (literals_chosen f p c.args.place)) (ap (λ bs. place_below bs (c.args.next + c.args.count)) (c.in-Ok.ensures.pushed c.args.sign) ∙ place-existential c.args.walk.now.scopes c.args.first c.args.count c.args.next f)
    ∙ ap (gathered c.args.walk.now.clause) (sym (chosen-for_any c.args.first c.args.count f (place_below c.args.walk.now.scopes c.args.next) c.args.place)))
    c.in-Err-add.ensures.added)

pub add_in_each-returns-in-Err-clause-added : goal.add_in_each-returns-in-Err-clause-added
add_in_each-returns-in-Err-clause-added t c =
    (let f : Form = signed_form c.part-item.result c.args.sign in
    let all : List Form = forms_of c.args.sign c.args.parts.now in
    let fs : List Form = forms_of c.args.sign (drop (c.loop-part.part-index + 1) c.args.parts.now) in
    let next : ℕ = c.loop-part.next in
    let place : ℕ = c.loop-part.place in
    let p : Place = place_below c.args.walk.now.scopes next in
    let can = can_take all c.args.next c.args.place c.args.rest c.requires.can c.requires.exact in
    let taken = next_taken c.args.sign c.args.parts.now c.loop-part.part-index c.part-item.result next place c.loop-part.rest c.loop-part-test.true c.part-item.is c.loop-part.invariant.can in
    let rows = ap (λ x. x.clauses) c.count-count.ensures ∙ exact_clauses f taken.few in
    let d : c.loop-part.rest / c.count-count.result.clauses ≡ product_count fs = ap (λ n. c.loop-part.rest / n) rows ∙ taken.divided in
    let list = next_made c.args.sign c.args.parts.now c.loop-part.part-index c.part-item.result p place c.loop-part-test.true c.part-item.is in
    let here' = subst (λ m. IsGathered {T = Unit {0}} m c.add.new.walk.clause (Err c.in-Err.stop)) (λ i. gathered c.loop-part.walk.clause (literals_chosen f (place_below (c.loop-part.invariant.kept i) next) (place / d i))) c.in-Err.ensures.added in
    let whole = stopped c.loop-part.walk.clause (literals_chosen f p (place / product_count fs)) (chosen_in_each fs (behind f p) (place % product_count fs)) c.add.new.walk.clause c.add.new.walk.clause c.in-Err.stop here' in
    subst (λ m. IsGathered {T = Unit {0}} m c.add.new.walk.clause (Err c.in-Err.stop))
    (ap (gathered c.loop-part.walk.clause) (sym list) ∙ c.loop-part.invariant.made
    ∙ ap (gathered c.args.walk.now.clause) (sym (some_chosen all (place_below c.args.walk.now.scopes c.args.next) c.args.place can.within)))
    whole)
