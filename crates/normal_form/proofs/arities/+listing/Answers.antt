use Rattle.std.proofs.Common.{◌≡◌, ◌++◌, ℕ, ◌+◌, ◌≤◌, List, drop, true, false, OnOk, length, replicate, refl, sym, subst, ap, ◌∙◌, arith, append_assoc, append-nil}
use Rattle.std.proofs.lemmas.Result.{on_ok_weaker}
use Rattle.formulas.specs.Negations.{Form, signed_form}
use Rattle.formulas.specs.Counts.{existentials}
use Rattle.formulas.specs.FormLaws.{form-True, form-False, form-Atom, form-Not, form-Implies, form-not_Implies, form-Equiv, form-not_Equiv, form-And, form-Or}
use Rattle.normal_form.specs.Choices.{arities}
use Rattle.normal_form.specs.Skolem.{Place, behind, skolem_arguments}
use Rattle.normal_form.specs.Blocks.{place_below, for_any, with_skolems, universal_block, existential_block}
use Rattle.normal_form.specs.Listing.{forms_of, arities_in, Lists}
use Rattle.normal_form.specs.Walking.{AreFresh, skolem_count}
use Rattle.formulas.specs.Bindings.{bindings}
use Rattle.normal_form.specs.declared.scope.Block.{Block}
use Rattle.normal_form.specs.declared.arities.Listing.{Listing}
use Rattle.normal_form.proofs.BlockLemmas.{form-foralls, form-not_foralls, form-exists, form-not_exists, place-universal, place-existential}
use Rattle.formulas.specs.BindingLaws.{bindings-Not, bindings-And, bindings-Or, bindings-Implies, bindings-Equiv, bindings-foralls, bindings-exists}
use Rattle.normal_form.proofs.Freshness.{fresh_left, fresh_right, fresh_part, fresh_behind}
use Rattle.normal_form.proofs.Walks.{skolems-for_each, skolems-for_any}
use Rattle.normal_form.proofs.Found.{left_parts, element_most, drop_past, popped}
use Rattle.normal_form.proofs.Listed.{none_listed, listed_for_each, listed_for_any, skolems_connected, lists_nothing, lists_connected, lists_two, two_listed}
use Rattle.normal_form.proofs.arities.+listing.Goals as goal

pub list_positive-returns-in-True : goal.list_positive-returns-in-True
list_positive-returns-in-True t c =
    lists_nothing (signed_form c.args.formula.now true) c.args.next c.args.listing.now
    (ap (λ f. arities f (place_below c.args.listing.now.scopes c.args.next)) (ap (λ u. signed_form u true) c.in-True.ensures.shown ∙ form-True true))

pub list_positive-returns-in-False : goal.list_positive-returns-in-False
list_positive-returns-in-False t c =
    lists_nothing (signed_form c.args.formula.now true) c.args.next c.args.listing.now
    (ap (λ f. arities f (place_below c.args.listing.now.scopes c.args.next)) (ap (λ u. signed_form u true) c.in-False.ensures.shown ∙ form-False true))

pub list_positive-returns-in-Atom : goal.list_positive-returns-in-Atom
list_positive-returns-in-Atom t c =
    lists_nothing (signed_form c.args.formula.now true) c.args.next c.args.listing.now
    (ap (λ f. arities f (place_below c.args.listing.now.scopes c.args.next)) (ap (λ u. signed_form u true) c.in-Atom.ensures.shown ∙ form-Atom c.in-Atom.field-0.now true))

pub list_positive-list_negative-requires : goal.list_positive-list_negative-requires
list_positive-list_negative-requires t c = (
  omega (arith, c.decreases, c.in-Not.ensures.smaller),
  (subst (λ f. c.args.next + existentials f ≤ 65536) (ap (λ u. signed_form u true) c.in-Not.ensures.shown ∙ form-Not c.in-Not.part.now true) c.requires.room, subst (AreFresh c.args.listing.now.scopes) (ap bindings c.in-Not.ensures.shown ∙ bindings-Not c.in-Not.part.now) c.requires.fresh),
)

pub list_positive-returns-in-Not : goal.list_positive-returns-in-Not
list_positive-returns-in-Not t c =
    subst (λ f. OnOk c.list_negative.result (Lists f c.args.next c.args.listing.now c.list_negative.new.listing)) (sym (ap (λ u. signed_form u true) c.in-Not.ensures.shown ∙ form-Not c.in-Not.part.now true)) c.list_negative.ensures

pub list_positive-list_two-requires : goal.list_positive-list_two-requires
list_positive-list_two-requires t c = (
  omega (arith, c.decreases, c.in-Implies.ensures.smaller),
  (subst (λ f. c.args.next + existentials f ≤ 65536) (ap (λ u. signed_form u true) c.in-Implies.ensures.shown ∙ form-Implies c.in-Implies.left.now c.in-Implies.right.now) c.requires.room, (fresh_left c.args.listing.now.scopes (bindings c.in-Implies.left.now) (bindings c.in-Implies.right.now) (subst (AreFresh c.args.listing.now.scopes) (ap bindings c.in-Implies.ensures.shown ∙ bindings-Implies c.in-Implies.left.now c.in-Implies.right.now) c.requires.fresh), fresh_right c.args.listing.now.scopes (bindings c.in-Implies.left.now) (bindings c.in-Implies.right.now) (subst (AreFresh c.args.listing.now.scopes) (ap bindings c.in-Implies.ensures.shown ∙ bindings-Implies c.in-Implies.left.now c.in-Implies.right.now) c.requires.fresh))),
)

pub list_positive-returns-in-Implies : goal.list_positive-returns-in-Implies
list_positive-returns-in-Implies t c =
    subst (λ f. OnOk c.list_two.result (Lists f c.args.next c.args.listing.now c.list_two.new.listing)) (sym (ap (λ u. signed_form u true) c.in-Implies.ensures.shown ∙ form-Implies c.in-Implies.left.now c.in-Implies.right.now)) c.list_two.ensures

pub list_positive-list_agreement-requires : goal.list_positive-list_agreement-requires
list_positive-list_agreement-requires t c = (
  omega (arith, c.decreases, c.in-Equiv.ensures.smaller),
  (subst (λ f. c.args.next + existentials f ≤ 65536) (ap (λ u. signed_form u true) c.in-Equiv.ensures.shown ∙ form-Equiv c.in-Equiv.left.now c.in-Equiv.right.now) c.requires.room, (fresh_left c.args.listing.now.scopes (bindings c.in-Equiv.left.now) (bindings c.in-Equiv.right.now) (subst (AreFresh c.args.listing.now.scopes) (ap bindings c.in-Equiv.ensures.shown ∙ bindings-Equiv c.in-Equiv.left.now c.in-Equiv.right.now) c.requires.fresh), fresh_right c.args.listing.now.scopes (bindings c.in-Equiv.left.now) (bindings c.in-Equiv.right.now) (subst (AreFresh c.args.listing.now.scopes) (ap bindings c.in-Equiv.ensures.shown ∙ bindings-Equiv c.in-Equiv.left.now c.in-Equiv.right.now) c.requires.fresh))),
)

pub list_positive-returns-in-Equiv : goal.list_positive-returns-in-Equiv
list_positive-returns-in-Equiv t c =
    subst (λ f. OnOk c.list_agreement.result (Lists f c.args.next c.args.listing.now c.list_agreement.new.listing)) (sym (ap (λ u. signed_form u true) c.in-Equiv.ensures.shown ∙ form-Equiv c.in-Equiv.left.now c.in-Equiv.right.now)) c.list_agreement.ensures

pub list_positive-list_universal-requires : goal.list_positive-list_universal-requires
list_positive-list_universal-requires t c = (
  omega (arith, c.decreases, c.in-Forall.ensures.smaller),
  (subst (λ f. c.args.next + existentials f ≤ 65536) (ap (λ u. signed_form u true) c.in-Forall.ensures.shown ∙ form-foralls c.in-Forall.first c.in-Forall.count c.in-Forall.part.now) c.requires.room, subst (AreFresh c.args.listing.now.scopes) (ap bindings c.in-Forall.ensures.shown ∙ bindings-foralls c.in-Forall.first c.in-Forall.count c.in-Forall.part.now) c.requires.fresh),
)

pub list_positive-returns-in-Forall : goal.list_positive-returns-in-Forall
list_positive-returns-in-Forall t c =
    subst (λ f. OnOk c.list_universal.result (Lists f c.args.next c.args.listing.now c.list_universal.new.listing)) (sym (ap (λ u. signed_form u true) c.in-Forall.ensures.shown ∙ form-foralls c.in-Forall.first c.in-Forall.count c.in-Forall.part.now)) c.list_universal.ensures

pub list_positive-list_existential-requires : goal.list_positive-list_existential-requires
list_positive-list_existential-requires t c = (
  omega (arith, c.decreases, c.in-Exists.ensures.smaller),
  (subst (λ f. c.args.next + existentials f ≤ 65536) (ap (λ u. signed_form u true) c.in-Exists.ensures.shown ∙ form-exists c.in-Exists.first c.in-Exists.count c.in-Exists.part.now) c.requires.room, subst (AreFresh c.args.listing.now.scopes) (ap bindings c.in-Exists.ensures.shown ∙ bindings-exists c.in-Exists.first c.in-Exists.count c.in-Exists.part.now) c.requires.fresh),
)

pub list_positive-returns-in-Exists : goal.list_positive-returns-in-Exists
list_positive-returns-in-Exists t c =
    subst (λ f. OnOk c.list_existential.result (Lists f c.args.next c.args.listing.now c.list_existential.new.listing)) (sym (ap (λ u. signed_form u true) c.in-Exists.ensures.shown ∙ form-exists c.in-Exists.first c.in-Exists.count c.in-Exists.part.now)) c.list_existential.ensures

pub list_positive-list_all-requires : goal.list_positive-list_all-requires
list_positive-list_all-requires t c = (
  omega (arith, c.decreases, c.in-And.ensures.smaller),
  (
    subst (λ n. c.args.next + n ≤ 65536) (ap existentials (ap (λ u. signed_form u true) c.in-And.ensures.shown ∙ form-And c.in-And.parts.now true) ∙ skolems_connected true (forms_of true c.in-And.parts.now)) c.requires.room,
    subst (AreFresh c.args.listing.now.scopes) (ap bindings c.in-And.ensures.shown ∙ bindings-And c.in-And.parts.now) c.requires.fresh,
  ),
)

pub list_positive-returns-in-And : goal.list_positive-returns-in-And
list_positive-returns-in-And t c =
    subst (λ f. OnOk c.list_all.result (Lists f c.args.next c.args.listing.now c.list_all.new.listing)) (sym (ap (λ u. signed_form u true) c.in-And.ensures.shown ∙ form-And c.in-And.parts.now true))
    (on_ok_weaker c.list_all.result (lists_connected true (forms_of true c.in-And.parts.now) c.args.next c.args.listing.now c.list_all.new.listing) c.list_all.ensures)

pub list_positive-list_all-requires-in-Or : goal.list_positive-list_all-requires-in-Or
list_positive-list_all-requires-in-Or t c = (
  omega (arith, c.decreases, c.in-Or.ensures.smaller),
  (
    subst (λ n. c.args.next + n ≤ 65536) (ap existentials (ap (λ u. signed_form u true) c.in-Or.ensures.shown ∙ form-Or c.in-Or.parts.now true) ∙ skolems_connected false (forms_of true c.in-Or.parts.now)) c.requires.room,
    subst (AreFresh c.args.listing.now.scopes) (ap bindings c.in-Or.ensures.shown ∙ bindings-Or c.in-Or.parts.now) c.requires.fresh,
  ),
)

pub list_positive-returns-in-Or : goal.list_positive-returns-in-Or
list_positive-returns-in-Or t c =
    subst (λ f. OnOk c.list_all-in-Or.result (Lists f c.args.next c.args.listing.now c.list_all-in-Or.new.listing)) (sym (ap (λ u. signed_form u true) c.in-Or.ensures.shown ∙ form-Or c.in-Or.parts.now true))
    (on_ok_weaker c.list_all-in-Or.result (lists_connected false (forms_of true c.in-Or.parts.now) c.args.next c.args.listing.now c.list_all-in-Or.new.listing) c.list_all-in-Or.ensures)

pub list_negative-returns-in-True : goal.list_negative-returns-in-True
list_negative-returns-in-True t c =
    lists_nothing (signed_form c.args.formula.now false) c.args.next c.args.listing.now
    (ap (λ f. arities f (place_below c.args.listing.now.scopes c.args.next)) (ap (λ u. signed_form u false) c.in-True.ensures.shown ∙ form-True false))

pub list_negative-returns-in-False : goal.list_negative-returns-in-False
list_negative-returns-in-False t c =
    lists_nothing (signed_form c.args.formula.now false) c.args.next c.args.listing.now
    (ap (λ f. arities f (place_below c.args.listing.now.scopes c.args.next)) (ap (λ u. signed_form u false) c.in-False.ensures.shown ∙ form-False false))

pub list_negative-returns-in-Atom : goal.list_negative-returns-in-Atom
list_negative-returns-in-Atom t c =
    lists_nothing (signed_form c.args.formula.now false) c.args.next c.args.listing.now
    (ap (λ f. arities f (place_below c.args.listing.now.scopes c.args.next)) (ap (λ u. signed_form u false) c.in-Atom.ensures.shown ∙ form-Atom c.in-Atom.field-0.now false))

pub list_negative-list_positive-requires : goal.list_negative-list_positive-requires
list_negative-list_positive-requires t c = (
  omega (arith, c.decreases, c.in-Not.ensures.smaller),
  (subst (λ f. c.args.next + existentials f ≤ 65536) (ap (λ u. signed_form u false) c.in-Not.ensures.shown ∙ form-Not c.in-Not.part.now false) c.requires.room, subst (AreFresh c.args.listing.now.scopes) (ap bindings c.in-Not.ensures.shown ∙ bindings-Not c.in-Not.part.now) c.requires.fresh),
)

pub list_negative-returns-in-Not : goal.list_negative-returns-in-Not
list_negative-returns-in-Not t c =
    subst (λ f. OnOk c.list_positive.result (Lists f c.args.next c.args.listing.now c.list_positive.new.listing)) (sym (ap (λ u. signed_form u false) c.in-Not.ensures.shown ∙ form-Not c.in-Not.part.now false)) c.list_positive.ensures

pub list_negative-list_two-requires : goal.list_negative-list_two-requires
list_negative-list_two-requires t c = (
  omega (arith, c.decreases, c.in-Implies.ensures.smaller),
  (subst (λ f. c.args.next + existentials f ≤ 65536) (ap (λ u. signed_form u false) c.in-Implies.ensures.shown ∙ form-not_Implies c.in-Implies.left.now c.in-Implies.right.now) c.requires.room, (fresh_left c.args.listing.now.scopes (bindings c.in-Implies.left.now) (bindings c.in-Implies.right.now) (subst (AreFresh c.args.listing.now.scopes) (ap bindings c.in-Implies.ensures.shown ∙ bindings-Implies c.in-Implies.left.now c.in-Implies.right.now) c.requires.fresh), fresh_right c.args.listing.now.scopes (bindings c.in-Implies.left.now) (bindings c.in-Implies.right.now) (subst (AreFresh c.args.listing.now.scopes) (ap bindings c.in-Implies.ensures.shown ∙ bindings-Implies c.in-Implies.left.now c.in-Implies.right.now) c.requires.fresh))),
)

pub list_negative-returns-in-Implies : goal.list_negative-returns-in-Implies
list_negative-returns-in-Implies t c =
    subst (λ f. OnOk c.list_two.result (Lists f c.args.next c.args.listing.now c.list_two.new.listing)) (sym (ap (λ u. signed_form u false) c.in-Implies.ensures.shown ∙ form-not_Implies c.in-Implies.left.now c.in-Implies.right.now))
    (on_ok_weaker c.list_two.result (lists_two (signed_form c.in-Implies.left.now true) (signed_form c.in-Implies.right.now false) c.args.next c.args.listing.now c.list_two.new.listing) c.list_two.ensures)

pub list_negative-list_difference-requires : goal.list_negative-list_difference-requires
list_negative-list_difference-requires t c = (
  omega (arith, c.decreases, c.in-Equiv.ensures.smaller),
  (subst (λ f. c.args.next + existentials f ≤ 65536) (ap (λ u. signed_form u false) c.in-Equiv.ensures.shown ∙ form-not_Equiv c.in-Equiv.left.now c.in-Equiv.right.now) c.requires.room, (fresh_left c.args.listing.now.scopes (bindings c.in-Equiv.left.now) (bindings c.in-Equiv.right.now) (subst (AreFresh c.args.listing.now.scopes) (ap bindings c.in-Equiv.ensures.shown ∙ bindings-Equiv c.in-Equiv.left.now c.in-Equiv.right.now) c.requires.fresh), fresh_right c.args.listing.now.scopes (bindings c.in-Equiv.left.now) (bindings c.in-Equiv.right.now) (subst (AreFresh c.args.listing.now.scopes) (ap bindings c.in-Equiv.ensures.shown ∙ bindings-Equiv c.in-Equiv.left.now c.in-Equiv.right.now) c.requires.fresh))),
)

pub list_negative-returns-in-Equiv : goal.list_negative-returns-in-Equiv
list_negative-returns-in-Equiv t c =
    subst (λ f. OnOk c.list_difference.result (Lists f c.args.next c.args.listing.now c.list_difference.new.listing)) (sym (ap (λ u. signed_form u false) c.in-Equiv.ensures.shown ∙ form-not_Equiv c.in-Equiv.left.now c.in-Equiv.right.now)) c.list_difference.ensures

pub list_negative-list_existential-requires : goal.list_negative-list_existential-requires
list_negative-list_existential-requires t c = (
  omega (arith, c.decreases, c.in-Forall.ensures.smaller),
  (subst (λ f. c.args.next + existentials f ≤ 65536) (ap (λ u. signed_form u false) c.in-Forall.ensures.shown ∙ form-not_foralls c.in-Forall.first c.in-Forall.count c.in-Forall.part.now) c.requires.room, subst (AreFresh c.args.listing.now.scopes) (ap bindings c.in-Forall.ensures.shown ∙ bindings-foralls c.in-Forall.first c.in-Forall.count c.in-Forall.part.now) c.requires.fresh),
)

pub list_negative-returns-in-Forall : goal.list_negative-returns-in-Forall
list_negative-returns-in-Forall t c =
    subst (λ f. OnOk c.list_existential.result (Lists f c.args.next c.args.listing.now c.list_existential.new.listing)) (sym (ap (λ u. signed_form u false) c.in-Forall.ensures.shown ∙ form-not_foralls c.in-Forall.first c.in-Forall.count c.in-Forall.part.now)) c.list_existential.ensures

pub list_negative-list_universal-requires : goal.list_negative-list_universal-requires
list_negative-list_universal-requires t c = (
  omega (arith, c.decreases, c.in-Exists.ensures.smaller),
  (subst (λ f. c.args.next + existentials f ≤ 65536) (ap (λ u. signed_form u false) c.in-Exists.ensures.shown ∙ form-not_exists c.in-Exists.first c.in-Exists.count c.in-Exists.part.now) c.requires.room, subst (AreFresh c.args.listing.now.scopes) (ap bindings c.in-Exists.ensures.shown ∙ bindings-exists c.in-Exists.first c.in-Exists.count c.in-Exists.part.now) c.requires.fresh),
)

pub list_negative-returns-in-Exists : goal.list_negative-returns-in-Exists
list_negative-returns-in-Exists t c =
    subst (λ f. OnOk c.list_universal.result (Lists f c.args.next c.args.listing.now c.list_universal.new.listing)) (sym (ap (λ u. signed_form u false) c.in-Exists.ensures.shown ∙ form-not_exists c.in-Exists.first c.in-Exists.count c.in-Exists.part.now)) c.list_universal.ensures

pub list_negative-list_all-requires : goal.list_negative-list_all-requires
list_negative-list_all-requires t c = (
  omega (arith, c.decreases, c.in-And.ensures.smaller),
  (
    subst (λ n. c.args.next + n ≤ 65536) (ap existentials (ap (λ u. signed_form u false) c.in-And.ensures.shown ∙ form-And c.in-And.parts.now false) ∙ skolems_connected false (forms_of false c.in-And.parts.now)) c.requires.room,
    subst (AreFresh c.args.listing.now.scopes) (ap bindings c.in-And.ensures.shown ∙ bindings-And c.in-And.parts.now) c.requires.fresh,
  ),
)

pub list_negative-returns-in-And : goal.list_negative-returns-in-And
list_negative-returns-in-And t c =
    subst (λ f. OnOk c.list_all.result (Lists f c.args.next c.args.listing.now c.list_all.new.listing)) (sym (ap (λ u. signed_form u false) c.in-And.ensures.shown ∙ form-And c.in-And.parts.now false))
    (on_ok_weaker c.list_all.result (lists_connected false (forms_of false c.in-And.parts.now) c.args.next c.args.listing.now c.list_all.new.listing) c.list_all.ensures)

pub list_negative-list_all-requires-in-Or : goal.list_negative-list_all-requires-in-Or
list_negative-list_all-requires-in-Or t c = (
  omega (arith, c.decreases, c.in-Or.ensures.smaller),
  (
    subst (λ n. c.args.next + n ≤ 65536) (ap existentials (ap (λ u. signed_form u false) c.in-Or.ensures.shown ∙ form-Or c.in-Or.parts.now false) ∙ skolems_connected true (forms_of false c.in-Or.parts.now)) c.requires.room,
    subst (AreFresh c.args.listing.now.scopes) (ap bindings c.in-Or.ensures.shown ∙ bindings-Or c.in-Or.parts.now) c.requires.fresh,
  ),
)

pub list_negative-returns-in-Or : goal.list_negative-returns-in-Or
list_negative-returns-in-Or t c =
    subst (λ f. OnOk c.list_all-in-Or.result (Lists f c.args.next c.args.listing.now c.list_all-in-Or.new.listing)) (sym (ap (λ u. signed_form u false) c.in-Or.ensures.shown ∙ form-Or c.in-Or.parts.now false))
    (on_ok_weaker c.list_all-in-Or.result (lists_connected true (forms_of false c.in-Or.parts.now) c.args.next c.args.listing.now c.list_all-in-Or.new.listing) c.list_all-in-Or.ensures)

pub list-returns-then-count-eq0 : goal.list-returns-then-count-eq0
list-returns-then-count-eq0 t c =
    (let f : Form = signed_form c.args.formula.now c.args.sign in
    let none : existentials f ≡ 0 = omega (arith, ap (λ x. x.skolems) c.count.ensures, c.if-count-eq0.true) in
    lists_nothing f c.args.next c.args.listing.now (none_listed f (place_below c.args.listing.now.scopes c.args.next) none))

pub list_universal-list-requires : goal.list_universal-list-requires
list_universal-list-requires t c =
    (let f : Form = signed_form c.args.part.now c.args.sign in
    let b : Block = universal_block c.args.first c.args.count in (
      omega (arith, c.decreases),
      (
        omega (arith, skolems-for_each c.args.first c.args.count f, c.requires.room),
        subst (λ bs. AreFresh bs (bindings c.args.part.now)) (sym c.in_ok-enter_universal.ensures.pushed) (fresh_behind c.args.listing.now.scopes b (bindings c.args.part.now) c.requires.fresh),
      ),
    ))

pub list_universal-returns : goal.list_universal-returns
list_universal-returns t c =
    (let f : Form = signed_form c.args.part.now c.args.sign in
    let b : Block = universal_block c.args.first c.args.count in
    let old : Listing = c.args.listing.now in
    record {
      arities =
          c.in_ok-list.ensures.arities
          ∙ ap (λ l. l ++ arities f (place_below c.enter_universal.new.listing.scopes c.args.next)) c.enter_universal.ensures.kept
          ∙ ap (λ p. old.arities ++ arities f p) (ap (λ bs. place_below bs c.args.next) c.in_ok-enter_universal.ensures.pushed ∙ place-universal old.scopes c.args.first c.args.count c.args.next)
          ∙ ap (λ l. old.arities ++ l) (sym (listed_for_each c.args.first c.args.count f (place_below old.scopes c.args.next)));
      kept = popped old.scopes c.pop.new.self c.list.new.listing.scopes b c.pop.result (c.in_ok-list.ensures.kept ∙ c.in_ok-enter_universal.ensures.pushed) c.pop.ensures;
    })

pub list_existential-overflow_add-next : goal.list_existential-overflow_add-next
list_existential-overflow_add-next t c = omega (arith, skolems-for_any c.args.first c.args.count (signed_form c.args.part.now c.args.sign), c.requires.room)

pub list_existential-list-requires : goal.list_existential-list-requires
list_existential-list-requires t c =
    (let f : Form = signed_form c.args.part.now c.args.sign in
    let b : Block = existential_block c.args.first c.args.count f (place_below c.args.listing.now.scopes c.args.next) in (
      omega (arith, c.decreases),
      (
        omega (arith, skolems-for_any c.args.first c.args.count f, c.requires.room),
        subst (λ bs. AreFresh bs (bindings c.args.part.now)) (sym (c.in_ok-enter_existential.ensures.pushed c.args.sign)) (fresh_behind c.args.listing.now.scopes b (bindings c.args.part.now) c.requires.fresh),
      ),
    ))

pub list_existential-returns : goal.list_existential-returns
list_existential-returns t c =
    (let f : Form = signed_form c.args.part.now c.args.sign in
    let old : Listing = c.args.listing.now in
    let p : Place = place_below old.scopes c.args.next in
    let b : Block = existential_block c.args.first c.args.count f p in
    let n : ℕ = length (skolem_arguments (for_any c.args.first c.args.count f) p) in
    let pushed = c.in_ok-enter_existential.ensures.pushed c.args.sign in
    record {
      arities =
          two_listed old.arities c.enter_existential.new.listing.arities c.list.new.listing.arities (replicate c.args.count n) (arities f (with_skolems c.args.first c.args.count f p)) (arities (for_any c.args.first c.args.count f) p)
          (c.in_ok-enter_existential.ensures.listed c.args.sign)
          (c.in_ok-list.ensures.arities
          ∙ ap (λ q. c.enter_existential.new.listing.arities ++ arities f q) (ap (λ bs. place_below bs (c.args.next + c.args.count)) pushed ∙ place-existential old.scopes c.args.first c.args.count c.args.next f))
          (sym (listed_for_any c.args.first c.args.count f p n refl));
      kept = popped old.scopes c.pop.new.self c.list.new.listing.scopes b c.pop.result (c.in_ok-list.ensures.kept ∙ pushed) c.pop.ensures;
    })

pub list_all-list-requires : goal.list_all-list-requires
list_all-list-requires t c =
    (let f : Form = signed_form c.part-item.result c.args.sign in
    let small = element_most c.args.parts.now c.loop-part.part-index c.part-item.result c.loop-part-test.true c.part-item.is in
    let room = subst (λ fs. c.loop-part.next + skolem_count fs ≤ 65536) (left_parts c.args.sign c.args.parts.now c.loop-part.part-index c.part-item.result c.loop-part-test.true c.part-item.is) c.loop-part.invariant.room in (
      omega (arith, c.decreases, small),
      (
        omega (arith, room),
        subst (λ bs. AreFresh bs (bindings c.part-item.result)) (sym c.loop-part.invariant.kept) (fresh_part c.args.listing.now.scopes c.args.parts.now c.loop-part.part-index c.part-item.result c.loop-part-test.true c.part-item.is c.requires.fresh),
      ),
    ))

pub list_all-overflow_add-next : goal.list_all-overflow_add-next
list_all-overflow_add-next t c =
    (let f : Form = signed_form c.part-item.result c.args.sign in
    let room = subst (λ fs. c.loop-part.next + skolem_count fs ≤ 65536) (left_parts c.args.sign c.args.parts.now c.loop-part.part-index c.part-item.result c.loop-part-test.true c.part-item.is) c.loop-part.invariant.room in
    omega (arith, room, ap (λ x. x.skolems) c.count-skolems.ensures))

pub list_all-loop-part-preserved : goal.list_all-loop-part-preserved
list_all-loop-part-preserved t c =
    (let f : Form = signed_form c.part-item.result c.args.sign in
    let fs : List Form = forms_of c.args.sign (drop (c.loop-part.part-index + 1) c.args.parts.now) in
    let next : ℕ = c.loop-part.next in
    let p : Place = place_below c.args.listing.now.scopes next in
    let left = left_parts c.args.sign c.args.parts.now c.loop-part.part-index c.part-item.result c.loop-part-test.true c.part-item.is in
    let room = subst (λ gs. next + skolem_count gs ≤ 65536) left c.loop-part.invariant.room in
    let sk : c.count-skolems.result.skolems ≡ existentials f = omega (arith, room, ap (λ x. x.skolems) c.count-skolems.ensures) in
    record {
      room = omega (arith, room, sk);
      listed =
          ap (λ l. l ++ arities_in fs (place_below c.args.listing.now.scopes (next + c.count-skolems.result.skolems))) c.in_ok-list.ensures.arities
          ∙ (λ i. (c.loop-part.listing.arities ++ arities f (place_below (c.loop-part.invariant.kept i) next)) ++ arities_in fs (place_below c.args.listing.now.scopes (next + sk i)))
          ∙ append_assoc c.loop-part.listing.arities (arities f p) (arities_in fs (behind f p))
          ∙ ap (λ gs. c.loop-part.listing.arities ++ arities_in gs p) (sym left)
          ∙ c.loop-part.invariant.listed;
      kept = c.in_ok-list.ensures.kept ∙ c.loop-part.invariant.kept;
    })

pub list_all-returns : goal.list_all-returns
list_all-returns t c =
    (let none = drop_past c.args.parts.now c.loop-part.part-index c.loop-part-test.false in
    record {
      arities =
          sym (append-nil c.loop-part.listing.arities)
          ∙ sym (ap (λ us. c.loop-part.listing.arities ++ arities_in (forms_of c.args.sign us) (place_below c.args.listing.now.scopes c.loop-part.next)) none)
          ∙ c.loop-part.invariant.listed;
      kept = c.loop-part.invariant.kept;
    })
