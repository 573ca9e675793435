use Rattle.std.proofs.Common.{◌≡◌, ◌++◌, ◌+◌, take, sym, subst, ap, ◌∙◌}
use Rattle.std.specs.Prelude.{IfSome}
use Rattle.std.specs.List.{flat_map}
use Rattle.formulas.specs.Bindings.{bindings, numbers_from}
use Rattle.formulas.specs.BindingLaws.{bindings-True, bindings-False, bindings-Atom, bindings-Not, bindings-And, bindings-Or, bindings-Implies, bindings-Equiv, bindings-foralls, bindings-exists}
use Rattle.formulas.specs.Ascending.{AreWithin}
use Rattle.formulas.proofs.Within.{within_nothing, within_both, some_quantifier, some_both, next_bindings}
use Rattle.formulas.proofs.ascending.+ascending.Goals as goal

pub ascending-returns-in-True : goal.ascending-returns-in-True
ascending-returns-in-True t c = subst (AreWithin c.args.from c.args.from) (sym (ap bindings c.in-True.ensures.shown ∙ bindings-True)) (within_nothing c.args.from)

pub ascending-returns-in-False : goal.ascending-returns-in-False
ascending-returns-in-False t c = subst (AreWithin c.args.from c.args.from) (sym (ap bindings c.in-False.ensures.shown ∙ bindings-False)) (within_nothing c.args.from)

pub ascending-returns-in-Atom : goal.ascending-returns-in-Atom
ascending-returns-in-Atom t c = subst (AreWithin c.args.from c.args.from) (sym (ap bindings c.in-Atom.ensures.shown ∙ bindings-Atom c.in-Atom.field-0.now)) (within_nothing c.args.from)

pub ascending-returns-in-Not : goal.ascending-returns-in-Not
ascending-returns-in-Not t c = subst (λ vs. IfSome c.ascending.result (λ to. AreWithin c.args.from to vs)) (sym (ap bindings c.in-Not.ensures.shown ∙ bindings-Not c.in-Not.part.now)) c.ascending.ensures

pub ascending-returns-in-And : goal.ascending-returns-in-And
ascending-returns-in-And t c = subst (λ vs. IfSome c.all_ascending.result (λ to. AreWithin c.args.from to vs)) (sym (ap bindings c.in-And.ensures.shown ∙ bindings-And c.in-And.parts.now)) c.all_ascending.ensures

pub ascending-returns-in-Or : goal.ascending-returns-in-Or
ascending-returns-in-Or t c = subst (λ vs. IfSome c.all_ascending-in-Or.result (λ to. AreWithin c.args.from to vs)) (sym (ap bindings c.in-Or.ensures.shown ∙ bindings-Or c.in-Or.parts.now)) c.all_ascending-in-Or.ensures

pub ascending-returns-in-Implies : goal.ascending-returns-in-Implies
ascending-returns-in-Implies t c = subst (λ vs. IfSome c.both_ascending.result (λ to. AreWithin c.args.from to vs)) (sym (ap bindings c.in-Implies.ensures.shown ∙ bindings-Implies c.in-Implies.left.now c.in-Implies.right.now)) c.both_ascending.ensures

pub ascending-returns-in-Equiv : goal.ascending-returns-in-Equiv
ascending-returns-in-Equiv t c = subst (λ vs. IfSome c.both_ascending-in-Equiv.result (λ to. AreWithin c.args.from to vs)) (sym (ap bindings c.in-Equiv.ensures.shown ∙ bindings-Equiv c.in-Equiv.left.now c.in-Equiv.right.now)) c.both_ascending-in-Equiv.ensures

pub ascending-returns-in-Forall : goal.ascending-returns-in-Forall
ascending-returns-in-Forall t c = subst (λ vs. IfSome c.block_ascending.result (λ to. AreWithin c.args.from to vs)) (sym (ap bindings c.in-Forall.ensures.shown ∙ bindings-foralls c.in-Forall.first c.in-Forall.count c.in-Forall.part.now)) c.block_ascending.ensures

pub ascending-returns-in-Exists : goal.ascending-returns-in-Exists
ascending-returns-in-Exists t c = subst (λ vs. IfSome c.block_ascending-in-Exists.result (λ to. AreWithin c.args.from to vs)) (sym (ap bindings c.in-Exists.ensures.shown ∙ bindings-exists c.in-Exists.first c.in-Exists.count c.in-Exists.part.now)) c.block_ascending-in-Exists.ensures

pub both_ascending-returns-in-Some : goal.both_ascending-returns-in-Some
both_ascending-returns-in-Some t c = some_both c.ascending-in-Some.result c.args.from c.in-Some.to (bindings c.args.left.now) (bindings c.args.right.now) c.in-Some.ensures c.ascending-in-Some.ensures

pub block_ascending-returns : goal.block_ascending-returns
block_ascending-returns t c = some_quantifier c.ascending.result c.args.from c.args.first c.args.count (bindings c.args.part.now) c.if-first-from.false c.ascending.ensures

pub all_ascending-loop-part-preserved : goal.all_ascending-loop-part-preserved
all_ascending-loop-part-preserved t c =
    subst (AreWithin c.args.from c.in-Some.next) (next_bindings c.args.parts.now c.loop-part.part-index c.part-item.result c.loop-part-test.true c.part-item.is)
    (within_both c.args.from c.loop-part.to c.in-Some.next (flat_map bindings (take c.loop-part.part-index c.args.parts.now)) (bindings c.part-item.result) c.loop-part.invariant c.in-Some.ensures)
