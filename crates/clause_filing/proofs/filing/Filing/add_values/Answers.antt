use Rattle.std.proofs.Common.{◌≡◌, ◌∙◌, Some, sym, ap, subst}
use Rattle.spl_terms.specs.Lists.{numbered}
use Rattle.clause_filing.proofs.Finding.{IsAdding, adding_starts, adding_one, adding_none}
use Rattle.clause_filing.proofs.filing.Filing.add_values.Goals as goal
use Rattle.clause_filing.proofs.filing.Filing.add_values.Goals.{then-is_within+in_ok-push, else-is_within}

pub loop-entry-init : goal.loop-entry-init
loop-entry-init c = adding_starts c.args.self.now c.args.key c.args.mask c.newest-number.result c.args.values.now.items c.newest-number.ensures

pub loop-entry-preserved : goal.loop-entry-preserved
loop-entry-preserved c =
    let es = c.args.self.now in
    let e = c.in-Some.entry.now in
    let n = c.loop-entry.number in
    let old = c.args.values.now.items in
    let values = c.loop-entry.values.items in
    let at : numbered es n ≡ Some e = sym c.in-Some.ensures.is in
    let newest = c.in-Some.ensures.linked e at in
    elim c.if-is_within.branch [
      | then-is_within+in_ok-push w ↦ subst (λ vs. IsAdding es c.args.key c.args.mask old vs e.older) (sym (ap (λ v. v.items) w.values-is)) (adding_one es c.args.key c.args.mask old values w.push.new.self.items n e at newest w.in_ok-push.ensures.items c.loop-entry.invariant)
      | else-is_within w ↦ subst (λ vs. IsAdding es c.args.key c.args.mask old vs e.older) (sym (ap (λ v. v.items) w.values-is)) (adding_none es c.args.key c.args.mask old values n e at newest (sym c.is_within.ensures ∙ w.if-is_within.false) c.loop-entry.invariant)
    ]
