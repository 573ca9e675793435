use Rattle.std.specs.Prelude.{fold}
use Rattle.std.proofs.Common.{◌≡◌, ◌+◌, ◌-◌, ◌<◌, ◌∙◌, ℕ, zero, suc, cond, List, [], ◌∷◌, length, take, Some, None, ap, sym, refl, arith}
use Rattle.std.specs.List.{slice_get}
use Rattle.spl_terms.specs.ListLaws.{get-there}
use Rattle.spl_truth.specs.Picking.{better}
use Rattle.case_journal.specs.Journal.{ledger}
use Rattle.case_journal.specs.Picking.{passing, is_passive, weighed}
use Rattle.case_journal.specs.ListLaws.{numbered_get}
use Rattle.split_tree.proofs.Retired.{fold_passing}
use Rattle.split_tree.proofs.table.Table.pick.Goals as goal

pub loop-k-preserved : goal.loop-k-preserved
loop-k-preserved c =
    let s = c.args.self.now.setting in
    let p = c.args.self.now.past in
    let lines = ledger s p in
    let k = c.loop-k.k in
    let f = better c.is_fifth-by_age.result in
    let passes = is_passive s p c.args.node in
    let r = get-there lines k (omega (arith, c.loop-k-test.true, c.steps-k-end.ensures)) in
    let z : k + 1 - 1 ≡ k = omega arith in
    let found = numbered_get lines (k + 1) (omega arith) ∙ (ap (slice_get lines) z ∙ r.1) in
    let e : suc k ≡ k + 1 = omega arith in
    let g : 1 + k ≡ k + 1 = omega arith in
    let old = fold f None (passing passes 1 (take k lines)) in
    c.picked-best.ensures r.0 found
    ∙ (ap (λ b. cond (passes (k + 1)) (f b (weighed (k + 1) r.0)) b) c.loop-k.invariant
    ∙ (ap (λ n. cond (passes n) (f old (weighed n r.0)) old) (sym g)
    ∙ (sym (fold_passing f passes 1 k lines r.0 None r.1) ∙ ap (λ j. fold f None (passing passes 1 (take j lines))) e)))
