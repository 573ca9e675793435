use Rattle.std.proofs.Common.{◌≡◌, ◌∙◌, [], ◌∷◌, true, sym, ap, subst, arith, length, length-append}
use Rattle.std.specs.Prelude.{reverse}
use Rattle.case_view.specs.Views.{IsRising, path_nodes}
use Rattle.case_view.specs.Walks.{is_among}
use Rattle.case_view.specs.Trails.{IsTrail}
use Rattle.case_view.specs.TrailLaws.{last_mark}
use Rattle.case_view.proofs.PathSteps.{path_rises, among_path}
use Rattle.case_view.proofs.trail.go_back_above.Goals as goal

pub is_among-requires : goal.is_among-requires
is_among-requires c =
    let t = c.args.table.now in
    subst IsRising (sym (c.as_slice.ensures.value ∙ c.in_ok-way.ensures)) (path_rises t.setting t.past c.journal_is_legal.ensures c.args.leaf c.requires.there)

pub go_back-requires : goal.go_back-requires
go_back-requires c =
    let t = c.args.table.now in
    let h = last_mark t.setting t.past c.loop-marks.marks c.pop.new.self c.in-Some.mark c.loop-marks.view c.in-Some.ensures c.loop-marks.invariant.trail in
    let u = h.1 in
    (u.0, u.1, u.2)

pub loop-marks-preserved : goal.loop-marks-preserved
loop-marks-preserved c =
    let t = c.args.table.now in
    let h = last_mark t.setting t.past c.loop-marks.marks c.pop.new.self c.in-Some.mark c.loop-marks.view c.in-Some.ensures c.loop-marks.invariant.trail in
    let u = h.1 in
    let back = c.go_back.ensures u.0 u.1 u.2 in
    record {
      trail = subst (IsTrail t.setting t.past (reverse c.pop.new.self)) (sym back) u.3;
      worker = ap (λ v. v.worker) back ∙ (sym u.2.worker ∙ c.loop-marks.invariant.worker);
    }

pub loop-marks-smaller : goal.loop-marks-smaller
loop-marks-smaller c = omega (arith, ap length c.in-Some.ensures, length-append c.pop.new.self (c.in-Some.mark ∷ []))

pub returns-clause-above : goal.returns-clause-above
returns-clause-above c =
    let t = c.args.table.now in
    let node = c.loop-marks.view.node in
    let way : c.as_slice.result.now ≡ path_nodes t.past c.args.leaf = c.as_slice.ensures.value ∙ c.in_ok-way.ensures in
    let yes : is_among c.as_slice.result.now node ≡ true = ap (is_among c.as_slice.result.now) (sym c.node.ensures) ∙ (sym c.is_among.ensures ∙ c.loop-marks-test.false) in
    sym (among_path t.past c.args.leaf node) ∙ (ap (λ ns. is_among ns node) (sym way) ∙ yes)
