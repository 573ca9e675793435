use Rattle.std.proofs.Common.{◌∙◌, refl, sym, arith}
use Rattle.case_journal.specs.Paths.{branch}
use Rattle.case_view.proofs.PathSteps.{up_of, path_up, path_end}
use Rattle.case_view.proofs.walking.path_to.Goals as goal

pub loop-parent-preserved : goal.loop-parent-preserved
loop-parent-preserved c =
    let t = c.args.table.now in
    let m = c.loop-parent.node in
    let up = up_of t.setting t.past c.journal_is_legal.ensures m c.in-Some.parent (branch t.past m) c.loop-parent.invariant.there refl (sym c.parent.ensures ∙ c.in-Some.is) in
    record {
      there = omega (arith, up.below, c.loop-parent.invariant.there);
      path = path_up t.past c.args.node m c.in-Some.parent c.loop-parent.path.items c.push.new.self.items up c.loop-parent.invariant.path c.in_ok-push.ensures.items;
    }

pub returns : goal.returns
returns c =
    let t = c.args.table.now in
    c.reverse.ensures.items
    ∙ path_end t.setting t.past c.journal_is_legal.ensures c.args.node c.loop-parent.node c.loop-parent.path.items c.push-2.new.self.items c.loop-parent.invariant.there (sym c.parent.ensures ∙ c.in_default.is) c.loop-parent.invariant.path c.in_ok-push-2.ensures.items

pub loop-parent-smaller : goal.loop-parent-smaller
loop-parent-smaller c =
    let t = c.args.table.now in
    let m = c.loop-parent.node in
    (up_of t.setting t.past c.journal_is_legal.ensures m c.in-Some.parent (branch t.past m) c.loop-parent.invariant.there refl (sym c.parent.ensures ∙ c.in-Some.is)).below
