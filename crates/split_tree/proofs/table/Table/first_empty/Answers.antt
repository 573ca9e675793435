use Rattle.std.proofs.Common.{◌∙◌, inl, sym, subst}
use Rattle.std.specs.Prelude.{MatchOption}
use Rattle.case_journal.specs.Facts.{IsLive}
use Rattle.case_journal.specs.Legal.{IsFirstEmpty}
use Rattle.case_journal.specs.StandingLaws.{parent_below}
use Rattle.split_tree.proofs.Empties.{IsFirstBelow, first_parent, first_root}
use Rattle.split_tree.proofs.table.Table.first_empty.Goals as goal

pub loop-branch-init : goal.loop-branch-init
loop-branch-init c = record { there = c.requires; is = λ n h. cc; down = λ n e. e; upto = λ n e. inl e }

pub own_empty-requires : goal.own_empty-requires
own_empty-requires c = c.loop-branch.invariant.there

pub branch-branch-requires : goal.branch-branch-requires
branch-branch-requires c = c.loop-branch.invariant.there

pub loop-branch-smaller : goal.loop-branch-smaller
loop-branch-smaller c =
    let t = c.args.self.now in
    parent_below t.setting t.past c.journal_is_legal.ensures c.loop-branch.at c.in_Some-branch.branch c.loop-branch.invariant.there (sym c.branch-branch.ensures ∙ c.in_Some-branch.is)

pub loop-branch-preserved : goal.loop-branch-preserved
loop-branch-preserved c =
    let t = c.args.self.now in
    let b = c.in_Some-branch.branch in
    subst (IsFirstBelow t.setting t.past c.args.node b.parent) (sym c.smaller-first.ensures)
    (first_parent t.setting t.past c.journal_is_legal.ensures c.args.node c.loop-branch.at c.loop-branch.first c.own_empty.result b c.loop-branch.invariant c.own_empty.ensures (sym c.branch-branch.ensures ∙ c.in_Some-branch.is))

pub returns-in_None-branch : goal.returns-in_None-branch
returns-in_None-branch c =
    let t = c.args.self.now in
    subst (λ o. MatchOption o (IsLive t.setting t.past c.args.node) (λ n. IsFirstEmpty t.setting t.past c.args.node n)) (sym c.smaller-first.ensures)
    (first_root t.setting t.past c.journal_is_legal.ensures c.args.node c.loop-branch.at c.loop-branch.first c.own_empty.result c.loop-branch.invariant c.own_empty.ensures (sym c.branch-branch.ensures ∙ c.in_None-branch.is))
