use Rattle.std.proofs.Common.{◌≡◌, ◌<◌, ◌∙◌, ℕ, zero, suc, List, Some, None, refl, ap, sym, arith}
use Rattle.std.proofs.lemmas.Bool.{cond-true, cond-false}
use Rattle.dep_sets.specs.Assumptions.{contains_assumption}
use Rattle.case_journal.specs.declared.event.Entry.{Entry}
use Rattle.case_journal.specs.Journal.{Setting, nodes}
use Rattle.case_journal.specs.Paths.{branch, owner}
use Rattle.case_journal.specs.Legal.{IsLegalJournal}
use Rattle.case_journal.specs.BranchLaws.{climbs}
use Rattle.case_journal.specs.StandingLaws.{owner_root, owner_climbs, parent_below}
use Rattle.split_tree.proofs.table.Table.owner.Goals as goal

hangs_none : (s : Setting) (past : List Entry) → IsLegalJournal s past → (m : ℕ) → m < nodes past → branch past m ≡ None → m ≡ 0
hangs_none s past legal zero there h = refl
hangs_none s past legal (suc n) there h =
    let k = climbs s past legal (suc n) (omega arith) there in
    let bad : Some k.up ≡ None = sym k.hangs ∙ h in
    absurd (cc)

pub branch-branch-requires : goal.branch-branch-requires
branch-branch-requires c = c.loop-at.invariant.there

pub returns-in_default-branch : goal.returns-in_default-branch
returns-in_default-branch c =
    let p = c.args.self.now.past in
    let z = hangs_none c.args.self.now.setting p c.journal_is_legal.ensures c.loop-at.at c.loop-at.invariant.there (sym c.branch-branch.ensures ∙ c.in_default-branch.is) in
    sym (sym c.loop-at.invariant.same ∙ (ap (owner p c.args.deps.now) z ∙ owner_root p c.args.deps.now))

pub returns-then-contains : goal.returns-then-contains
returns-then-contains c =
    let p = c.args.self.now.past in
    let b = c.in_Some-branch.branch in
    let up = owner_climbs c.args.self.now.setting p c.journal_is_legal.ensures c.args.deps.now c.loop-at.at b c.loop-at.invariant.there (sym c.branch-branch.ensures ∙ c.in_Some-branch.is) in
    sym (sym c.loop-at.invariant.same ∙ (up ∙ cond-true (contains_assumption c.args.deps.now b.assumed) c.loop-at.at (owner p c.args.deps.now b.parent) (sym c.contains.ensures ∙ c.if-contains.true)))

pub loop-at-smaller : goal.loop-at-smaller
loop-at-smaller c = parent_below c.args.self.now.setting c.args.self.now.past c.journal_is_legal.ensures c.loop-at.at c.in_Some-branch.branch c.loop-at.invariant.there (sym c.branch-branch.ensures ∙ c.in_Some-branch.is)

pub loop-at-preserved : goal.loop-at-preserved
loop-at-preserved c =
    let p = c.args.self.now.past in
    let b = c.in_Some-branch.branch in
    let h = sym c.branch-branch.ensures ∙ c.in_Some-branch.is in
    let there = c.loop-at.invariant.there in
    let low = parent_below c.args.self.now.setting p c.journal_is_legal.ensures c.loop-at.at b there h in
    let up = owner_climbs c.args.self.now.setting p c.journal_is_legal.ensures c.args.deps.now c.loop-at.at b there h in
    record {
      there = omega arith;
      same = sym (up ∙ cond-false (contains_assumption c.args.deps.now b.assumed) c.loop-at.at (owner p c.args.deps.now b.parent) (sym c.contains.ensures ∙ c.if-contains.false)) ∙ c.loop-at.invariant.same;
    }

pub returns : goal.returns
returns c =
    let p = c.args.self.now.past in
    sym (sym c.loop-at.invariant.same ∙ (ap (owner p c.args.deps.now) c.loop-at-test.false ∙ owner_root p c.args.deps.now))
