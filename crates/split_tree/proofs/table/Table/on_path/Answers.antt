use Rattle.std.proofs.Common.{◌≡◌, ◌||◌, ◌∙◌, ℕ, Some, None, false, ap, sym, eqb, inl, inr, arith, ◌<◌}
use Rattle.std.proofs.lemmas.Bool.{ne_eqb, cases_lt}
use Rattle.case_journal.specs.declared.branch.Branch.{Branch}
use Rattle.case_journal.specs.Journal.{nodes}
use Rattle.case_journal.specs.Paths.{on_path, branch}
use Rattle.split_tree.specs.Fields.{setting_of, IsTable}
use Rattle.split_tree.specs.Caches.{past_of}
use Rattle.split_tree.specs.declared.table.Table.TheInside.{Inside}
use Rattle.case_journal.specs.PathLaws.{on_path-self, on_path_root}
use Rattle.case_journal.specs.BranchLaws.{branch_root, climbs}
use Rattle.split_tree.proofs.Lens.{branches_len, read_branch}
use Rattle.split_tree.proofs.table.Table.on_path.Goals as goal

record Goes (t : Inside) (at p : ℕ) : Type 0 where
  pub below : p < at
  pub on : (n : ℕ) → on_path (past_of t.journal.items) at n ≡ (eqb n at || on_path (past_of t.journal.items) p n)

goes_up : (t : Inside) → IsTable t → (at : ℕ) (b : Branch) → at < nodes (past_of t.journal.items) → branch (past_of t.journal.items) at ≡ Some b → Goes t at b.parent
goes_up t ok at b there hangs =
    let p = past_of t.journal.items in
    let some : 0 < at = elim (cases_lt 0 at) [
      | inl more ↦ more
      | inr root ↦
          let z : at ≡ 0 = omega arith in
          let bad : None ≡ Some b = sym (ap (branch p) z ∙ branch_root p) ∙ hangs in
          absurd (cc)
    ] in
    let c = climbs (setting_of t) p ok.legal at some there in
    let same : Some c.up ≡ Some b = sym c.hangs ∙ hangs in
    let q : c.up ≡ b = cc in
    record {
      below = omega (arith, c.below, ap (λ x. x.parent) q);
      on = λ n. c.goes n ∙ ap (λ x. eqb n at || on_path p x.parent n) q;
    }

pub index-requires : goal.index-requires
index-requires c = omega (arith, branches_len c.self.inside c.self.invariant, c.loop-at.invariant.there)

pub loop-at-smaller : goal.loop-at-smaller
loop-at-smaller c = (goes_up c.self.inside c.self.invariant c.loop-at.at c.in-Some.branch c.loop-at.invariant.there (read_branch c.self.inside c.self.invariant c.loop-at.at c.index.result.now c.loop-at.invariant.there c.index.ensures ∙ c.in-Some.is)).below

pub loop-at-preserved : goal.loop-at-preserved
loop-at-preserved c =
    let p = past_of c.self.inside.journal.items in
    let there = c.loop-at.invariant.there in
    let g = goes_up c.self.inside c.self.invariant c.loop-at.at c.in-Some.branch there (read_branch c.self.inside c.self.invariant c.loop-at.at c.index.result.now there c.index.ensures ∙ c.in-Some.is) in
    let below = g.below in
    let other : eqb c.args.above c.loop-at.at ≡ false = ne_eqb c.args.above c.loop-at.at (λ e. c.loop-at-test.true (sym e)) in
    record {
      there = omega arith;
      same = sym (g.on c.args.above ∙ ap (λ x. x || on_path p c.in-Some.branch.parent c.args.above) other) ∙ c.loop-at.invariant.same;
    }

pub returns-in-None : goal.returns-in-None
returns-in-None c =
    let t = c.self.inside in
    let p = past_of t.journal.items in
    let there = c.loop-at.invariant.there in
    let none = read_branch t c.self.invariant c.loop-at.at c.index.result.now there c.index.ensures ∙ c.in-None.is in
    let root : c.loop-at.at ≡ 0 = elim (cases_lt 0 c.loop-at.at) [
      | inl more ↦
          let k = climbs (setting_of t) p c.self.invariant.legal c.loop-at.at more there in
          let bad : Some k.up ≡ None = sym k.hangs ∙ none in
          absurd (cc)
      | inr z ↦ omega arith
    ] in
    rw (← c.self.view_is)
    (sym (on_path_root (setting_of t) p c.self.invariant.legal c.args.above (λ e. c.loop-at-test.true (root ∙ sym e))) ∙ (ap (λ x. on_path p x c.args.above) (sym root) ∙ c.loop-at.invariant.same))

pub returns : goal.returns
returns c =
    let p = past_of c.self.inside.journal.items in
    rw (← c.self.view_is) (sym (ap (λ x. on_path p x c.args.above) c.loop-at-test.false ∙ on_path-self p c.args.above) ∙ c.loop-at.invariant.same)
