use Rattle.std.proofs.Common.{◌≡◌, ◌∙◌, ◌≤◌, ℕ, Some, true, sym, ap, subst}
use Rattle.std.specs.Prelude.{MatchOption}
use Rattle.case_journal.specs.Paths.{on_path}
use Rattle.case_journal.specs.Facts.{Holds, claimed}
use Rattle.case_journal.specs.PlaceLaws.{claimed_within}
use Rattle.case_journal.specs.LeafLaws.{claimer_within}
use Rattle.case_view.specs.declared.kept.Case.{Case}
use Rattle.case_view.proofs.Entering.{enters_below}
use Rattle.case_view.proofs.view.CaseView.enter.Goals as goal

pub held-requires-clause-some : goal.held-requires-clause-some
held-requires-clause-some c =
    let t = c.args.table.now in
    let same : c.self.inside.case ≡ c.args.self.now = c.self.view_is in
    subst (λ v. 1 ≤ v.worker) (sym same) (claimer_within t.setting t.past c.laws.ensures.legal c.args.self.now.worker c.requires.below.0 c.requires.below.1.claims).0

pub held-requires-clause-there : goal.held-requires-clause-there
held-requires-clause-there c =
    let t = c.args.table.now in
    let same : c.self.inside.case ≡ c.args.self.now = c.self.view_is in
    subst (λ v. v.worker ≤ t.setting.workers) (sym same) (claimer_within t.setting t.past c.laws.ensures.legal c.args.self.now.worker c.requires.below.0 c.requires.below.1.claims).1

pub path_to-requires : goal.path_to-requires
path_to-requires c =
    let t = c.args.table.now in
    let w = c.self.inside.case.worker in
    let holds = subst (λ o. MatchOption o ((m : ℕ) → ¬ Holds t.setting t.past w m) (Holds t.setting t.past w)) c.unwrap-leaf.ensures c.held.ensures in
    claimed_within t.setting t.past c.laws.ensures.legal w c.unwrap-leaf.result holds.claims

pub go_on-requires-clause-there : goal.go_on-requires-clause-there
go_on-requires-clause-there c =
    let t = c.args.table.now in
    let w = c.self.inside.case.worker in
    let holds = subst (λ o. MatchOption o ((m : ℕ) → ¬ Holds t.setting t.past w m) (Holds t.setting t.past w)) c.unwrap-leaf.ensures c.held.ensures in
    claimed_within t.setting t.past c.laws.ensures.legal w c.unwrap-leaf.result holds.claims

pub go_on-requires-clause-reaches : goal.go_on-requires-clause-reaches
go_on-requires-clause-reaches c =
    let t = c.args.table.now in
    let v = c.args.self.now in
    let w = c.self.inside.case.worker in
    let leaf = c.unwrap-leaf.result in
    let m = c.requires.below.0 in
    let same : c.self.inside.case ≡ v = c.self.view_is in
    let holds = subst (λ o. MatchOption o ((m : ℕ) → ¬ Holds t.setting t.past w m) (Holds t.setting t.past w)) c.unwrap-leaf.ensures c.held.ensures in
    let there = claimed_within t.setting t.past c.laws.ensures.legal w leaf holds.claims in
    let own = subst (λ (x : Case). claimed t.past x.worker ≡ Some leaf) same holds.claims in
    let one : m ≡ leaf = (let e : Some m ≡ Some leaf = sym c.requires.below.1.claims ∙ own in cc) in
    enters_below t.setting t.past c.laws.ensures.legal v c.requires.goes_on leaf there (subst (λ n. on_path t.past n v.node ≡ true) one c.requires.below.2) c.as_slice.result.now (c.as_slice.ensures.value ∙ c.in_ok-way.ensures)

pub returns-clause-stands : goal.returns-clause-stands
returns-clause-stands c =
    let t = c.args.table.now in
    let e = c.in_ok-go_on.ensures in
    let w = c.self.inside.case.worker in
    let same : c.self.inside.case ≡ c.args.self.now = c.self.view_is in
    let holds = subst (λ o. MatchOption o ((m : ℕ) → ¬ Holds t.setting t.past w m) (Holds t.setting t.past w)) c.unwrap-leaf.ensures c.held.ensures in
    record { is = e.is; holds = subst (Holds t.setting t.past c.go_on.new.self.worker) (sym e.node) (subst (λ n. Holds t.setting t.past n c.unwrap-leaf.result) (ap (λ (x : Case). x.worker) same ∙ sym e.grows.worker) holds) }
