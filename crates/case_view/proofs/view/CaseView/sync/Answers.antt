use Rattle.std.proofs.Common.{◌≡◌, ◌<◌, [], ap, sym, subst}
use Rattle.case_journal.specs.Journal.{nodes}
use Rattle.case_journal.specs.PlaceLaws.{claimed_within}
use Rattle.case_view.specs.Walks.{Reaches}
use Rattle.case_view.proofs.CaseSteps.{goes}
use Rattle.case_view.proofs.view.CaseView.sync.Goals as goal

pub go_on-requires-clause-there : goal.go_on-requires-clause-there
go_on-requires-clause-there c =
    let t = c.args.table.now in
    let same : c.self.inside.case ≡ c.args.self.now = c.self.view_is in
    subst (λ v. v.node < nodes t.past) (sym same) (claimed_within t.setting t.past c.laws.ensures.legal c.args.self.now.worker c.args.self.now.node c.requires.holds.claims)

pub go_on-requires-clause-reaches : goal.go_on-requires-clause-reaches
go_on-requires-clause-reaches c =
    let t = c.args.table.now in
    let v = c.args.self.now in
    let same : c.self.inside.case ≡ v = c.self.view_is in
    subst (λ n. Reaches t.setting t.past n [] v.events v) (ap (λ x. x.node) (sym same)) (goes t.setting t.past c.laws.ensures.legal v c.requires.goes_on)
