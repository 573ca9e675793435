use Rattle.std.proofs.Common.{refl, ap}
use Rattle.spl_terms.specs.TermLaws.{equal_apps}
use Rattle.kbo.specs.Views.{term_of}
use Rattle.kbo.proofs.comparing.same_view.Goals as goal

pub returns-then-same : goal.returns-then-same
returns-then-same c = equal_apps _ _ c.in-App-App.symbol c.in-App-App.head c.in-App-App.args.now c.in-App-App.others.now _ _ _ _ (ap term_of c.in-App-App.is-0) (ap term_of c.in-App-App.is-1) c.same.ensures c.if-same.true refl refl c.all_equal.ensures
