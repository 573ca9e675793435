use Rattle.unify.proofs.FittingLemmas.{fitting_apps}
use Rattle.unify.proofs.fitting.+fitting.Goals as goal

pub fits-returns-then-same : goal.fits-returns-then-same
fits-returns-then-same t c = fitting_apps _ _ _ _ _ _ _ _ _ _ c.in-App-App.is-0 c.in-App-App.is-1 c.same.ensures c.if-same.true c.as_slice.ensures c.as_slice-then-same.ensures c.all_fit.ensures
