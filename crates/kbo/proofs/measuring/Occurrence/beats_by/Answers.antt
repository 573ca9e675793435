use Rattle.kbo.proofs.CompareLemmas.{greater_and, not_greater_and}
use Rattle.kbo.proofs.measuring.Occurrence.beats_by.Goals as goal

pub returns-in-Greater : goal.returns-in-Greater
returns-in-Greater c = greater_and _ _ _ c.compare_views.ensures _ _ c.in-Greater.is c.exceeds.ensures

pub returns-in_default : goal.returns-in_default
returns-in_default c = not_greater_and _ _ _ c.compare_views.ensures _ c.in_default.not-Greater
