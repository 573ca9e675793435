use Rattle.kbo.proofs.PlaceLemmas.{no_argument, no_variable, more_arguments}
use Rattle.kbo.proofs.places.is_solved.Goals as goal

pub returns-in_default : goal.returns-in_default
returns-in_default c = no_argument c.args.clause.now _ _ _ _ c.in-Holds.is c.as_slice.ensures c.in_default.len_below

pub returns-in_default-2 : goal.returns-in_default-2
returns-in_default-2 c = no_variable c.args.clause.now _ _ _ _ c.in-Holds.is c.as_slice.ensures _ _ _ c.in_default.len_at_least c.in_default.is

pub returns-in_default-3 : goal.returns-in_default-3
returns-in_default-3 c = more_arguments c.args.clause.now _ _ _ _ c.in-Holds.is c.as_slice.ensures c.in_default.len_at_least
