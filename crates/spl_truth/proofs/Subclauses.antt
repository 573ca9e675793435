-- For the tactics: a clause is its own subclause.
use Rattle.spl_truth.specs.SubsumptionLaws.{equal_subclause}

pub ruleset subclause_laws = (equal_subclause)
