-- How deep each case of a formula is.
use Rattle.formulas.specs.DepthLaws.{size-Not, size-And, size-Or, size-Implies, size-Equiv, size-foralls, size-exists}

pub ruleset sizes = (size-Not, size-And, size-Or, size-Implies, size-Equiv, size-foralls, size-exists)
