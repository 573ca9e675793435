use Rattle.std.proofs.Common.{sym}
use Rattle.reductions.proofs.Judged.{when_greater, when_less, when_equal, when_open}
use Rattle.reductions.proofs.walking.is_greater.Goals as goal

pub returns-in-Greater : goal.returns-in-Greater
returns-in-Greater c = sym (when_greater _ _ _ c.compare.ensures c.in-Greater.is)

pub returns-in-Less : goal.returns-in-Less
returns-in-Less c = sym (when_less _ _ _ c.compare.ensures c.in-Less.is)

pub returns-in-Equal : goal.returns-in-Equal
returns-in-Equal c = sym (when_equal _ _ _ c.compare.ensures c.in-Equal.is)

pub returns-in-Incomparable : goal.returns-in-Incomparable
returns-in-Incomparable c = sym (when_open _ _ _ c.compare.ensures c.in-Incomparable.is)
