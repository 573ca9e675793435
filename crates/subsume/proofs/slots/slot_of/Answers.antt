use Rattle.subsume.proofs.Below.{no_slot, slot_found}
use Rattle.subsume.proofs.slots.slot_of.Goals as goal

pub returns-in-None : goal.returns-in-None
returns-in-None c = no_slot _ _ _ _ _ c.requires.found c.requires.counts c.in-None.ensures

pub returns-in-Some : goal.returns-in-Some
returns-in-Some c = slot_found _ _ _ _ _ c.in-Some.leaf _ c.requires.found c.requires.counts c.in-Some.ensures c.slot_below.ensures
