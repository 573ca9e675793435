use Rattle.subsume.proofs.slots.empty_slot_below.Given as goal

abbrev pub decreases-loop-place : goal.decreases-loop-place
decreases-loop-place l = l.place
