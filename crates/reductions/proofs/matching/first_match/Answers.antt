use Rattle.reductions.proofs.Instances.{matches_none}
use Rattle.reductions.proofs.matching.first_match.Goals as goal

pub returns : goal.returns
returns c = matches_none c.args.pattern.now c.args.targets.now c.loop-place.place c.loop-place-test.false c.loop-place.invariant
