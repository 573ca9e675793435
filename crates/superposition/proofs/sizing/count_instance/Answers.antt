use Rattle.std.proofs.lemmas.Bool.{OnTrue_at}
use Rattle.superposition.proofs.Sized.{counted_vast}
use Rattle.superposition.proofs.sizing.count_instance.Goals as goal

pub returns-then-is_vast : goal.returns-then-is_vast
returns-then-is_vast c = λ atoms _. counted_vast c.args.kept.now atoms _ (OnTrue_at c.if-is_vast.true c.is_vast.ensures)
