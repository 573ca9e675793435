use Rattle.std.proofs.Common.{arith}
use Rattle.proof_extract.proofs.Counts.{number_at}
use Rattle.proof_extract.proofs.renumbering.new_number.Goals as goal

pub returns-else-end-eq0 : goal.returns-else-end-eq0
returns-else-end-eq0 c = number_at c.args.marks.now c.args.counts.now c.args.number c.min-end.result c.requires (search arith) (omega (arith, c.if-end-eq0.false))
