use Rattle.std.proofs.Common.{arith}
use Rattle.spl_terms.specs.Clauses.{replace_in_atom}
use Rattle.spl_truth.specs.Truth.{entry}
use Rattle.proof_steps.proofs.Distinct.{symbols-within}
use Rattle.proof_steps.proofs.instances.KeptAtoms.add_instance.Goals as goal

pub returns-then-size-gt4096 : goal.returns-then-size-gt4096
returns-then-size-gt4096 c = omega (arith, symbols-within c.args.self.now (replace_in_atom (entry c.args.entries.now) c.args.atom.now), c.applied_atom_symbols-size.ensures, c.if-size-gt4096.true)
