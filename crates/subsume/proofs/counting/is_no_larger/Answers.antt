use Rattle.std.proofs.Common.{arith}
use Rattle.std.proofs.lemmas.Bool.{le-leb}
use Rattle.subsume.proofs.Sums.{mapped_length, mapped_symbols}
use Rattle.subsume.proofs.counting.is_no_larger.Goals as goal

pub returns-then-atoms-into : goal.returns-then-atoms-into
returns-then-atoms-into c = λ g m. le-leb _ _ (omega (arith, c.symbols_in.ensures, c.symbols_in-then-atoms-into.ensures, mapped_symbols g _ _ m))

pub returns-else-atoms-into : goal.returns-else-atoms-into
returns-else-atoms-into c = λ g m. le-leb _ _ (mapped_length g _ _ m)
