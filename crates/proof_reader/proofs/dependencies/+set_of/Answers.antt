use Rattle.std.proofs.Common.{sym, subst, arith}
use Rattle.dep_sets.specs.Assumptions.{IsAscending}
use Rattle.proof_reader.proofs.Ascending.{ascending_front, ascending_back}
use Rattle.proof_reader.proofs.dependencies.+set_of.Goals as goal

pub set_of-requires : goal.set_of-requires
set_of-requires t c = (omega (arith, c.split_at.ensures.front_len, c.in_default.len_at_least), subst IsAscending (sym c.split_at.ensures.front) (ascending_front _ c.args.found.now c.requires))

pub set_of-requires-in_default : goal.set_of-requires-in_default
set_of-requires-in_default t c = (omega (arith, c.split_at.ensures.back_len, c.in_default.len_at_least), subst IsAscending (sym c.split_at.ensures.back) (ascending_back _ c.args.found.now c.requires))
