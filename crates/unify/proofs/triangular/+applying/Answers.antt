use Rattle.std.proofs.Common.{sym, ◌∙◌}
use Rattle.unify.proofs.TriangularLemmas.{stays_variable}
use Rattle.unify.proofs.triangular.+applying.Goals as goal

pub applied-returns-in-Var : goal.applied-returns-in-Var
applied-returns-in-Var t c = sym (stays_variable _ _ c.requires _ _ c.in-Var.is c.dereferenced.ensures.free) ∙ c.dereferenced.ensures.same
