use Rattle.std.proofs.Common.{◌∙◌}
use Rattle.unify.proofs.TriangularLemmas.{goes_on, same_on, bound_below}
use Rattle.unify.proofs.triangular.dereferenced.Goals as goal

pub loop-term-smaller : goal.loop-term-smaller
loop-term-smaller c = goes_on _ _ c.requires c.in-Var.variable _ _ c.in-Var.is c.in-Some.ensures

pub loop-term-preserved : goal.loop-term-preserved
loop-term-preserved c = (same_on _ _ c.requires c.in-Var.variable _ _ c.in-Var.is c.in-Some.ensures ∙ c.loop-term.invariant.0, λ _. bound_below _ _ c.requires c.in-Var.variable _ c.in-Some.ensures)
