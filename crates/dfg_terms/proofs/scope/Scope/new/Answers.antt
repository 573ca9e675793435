use Rattle.dfg_terms.proofs.Scopes.{empty_scope}
use Rattle.dfg_terms.proofs.scope.Scope.new.Goals as goal

pub invariant_of-result : goal.invariant_of-result
invariant_of-result c = empty_scope _ _ c.new.ensures.empty c.new-2.ensures.items
