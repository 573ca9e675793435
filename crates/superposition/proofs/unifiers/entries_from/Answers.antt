use Rattle.std.proofs.Common.{◌∙◌, ◌++◌, ◌∷◌, [], arith}
use Rattle.unify.specs.Bindings.{substitution}
use Rattle.superposition.proofs.Unified.{entries_none, entries_next}
use Rattle.superposition.proofs.unifiers.entries_from.Goals as goal

pub loop-variable-init : goal.loop-variable-init
loop-variable-init c = (c.in_ok-terms.ensures ∙ entries_none c.args.from (substitution c.args.bindings.now.1), omega arith)

pub loop-variable-preserved : goal.loop-variable-preserved
loop-variable-preserved c =
    let before = c.loop-variable.invariant.1 in (
      c.in_ok-push.ensures.ok ∙ (λ k. c.loop-variable.invariant.0 k ++ c.in_ok-applied_entry.ensures k ∷ []) ∙ entries_next c.args.from c.loop-variable.variable (substitution c.args.bindings.now.1) before,
      omega (arith, before),
    )
