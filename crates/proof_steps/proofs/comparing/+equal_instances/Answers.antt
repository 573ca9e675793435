use Rattle.spl_terms.specs.Terms.{replace}
use Rattle.spl_truth.specs.Truth.{entry}
use Rattle.proof_steps.proofs.Compared.{both_apps, from_entry, none_of_both}
use Rattle.proof_steps.proofs.comparing.+equal_instances.Goals as goal

pub equal_instances-returns-then-same : goal.equal_instances-returns-then-same
equal_instances-returns-then-same t c =
    both_apps (entry c.args.s.now) (entry c.args.t.now) _ _ _ _ _ _ _ _ _ _ c.in-App-App.is-0 c.in-App-App.is-1 c.same.ensures c.if-same.true c.as_slice.ensures c.as_slice-then-same.ensures c.all_equal_instances.ensures

pub all_equal_instances-returns-in-empty : goal.all_equal_instances-returns-in-empty
all_equal_instances-returns-in-empty t c = none_of_both (replace (entry c.args.s.now)) (replace (entry c.args.t.now)) c.args.some.now c.args.others.now c.is_empty.result c.in-empty.len_below c.is_empty.ensures

pub equal_instances-returns-in-Var-default : goal.equal_instances-returns-in-Var-default
equal_instances-returns-in-Var-default t c = from_entry (entry c.args.s.now) (entry c.args.t.now) c.args.a.now c.args.b.now c.in-Var-default.variable c.has_entry.result c.in-Var-default.is-0 c.has_entry.ensures
