use Rattle.spl_terms.specs.Terms.{replace}
use Rattle.spl_truth.specs.Truth.{entry}
use Rattle.proof_steps.proofs.Compared.{instance_apps, none_left}
use Rattle.proof_steps.proofs.comparing.+instance.Goals as goal

pub is_instance-returns-then-same : goal.is_instance-returns-then-same
is_instance-returns-then-same t c =
    instance_apps (entry c.args.entries.now) _ _ _ _ _ _ _ _ _ _ c.in-App-App.is-0 c.in-App-App.is-1 c.same.ensures c.if-same.true c.as_slice.ensures c.as_slice-then-same.ensures c.are_instances.ensures

pub are_instances-returns-in-empty : goal.are_instances-returns-in-empty
are_instances-returns-in-empty t c = none_left (replace (entry c.args.entries.now)) c.args.patterns.now c.args.targets.now c.is_empty.result c.in-empty.len_below c.is_empty.ensures
