use Rattle.subsume.proofs.Below.{key_pushed}
use Rattle.subsume.proofs.slots.add_key.Goals as goal

pub returns-in_ok-push-in-Some-clause-held : goal.returns-in_ok-push-in-Some-clause-held
returns-in_ok-push-in-Some-clause-held c = key_pushed c.args.slots.now c.args.slot c.in-Some.held.now _ _ c.in-Some.ensures c.in_ok-push-in-Some.ensures.items

pub returns-in-None-clause-own : goal.returns-in-None-clause-own
returns-in-None-clause-own c = λ d k is. absurd (c.in-None.ensures d k is)
