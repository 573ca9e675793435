use Rattle.std.proofs.Common.{◌∙◌, false, replicate, refl, ap}
use Rattle.clause_splitting.proofs.Lines.{none_put}
use Rattle.clause_splitting.proofs.steps.split_event.Goals as goal

pub returns : goal.returns
returns c = record {
  lines = c.in_ok-steps.steps;
  put_off = c.in_ok-put_off.put_off;
  is = refl;
  are = c.in_ok-steps.ensures;
  typed = c.in_ok-put_off.ensures ∙ (ap (λ n. replicate n false) c.len.ensures ∙ none_put c.in_ok-steps.steps);
}
