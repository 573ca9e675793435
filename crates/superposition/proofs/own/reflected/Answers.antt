use Rattle.std.proofs.Common.{◌∙◌, None, if◌then◌else◌, sym, ap}
use Rattle.spl_truth.specs.Truth.{apply}
use Rattle.proof_steps.specs.Steps.{reflexed}
use Rattle.superposition.proofs.own.reflected.Goals as goal

pub returns : goal.returns
returns c =
    let a = c.args in
    c.reflexed.ensures ∙ ap (reflexed a.j) c.in_ok-made.ensures ∙ sym (ap (λ b. if b then reflexed a.j (apply a.s.now.terms a.p.now) else None) c.requires)
