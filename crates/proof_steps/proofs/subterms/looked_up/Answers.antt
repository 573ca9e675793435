use Rattle.std.proofs.Common.{◌∙◌, sym, ap}
use Rattle.spl_terms.specs.Terms.{replace}
use Rattle.spl_terms.specs.TermLaws.{replace-Var}
use Rattle.spl_truth.specs.Truth.{entry}
use Rattle.proof_steps.proofs.Steps.{same_term}
use Rattle.proof_steps.proofs.Changed.{entry-there}
use Rattle.proof_steps.proofs.subterms.looked_up.Goals as goal

pub returns-in-Some-clause-same : goal.returns-in-Some-clause-same
returns-in-Some-clause-same c =
    let s = c.args.entries.now in
    same_term c.in-Some.found.now
    ∙ sym (ap (replace (entry s)) c.in-Var.is ∙ replace-Var (entry s) c.in-Var.variable ∙ entry-there s c.in-Var.variable c.in-Some.found.now (sym c.in-Some.ensures))
