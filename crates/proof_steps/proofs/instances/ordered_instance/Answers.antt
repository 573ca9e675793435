use Rattle.std.proofs.Common.{◌≡◌, Some, IfOk, sym, ap, subst}
use Rattle.std.proofs.lemmas.Bool.{lt-leb}
use Rattle.spl_terms.specs.Clauses.{clause_symbols, in_order}
use Rattle.spl_truth.specs.Truth.{apply}
use Rattle.proof_steps.specs.Steps.{when, states, within}
use Rattle.proof_steps.proofs.instances.ordered_instance.Goals as goal

pub returns-in-Some : goal.returns-in-Some
returns-in-Some c =
    let same = rw c.in-Some.is at c.in_ok-made.ensures in
    subst (λ d. IfOk c.ordered.result (λ m. m ≡ within (Some (states d c.args.deps)))) same c.ordered.ensures

pub returns-in-None : goal.returns-in-None
returns-in-None c =
    let made = in_order (apply c.args.entries.now c.args.clause.now) in
    let large = rw c.in-None.is at c.in_ok-made.ensures in
    sym (ap (λ b. when b (states made c.args.deps)) (lt-leb (clause_symbols made) 4096 large))
