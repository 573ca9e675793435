use Rattle.std.proofs.Common.{◌≡◌, ◌∙◌, ◌-◌, ap, subst}
use Rattle.spl_terms.specs.Lists.{numbered}
use Rattle.clause_filing.specs.Filings.{IsNewest}
use Rattle.clause_filing.proofs.filing.Filing.entry.Goals as goal

pub returns-else-number-eq0-clause-linked : goal.returns-else-number-eq0-clause-linked
returns-else-number-eq0-clause-linked c = λ e at.
    let same : c.self.inside.entries.items ≡ c.args.self.now = c.self.view_is in
    subst (λ es. IsNewest es e.key (c.args.number - 1) e.older) same (c.self.invariant.older c.args.number e (ap (λ es. numbered es c.args.number) same ∙ at))
