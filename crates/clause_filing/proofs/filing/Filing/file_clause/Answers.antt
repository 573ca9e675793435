use Rattle.clause_filing.proofs.Entries.{filed_added}
use Rattle.clause_filing.specs.Filings.{clause_mask}
use Rattle.std.proofs.Common.{subst}
use Rattle.clause_filing.specs.Filings.{IsFiled}
use Rattle.clause_filing.proofs.filing.Filing.file_clause.Goals as goal

pub returns-clause-filed : goal.returns-clause-filed
returns-clause-filed c =
    let new = c.file.new.self in
    subst (λ k. IsFiled new k c.args.value (clause_mask c.args.clause.now)) c.clause_key.ensures (subst (IsFiled new c.clause_key.result c.args.value) c.clause_mask.ensures (filed_added c.args.self.now new c.clause_key.result c.args.value c.clause_mask.result c.in_ok-file.ensures.added))
