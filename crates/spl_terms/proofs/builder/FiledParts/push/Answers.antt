use Rattle.spl_terms.proofs.ClauseLemmas.{pushed-constraint, pushed-antecedent, pushed-succedent}
use Rattle.spl_terms.proofs.builder.FiledParts.push.Goals as goal

pub returns-in-Constraint-clause-ok : goal.returns-in-Constraint-clause-ok
returns-in-Constraint-clause-ok c =
    let f = c.self.inside in
    pushed-constraint c.push.result c.args.self.now c.args.part c.args.atom f.constraint f.antecedent f.succedent c.push.new.self c.self.view_is c.requires c.in-Constraint.is c.push.ensures.ok

pub returns-in-Antecedent-clause-ok : goal.returns-in-Antecedent-clause-ok
returns-in-Antecedent-clause-ok c =
    let f = c.self.inside in
    pushed-antecedent c.push-in-Antecedent.result c.args.self.now c.args.part c.args.atom f.constraint f.antecedent f.succedent c.push-in-Antecedent.new.self c.self.view_is c.requires c.in-Antecedent.is c.push-in-Antecedent.ensures.ok

pub returns-in-Succedent-clause-ok : goal.returns-in-Succedent-clause-ok
returns-in-Succedent-clause-ok c =
    let f = c.self.inside in
    pushed-succedent c.push-in-Succedent.result c.args.self.now c.args.part c.args.atom f.constraint f.antecedent f.succedent c.push-in-Succedent.new.self c.self.view_is c.requires c.in-Succedent.is c.push-in-Succedent.ensures.ok
