use Rattle.refutation_check.proofs.Verdicts.{accepted, refused}
use Rattle.refutation_check.proofs.checking.check.Goals as goal

pub returns-clause-accepted_always : goal.returns-clause-accepted_always
returns-clause-accepted_always c = accepted c.args.input.now c.args.lines.now c.judge.result c.judge.ensures

pub returns-clause-refused_always : goal.returns-clause-refused_always
returns-clause-refused_always c = refused c.args.input.now c.args.lines.now c.judge.result c.judge.ensures
