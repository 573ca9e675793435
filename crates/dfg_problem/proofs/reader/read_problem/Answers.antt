use Rattle.dfg_problem.specs.ProblemLaws.{written-read, every-read}
use Rattle.dfg_problem.specs.EntryFormedLaws.{formed-read, counted-read}
use Rattle.dfg_problem.proofs.reader.read_problem.Goals as goal

pub returns-clause-written : goal.returns-clause-written
returns-clause-written c = written-read c.args.bytes.now c.new-tokens.result c.problem_within.result c.new-tokens.ensures c.problem_within.ensures

pub returns-clause-every : goal.returns-clause-every
returns-clause-every c = every-read c.args.bytes.now c.new-tokens.result c.problem_within.result c.new-tokens.ensures c.problem_within.ensures

pub returns-clause-well_formed : goal.returns-clause-well_formed
returns-clause-well_formed c = formed-read c.args.bytes.now c.problem_within.result (returns-clause-written c)

pub returns-clause-few : goal.returns-clause-few
returns-clause-few c = counted-read c.args.bytes.now c.problem_within.result (returns-clause-written c)
