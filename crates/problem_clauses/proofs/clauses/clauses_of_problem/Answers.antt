use Rattle.problem_clauses.proofs.Fitting.{formulas_fit, bindings_differ, symbols_declared}
use Rattle.problem_clauses.proofs.clauses.clauses_of_problem.Goals as goal

pub clauses_of-requires-clause-different : goal.clauses_of-requires-clause-different
clauses_of-requires-clause-different c = bindings_differ c.args.problem.signature c.args.problem.entries c.requires.well_formed

pub returns-clause-of_signature : goal.returns-clause-of_signature
returns-clause-of_signature c = c.clauses_of.ensures.of_signature (symbols_declared c.args.problem.signature c.args.problem.entries c.requires.well_formed)

pub returns-clause-stand : goal.returns-clause-stand
returns-clause-stand c = c.clauses_of.ensures.stand (formulas_fit c.args.problem.signature c.args.problem.entries c.requires.well_formed)
