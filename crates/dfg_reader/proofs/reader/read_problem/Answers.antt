use Rattle.std.proofs.Common.{◌∙◌}
use Rattle.dfg_reader.proofs.Ordered.{in_order-read}
use Rattle.dfg_reader.proofs.SpelledClauses.{spelled-read}
use Rattle.dfg_reader.proofs.WrittenProblem.{every-read}
use Rattle.dfg_reader.proofs.ProblemStands.{written-read}
use Rattle.dfg_reader.proofs.OfSignature.{of_signature-read}
use Rattle.dfg_reader.proofs.reader.read_problem.Goals as goal

pub returns-clause-written : goal.returns-clause-written
returns-clause-written c = written-read c.args.bytes.now c.as_slice.result.now c.problem.result (c.as_slice.ensures.value ∙ c.in_ok-tokens.ensures.exact) c.problem.ensures.given

pub returns-clause-of_signature : goal.returns-clause-of_signature
returns-clause-of_signature c = of_signature-read c.args.bytes.now c.problem.result (written-read c.args.bytes.now c.as_slice.result.now c.problem.result (c.as_slice.ensures.value ∙ c.in_ok-tokens.ensures.exact) c.problem.ensures.given)

pub returns-clause-every : goal.returns-clause-every
returns-clause-every c = every-read c.args.bytes.now c.as_slice.result.now c.problem.result (c.as_slice.ensures.value ∙ c.in_ok-tokens.ensures.exact) c.problem.ensures.given

pub returns-clause-ordered : goal.returns-clause-ordered
returns-clause-ordered c = in_order-read c.args.bytes.now c.problem.result (written-read c.args.bytes.now c.as_slice.result.now c.problem.result (c.as_slice.ensures.value ∙ c.in_ok-tokens.ensures.exact) c.problem.ensures.given)

pub returns-clause-spelled : goal.returns-clause-spelled
returns-clause-spelled c = spelled-read c.args.bytes.now c.problem.result (written-read c.args.bytes.now c.as_slice.result.now c.problem.result (c.as_slice.ensures.value ∙ c.in_ok-tokens.ensures.exact) c.problem.ensures.given)
