use Rattle.std.proofs.Common.{arith}
use Rattle.dfg_tokens.specs.declared.word.TheConstants.{WORDS}
use Rattle.dfg_tokens.proofs.Lengths.{between, at_least}
use Rattle.dfg_tokens.proofs.word.words_as_long.Goals as goal

pub returns-then-len-lt5 : goal.returns-then-len-lt5
returns-then-len-lt5 c = between 0 4 WORDS c.args.text.now (omega arith) (omega arith)

pub returns-then-len-lt6 : goal.returns-then-len-lt6
returns-then-len-lt6 c = between 5 5 WORDS c.args.text.now (omega arith) (omega arith)

pub returns-then-len-lt7 : goal.returns-then-len-lt7
returns-then-len-lt7 c = between 6 6 WORDS c.args.text.now (omega arith) (omega arith)

pub returns-then-len-lt11 : goal.returns-then-len-lt11
returns-then-len-lt11 c = between 7 10 WORDS c.args.text.now (omega arith) (omega arith)

pub returns-then-len-lt12 : goal.returns-then-len-lt12
returns-then-len-lt12 c = between 11 11 WORDS c.args.text.now (omega arith) (omega arith)

pub returns-else-len-lt12 : goal.returns-else-len-lt12
returns-else-len-lt12 c = at_least 12 WORDS c.args.text.now (omega arith)
