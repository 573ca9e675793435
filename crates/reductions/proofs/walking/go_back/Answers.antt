use Rattle.std.proofs.Common.{◌∙◌, arith}
use Rattle.reductions.proofs.Walked.{one_less}
use Rattle.reductions.proofs.walking.go_back.Goals as goal

pub returns : goal.returns
returns c = λ before last e. c.pop.ensures.rest ∙ one_less before last _ c.args.path.now.items e (omega (arith, c.args.path.now.ok.0))
