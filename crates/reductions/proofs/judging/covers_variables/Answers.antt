use Rattle.reductions.proofs.Judged.{covers_exact}
use Rattle.reductions.proofs.judging.covers_variables.Goals as goal

pub returns : goal.returns
returns c = covers_exact c.args.term.now c.args.other.now c.in_ok-found.found c.match_term.new.found c.args.vars _ c.is_bound.result c.in_ok-found.ensures c.in_ok-match_term.ensures.found c.is_bound.ensures
