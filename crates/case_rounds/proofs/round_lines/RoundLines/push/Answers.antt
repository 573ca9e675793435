use Rattle.case_rounds.proofs.Found.{pushed}
use Rattle.case_rounds.proofs.round_lines.RoundLines.push.Goals as goal

pub invariant_of-self-2 : goal.invariant_of-self-2
invariant_of-self-2 c = pushed c.self.inside.lines c.push.new.self c.args.line c.self.inside.clauses c.file_clause.new.self c.len-place.result c.in_ok-push.ensures.ok c.self.invariant c.file_clause.ensures.keeps c.len-place.ensures c.in_ok-file_clause.ensures.filed
