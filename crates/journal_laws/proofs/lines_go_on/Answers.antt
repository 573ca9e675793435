use Rattle.case_journal.specs.DeathLaws.{owner_on}
use Rattle.case_journal.specs.Ending.{first_end}
use Rattle.spl_terms.specs.Clauses.{is_empty}
use Rattle.journal_laws.proofs.Publishing.{may_go_on, under_way_more, unended_line, listed_now}
use Rattle.journal_laws.proofs.lines_go_on.Goals as goal
use Rattle.case_journal.specs.Paths.{owner}

pub returns : goal.returns
returns c = record {
  next = may_go_on;
  more = λ s start past w m lines k l legal h at full. under_way_more s start past w m lines k l legal.1 legal.0 h at full;
  listed = λ s past w m l legal there. listed_now s past w m (owner past l.stated.deps m) l (owner_on s past legal l.stated.deps m there);
  unended = λ past w node l full before. unended_line (is_empty l.stated.clause) l.stated.deps (first_end past) full before;
}
