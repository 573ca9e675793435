use Rattle.case_view.specs.Walks.{Reaches}
use Rattle.case_view.specs.Marks.{HasGrown}
use Rattle.case_view.proofs.walking.walk.Given as goal

abbrev pub invariant-loop-place : goal.invariant-loop-place
invariant-loop-place l = record {
  reaches : Reaches l.table.setting l.table.past l.leaf l.way l.place l.case;
  grows : HasGrown l.fn.case l.case;
}
