use Rattle.std.proofs.Common.{◌≡◌, ◌<◌, ◌++◌}
use Rattle.std.specs.Prelude.{reverse}
use Rattle.case_journal.specs.Journal.{nodes}
use Rattle.case_view.specs.Views.{path_nodes}
use Rattle.case_view.proofs.walking.path_to.Given as goal

abbrev pub invariant-loop-parent : goal.invariant-loop-parent
invariant-loop-parent l = record {
  there : l.node < nodes l.table.past;
  path : path_nodes l.table.past l.fn.node ≡ path_nodes l.table.past l.node ++ reverse l.path.items;
}

abbrev pub decreases-loop-parent : goal.decreases-loop-parent
decreases-loop-parent l = l.node
