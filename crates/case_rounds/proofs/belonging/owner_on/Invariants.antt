use Rattle.std.proofs.Common.{◌≡◌, suc, drop}
use Rattle.case_view.specs.Views.{owner_among, owner_on}
use Rattle.case_rounds.proofs.belonging.owner_on.Given as goal

abbrev pub invariant-loop-k : goal.invariant-loop-k
invariant-loop-k l = owner_among l.owner (drop (suc l.k) l.nodes) (drop l.k l.path) l.deps ≡ owner_on l.nodes l.path l.deps
