use Rattle.std.proofs.Common.{◌≡◌, fold, drop}
use Rattle.dfg_problem.specs.Declarations.{with_sort, sort_atoms}
use Rattle.dfg_problem.proofs.build.sort_atoms.Given as goal

abbrev pub invariant-loop-sort : goal.invariant-loop-sort
invariant-loop-sort l = fold with_sort l.atoms (drop l.sort-index l.sorts) ≡ sort_atoms l.sorts
