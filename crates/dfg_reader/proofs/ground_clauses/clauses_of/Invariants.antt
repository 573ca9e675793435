use Rattle.std.proofs.Common.{◌≡◌, ◌++◌, true, drop}
use Rattle.std.specs.List.{list_all}
use Rattle.dfg_reader.specs.GroundClauses.{clauses, is_small}
use Rattle.dfg_reader.proofs.ground_clauses.clauses_of.Given as goal

abbrev pub invariant-loop-entry : goal.invariant-loop-entry
invariant-loop-entry l = (l.found ++ clauses (drop l.entry-index l.problem.entries) ≡ clauses l.problem.entries) × (list_all is_small (clauses (drop l.entry-index l.problem.entries)) ≡ true)
