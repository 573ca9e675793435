use Rattle.std.proofs.Common.{◌≡◌, ◌≤◌, fold, drop}
use Rattle.spl_terms.specs.Clauses.{clause_symbols}
use Rattle.dfg_reader.specs.GroundClauses.{with_literal, no_literals}
use Rattle.dfg_reader.proofs.ground_clauses.clause_within.Given as goal

abbrev pub invariant-loop-literal : goal.invariant-loop-literal
invariant-loop-literal l = (fold with_literal l.clause (drop l.literal-index l.literals) ≡ fold with_literal no_literals l.literals) × (clause_symbols l.clause ≤ 4096)
