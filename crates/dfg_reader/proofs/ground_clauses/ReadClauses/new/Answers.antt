use Rattle.std.proofs.Common.{length, sym, ap, ◌∙◌}
use Rattle.dfg_reader.specs.GroundClauses.{clauses, are_within_limits}
use Rattle.dfg_reader.proofs.Limits.{clauses-none, none_within}
use Rattle.dfg_reader.proofs.ground_clauses.ReadClauses.new.Goals as goal

pub invariant_of-result : goal.invariant_of-result
invariant_of-result c =
    let none = ap clauses c.new.ensures ∙ clauses-none in
    (sym (ap length none), ap are_within_limits none ∙ none_within)
