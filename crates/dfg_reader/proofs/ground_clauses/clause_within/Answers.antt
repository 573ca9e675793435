use Rattle.std.proofs.Common.{◌≡◌, ◌≤◌, fold, ap, sym, subst, arith}
use Rattle.spl_terms.specs.declared.clause.Clause.{Clause}
use Rattle.spl_terms.specs.Clauses.{clause_symbols}
use Rattle.dfg_reader.specs.GroundClauses.{with_literal, no_literals}
use Rattle.dfg_reader.proofs.Limits.{no_atoms_yet, already_large, is_large}
use Rattle.dfg_reader.proofs.ground_clauses.clause_within.Goals as goal

pub loop-literal-init : goal.loop-literal-init
loop-literal-init c =
    let none : c.new-clause.result ≡ no_literals = no_atoms_yet c.new-clause.result c.new-clause.ensures in
    (ap (λ (d : Clause). fold with_literal d c.args.literals.now) none, subst (λ d. clause_symbols d ≤ 4096) (sym none) (omega arith))

pub returns-in-Err-Big : goal.returns-in-Err-Big
returns-in-Err-Big c =
    already_large c.loop-literal.clause c.args.literals.now c.loop-literal.literal-index c.literal-item.result (fold with_literal no_literals c.args.literals.now) (omega arith) c.literal-item.is c.loop-literal.invariant.0 (is_large (Unit {0}) _ c.in-Err-Big.field-0 _ c.in-Err-Big.field-0-is c.in-Err-Big.ensures.big)
