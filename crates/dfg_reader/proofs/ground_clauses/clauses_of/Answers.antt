use Rattle.std.proofs.Common.{◌≤◌, ◌+◌, ◌++◌, drop, List, length, get_or, refl, sym, ap, subst, ◌∙◌, append_assoc, arith}
use Rattle.spl_terms.specs.declared.clause.Clause.{Clause}
use Rattle.dfg_reader.specs.GroundClauses.{entry_clauses, clauses, are_within_limits}
use Rattle.dfg_reader.proofs.Limits.{few, all_small, entry-next, small-next, whole, small_at}
use Rattle.dfg_reader.proofs.ground_clauses.clauses_of.Goals as goal

pub loop-entry-init : goal.loop-entry-init
loop-entry-init c = (rw c.new-found.ensures refl, all_small _ c.requires)

pub push_clause-requires : goal.push_clause-requires
push_clause-requires c = (small-next c.args.problem.now.entries c.loop-entry.entry-index c.entry-item.result (omega (arith, ap length c.as_slice-entry-items.ensures)) (c.entry-item.is ∙ ap (λ es. get_or es c.loop-entry.entry-index c.entry-item.result) c.as_slice-entry-items.ensures) c.loop-entry.invariant.1).0

pub loop-entry-preserved : goal.loop-entry-preserved
loop-entry-preserved c =
    let es = c.args.problem.now.entries in
    let i = c.loop-entry.entry-index in
    let next = entry-next es i c.entry-item.result (omega (arith, ap length c.as_slice-entry-items.ensures)) (c.entry-item.is ∙ ap (λ es. get_or es c.loop-entry.entry-index c.entry-item.result) c.as_slice-entry-items.ensures) in
    (ap (λ (cs : List Clause). cs ++ clauses (drop (i + 1) es)) c.in_ok-push_clause.ensures ∙ append_assoc c.loop-entry.found (entry_clauses c.entry-item.result) (clauses (drop (i + 1) es)) ∙ ap (λ (cs : List Clause). c.loop-entry.found ++ cs) (sym next) ∙ c.loop-entry.invariant.0, (small-next es i c.entry-item.result (omega (arith, ap length c.as_slice-entry-items.ensures)) (c.entry-item.is ∙ ap (λ es. get_or es c.loop-entry.entry-index c.entry-item.result) c.as_slice-entry-items.ensures) c.loop-entry.invariant.1).1)

pub returns-clause-exact : goal.returns-clause-exact
returns-clause-exact c = whole c.loop-entry.found c.args.problem.now.entries c.loop-entry.entry-index (clauses c.args.problem.now.entries) (omega (arith, ap length c.as_slice-entry-items.ensures)) c.loop-entry.invariant.0

pub returns-clause-few : goal.returns-clause-few
returns-clause-few c =
    let is = whole c.loop-entry.found c.args.problem.now.entries c.loop-entry.entry-index (clauses c.args.problem.now.entries) (omega (arith, ap length c.as_slice-entry-items.ensures)) c.loop-entry.invariant.0 in
    subst (λ (cs : List Clause). length cs ≤ 65536) (sym is) (few _ c.requires)

pub returns-clause-small : goal.returns-clause-small
returns-clause-small c k d at =
    let is = whole c.loop-entry.found c.args.problem.now.entries c.loop-entry.entry-index (clauses c.args.problem.now.entries) (omega (arith, ap length c.as_slice-entry-items.ensures)) c.loop-entry.invariant.0 in
    small_at c.loop-entry.found k d (ap are_within_limits is ∙ c.requires) at
