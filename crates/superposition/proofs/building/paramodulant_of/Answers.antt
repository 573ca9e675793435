use Rattle.std.proofs.Common.{◌≡◌, ◌∙◌, ◌++◌, map, sym, ap}
use Rattle.spl_terms.specs.declared.term.Term.{Term}
use Rattle.spl_terms.specs.declared.clause.Clause.{Clause}
use Rattle.spl_terms.specs.declared.clause.Part.TheVariants.{Succedent}
use Rattle.spl_terms.specs.Terms.{replace}
use Rattle.spl_terms.specs.Clauses.{part_of, replace_in_atom}
use Rattle.spl_truth.specs.Truth.{entry, apply}
use Rattle.proof_steps.specs.Spots.{changed_at, with_part, with_term_under}
use Rattle.proof_steps.specs.Steps.{without, joined}
use Rattle.superposition.proofs.building.paramodulant_of.Goals as goal

pub returns-in_ok-rewritten_part-in-Succedent : goal.returns-in_ok-rewritten_part-in-Succedent
returns-in_ok-rewritten_part-in-Succedent c =
    let a = c.args in
    let spot = a.spot.now in
    let s = a.p.1.now.terms in
    let t = a.q.1.now.terms in
    let q : Clause = a.q.0.now in
    let rest : Clause = without Succedent a.i a.p.0.now in
    let new : Term = replace (entry s) a.by.now in
    let fresh : c.in_ok-new.new ≡ new = c.in_ok-new.ensures ∙ ap (λ l. replace (entry l) a.by.now) c.as_slice.ensures in
    let last = c.in_ok-rewritten_part-in-Succedent.ensures ∙ (λ k. map (replace_in_atom (entry s)) (part_of rest (c.in-Succedent.is k)) ++ changed_at spot.place (with_term_under spot.path (fresh k)) (map (replace_in_atom (entry t)) (part_of q (c.in-Succedent.is k)))) in
    (λ k. record { constraint = c.in_ok-joined_part-in-Succedent.ensures k; antecedent = c.in_ok-joined_part-in-Succedent-2.ensures k; succedent = last k })
    ∙ sym (λ k. joined (apply s rest) (with_part (changed_at spot.place (with_term_under spot.path new)) (c.in-Succedent.is k) (apply t q)))
