use Rattle.std.proofs.Common.{◌≡◌, ◌<◌, ◌∙◌, IfOk, MatchOption, ap, subst}
use Rattle.spl_terms.specs.declared.clause.Clause.{Clause}
use Rattle.spl_terms.specs.declared.clause.Part.TheVariants.{Succedent}
use Rattle.spl_terms.specs.Terms.{replace}
use Rattle.spl_terms.specs.Clauses.{clause_symbols, part_of, replace_in_atom, in_order}
use Rattle.spl_truth.specs.Truth.{entry, apply}
use Rattle.proof_steps.specs.Spots.{changed_at, with_part, with_term_under}
use Rattle.proof_steps.specs.Steps.{without, joined}
use Rattle.proof_steps.proofs.Rules.{there-below}
use Rattle.proof_steps.proofs.Paramodulation.{conclusion_is, large_changed}
use Rattle.proof_steps.proofs.paramodulants.paramodulant.Goals as goal

pub returns-in_default : goal.returns-in_default
returns-in_default c =
    let a = c.args in
    let q = a.q.clause.now in
    let large = rw c.as_slice.ensures at (rw c.in_default.is at c.in_ok-changed.ensures) in
    large_changed a.i a.spot.now a.p.entries.now a.q.entries.now a.p.clause.now q a.side.now a.atom.now c.requires.there (there-below (part_of q a.spot.now.part) a.spot.now.place a.atom.now c.requires.there) large

pub joined_instances-requires : goal.joined_instances-requires
joined_instances-requires c =
    let a = c.args in
    there-below (part_of a.q.clause.now a.spot.now.part) a.spot.now.place a.atom.now c.requires.there

pub returns : goal.returns
returns c =
    let a = c.args in
    let spot = a.spot.now in
    let s = a.p.entries.now in
    let t = a.q.entries.now in
    let p = a.p.clause.now in
    let q = a.q.clause.now in
    let rest : c.without_succedent-rest.result ≡ without Succedent a.i p = c.without_succedent-rest.ensures ∙ ap (without Succedent a.i) c.in_ok-copy.ensures in
    let changed : c.in-Some.changed ≡ with_term_under spot.path (replace (entry s) a.side.now) (replace_in_atom (entry t) a.atom.now) = rw c.as_slice.ensures at (rw c.in-Some.is at c.in_ok-changed.ensures) in
    subst (λ (d : Clause). IfOk c.joined_instances.result (λ made. MatchOption made (4096 < clause_symbols (in_order d)) (λ kept. in_order kept ≡ in_order d)))
    ((λ k. joined (apply s (rest k)) (with_part (changed_at spot.place (λ b. changed k)) spot.part (apply t q))) ∙ conclusion_is a.i spot s t p q a.side.now a.atom.now c.requires.there)
    c.joined_instances.ensures
