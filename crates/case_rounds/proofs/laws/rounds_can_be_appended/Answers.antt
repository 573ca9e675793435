use Rattle.std.proofs.Common.{◌≡◌, Option, Some, None, refl}
use Rattle.std.specs.Prelude.{IsSome}
use Rattle.case_journal.specs.PlaceLaws.{claimed_within}
use Rattle.case_view.specs.declared.kept.Kept.{Kept}
use Rattle.case_rounds.proofs.Batches.{ready}
use Rattle.case_rounds.proofs.laws.rounds_can_be_appended.Goals as goal

given_of : (o : Option Kept) → IsSome o → (k : Kept) × (o ≡ Some k)
given_of (Some k) h = (k, refl)
given_of None h = absurd (cc)

pub returns : goal.returns
returns c = λ s past v batch legal stands some h.
    let given = given_of v.given some in
    let has = c.views_have_the_clauses.ensures s past v legal stands.is in
    let chosen = (has.given given.0 given.1).1 in
    let since = c.since_the_choice.ensures.always s past legal v.worker v.node given.0.number stands.holds chosen in
    let there = claimed_within s past legal v.worker v.node stands.holds.claims in
    ready s past v given.0 given.1 stands.holds stands.is.splits has stands.is (λ deps. c.paths_give_the_owners.ensures s past legal deps v.node there) legal since (λ ls made. c.ready_stays.ensures.made s past v.worker v.node ls made) batch h
