use Rattle.std.proofs.Common.{arith, subst}
use Rattle.std.specs.Prelude.{Contains}
use Rattle.case_rounds.specs.Rounds.{IsPremiseAt}
use Rattle.case_rounds.proofs.Lines.{premise_is, premises_more, all_pairs}
use Rattle.case_rounds.proofs.round.cover_all.Goals as goal

pub premise_at-other-requires-clause-worked : goal.premise_at-other-requires-clause-worked
premise_at-other-requires-clause-worked c = λ n at. c.in_ok-partners.ensures.places n (subst (λ xs. Contains xs n) c.as_slice.ensures.value at)

pub cover_pair-requires-clause-other : goal.cover_pair-requires-clause-other
cover_pair-requires-clause-other c =
    let v = c.args.view.now in
    let given = c.args.given.now in
    let other = c.premise_at-other.result.now in
    let places = c.in_ok-partners.partners.items in
    premise_is v given places c.loop-place.place other c.requires.given (subst (λ xs. IsPremiseAt v given xs c.loop-place.place other) c.as_slice.ensures.value c.premise_at-other.ensures)

pub loop-place-preserved : goal.loop-place-preserved
loop-place-preserved c =
    let v = c.args.view.now in
    let given = c.args.given.now in
    let other = c.premise_at-other.result.now in
    let places = c.in_ok-partners.partners.items in
    let r = c.in_ok-cover_pair.ensures in
    let at = subst (λ xs. IsPremiseAt v given xs c.loop-place.place other) c.as_slice.ensures.value c.premise_at-other.ensures in
    record {
      round = r.round;
      covers = premises_more v c.loop-place.lines c.cover_pair.new.lines given places c.loop-place.place other r.extends c.loop-place.invariant.covers at (r.first, r.second);
    }

pub returns-clause-covers : goal.returns-clause-covers
returns-clause-covers c =
    all_pairs c.args.view.now c.loop-place.lines c.args.given.now c.in_ok-partners.partners.items c.loop-place.place c.requires.given (omega (arith, c.loop-place-test.false)) c.loop-place.invariant.covers c.in_ok-partners.ensures.all
