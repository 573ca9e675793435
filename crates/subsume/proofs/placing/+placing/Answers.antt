use Rattle.std.proofs.Common.{◌∙◌, refl, sym, subst, arith, length-set, get_or}
use Rattle.std.proofs.lemmas.Option.{slice_get-get_or}
use Rattle.std.specs.List.{list_any}
use Rattle.spl_truth.specs.Unifiers.{occurs}
use Rattle.unify.specs.Matches.{IsExtended}
use Rattle.subsume.proofs.Places.{starts_first, placed_here, placed_later, placed_nowhere, none_to_place, first_and_rest, restored_from, placed_one_way, placed_holds, placed_turned, rest_within, bound_after, not_matched, placed_on, not_placed_on, bindings_undone, place_freed}
use Rattle.spl_terms.specs.Clauses.{atom_terms}
use Rattle.subsume.specs.Placing.{plain_one, plain}
use Rattle.subsume.proofs.placing.+placing.Goals as goal

pub place_all-loop-place-init : goal.place_all-loop-place-init
place_all-loop-place-init t c = (refl, refl, starts_first _ _ _ _)

pub place_all-returns-then-branch-clause-placed : goal.place_all-returns-then-branch-clause-placed
place_all-returns-then-branch-clause-placed t c =
    placed_here _ _ _ _ _ _ _ _ _ c.loop-place.invariant.0 c.loop-place.invariant.1 c.in_ok-place_first-in-len1-up.ensures.placed _
    (first_and_rest _ _ c.in-len1-up.len_at_least c.first-item.is) c.if-branch.true

pub place_all-loop-place-preserved : goal.place_all-loop-place-preserved
place_all-loop-place-preserved t c =
    let back = restored_from _ _ _ _ _ c.if-branch.false c.in_ok-place_first-in-len1-up.ensures.restored in (
      back.1 ∙ c.loop-place.invariant.0,
      back.0 ∙ c.loop-place.invariant.1,
      placed_later _ _ _ _ _ _ _ _ _ c.loop-place.invariant.0 c.loop-place.invariant.1 c.in_ok-place_first-in-len1-up.ensures.placed c.if-branch.false c.loop-place.invariant.2,
    )

pub place_all-returns-in-empty-clause-placed : goal.place_all-returns-in-empty-clause-placed
place_all-returns-in-empty-clause-placed t c = λ g a. (a, none_to_place _ _ _ c.in-empty.len_below)

pub place_all-returns-after-loop-place-clause-placed : goal.place_all-returns-after-loop-place-clause-placed
place_all-returns-after-loop-place-clause-placed t c =
    placed_nowhere _ _ _ _ _ _ (first_and_rest _ _ c.in-len1-up.len_at_least c.first-item.is) c.loop-place-test.false c.loop-place.invariant.2

pub place_as-place_all-requires : goal.place_as-place_all-requires
place_as-place_all-requires t c = (
  omega (arith, c.decreases),
  (
    rest_within _ _ _ _ (plain_one c.args.first.now) (plain c.args.rest.now) c.in_ok-match_atom.ensures.extended.as_many (length-set _ _ _) c.requires.within,
    bound_after _ _ _ (atom_terms c.args.first.now.atom.now) _ _ _ c.in_ok-match_atom.ensures.extended.as_many c.if-not-branch.false c.requires.within.0.0 c.in_ok-match_atom.ensures.found c.requires.bound,
  ),
)

pub place_as-returns-then-not-branch-clause-placed : goal.place_as-returns-then-not-branch-clause-placed
place_as-returns-then-not-branch-clause-placed t c =
    not_matched c.args.used.now (plain_one c.args.first.now) (plain c.args.rest.now) c.args.place (get_or c.args.first.now.targets.now c.args.place c.index-first-place.result)
    (omega (arith, c.requires.within.0.1, c.requires.there)) c.requires.free (slice_get-get_or _ _ _ c.requires.there)
    c.args.turned c.args.found.now.1 c.match_atom.new.found.1 (λ v. list_any (occurs v) (atom_terms c.args.first.now.atom.now)) _ c.if-not-branch.true c.in_ok-match_atom.ensures.found

pub place_as-returns-then-not-branch-clause-restored : goal.place_as-returns-then-not-branch-clause-restored
place_as-returns-then-not-branch-clause-restored t c =
    (refl, bindings_undone _ _ _ _ c.in_ok-match_atom.ensures.extended c.count-before.ensures c.undo.ensures.restored)

pub place_as-returns-then-branch-clause-placed : goal.place_as-returns-then-branch-clause-placed
place_as-returns-then-branch-clause-placed t c =
    placed_on c.args.used.now (plain_one c.args.first.now) (plain c.args.rest.now) c.args.place (get_or c.args.first.now.targets.now c.args.place c.index-first-place.result)
    (omega (arith, c.requires.within.0.1, c.requires.there)) c.requires.free (slice_get-get_or _ _ _ c.requires.there)
    c.args.turned c.args.found.now.1 c.match_atom.new.found.1 _ (λ v. list_any (occurs v) (atom_terms c.args.first.now.atom.now)) _ c.if-not-branch.false c.in_ok-match_atom.ensures.found _ c.if-branch.true c.in_ok-place_all.ensures.placed

pub place_as-returns-clause-placed : goal.place_as-returns-clause-placed
place_as-returns-clause-placed t c =
    not_placed_on c.args.used.now (plain_one c.args.first.now) (plain c.args.rest.now) c.args.place (get_or c.args.first.now.targets.now c.args.place c.index-first-place.result)
    (omega (arith, c.requires.within.0.1, c.requires.there)) c.requires.free (slice_get-get_or _ _ _ c.requires.there)
    c.args.turned c.args.found.now.1 c.match_atom.new.found.1 _ (λ v. list_any (occurs v) (atom_terms c.args.first.now.atom.now)) _ c.if-not-branch.false c.in_ok-match_atom.ensures.found _ c.if-branch.false c.in_ok-place_all.ensures.placed

pub place_as-returns-clause-restored : goal.place_as-returns-clause-restored
place_as-returns-clause-restored t c =
    let back = restored_from _ _ _ _ _ c.if-branch.false c.in_ok-place_all.ensures.restored in (
      place_freed _ _ _ _ (omega (arith, c.requires.within.0.1, c.requires.there)) c.requires.free back.0 refl,
      bindings_undone _ _ _ _ (subst (IsExtended c.args.found.now) (sym back.1) c.in_ok-match_atom.ensures.extended) c.count-before.ensures c.undo-2.ensures.restored,
    )

pub place_first-returns-then-branch-clause-placed : goal.place_first-returns-then-branch-clause-placed
place_first-returns-then-branch-clause-placed t c = placed_one_way _ _ _ _ _ _ _ _ c.if-branch.true c.in_ok-place_as.ensures.placed

pub place_first-returns-in-Holds-clause-placed : goal.place_first-returns-in-Holds-clause-placed
place_first-returns-in-Holds-clause-placed t c =
    placed_holds _ _ c.args.used.now (plain_one c.args.first.now) (plain c.args.rest.now) c.args.place _ _ _ c.in-Holds.is c.if-branch.false c.in_ok-place_as.ensures.placed

pub place_first-returns-in_ok-placed-in-Equal-clause-placed : goal.place_first-returns-in_ok-placed-in-Equal-clause-placed
place_first-returns-in_ok-placed-in-Equal-clause-placed t c =
    placed_turned _ _ _ _ _ _ _ _ _ _ c.if-branch.false c.in_ok-place_as.ensures.restored c.in_ok-place_as.ensures.placed c.in_ok-placed-in-Equal.ensures.placed
