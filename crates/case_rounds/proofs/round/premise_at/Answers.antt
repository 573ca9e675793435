use Rattle.std.proofs.Common.{◌≡◌, ◌∙◌, ◌-◌, ◌<◌, suc, Some, slice_index_or, sym, ap, subst, arith, length}
use Rattle.std.specs.Prelude.{Contains}
use Rattle.std.specs.List.{slice_get}
use Rattle.std.proofs.lemmas.Grind.{get_or_default_zero}
use Rattle.std.proofs.lemmas.Option.{slice_get-get_or}
use Rattle.case_rounds.specs.Rounds.{IsPremiseAt}
use Rattle.case_rounds.proofs.round.premise_at.Goals as goal

pub bounds-worked-partners : goal.bounds-worked-partners
bounds-worked-partners c =
    let k = c.args.place - 1 in
    let p = slice_index_or c.args.partners.now k 0 in
    let there : Contains c.args.partners.now p = (k, omega (arith, c.requires.there, c.if-place-eq0.false), get_or_default_zero c.args.partners.now k p (omega (arith, c.requires.there, c.if-place-eq0.false))) in
    omega (arith, c.requires.worked p there, ap length c.worked.ensures)

pub returns : goal.returns
returns c =
    let v = c.args.view.now in
    let given = c.args.given.now in
    let places = c.args.partners.now in
    let k = c.args.place - 1 in
    let p = slice_index_or places k 0 in
    let low : k < length places = omega (arith, c.requires.there, c.if-place-eq0.false) in
    let there : Contains places p = (k, low, get_or_default_zero places k p low) in
    let other = c.index-worked-partners.result in
    let ws = c.worked.result.now in
    let at : slice_get ws p ≡ Some other = slice_get-get_or ws p other (omega (arith, c.requires.worked p there, ap length c.worked.ensures)) ∙ ap Some (sym c.index-worked-partners.is) in
    let next : suc k ≡ c.args.place = omega (arith, c.if-place-eq0.false) in
    subst (λ n. IsPremiseAt v given places n other) next (p, slice_get-get_or places k 0 low, ap (λ xs. slice_get xs p) (sym c.worked.ensures) ∙ at)
