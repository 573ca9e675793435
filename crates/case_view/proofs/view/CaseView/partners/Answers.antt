use Rattle.std.specs.Prelude.{Contains}
use Rattle.std.specs.List.{slice_get}
use Rattle.std.proofs.Common.{◌≡◌, ◌∙◌, ◌<◌, Some, length, eqb, sym, ap, subst, arith}
use Rattle.std.proofs.lemmas.Option.{slice_get_within}
use Rattle.std.proofs.lemmas.List.Sorted.{Contains-permutation}
use Rattle.std.proofs.lemmas.List.Filters.{dedup_is}
use Rattle.std.proofs.lemmas.List.Kept.{Contains-dedup_nat}
use Rattle.case_view.proofs.Meetings.{partners_meet}
use Rattle.case_view.proofs.view.CaseView.partners.Goals as goal

pub returns-clause-places : goal.returns-clause-places
returns-clause-places c = λ n at.
    let same : c.self.inside.case ≡ c.args.self.now = c.self.view_is in
    omega (arith, c.in_ok-places.ensures.below n at, c.len.ensures, ap (λ v. length v.worked) same)

pub returns-clause-all : goal.returns-clause-all
returns-clause-all c = λ n other at is.
    let v = c.args.self.now in
    let same : c.self.inside.case ≡ v = c.self.view_is in
    let given : v.given ≡ Some c.in-Some.given = ap (λ x. x.given) (sym same) ∙ c.in-Some.is in
    let filed = c.self.invariant.literals n other (ap (λ x. slice_get x.worked n) same ∙ at) in
    let found = c.in_ok-found.ensures other.stated.clause n filed (partners_meet v c.in-Some.given other given is) in
    let sorted = Contains-permutation c.in_ok-found.found.items c.sort_unstable.new.self.items n c.sort_unstable.ensures.permutation found in
    let once = subst (λ xs. Contains xs n) (sym (dedup_is eqb c.sort_unstable.new.self.items c.dedup.new.self.items c.dedup.ensures.filtered)) (Contains-dedup_nat c.sort_unstable.new.self.items n sorted) in
    let low : n < c.len.result = omega (arith, slice_get_within v.worked n other at, c.len.ensures, ap (λ x. length x.worked) same) in
    c.in_ok-places.ensures.all n (subst (λ xs. Contains xs n) (sym c.as_slice.ensures.value) once) low
