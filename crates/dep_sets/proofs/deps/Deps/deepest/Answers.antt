use Rattle.std.proofs.Common.{◌≡◌, ◌+◌, ◌-◌, None, drop, sym, subst, arith}
use Rattle.dep_sets.specs.Assumptions.{deepest_place}
use Rattle.dep_sets.proofs.Sets.{deepest_place_found}
use Rattle.dep_sets.proofs.deps.Deps.deepest.Goals as goal

pub returns-then-contains : goal.returns-then-contains
returns-then-contains c =
    let deps = c.args.self.now in
    let path = c.args.path.now in
    let place = c.loop-place.place in
    let same : place ≡ place - 1 + 1 = omega arith in
    let none : deepest_place deps (drop (place - 1 + 1) path) ≡ None = subst (λ n. deepest_place deps (drop n path) ≡ None) same c.loop-place.invariant in
    sym (deepest_place_found deps path (place - 1) _ (omega arith) (sym c.if-contains.ensures) none)
