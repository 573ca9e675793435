use Rattle.std.proofs.Common.{[], subst}
use Rattle.superposition.specs.Appending.{Appended}
use Rattle.superposition.specs.Walks.{rewrite_argument}
use Rattle.superposition.specs.AppendingLaws.{then_more, then_none}
use Rattle.superposition.proofs.Walked.{left_side_is, right_side_is}
use Rattle.superposition.proofs.rewriting.superpose_in_sides.Goals as goal

pub superpose_in_side-requires-clause-side : goal.superpose_in_side-requires-clause-side
superpose_in_side-requires-clause-side c =
    let a = c.args in
    left_side_is (record { pair = a.r.pair; equation = a.r.equation; part = a.r.part; place = a.r.place; atom = a.r.atom; side = c.standings-forth.result.0 }) (record { pair = c.requires.ready.pair; equation = c.requires.ready.equation; atom = c.requires.ready.atom }) c.args.left.now c.args.right.now c.requires.sides c.standings-forth.ensures.forth

pub superpose_in_side-requires-2-clause-side : goal.superpose_in_side-requires-2-clause-side
superpose_in_side-requires-2-clause-side c =
    let a = c.args in
    right_side_is (record { pair = a.r.pair; equation = a.r.equation; part = a.r.part; place = a.r.place; atom = a.r.atom; side = c.standings-forth.result.1 }) (record { pair = c.requires.ready.pair; equation = c.requires.ready.equation; atom = c.requires.ready.atom }) c.args.left.now c.args.right.now c.requires.sides c.standings-forth.ensures.back

pub returns-in-Err : goal.returns-in-Err
returns-in-Err c =
    let a = c.args in
    let first = rewrite_argument a.r [] (0, a.left.now) in
    then_none first (rewrite_argument a.r [] (1, a.right.now)) a.out.now.items c.superpose_in_side.new.out.items c.in-Err.error (subst (λ x. Appended first a.out.now.items c.superpose_in_side.new.out.items x) c.in-Err.is c.superpose_in_side.ensures)

pub returns : goal.returns
returns c =
    let a = c.args in
    let first = rewrite_argument a.r [] (0, a.left.now) in
    then_more first (rewrite_argument a.r [] (1, a.right.now)) a.out.now.items c.superpose_in_side.new.out.items c.superpose_in_side-2.new.out.items c.in_default.field-0 c.superpose_in_side-2.result
    (subst (λ x. Appended first a.out.now.items c.superpose_in_side.new.out.items x) c.in_default.is c.superpose_in_side.ensures)
    c.superpose_in_side-2.ensures
