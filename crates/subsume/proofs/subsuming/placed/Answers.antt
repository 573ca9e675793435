use Rattle.subsume.specs.Placing.{plain}
use Rattle.subsume.proofs.Entries.{placed_by, placed_by_none}
use Rattle.subsume.proofs.subsuming.placed.Goals as goal

pub returns-then-branch : goal.returns-then-branch
returns-then-branch c =
    placed_by c.args.vars c.in_ok-found.found c.place_all.new.found c.in_ok-used.used.items _ (plain c.args.atoms.now) _ c.in_ok-found.ensures c.in_ok-used.ensures.free c.as_mut_slice.ensures.value c.in_ok-place_all.ensures.placed
    c.in_ok-entries.field-0.terms c.if-branch.true c.in_ok-place_all.ensures.bound c.in_ok-entries.ensures

pub returns : goal.returns
returns c =
    placed_by_none c.args.vars c.in_ok-found.found c.place_all.new.found c.in_ok-used.used.items _ (plain c.args.atoms.now) _ c.in_ok-found.ensures c.in_ok-used.ensures.free c.as_mut_slice.ensures.value c.in_ok-place_all.ensures.placed c.if-branch.false
