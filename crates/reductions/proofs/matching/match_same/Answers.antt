use Rattle.std.proofs.Common.{false}
use Rattle.reductions.proofs.Stating.{given_some, given_none}
use Rattle.reductions.proofs.Instances.{becomes_matched, never_holds, second_way}
use Rattle.reductions.proofs.matching.match_same.Goals as goal

pub returns-in-Some : goal.returns-in-Some
returns-in-Some c = becomes_matched c.args.vars false c.args.pattern.now c.args.target.now c.in-Some.s (given_some _ _ _ _ c.in-Some.is c.in_ok-s.ensures)

pub returns-in-Holds : goal.returns-in-Holds
returns-in-Holds c = never_holds c.args.pattern.now c.args.target.now _ _ c.in-Holds.is (given_none _ _ _ c.in_default.is c.in_ok-s.ensures)

pub returns-in_ok-found-in-Equal : goal.returns-in_ok-found-in-Equal
returns-in_ok-found-in-Equal c = second_way c.args.vars c.args.pattern.now c.args.target.now _ (given_none _ _ _ c.in_default.is c.in_ok-s.ensures) c.in_ok-found-in-Equal.ensures
