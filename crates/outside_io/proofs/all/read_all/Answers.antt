use Rattle.std.proofs.Common.{◌≡◌, ◌++◌, length, take, arith, length-append}
use Rattle.std.proofs.lemmas.List.{length-take}
use Rattle.std.proofs.KnownBytes.{Consumes-trans}
use Rattle.outside_io.proofs.all.read_all.Goals as goal

pub returns-then-room-count-clause-too_long : goal.returns-then-room-count-clause-too_long
returns-then-room-count-clause-too_long g c =
    λ _.
    let front = take c.in_ok-count.count c.read.new.buf in
    let size : c.in_ok-count.count ≡ length front = c.in_ok-count.ensures.bound.1 in
    (c.loop-piece.bytes.items ++ front, Consumes-trans _ _ _ _ _ c.loop-piece.invariant.bytes c.in_ok-count.ensures.bytes.0, omega (arith, length-append c.loop-piece.bytes.items front, c.in_ok-count.ensures.bound.0, c.read.auto.buf, length-take c.min-asked.result c.deref_mut.result.now))

pub returns-in_err-extend_from_slice-clause-memory :
    goal.returns-in_err-extend_from_slice-clause-memory
returns-in_err-extend_from_slice-clause-memory g c =
    λ _.
    let front = take c.in_ok-count.count c.read.new.buf in
    let size : c.in_ok-count.count ≡ length front = c.in_ok-count.ensures.bound.1 in
    (c.loop-piece.bytes.items ++ front, Consumes-trans _ _ _ _ _ c.loop-piece.invariant.bytes c.in_ok-count.ensures.bytes.0, omega (arith, length-append c.loop-piece.bytes.items front))
