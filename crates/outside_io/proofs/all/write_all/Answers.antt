use Rattle.std.proofs.Common.{◌≡◌, ◌∙◌, ◌-◌, length, take, drop, arith, subst, length-drop}
use Rattle.std.proofs.lemmas.List.{take_all}
use Rattle.std.specs.Io.KnownBytes.{Appends}
use Rattle.outside_io.proofs.Streams.{appends_take}
use Rattle.outside_io.proofs.all.write_all.Goals as goal

pub loop-at-preserved : goal.loop-at-preserved
loop-at-preserved g c =
    let bytes = c.args.bytes.now in
    let at = c.loop-at.at in
    let rest : take (length bytes - at) (drop at bytes) ≡ drop at bytes = take_all (length bytes - at) (drop at bytes) (omega (arith, length-drop at bytes)) in
    let before = g.K.Sink.written c.loop-at.sink in
    let after = g.K.Sink.written c.write.new.self in
    let more : Appends before after (take c.in_ok-at.field-0 (drop at bytes)) = subst (λ z. Appends before after (take c.in_ok-at.field-0 z)) rest c.in_ok-at.ensures.bytes in
    let bound = c.in_ok-at.ensures.bound in
    record {
      within = omega (arith, bound, length-drop at bytes, c.loop-at.invariant.within);
      bytes = appends_take _ before after at c.in_ok-at.field-0 bytes c.loop-at.invariant.bytes more;
      faults = ◌∙◌ {b = g.K.Sink.faults c.loop-at.sink} c.in_ok-at.ensures.faults c.loop-at.invariant.faults;
    }
