use Rattle.std.proofs.Common.{◌+◌, ◌<◌, ◌≤◌, ◌∷◌, length, ap, arith}
use Rattle.case_journal.specs.declared.event.Event.TheVariants.{Split}
use Rattle.case_journal.specs.Journal.{counted}
use Rattle.case_journal.specs.Legal.{IsSettled}
use Rattle.case_journal.specs.FactLaws.{moved}
use Rattle.clause_splitting.proofs.Legality.{MaySplit, splittable, legal_split, legal_full}
use Rattle.clause_splitting.proofs.Tree.{split_settled}
use Rattle.clause_splitting.proofs.splitting.split.Goals as goal

pub apply-requires-clause-legal : goal.apply-requires-clause-legal
apply-requires-clause-legal c =
    let a = c.args in
    let t = a.table.now in
    let r = c.requires in
    let may : MaySplit t.setting t.past a.by a.node a.steps a.put_off =
    record { concluded = c.laws.ensures.concluded; some = r.some; worker = r.worker; unended = r.unended; holds = r.holds; free = r.free; settled = r.settled; is = r.is } in
    let many : t.setting.limits.steps < counted t.past + length a.steps = omega (arith, c.if-counted-len.true, c.len.ensures, c.counted.ensures, ap (λ l. l.steps) c.limits.ensures) in
    legal_full t.setting t.past a.by a.node a.steps a.put_off may many

pub apply-requires-2-clause-legal : goal.apply-requires-2-clause-legal
apply-requires-2-clause-legal c =
    let a = c.args in
    let t = a.table.now in
    let r = c.requires in
    let may : MaySplit t.setting t.past a.by a.node a.steps a.put_off =
    record { concluded = c.laws.ensures.concluded; some = r.some; worker = r.worker; unended = r.unended; holds = r.holds; free = r.free; settled = r.settled; is = r.is } in
    let few : counted t.past + length a.steps ≤ t.setting.limits.steps = omega (arith, c.if-counted-len.false, c.len.ensures, c.counted.ensures, ap (λ l. l.steps) c.limits.ensures) in
    legal_split t.setting t.past a.by a.node a.steps a.put_off may few

pub returns-clause-done : goal.returns-clause-done
returns-clause-done c =
    let a = c.args in
    let t = a.table.now in
    let r = c.requires in
    let may : MaySplit t.setting t.past a.by a.node a.steps a.put_off =
    record { concluded = c.laws.ensures.concluded; some = r.some; worker = r.worker; unended = r.unended; holds = r.holds; free = r.free; settled = r.settled; is = r.is } in
    let new = c.apply-2.new.self in
    record {
      lines = a.steps;
      put_off = a.put_off;
      is = c.apply-2.ensures.past;
      settled = moved (λ s p. IsSettled s p) t.setting new.setting (record { by = a.by; event = Split a.node a.steps a.put_off } ∷ t.past) new.past c.apply-2.ensures.setting c.apply-2.ensures.past
          (split_settled t.setting t.past a.by a.node a.steps a.put_off c.laws.ensures.legal (splittable t.setting t.past a.by a.node a.steps a.put_off may));
    }
