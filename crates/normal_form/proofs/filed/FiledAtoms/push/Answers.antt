use Rattle.normal_form.proofs.FiledOnes.{one_more_filed, filed_still, filed_either}
use Rattle.normal_form.proofs.filed.FiledAtoms.push.Goals as goal

pub invariant_of-self-2 : goal.invariant_of-self-2
invariant_of-self-2 c =
    let old = c.self.inside.places in
    let atoms = c.self.inside.atoms in
    let new = c.insert.new.self in
    let u = c.in_ok-insert.ensures.updates in
    filed_either c.push.result new atoms c.push.new.self c.args.atom c.push.ensures.ok c.push.ensures.err
    (one_more_filed old new c.atom_hash.result c.len.result u atoms c.args.atom c.atom_hash.ensures c.self.invariant)
    (filed_still old new c.atom_hash.result c.len.result u atoms c.self.invariant)
