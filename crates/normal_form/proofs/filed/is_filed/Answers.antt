use Rattle.std.proofs.Common.{◌∙◌, nat_eq, ap}
use Rattle.std.specs.HashMap.{get}
use Rattle.normal_form.proofs.FiledOnes.{not_filed}
use Rattle.normal_form.proofs.filed.is_filed.Goals as goal

pub returns-in-None : goal.returns-in-None
returns-in-None c = not_filed c.args.atoms.now c.args.places.now c.args.atom.now c.requires (c.in-None.ensures.value ∙ ap (get nat_eq c.args.places.now) c.atom_hash.ensures)
