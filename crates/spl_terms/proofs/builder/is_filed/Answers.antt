use Rattle.std.proofs.Common.{◌∙◌, nat_eq, ap}
use Rattle.std.specs.HashMap.{get}
use Rattle.spl_terms.proofs.HashLemmas.{only_first}
use Rattle.spl_terms.proofs.builder.is_filed.Goals as goal

pub returns-in-None : goal.returns-in-None
returns-in-None c =
    let none = c.in-None.ensures.value ∙ ap (get nat_eq c.args.places.now) c.atom_hash.ensures in
    c.is_among_first.ensures ∙ only_first c.args.atoms.now c.args.places.now c.args.atom.now c.requires.filed none
