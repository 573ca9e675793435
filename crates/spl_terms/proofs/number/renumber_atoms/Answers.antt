use Rattle.std.proofs.Common.{arith}
use Rattle.spl_terms.specs.declared.term.Term.{Var}
use Rattle.spl_terms.specs.Clauses.{place_in, replace_in_atom}
use Rattle.spl_terms.specs.ChangeLaws.{changed_in_place}
use Rattle.spl_terms.proofs.number.renumber_atoms.Goals as goal

pub loop-atom-preserved : goal.loop-atom-preserved
loop-atom-preserved c =
    changed_in_place (replace_in_atom (λ v. Var (place_in c.args.order.now v))) c.args.atoms.now c.loop-atom.atoms c.loop-atom.atom-index c.atom-item.result c.renumber_atom.new.atom
    (omega arith) c.loop-atom.invariant c.renumber_atom.ensures
