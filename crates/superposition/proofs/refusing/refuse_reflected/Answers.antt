use Rattle.std.proofs.Common.{◌∙◌, List, map, ap}
use Rattle.spl_terms.specs.declared.term.Term.{Term}
use Rattle.spl_terms.specs.declared.atom.Atom.{Atom}
use Rattle.spl_terms.specs.Clauses.{replace_in_atom}
use Rattle.spl_truth.specs.Truth.{entry}
use Rattle.spl_truth.specs.Unifiers.{entries_below}
use Rattle.unify.specs.Bindings.{substitution}
use Rattle.superposition.specs.Sizes.{reflected_by}
use Rattle.superposition.proofs.refusing.refuse_reflected.Goals as goal

pub returns : goal.returns
returns c =
    let a = c.args in
    let made = a.bindings.now.1 in
    let s : List Term = entries_below a.vars (substitution made) in
    let f : Atom → Atom = replace_in_atom (entry s) in
    c.refuse_big.ensures (reflected_by a.p.now a.j s)
    (c.left.ensures a.vars made ∙ ap (map f) c.left_of.ensures)
    (c.left-2.ensures a.vars made ∙ ap (map f) c.left_of-2.ensures)
    (c.left-3.ensures a.vars made ∙ ap (map f) c.left_of-3.ensures)
