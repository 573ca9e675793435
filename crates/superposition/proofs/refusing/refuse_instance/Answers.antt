use Rattle.std.proofs.Common.{◌∙◌, List, map, ap, append-nil}
use Rattle.spl_terms.specs.declared.term.Term.{Term}
use Rattle.spl_terms.specs.declared.atom.Atom.{Atom}
use Rattle.spl_terms.specs.Clauses.{replace_in_atom}
use Rattle.spl_truth.specs.Truth.{entry, apply}
use Rattle.spl_truth.specs.Unifiers.{entries_below}
use Rattle.unify.specs.Bindings.{substitution}
use Rattle.superposition.proofs.refusing.refuse_instance.Goals as goal

pub returns : goal.returns
returns c =
    let a = c.args in
    let made = a.bindings.now.1 in
    let s : List Term = entries_below a.vars (substitution made) in
    let f : Atom → Atom = replace_in_atom (entry s) in
    c.refuse_big.ensures (apply s a.p.now)
    (c.left.ensures a.vars made ∙ ap (map f) (append-nil c.as_slice.result.now ∙ c.as_slice.ensures))
    (c.left-2.ensures a.vars made ∙ ap (map f) (append-nil c.as_slice-2.result.now ∙ c.as_slice-2.ensures))
    (c.left-3.ensures a.vars made ∙ ap (map f) (append-nil c.as_slice-3.result.now ∙ c.as_slice-3.ensures))
