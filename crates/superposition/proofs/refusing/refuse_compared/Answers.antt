use Rattle.std.proofs.Common.{◌≡◌, ◌∙◌, ◌∷◌, [], List, map, ap}
use Rattle.spl_terms.specs.declared.term.Term.{Term}
use Rattle.spl_terms.specs.declared.atom.Atom.{Atom}
use Rattle.spl_terms.specs.declared.atom.Atom.TheVariants.{Equal}
use Rattle.spl_terms.specs.Clauses.{replace_in_atom}
use Rattle.spl_truth.specs.Truth.{entry, apply}
use Rattle.spl_truth.specs.Unifiers.{entries_below}
use Rattle.unify.specs.Bindings.{substitution}
use Rattle.superposition.specs.Sizes.{entries_from, compared}
use Rattle.superposition.proofs.Refused.{with_last, held_alone}
use Rattle.superposition.proofs.refusing.refuse_compared.Goals as goal

pub returns : goal.returns
returns c =
    let a = c.args in
    let made = a.bindings.now.1 in
    let s : List Term = entries_below a.vars (substitution made) in
    let f : Atom → Atom = replace_in_atom (entry s) in
    let equation : c.as_slice.result.now ≡ Equal a.sides.0.now a.sides.1.now ∷ [] = held_alone _ _ _ _ (Equal a.sides.0.now a.sides.1.now) c.as_slice.ensures c.in_ok-push.ensures.ok c.in_ok-equation.ensures (λ k. Equal (c.in_ok-copy.ensures k) (c.in_ok-copy-2.ensures k)) in
    c.refuse_big.ensures (apply s (compared a.p.now a.i a.sides.0.now a.sides.1.now))
    (c.left.ensures a.vars made ∙ ap (map f) c.left_of-2.ensures)
    (with_last f (replace_in_atom (entry (entries_from a.vars a.vars made))) c.left_of.result.0.now c.left_of.result.1.now _ c.as_slice.result.now (Equal a.sides.0.now a.sides.1.now) c.left_of.ensures equation)
    (c.left-2.ensures a.vars made ∙ ap (map f) c.left_of-3.ensures)
