use Rattle.std.proofs.Common.{◌≡◌, ◌∙◌, [], IfOk, drop, ap, subst}
use Rattle.spl_terms.specs.Clauses.{replace_in_atom}
use Rattle.spl_truth.specs.Truth.{entry}
use Rattle.spl_truth.specs.Unifiers.{entries_below}
use Rattle.proof_steps.specs.Spots.{with_term_under}
use Rattle.unify.specs.Bindings.{substitution}
use Rattle.superposition.specs.Walks.{raised_atom}
use Rattle.superposition.proofs.Refused.{raising_there}
use Rattle.superposition.proofs.refusing.changed_atom.Goals as goal

pub returns : goal.returns
returns c =
    let r = c.args.r in
    let entries : c.as_slice.result.now ≡ drop r.pair.first (entries_below r.pair.both (substitution [])) =
    c.as_slice.ensures ∙ c.in_ok-raising.ensures ∙ ap (λ b. drop r.pair.first (entries_below r.pair.both (substitution b.1))) c.in_ok-none.ensures in
    let raised : replace_in_atom (entry c.as_slice.result.now) r.atom.now ≡ raised_atom r = ap (λ e. replace_in_atom (entry e) r.atom.now) entries ∙ raising_there r c.requires.ready in
    subst (λ t. IfOk c.atom_with.result (λ made. made ≡ t)) (λ k. with_term_under c.args.path.now (c.in_ok-new.ensures k) (raised k)) c.atom_with.ensures
