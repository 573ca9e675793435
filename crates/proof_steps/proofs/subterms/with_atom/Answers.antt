use Rattle.std.proofs.Common.{◌∙◌, get_or, sym, ap, arith}
use Rattle.std.specs.List.{slice_set}
use Rattle.proof_steps.specs.Spots.{with_term_under}
use Rattle.proof_steps.proofs.Steps.{same_atom}
use Rattle.proof_steps.proofs.Places.{changed_set}
use Rattle.proof_steps.proofs.subterms.with_atom.Goals as goal

pub returns : goal.returns
returns c =
    let a = c.args in
    let x = c.index-as_slice-place.result in
    c.set.ensures
    ∙ ap (slice_set a.atoms a.place) (c.in_ok-made.ensures ∙ ap (with_term_under a.path.now a.new.now) (same_atom x))
    ∙ sym (changed_set a.place (with_term_under a.path.now a.new.now) a.atoms x (omega arith) (c.index-as_slice-place.is ∙ ap (λ xs. get_or xs a.place x) c.as_slice.ensures))
