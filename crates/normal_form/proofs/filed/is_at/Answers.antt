use Rattle.std.proofs.Common.{◌∙◌, sym}
use Rattle.spl_terms.specs.Clauses.{is_same}
use Rattle.normal_form.proofs.FiledOnes.{any_at}
use Rattle.normal_form.proofs.filed.is_at.Goals as goal

pub returns-in-Some : goal.returns-in-Some
returns-in-Some c e = any_at (λ b. is_same c.args.atom.now b) c.args.atoms.now c.args.place c.in-Some.other.now c.in-Some.ensures (sym c.same_atom.ensures ∙ e)
