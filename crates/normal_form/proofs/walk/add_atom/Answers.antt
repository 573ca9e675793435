use Rattle.std.proofs.Common.{◌≡◌, ◌<◌, ◌≤◌, ap, arith}
use Rattle.spl_terms.specs.declared.atom.Atom.{Atom}
use Rattle.spl_terms.specs.Clauses.{atom_symbols, clause_symbols, replace_in_atom}
use Rattle.normal_form.specs.Blocks.{term_in}
use Rattle.normal_form.specs.Gathering.{part_for, with_signed_atom}
use Rattle.normal_form.proofs.Whole.{whole_atom}
use Rattle.normal_form.proofs.walk.add_atom.Goals as goal

pub returns-then-atom_instance_symbols-gt1000000-clause-added : goal.returns-then-atom_instance_symbols-gt1000000-clause-added
returns-then-atom_instance_symbols-gt1000000-clause-added c =
    let a : Atom = replace_in_atom (term_in c.args.walk.now.scopes) c.args.atom.now in
    let same : atom_symbols (replace_in_atom (term_in c.as_slice.result.now) c.args.atom.now) ≡ atom_symbols a = ap (λ bs. atom_symbols (replace_in_atom (term_in bs) c.args.atom.now)) c.as_slice.ensures in
    let more : 1000000 < atom_symbols a = omega (arith, same, c.atom_instance_symbols.ensures, c.if-atom_instance_symbols-gt1000000.true) in
    let whole : atom_symbols a ≤ clause_symbols (with_signed_atom c.args.walk.now.clause (record { sign = c.args.sign; atom = a })) = whole_atom c.args.walk.now.clause (part_for c.args.sign a) a in
    omega (arith, more, whole)
