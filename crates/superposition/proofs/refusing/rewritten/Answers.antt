use Rattle.std.proofs.Common.{◌∙◌, ◌+◌, ◌++◌, List, take, map, sym, ap}
use Rattle.spl_terms.specs.declared.atom.Atom.{Atom}
use Rattle.spl_terms.specs.Clauses.{replace_in_atom}
use Rattle.spl_truth.specs.Truth.{entry}
use Rattle.superposition.specs.Sizes.{entries_from}
use Rattle.superposition.proofs.Instances.{take_rest}
use Rattle.superposition.proofs.Refused.{changed_part, kept_part}
use Rattle.superposition.proofs.refusing.rewritten.Goals as goal

pub returns-then-is_same : goal.returns-then-is_same
returns-then-is_same c = λ path made one leads.
    let r = c.args.r in
    let atoms : List Atom = c.part-atoms.result.now in
    let first : Atom → Atom = replace_in_atom (entry (entries_from 0 r.pair.first made)) in
    let second : Atom → Atom = replace_in_atom (entry (entries_from r.pair.first r.pair.both made)) in
    let changed : Atom → Atom = replace_in_atom (entry (entries_from 0 r.pair.both made)) in
    ap (λ l. map first (c.left_of.result.0.now ++ c.left_of.result.1.now) ++ (map second (take r.place atoms) ++ (map changed c.args.changed.now ++ map second l))) (take_rest (r.place + 1) atoms)
    ∙ changed_part r c.requires made path leads c.args.of c.left_of.result.0.now c.left_of.result.1.now atoms c.args.changed.now (sym c.is_same.ensures ∙ c.if-is_same.true) c.left_of.ensures c.part-atoms.ensures one

pub returns : goal.returns
returns c = λ path made one leads.
    kept_part c.args.r c.requires made path leads c.args.of c.left_of.result.0.now c.left_of.result.1.now c.part-atoms.result.now (sym c.is_same.ensures ∙ c.if-is_same.false) c.left_of.ensures c.part-atoms.ensures
