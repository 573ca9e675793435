use Rattle.std.proofs.Common.{◌≡◌, false, sym, ap, ◌∙◌, arith}
use Rattle.std.specs.List.{list_any}
use Rattle.spl_terms.specs.Clauses.{clause_symbols, is_same, part_of}
use Rattle.spl_terms.specs.SizeLaws.{with_atom-new}
use Rattle.normal_form.proofs.gathering.Gathering.add.Goals as goal

pub push_new-requires-clause-counted : goal.push_new-requires-clause-counted
push_new-requires-clause-counted c =
    let none : list_any (λ b. is_same c.args.atom b) (part_of c.args.self.now c.part_for-part.result) ≡ false =
    ap (λ d. list_any (λ b. is_same c.args.atom b) (part_of d c.part_for-part.result)) (sym c.self.view_is) ∙ sym c.contains.ensures ∙ c.if-contains.false in
    omega (arith, with_atom-new c.args.self.now c.part_for-part.result c.args.atom none, c.saturating_add-symbols.ensures, c.symbols.ensures, c.self.invariant.0, ap clause_symbols c.self.view_is, c.if-symbols-gt1000000.false)
