use Rattle.std.proofs.Common.{◌≡◌, ◌≤◌, true, false, ◌∙◌, sym, ap, subst, arith}
use Rattle.std.specs.List.{list_any}
use Rattle.spl_terms.specs.Clauses.{clause_symbols, is_same, part_of}
use Rattle.spl_terms.specs.SizeLaws.{with_atom-repeated, with_atom-new}
use Rattle.spl_terms.proofs.builder.ClauseBuilder.push.Goals as goal

pub returns-then-contains-clause-ok : goal.returns-then-contains-clause-ok
returns-then-contains-clause-ok c =
    let found : list_any (λ b. is_same c.args.atom b) (part_of c.args.self.now c.args.part) ≡ true =
    ap (λ d. list_any (λ b. is_same c.args.atom b) (part_of d c.args.part)) (sym c.self.view_is) ∙ sym c.contains.ensures ∙ c.if-contains.true in
    sym (with_atom-repeated c.args.self.now c.args.part c.args.atom found)

pub returns-then-contains-clause-big : goal.returns-then-contains-clause-big
returns-then-contains-clause-big c =
    let small : clause_symbols c.args.self.now ≤ 4096 = omega (arith, c.self.invariant.0, c.self.invariant.1, ap clause_symbols c.self.view_is) in
    subst (λ d. clause_symbols d ≤ 4096) (returns-then-contains-clause-ok c) small

pub returns-then-count-gt4096-clause-big : goal.returns-then-count-gt4096-clause-big
returns-then-count-gt4096-clause-big c =
    let none : list_any (λ b. is_same c.args.atom b) (part_of c.args.self.now c.args.part) ≡ false =
    ap (λ d. list_any (λ b. is_same c.args.atom b) (part_of d c.args.part)) (sym c.self.view_is) ∙ sym c.contains.ensures ∙ c.if-contains.false in
    let more = with_atom-new c.args.self.now c.args.part c.args.atom none in
    (omega (arith, more, c.grown-count.ensures, c.if-count-gt4096.true), omega (arith, more, c.grown-count.ensures, c.min.ensures, c.if-count-gt4096.true))

pub push_new-requires-clause-counted : goal.push_new-requires-clause-counted
push_new-requires-clause-counted c =
    let none : list_any (λ b. is_same c.args.atom b) (part_of c.args.self.now c.args.part) ≡ false =
    ap (λ d. list_any (λ b. is_same c.args.atom b) (part_of d c.args.part)) (sym c.self.view_is) ∙ sym c.contains.ensures ∙ c.if-contains.false in
    let more = with_atom-new c.args.self.now c.args.part c.args.atom none in
    omega (arith, more, c.grown-count.ensures, c.if-count-gt4096.false)
