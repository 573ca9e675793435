use Rattle.std.proofs.Common.{◌∙◌, min, sym, ap, arith}
use Rattle.spl_terms.specs.Terms.{term_symbols}
use Rattle.spl_terms.specs.TermLaws.{term_symbols-Var}
use Rattle.unify.proofs.TriangularLemmas.{stands, looked_up}
use Rattle.unify.proofs.bindings.Bindings.entry_symbols.Goals as goal

pub returns-in-Some : goal.returns-in-Some
returns-in-Some c =
    c.symbols_up_to.ensures ∙ ap (λ t. min (term_symbols t) c.args.limit) (sym (looked_up _ _ c.requires c.args.variable _ c.in-Some.ensures))

pub returns-in-None : goal.returns-in-None
returns-in-None c =
    let one = ap term_symbols ((stands _ _ c.requires).1 c.args.variable c.in-None.ensures) ∙ term_symbols-Var c.args.variable in
    grind (arith, one)
