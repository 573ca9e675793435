use Rattle.std.proofs.Common.{◌≡◌, IfOk, sym, subst}
use Rattle.spl_terms.specs.declared.term.Term.{Term}
use Rattle.unify.proofs.TriangularLemmas.{stands, looked_up}
use Rattle.unify.proofs.bindings.Bindings.applied_entry.Goals as goal

pub returns-in-Some : goal.returns-in-Some
returns-in-Some c =
    subst (λ (u : Term). IfOk c.applied.result (λ made. made ≡ u))
    (sym (looked_up _ _ c.requires c.args.variable _ c.in-Some.ensures)) c.applied.ensures

pub returns-in-None : goal.returns-in-None
returns-in-None c = sym ((stands _ _ c.requires).1 c.args.variable c.in-None.ensures)
