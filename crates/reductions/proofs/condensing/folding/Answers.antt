use Rattle.std.proofs.Common.{ℕ, List, ◌∙◌, sym, ap, subst}
use Rattle.std.specs.Prelude.{IsPermutation}
use Rattle.spl_terms.specs.declared.term.Term.{Term}
use Rattle.reductions.specs.Folding.{FoldsSomewhere, HaveAtomsBelow, atoms_in_parts, plain}
use Rattle.reductions.proofs.Mapping.{clause_atoms_below, entries_found, nothing_found}
use Rattle.reductions.proofs.condensing.folding.Goals as goal

pub fold_clause-requires-clause-below : goal.fold_clause-requires-clause-below
fold_clause-requires-clause-below c =
    subst (λ n. HaveAtomsBelow n (plain c.as_slice.result.now)) (sym (ap (λ (b : ℕ × List (ℕ × Term)). b.0) c.in_ok-found.ensures ∙ c.in_ok-vars.ensures))
    (clause_atoms_below c.args.clause.now c.requires (plain c.as_slice.result.now) (subst (λ l. IsPermutation (atoms_in_parts c.args.clause.now) (plain l)) (sym c.as_slice.ensures.value) c.in_ok-atoms.ensures))

pub returns-then-branch : goal.returns-then-branch
returns-then-branch c =
    let f = entries_found (λ g. FoldsSomewhere g c.args.clause.now) c.in_ok-vars.vars c.in_ok-found.found c.fold_clause.new.found _ c.in_ok-found.ensures c.in_ok-fold_clause.ensures c.in_ok-entries.field-0.terms c.if-branch.true c.in_ok-entries.ensures in
    (f.0 ∙ c.in_ok-vars.ensures, f.1)

pub returns : goal.returns
returns c = nothing_found (λ g. FoldsSomewhere g c.args.clause.now) c.in_ok-vars.vars c.in_ok-found.found c.fold_clause.new.found _ c.in_ok-found.ensures c.in_ok-fold_clause.ensures c.if-branch.false
