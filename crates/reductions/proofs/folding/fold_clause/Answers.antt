use Rattle.std.proofs.Common.{ℕ}
use Rattle.spl_terms.specs.declared.clause.Part.TheVariants.{Constraint, Antecedent, Succedent}
use Rattle.reductions.specs.Folding.{Folds, FoldsSomewhere}
use Rattle.reductions.proofs.Searching.{in_three}
use Rattle.reductions.proofs.Mapping.{some_part}
use Rattle.reductions.proofs.folding.fold_clause.Goals as goal

pub returns : goal.returns
returns c =
    let e = c.args.clause.now in
    in_three (λ g. (k : ℕ) × Folds g Constraint k e) (λ g. (k : ℕ) × Folds g Antecedent k e) (λ g. (k : ℕ) × Folds g Succedent k e) (λ g. FoldsSomewhere g e)
    c.args.found.now c.fold_in.new.found c.fold_in-2.new.found c.fold_in-3.new.found _ _ _ c.if-branch.false c.if-branch-2.false
    (λ g x. (Succedent, x.0, x.1)) (λ g x. some_part g e x) c.in_ok-fold_in.ensures c.in_ok-fold_in-2.ensures c.in_ok-folded.ensures
