use Rattle.spl_terms.specs.declared.clause.Part.TheVariants.{Constraint, Antecedent, Succedent}
use Rattle.subsume.proofs.Sums.{part_maps}
use Rattle.subsume.proofs.subsuming.listed_atoms.Goals as goal

pub returns-then-not-branch : goal.returns-then-not-branch
returns-then-not-branch c = λ s. c.in_ok-add_atoms.ensures.none c.if-not-branch.true s.by (part_maps s.by _ _ _ _ c.part.ensures c.part-constraint.ensures (s.each Constraint))

pub returns-then-not-branch-2 : goal.returns-then-not-branch-2
returns-then-not-branch-2 c = λ s. c.in_ok-add_atoms-2.ensures.none c.if-not-branch-2.true s.by (part_maps s.by _ _ _ _ c.part-2.ensures c.part-antecedent.ensures (s.each Antecedent))

pub returns-then-not-branch-3 : goal.returns-then-not-branch-3
returns-then-not-branch-3 c = λ s. c.in_ok-add_atoms-3.ensures.none c.if-not-branch-3.true s.by (part_maps s.by _ _ _ _ c.part-3.ensures c.part-succedent.ensures (s.each Succedent))
