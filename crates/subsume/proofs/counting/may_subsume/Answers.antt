use Rattle.std.proofs.Common.{sym, ◌∙◌}
use Rattle.spl_terms.specs.declared.clause.Part.TheVariants.{Constraint, Antecedent, Succedent}
use Rattle.subsume.proofs.Sums.{part_maps}
use Rattle.subsume.proofs.counting.may_subsume.Goals as goal

pub returns-then-not-is_no_larger : goal.returns-then-not-is_no_larger
returns-then-not-is_no_larger c = λ s. sym c.if-not-is_no_larger.true ∙ c.is_no_larger.ensures s.by (part_maps s.by _ _ _ _ c.part.ensures c.part-2.ensures (s.each Constraint))

pub returns-then-not-is_no_larger-2 : goal.returns-then-not-is_no_larger-2
returns-then-not-is_no_larger-2 c = λ s. sym c.if-not-is_no_larger-2.true ∙ c.is_no_larger-2.ensures s.by (part_maps s.by _ _ _ _ c.part-3.ensures c.part-4.ensures (s.each Antecedent))

pub returns : goal.returns
returns c = λ s. c.is_no_larger-3.ensures s.by (part_maps s.by _ _ _ _ c.part-5.ensures c.part-6.ensures (s.each Succedent))
