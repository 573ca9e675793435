use Rattle.std.proofs.Common.{take}
use Rattle.std.specs.List.{flat_map}
use Rattle.spl_terms.specs.Terms.{term_variables}
use Rattle.normal_form.specs.Blocks.{term_in}
use Rattle.normal_form.specs.Marking.{AreMarked}
use Rattle.normal_form.proofs.scoping.standing.Given as goal

abbrev pub invariant-loop-variable : goal.invariant-loop-variable
invariant-loop-variable l = AreMarked l.marks (flat_map (λ v. term_variables (term_in l.blocks v)) (take l.variable-index l.variable-items))
