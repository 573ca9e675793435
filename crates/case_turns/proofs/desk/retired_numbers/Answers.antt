use Rattle.std.proofs.Common.{◌∙◌, ◌++◌, List, map, ap, subst}
use Rattle.dep_sets.specs.declared.deps.Assumption.{Assumption}
use Rattle.case_turns.specs.Desks.{AreNumbersOf}
use Rattle.case_turns.proofs.Desks.{retired_are, sorted_rises}
use Rattle.case_turns.proofs.desk.retired_numbers.Goals as goal

pub returns-clause-rise : goal.returns-clause-rise
returns-clause-rise c = sorted_rises c.sort_unstable.new.self.items c.sort_unstable.ensures.sorted

pub returns-clause-are : goal.returns-clause-are
returns-clause-are c =
    let v = c.args.view.now in
    let worked = subst (λ xs. AreNumbersOf xs c.in_ok-numbers.numbers.items) c.worked.ensures c.in_ok-numbers.ensures in
    let all = c.in_ok-add_splits.ensures ∙ ap (λ (path : List Assumption). c.in_ok-numbers.numbers.items ++ map (λ (a : Assumption). a.split) path) c.path.ensures in
    retired_are v c.in_ok-numbers.numbers.items c.add_splits.new.numbers.items c.sort_unstable.new.self.items worked all c.sort_unstable.ensures.permutation
