use Rattle.std.proofs.Common.{◌∙◌, length, refl, sym, ap, arith}
use Rattle.case_journal.specs.ListLaws.{length-input_lines}
use Rattle.case_view.proofs.ListSteps.{input_within}
use Rattle.case_view.proofs.walking.root_case.Goals as goal

pub overflow_cast-result : goal.overflow_cast-result
overflow_cast-result c =
    let t = c.args.table.now in
    omega (arith, ap length c.input.ensures, input_within t.setting t.past, c.laws.ensures.few_steps)

pub returns-clause-is : goal.returns-clause-is
returns-clause-is c = record {
  events = refl;
  base = ap length c.input.ensures ∙ sym (length-input_lines 1 c.args.table.now.setting.input);
  splits = refl;
  nodes = c.in_ok-from_slice.ensures;
  path = c.new.ensures;
  given = refl;
  worked = c.new-2.ensures;
  listed = c.in_ok-listed.ensures;
}
