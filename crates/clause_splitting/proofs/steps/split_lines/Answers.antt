use Rattle.std.proofs.Common.{◌∙◌, ◌++◌, None, refl, ap}
use Rattle.case_journal.specs.Legal.{negation_steps}
use Rattle.clause_splitting.specs.Splitting.{assumption}
use Rattle.clause_splitting.proofs.Lines.{assumed_push, none_assumed, two_steps, all_steps, negations_there, negations_ground}
use Rattle.clause_splitting.proofs.steps.split_lines.Goals as goal

pub add_negations-requires-clause-there : goal.add_negations-requires-clause-there
add_negations-requires-clause-there c = negations_there c.args.parts.now c.in_ok-count.count c.in_ok-count.ensures

pub add_negations-requires-clause-ground : goal.add_negations-requires-clause-ground
add_negations-requires-clause-ground c = negations_ground c.args.parts.now c.in_ok-count.count c.in_ok-count.ensures

pub add_negations-requires-clause-each : goal.add_negations-requires-clause-each
add_negations-requires-clause-each c =
    let n = c.args.clause in
    let parts = c.args.parts.now in
    let one = assumed_push n parts c.in_ok-lines.lines c.push.new.self c.in_ok-left.left (none_assumed n parts c.in_ok-lines.lines c.in_ok-lines.ensures)
    (record { side = 1; negated = None; assumed = parts.left; of_parts = refl; is = c.in_ok-left.ensures ∙ ap (assumption n 1 None) c.in_ok-copy.ensures }) c.in_ok-push.ensures.ok in
    assumed_push n parts c.push.new.self c.push-2.new.self c.in_ok-right.right one
    (record { side = 2; negated = None; assumed = parts.right; of_parts = refl; is = c.in_ok-right.ensures ∙ ap (assumption n 2 None) c.in_ok-copy-2.ensures }) c.in_ok-push-2.ensures.ok

pub returns : goal.returns
returns c =
    let n = c.args.clause in
    let parts = c.args.parts.now in
    let more = c.in_ok-add_negations.ensures in
    record {
      steps = more.steps ∙ (ap (λ xs. xs ++ negation_steps n 0 c.in_ok-count.count) (two_steps n c.in_ok-lines.lines c.push.new.self c.push-2.new.self c.in_ok-left.left c.in_ok-right.right c.in_ok-lines.ensures c.in_ok-push.ensures.ok c.in_ok-push-2.ensures.ok (ap (λ l. l.step) c.in_ok-left.ensures) (ap (λ l. l.step) c.in_ok-right.ensures))
          ∙ all_steps n parts c.in_ok-count.count c.in_ok-count.ensures);
      each = more.each;
    }
