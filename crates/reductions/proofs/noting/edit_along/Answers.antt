use Rattle.std.proofs.Common.{ap, ◌∙◌}
use Rattle.spl_terms.specs.Terms.{replace}
use Rattle.spl_truth.specs.Truth.{entry}
use Rattle.reductions.proofs.Imaged.{spot_low, side_there, edited_along, subsumes_along, shrunk_along}
use Rattle.reductions.proofs.Stating.{given_some, given_none}
use Rattle.reductions.proofs.noting.edit_along.Goals as goal

pub returns-in_default-clause-maps : goal.returns-in_default-clause-maps
returns-in_default-clause-maps c = shrunk_along c.args.listed.now c.args.current.now c.args.now.now c.args.line.now (given_none _ _ _ c.in_default.is c.rewriting_of.ensures) c.requires.does c.requires.maps

pub edit_for-requires-clause-there : goal.edit_for-requires-clause-there
edit_for-requires-clause-there c = spot_low c.args.listed.now c.args.current.now c.args.line.now _ _ _ _ (given_some _ _ _ _ c.in-Some.is c.rewriting_of.ensures) c.requires.does

pub unwrap-side-requires : goal.unwrap-side-requires
unwrap-side-requires c =
    let found = given_some _ _ _ _ c.unwrap-equation.ensures c.listed_as.ensures in
    side_there c.args.listed.now c.args.current.now c.args.line.now _ _ _ _ (given_some _ _ _ _ c.in-Some.is c.rewriting_of.ensures) c.requires.does c.requires.one_clause c.unwrap-equation.result.now found.0 found.1 c.new_side.result c.new_side.ensures

pub returns-clause-along : goal.returns-clause-along
returns-clause-along c =
    let found = given_some _ _ _ _ c.unwrap-equation.ensures c.listed_as.ensures in
    edited_along c.args.listed.now c.args.current.now c.args.line.now _ _ _ _ (given_some _ _ _ _ c.in-Some.is c.rewriting_of.ensures) c.requires.does c.requires.one_clause c.unwrap-equation.result.now found.0 found.1 c.new_side.result c.new_side.ensures
    c.unwrap-side.result c.unwrap-side.ensures c.requires.listed_in_order c.args.now.now c.set_term_at.new.clause c.in_ok-edit.edit c.in_ok-edit.ensures c.in_ok-new.new (c.in_ok-new.ensures ∙ ap (λ l. replace (entry l) c.unwrap-side.result.now) c.as_slice.ensures) c.set_term_at.ensures c.args.edits.now c.push.new.self c.in_ok-push.ensures.ok

pub returns-clause-maps : goal.returns-clause-maps
returns-clause-maps c =
    let found = given_some _ _ _ _ c.unwrap-equation.ensures c.listed_as.ensures in
    subsumes_along c.args.listed.now c.args.current.now c.args.line.now _ _ _ _ (given_some _ _ _ _ c.in-Some.is c.rewriting_of.ensures) c.requires.does c.requires.one_clause c.unwrap-equation.result.now found.0 found.1 c.new_side.result c.new_side.ensures
    c.unwrap-side.result c.unwrap-side.ensures c.requires.listed_in_order c.args.now.now c.set_term_at.new.clause c.in_ok-edit.edit c.in_ok-edit.ensures c.in_ok-new.new (c.in_ok-new.ensures ∙ ap (λ l. replace (entry l) c.unwrap-side.result.now) c.as_slice.ensures) c.set_term_at.ensures
