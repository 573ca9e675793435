use Rattle.std.proofs.Common.{◌≡◌, ◌++◌, ℕ, List, ap, subst, ◌∙◌}
use Rattle.std.specs.List.{flat_map}
use Rattle.std.proofs.lemmas.List.{take_all}
use Rattle.spl_terms.specs.Terms.{term_variables}
use Rattle.normal_form.specs.Blocks.{term_in}
use Rattle.normal_form.specs.Occurring.{occurring}
use Rattle.formulas.specs.Bindings.{is_member}
use Rattle.normal_form.specs.Marking.{AreMarked}
use Rattle.normal_form.proofs.Marked.{same_marked, same_spread}
use Rattle.normal_form.proofs.scoping.standing.Goals as goal

pub returns : goal.returns
returns c =
    let f : ℕ → List ℕ = λ v. term_variables (term_in c.args.blocks.now v) in
    let items = c.as_slice-variable-items.result.now in
    let marks = c.loop-variable.marks in
    let each : AreMarked marks (flat_map f items) = subst (λ vs. AreMarked marks (flat_map f vs)) (take_all c.loop-variable.variable-index items c.loop-variable-test.false) c.loop-variable.invariant in
    let found : c.as_slice.result.now ≡ occurring c.args.part.now = c.as_slice.ensures ∙ c.in_ok-add_variables.ensures ∙ ap (λ vs. vs ++ occurring c.args.part.now) c.new-occurring.ensures in
    let same : (u : ℕ) → is_member u items ≡ is_member u (occurring c.args.part.now) = λ u. ap (is_member u) c.as_slice-variable-items.ensures ∙ c.in_ok-variables.ensures u ∙ ap (is_member u) found in
    same_marked marks (flat_map f items) (flat_map f (occurring c.args.part.now)) (same_spread f items (occurring c.args.part.now) same) each
