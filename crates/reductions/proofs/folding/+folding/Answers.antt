use Rattle.std.proofs.Common.{◌∙◌, ℕ, [], ◌∷◌, ◌++◌, sym, ap, subst, arith, take}
use Rattle.spl_terms.specs.declared.term.Term.{Term}
use Rattle.std.specs.List.{list_any}
use Rattle.std.proofs.lemmas.List.{take_more}
use Rattle.spl_terms.specs.Clauses.{atom_terms, replace_in_atom}
use Rattle.spl_truth.specs.Unifiers.{occurs}
use Rattle.std.proofs.Common.{◌≡◌}
use Rattle.reductions.specs.Folding.{AreMapped, AreRestored, HaveAtomsBelow, Searched, plain, remainder, turned_if}
use Rattle.reductions.proofs.Searching.{Straight, Turned, Same, Among, found_in, nothing_in, found_after, nothing_after, then_search, from_straight, from_turned, either_way, one_way, among_end, among_here, bound_after, others_found, in_pieces}
use Rattle.reductions.proofs.Mapping.{first_and_rest}
use Rattle.reductions.proofs.folding.+folding.Goals as goal

pub map_all-returns-in_ok-mapped-in-len1-up : goal.map_all-returns-in_ok-mapped-in-len1-up
map_all-returns-in_ok-mapped-in-len1-up t c =
    subst (λ l. Searched (λ g. AreMapped g (remainder c.args.into) l) c.args.found.now c.map_first.new.found c.in_ok-mapped-in-len1-up.mapped)
    (sym (first_and_rest c.args.atoms.now c.first-item.result c.in-len1-up.len_at_least c.first-item.is))
    c.in_ok-mapped-in-len1-up.ensures

pub map_as-map_all-requires : goal.map_as-map_all-requires
map_as-map_all-requires t c = (
  omega (arith, c.decreases),
  (
    c.requires.there,
    (
      subst (λ n. HaveAtomsBelow n (plain c.args.rest.now)) (sym c.in_ok-match_atom.ensures.extended.as_many) c.requires.rest_below,
      bound_after _ _ _ (atom_terms c.args.atom.now) _ _ _ c.in_ok-match_atom.ensures.extended.as_many c.if-not-branch.false c.requires.below c.in_ok-match_atom.ensures.found c.requires.bound,
    ),
  ),
)

pub map_as-returns-then-branch : goal.map_as-returns-then-branch
map_as-returns-then-branch t c =
    others_found (λ g. turned_if c.args.turned (replace_in_atom g c.args.atom.now) ≡ c.args.target.now) (λ g. AreMapped g (remainder c.args.into) (plain c.args.rest.now)) (λ v. list_any (occurs v) (atom_terms c.args.atom.now))
    c.args.found.now c.match_atom.new.found _ c.in_ok-match_atom.ensures.found c.if-not-branch.false c.in_ok-match_atom.ensures.extended.as_many c.map_all.new.found _ c.if-branch.true c.in_ok-map_all.ensures

pub map_first-returns : goal.map_first-returns
map_first-returns t c =
    in_pieces (λ g. AreMapped g (remainder c.args.into) (plain c.args.rest.now)) c.args.atom.now _ _ _ c.args.found.now c.map_to_some.new.found c.map_to_some-2.new.found _ _ c.left_in.ensures c.if-branch.false c.in_ok-map_to_some.ensures c.in_ok-mapped.ensures

pub map_to-returns-then-branch : goal.map_to-returns-then-branch
map_to-returns-then-branch t c =
    let others = λ (g : ℕ → Term). AreMapped g (remainder c.args.into) (plain c.args.rest.now) in
    found_in (Straight others c.args.atom.now c.args.target.now) (Same others c.args.atom.now c.args.target.now) c.args.found.now c.map_as.new.found _ c.if-branch.true (from_straight others c.args.atom.now c.args.target.now) c.in_ok-map_as.ensures

pub map_to-returns-in-Holds : goal.map_to-returns-in-Holds
map_to-returns-in-Holds t c =
    let others = λ (g : ℕ → Term). AreMapped g (remainder c.args.into) (plain c.args.rest.now) in
    nothing_in (Straight others c.args.atom.now c.args.target.now) (Same others c.args.atom.now c.args.target.now) c.args.found.now c.map_as.new.found _ c.if-branch.false (one_way others c.args.atom.now c.args.target.now _ _ c.in-Holds.is) c.in_ok-map_as.ensures

pub map_to-returns-in_ok-mapped-in-Equal : goal.map_to-returns-in_ok-mapped-in-Equal
map_to-returns-in_ok-mapped-in-Equal t c =
    let others = λ (g : ℕ → Term). AreMapped g (remainder c.args.into) (plain c.args.rest.now) in
    let first : AreRestored (Straight others c.args.atom.now c.args.target.now) c.args.found.now c.map_as.new.found = subst (Searched (Straight others c.args.atom.now c.args.target.now) c.args.found.now c.map_as.new.found) c.if-branch.false c.in_ok-map_as.ensures in
    then_search (Straight others c.args.atom.now c.args.target.now) (Turned others c.args.atom.now c.args.target.now) (Same others c.args.atom.now c.args.target.now) c.args.found.now c.map_as.new.found c.map_as-in-Equal.new.found first _ (from_turned others c.args.atom.now c.args.target.now) (either_way others c.args.atom.now c.args.target.now) c.in_ok-mapped-in-Equal.ensures

pub map_to_some-returns-then-branch : goal.map_to_some-returns-then-branch
map_to_some-returns-then-branch t c =
    let others = λ (g : ℕ → Term). AreMapped g (remainder c.args.into) (plain c.args.rest.now) in
    let b = c.target-item.result in
    found_after (Among others c.args.atom.now (take c.loop-target.target-index c.args.targets.now)) (Same others c.args.atom.now b) (Among others c.args.atom.now c.args.targets.now) c.args.found.now c.loop-target.found c.map_to.new.found c.loop-target.invariant
    (among_here others c.args.atom.now c.args.targets.now c.loop-target.target-index b c.loop-target-test.true c.target-item.is)
    (subst (Searched (Same others c.args.atom.now b) c.loop-target.found c.map_to.new.found) c.if-branch.true c.in_ok-map_to.ensures)

pub map_to_some-loop-target-preserved : goal.map_to_some-loop-target-preserved
map_to_some-loop-target-preserved t c =
    let others = λ (g : ℕ → Term). AreMapped g (remainder c.args.into) (plain c.args.rest.now) in
    let b = c.target-item.result in
    let before = take c.loop-target.target-index c.args.targets.now in
    let more = take_more c.args.targets.now c.loop-target.target-index b c.loop-target-test.true ∙ ap (λ x. before ++ x ∷ []) (sym c.target-item.is) in
    subst (λ l. AreRestored (Among others c.args.atom.now l) c.args.found.now c.map_to.new.found) (sym more)
    (nothing_after (Among others c.args.atom.now before) (Same others c.args.atom.now b) (Among others c.args.atom.now (before ++ b ∷ [])) c.args.found.now c.loop-target.found c.map_to.new.found c.loop-target.invariant
    (among_end others c.args.atom.now before b)
    (subst (Searched (Same others c.args.atom.now b) c.loop-target.found c.map_to.new.found) c.if-branch.false c.in_ok-map_to.ensures))
