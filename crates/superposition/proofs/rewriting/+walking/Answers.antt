use Rattle.std.proofs.Common.{◌≡◌, ℕ, ◌+◌, ◌≤◌, map, List, [], ◌∷◌, ◌++◌, Ok, Some, option_map, arith, refl, sym, ap, ◌∙◌, subst}
use Rattle.std.specs.Prelude.{sum, slice_get}
use Rattle.std.specs.List.{flat_map, enumerate_from}
use Rattle.std.proofs.lemmas.Grind.{common_steps}
use Rattle.spl_terms.specs.declared.term.Term.{Term}
use Rattle.spl_terms.specs.Terms.{term_symbols}
use Rattle.spl_terms.specs.TermLaws.{term_symbols-App}
use Rattle.std.proofs.lemmas.Option.{slice_get-map}
use Rattle.spl_truth.specs.Unifiers.{HaveVariablesBelow}
use Rattle.proof_steps.specs.declared.step.Line.{Line}
use Rattle.proof_steps.specs.Spots.{term_under}
use Rattle.superposition.specs.Appending.{IsPrefixAppended, Appended}
use Rattle.superposition.specs.Pairs.{raised}
use Rattle.superposition.specs.Walks.{IsUpperAt, raised_atom, rewrite, rewrite_argument}
use Rattle.superposition.specs.AppendingLaws.{nothing}
use Rattle.superposition.proofs.Composing.{loop_goes_on, loop_stops, loop_ends}
use Rattle.superposition.proofs.Walked.{walk_variable, term_stops, term_goes_on, argument_below, argument_within, argument_is, argument_there, argument_symbols, arguments_end, raised_deeper, raised_below, each_below}
use Rattle.superposition.proofs.Skipped.{upper_deeper}
use Rattle.superposition.proofs.rewriting.+walking.Goals as goal

pub superpose_in_term-returns-in-Var-clause-appended : goal.superpose_in_term-returns-in-Var-clause-appended
superpose_in_term-returns-in-Var-clause-appended t c =
    let a = c.args in
    subst (λ l. Appended l a.out.now.items a.out.now.items (Ok (tt {0}))) (walk_variable a.r a.path.now.items a.term.now c.in-Var.field-0 c.in-Var.is) (nothing a.out.now.items (tt {0}))

pub superpose_in_term-returns-in-Err-clause-appended : goal.superpose_in_term-returns-in-Err-clause-appended
superpose_in_term-returns-in-Err-clause-appended t c =
    let a = c.args in
    let e = c.in-Err.error in
    term_stops a.r a.path.now.items c.as_slice.result.now c.as_slice.ensures.value a.term.now c.in-App.field-0 c.in-App.args c.in-App.args c.in-App.is refl a.out.now.items c.superpose.new.out.items e
    (subst (λ x. Appended (rewrite a.r c.as_slice.result.now) a.out.now.items c.superpose.new.out.items x) c.in-Err.is c.superpose.ensures)

pub superpose_in_term-superpose_in_arguments-requires : goal.superpose_in_term-superpose_in_arguments-requires
superpose_in_term-superpose_in_arguments-requires t c =
    let a = c.args in
    let size : term_symbols a.term.now ≡ sum (map term_symbols c.as_slice-in-App.result.now) + 1 = ap term_symbols c.in-App.is ∙ term_symbols-App c.in-App.field-0 c.in-App.args ∙ ap (λ l. sum (map term_symbols l) + 1) (sym c.as_slice-in-App.ensures) in (
      omega (arith, c.decreases, size),
      (
        c.requires.ready,
        (
          λ k x e. raised_deeper a.r.pair.first a.path.now.items (raised_atom a.r) a.term.now c.in-App.field-0 c.in-App.args c.requires.stands c.in-App.is k x (ap (λ l. slice_get l k) (sym c.as_slice-in-App.ensures) ∙ e),
          (
            subst (λ l. HaveVariablesBelow a.r.pair.both (map (raised a.r.pair.first) l)) (sym c.as_slice-in-App.ensures) (raised_below a.r.pair.both a.r.pair.first a.term.now c.in-App.field-0 c.in-App.args c.in-App.is c.requires.below),
            λ k e. upper_deeper (raised_atom a.r) a.path.now.items k (c.requires.upper e),
          ),
        ),
      ),
    )

pub superpose_in_term-returns-in_default-clause-appended : goal.superpose_in_term-returns-in_default-clause-appended
superpose_in_term-returns-in_default-clause-appended t c =
    let a = c.args in
    term_goes_on a.r a.path.now.items c.as_slice.result.now c.as_slice.ensures.value a.term.now c.in-App.field-0 c.in-App.args c.as_slice-in-App.result.now c.in-App.is c.as_slice-in-App.ensures a.out.now.items c.superpose.new.out.items c.superpose_in_arguments.new.out.items c.in_default.field-0 c.superpose_in_arguments.result
    (subst (λ x. Appended (rewrite a.r c.as_slice.result.now) a.out.now.items c.superpose.new.out.items x) c.in_default.is c.superpose.ensures)
    c.superpose_in_arguments.ensures.appended

pub superpose_in_arguments-superpose_in_term-requires : goal.superpose_in_arguments-superpose_in_term-requires
superpose_in_arguments-superpose_in_term-requires t c =
    let a = c.args in
    let k : ℕ = c.loop-k.k in
    let x : Term = c.index-terms-k.result in
    let held : c.go_into.new.path.items ≡ a.path.now.items ++ k ∷ [] = c.in_ok-go_into.ensures ∙ ap (λ p. p ++ k ∷ []) c.loop-k.invariant.1 in
    let size : term_symbols x ≤ sum (map term_symbols a.terms.now) = argument_symbols a.terms.now k x c.loop-k-test.true c.index-terms-k.is in
    let there : slice_get a.terms.now k ≡ Some x = argument_there a.terms.now k x c.loop-k-test.true c.index-terms-k.is in (
      omega (arith, c.decreases, size),
      (
        c.requires.ready,
        (
          ap (λ p. term_under p (raised_atom a.r)) held ∙ c.requires.stand k x there,
          (
            each_below a.r.pair.both (map (raised a.r.pair.first) a.terms.now) k (raised a.r.pair.first x) c.requires.below (slice_get-map (raised a.r.pair.first) a.terms.now k ∙ ap (option_map (raised a.r.pair.first)) there),
            subst (IsUpperAt a.r) (sym held) (c.requires.upper k),
          ),
        ),
      ),
    )

pub superpose_in_arguments-loop-k-preserved : goal.superpose_in_arguments-loop-k-preserved
superpose_in_arguments-loop-k-preserved t c =
    let a = c.args in
    let path : List ℕ = a.path.now.items in
    let f : ℕ × Term → List Line = rewrite_argument a.r path in
    let k : ℕ = c.loop-k.k in
    let x : Term = c.index-terms-k.result in
    let held : c.go_into.new.path.items ≡ path ++ k ∷ [] = c.in_ok-go_into.ensures ∙ ap (λ p. p ++ k ∷ []) c.loop-k.invariant.1 in
    let before = c.loop-k.invariant.1 in
    let deeper = c.in_ok-go_into.ensures in
    let after = c.in_default.ensures.path in (
      loop_goes_on f (enumerate_from 0 a.terms.now) k (k, x) (flat_map f (enumerate_from 0 a.terms.now)) a.out.now.items c.loop-k.out.items (argument_within a.terms.now k x c.loop-k-test.true c.index-terms-k.is) (argument_is a.terms.now k x c.loop-k-test.true c.index-terms-k.is) c.loop-k.invariant.0 c.superpose_in_term.new.out.items
          (subst (λ l. Appended l c.loop-k.out.items c.superpose_in_term.new.out.items (Ok (tt {0}))) (argument_below a.r path c.go_into.new.path.items k x held) c.in_default.ensures.appended),
      grind (arith, common_steps, before, deeper, after),
    )

pub superpose_in_arguments-returns-clause-appended : goal.superpose_in_arguments-returns-clause-appended
superpose_in_arguments-returns-clause-appended t c =
    let a = c.args in
    let f : ℕ × Term → List Line = rewrite_argument a.r a.path.now.items in
    loop_ends f (enumerate_from 0 a.terms.now) c.loop-k.k (flat_map f (enumerate_from 0 a.terms.now)) a.out.now.items c.loop-k.out.items (arguments_end a.terms.now c.loop-k.k (omega (arith, c.loop-k-test.false))) c.loop-k.invariant.0

pub superpose_in_arguments-returns-in-Err-clause-appended : goal.superpose_in_arguments-returns-in-Err-clause-appended
superpose_in_arguments-returns-in-Err-clause-appended t c =
    let a = c.args in
    let path : List ℕ = a.path.now.items in
    let f : ℕ × Term → List Line = rewrite_argument a.r path in
    let k : ℕ = c.loop-k.k in
    let x : Term = c.index-terms-k.result in
    let held : c.go_into.new.path.items ≡ path ++ k ∷ [] = c.in_ok-go_into.ensures ∙ ap (λ p. p ++ k ∷ []) c.loop-k.invariant.1 in
    loop_stops f (enumerate_from 0 a.terms.now) k (k, x) (flat_map f (enumerate_from 0 a.terms.now)) a.out.now.items c.loop-k.out.items (argument_within a.terms.now k x c.loop-k-test.true c.index-terms-k.is) (argument_is a.terms.now k x c.loop-k-test.true c.index-terms-k.is) c.loop-k.invariant.0 c.superpose_in_term.new.out.items c.in-Err.error
    (subst (λ l. IsPrefixAppended l c.loop-k.out.items c.superpose_in_term.new.out.items c.in-Err.error) (argument_below a.r path c.go_into.new.path.items k x held) c.in-Err.ensures.appended)
