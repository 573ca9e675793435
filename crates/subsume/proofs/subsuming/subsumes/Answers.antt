use Rattle.std.proofs.Common.{◌≡◌, Option, Some, refl, ap, sym, subst, arith}
use Rattle.std.specs.Prelude.{MatchOption, IsPermutation}
use Rattle.subsume.specs.Placing.{plain, all_to_map}
use Rattle.subsume.proofs.Places.{still_within}
use Rattle.subsume.proofs.Parts.{all_within, within_in_order, subsumed}
use Rattle.subsume.proofs.subsuming.subsumes.Goals as goal

at_some : {X : Type 0} (N : Type 0) (S : X → Type 0) (o : Option X) (x : X) → o ≡ Some x → MatchOption o N S → S x
at_some N S o x e h = subst (λ o. MatchOption o N S) e h

pub placed-requires : goal.placed-requires
placed-requires c =
    still_within _ _ _ _ (plain c.in-Some.atoms.items) _ c.in_ok-vars-in-Some.ensures refl (ap plain (sym c.as_slice.ensures.value))
    (within_in_order _ _ _ _ (at_some _ _ _ _ c.in-Some.is c.in_ok-ordered_atoms.ensures) (all_within c.args.c.now c.args.d.now _ c.requires (omega (arith, c.in_ok-count-in-Some.ensures, c.in_ok-before-in-Some.ensures, c.len.ensures, c.len-in-Some.ensures, c.len-in-Some-2.ensures))))

pub returns-in_ok-found-in-Some : goal.returns-in_ok-found-in-Some
returns-in_ok-found-in-Some c =
    subsumed c.args.c.now c.args.d.now _ (plain c.as_slice.result.now) _ c.in_ok-vars-in-Some.ensures
    (subst (λ l. IsPermutation (all_to_map c.args.c.now c.args.d.now) (plain l)) (sym c.as_slice.ensures.value) (at_some _ _ _ _ c.in-Some.is c.in_ok-ordered_atoms.ensures))
    c.in_ok-found-in-Some.ensures
