-- The numbers of arguments of Skolem symbols, case by case.
use Rattle.std.proofs.Common.{◌≡◌, ℕ, zero, suc, ◌+◌, Bool, true, false, List, [], ◌∷◌, ◌++◌, length, fold, replicate, arith, refl, sym, ap, ◌∙◌, append_assoc, append-nil}
use Rattle.std.proofs.lemmas.List.{nil_from_length}
use Rattle.formulas.specs.Negations.{Form, constant, both, either, connected}
use Rattle.formulas.specs.Counts.{existentials}
use Rattle.normal_form.specs.Skolem.{Place, behind, skolem_arguments, with_variable, with_skolem}
use Rattle.normal_form.specs.Choices.{arities}
use Rattle.normal_form.specs.Blocks.{place_below, for_each, for_any, with_variables, with_skolems}
use Rattle.normal_form.specs.declared.arities.Listing.{Listing}
use Rattle.normal_form.specs.Listing.{arities_in, Lists, ListsAll}
use Rattle.normal_form.specs.Walking.{skolem_count}
use Rattle.normal_form.proofs.Choosing.{length-arities}
use Rattle.normal_form.proofs.Several.{after_two, after_nothing}
use Rattle.normal_form.proofs.Walks.{skolems_all, skolems_some}
use Rattle.normal_form.proofs.Blocks.{same_arguments}

-- a form without existential quantifiers has none
pub none_listed : (f : Form) (p : Place) → existentials f ≡ 0 → arities f p ≡ []
none_listed f p e = nil_from_length (arities f p) (length-arities f p ∙ e)

-- ---- several forms

listed_both : (acc : Form) (fs : List Form) (p : Place) → arities (fold both acc fs) p ≡ arities acc p ++ arities_in fs (behind acc p)
listed_both acc [] p = sym (append-nil (arities acc p))
listed_both acc (f ∷ fs) p =
    listed_both (both acc f) fs p
    ∙ ap (λ q. (arities acc p ++ arities f (behind acc p)) ++ arities_in fs q) (after_two acc f p)
    ∙ append_assoc (arities acc p) (arities f (behind acc p)) (arities_in fs (behind f (behind acc p)))

listed_either : (acc : Form) (fs : List Form) (p : Place) → arities (fold either acc fs) p ≡ arities acc p ++ arities_in fs (behind acc p)
listed_either acc [] p = sym (append-nil (arities acc p))
listed_either acc (f ∷ fs) p =
    listed_either (either acc f) fs p
    ∙ ap (λ q. (arities acc p ++ arities f (behind acc p)) ++ arities_in fs q) (after_two acc f p)
    ∙ append_assoc (arities acc p) (arities f (behind acc p)) (arities_in fs (behind f (behind acc p)))

pub listed_connected : (all : Bool) (fs : List Form) (p : Place) → arities (connected all fs) p ≡ arities_in fs p
listed_connected true fs p = listed_both (constant true) fs p ∙ ap (arities_in fs) (after_nothing true p)
listed_connected false fs p = listed_either (constant false) fs p ∙ ap (arities_in fs) (after_nothing false p)

pub skolems_connected : (all : Bool) (fs : List Form) → existentials (connected all fs) ≡ skolem_count fs
skolems_connected true fs = omega (arith, skolems_all (constant true) fs)
skolems_connected false fs = omega (arith, skolems_some (constant false) fs)

-- ---- blocks

pub listed_for_each : (first count : ℕ) (f : Form) (p : Place) → arities (for_each first count f) p ≡ arities f (with_variables first count p)
listed_for_each first zero f p = refl
listed_for_each first (suc count) f p = listed_for_each (suc first) count f (with_variable first p)

pub listed_for_any : (first count : ℕ) (f : Form) (p : Place) (n : ℕ) → length (skolem_arguments (for_any first count f) p) ≡ n → arities (for_any first count f) p ≡ replicate count n ++ arities f (with_skolems first count f p)
listed_for_any first zero f p n e = refl
listed_for_any first (suc count) f p n e =
    let q : Place = with_skolem first (for_any first (suc count) f) p in
    let rest = listed_for_any (suc first) count f q n (ap length (same_arguments first (for_any (suc first) count f) p) ∙ e) in
    λ i. e i ∷ rest i

-- ---- two parts listed one behind the other

pub two_listed : (old mid new xs ys zs : List ℕ) → mid ≡ old ++ xs → new ≡ mid ++ ys → xs ++ ys ≡ zs → new ≡ old ++ zs
two_listed old mid new xs ys zs e f g = f ∙ ap (λ l. l ++ ys) e ∙ append_assoc old xs ys ∙ ap (λ l. old ++ l) g

-- ---- walks that list

-- nothing is listed where there is nothing
pub lists_nothing : (f : Form) (next : ℕ) (old : Listing) → arities f (place_below old.scopes next) ≡ [] → Lists f next old old
lists_nothing f next old e = record { arities = sym (ap (λ l. old.arities ++ l) e ∙ append-nil old.arities); kept = refl }

pub lists_connected : (all : Bool) (fs : List Form) (next : ℕ) (old new : Listing) → ListsAll fs next old new → Lists (connected all fs) next old new
lists_connected all fs next old new l = record { arities = l.arities ∙ ap (λ as'. old.arities ++ as') (sym (listed_connected all fs (place_below old.scopes next))); kept = l.kept }

module _ (f g : Form) (next n : ℕ) (old mid new : Listing) (n_is : n ≡ next + existentials f) (first : Lists f next old mid) (second : Lists g n mid new) where
  listed_second : new.arities ≡ mid.arities ++ arities g (behind f (place_below old.scopes next))
  listed_second = second.arities ∙ (λ i. mid.arities ++ arities g (place_below (first.kept i) (n_is i)))

  pub lists_either : Lists (either f g) next old new
  lists_either = record { arities = two_listed old.arities mid.arities new.arities _ _ _ first.arities listed_second refl; kept = second.kept ∙ first.kept }

  pub lists_both : Lists (both f g) next old new
  lists_both = record { arities = two_listed old.arities mid.arities new.arities _ _ _ first.arities listed_second refl; kept = second.kept ∙ first.kept }

-- two formulas that both hold have the same symbols as where one of them does
pub lists_two : (f g : Form) (next : ℕ) (old new : Listing) → Lists (either f g) next old new → Lists (both f g) next old new
lists_two f g next old new l = record { arities = l.arities; kept = l.kept }
