-- What holds of the terms at each place of a form.
use Rattle.std.proofs.Common.{◌≡◌, ℕ, ◌+◌, ◌≤◌, Bool, true, false, not, ◌==◌, if◌then◌else◌, List, [], ◌∷◌, ◌++◌, map, arith, refl, ap, ◌∙◌}
use Rattle.std.specs.List.{list_all, flat_map}
use Rattle.std.proofs.lemmas.Bool.{and_parts, and_from}
use Rattle.spl_terms.specs.declared.term.Term.{Term, Var}
use Rattle.spl_terms.specs.Terms.{term_variables}
use Rattle.spl_terms.specs.TermLaws.{term_variables-Var, term_variables-App}
use Rattle.formulas.specs.Negations.{Form, both, either, for_all, for_some}
use Rattle.normal_form.specs.Skolem.{all_but, free_variables, Place, behind, set_to, with_variable, skolem_arguments, skolem_symbol, skolem_term, with_skolem}
use Rattle.formulas.specs.Bindings.{is_member}
use Rattle.formulas.specs.Counts.{existentials}
use Rattle.normal_form.specs.Law.{is_old_term}
use Rattle.normal_form.proofs.Members.{member_left, member_right, member_self, member_filter, filter_member, member_all}
use Rattle.normal_form.proofs.Values.{old-Var, old_from, older, ArePassing}
use Rattle.normal_form.proofs.Forms.{is_old_form, older_form}

abbrev pub is_in : List ℕ → ℕ → Bool
is_in scope v = is_member v scope

-- the terms of the free variables have variables of the scope and earlier symbols, and the form's functions are older
pub record Fits (f : Form) (p : Place) : Type 0 where
  pub terms : ArePassing p.symbols (is_in p.scope) p.term_of (free_variables f)
  pub old : is_old_form p.symbols f ≡ true

pub more_pass : (test more : ℕ → Bool) → ((v : ℕ) → test v ≡ true → more v ≡ true) → (vs : List ℕ) → list_all test vs ≡ true → list_all more vs ≡ true
more_pass test more le [] h = refl
more_pass test more le (v ∷ vs) h =
    let p = and_parts (test v) (list_all test vs) h in
    and_from (more v) (list_all more vs) (le v p.0) (more_pass test more le vs p.1)

-- a part of a form, at the same place or behind it
pub fits_part : (f h : Form) (p : Place) (symbols : ℕ) → p.symbols ≤ symbols → Fits h p → ((v : ℕ) → is_member v (free_variables f) ≡ true → is_member v (free_variables h) ≡ true) → is_old_form p.symbols f ≡ true → Fits f (record p { symbols = symbols })
fits_part f h p symbols more_symbols fits among old = record {
  terms = λ v e.
      let t = fits.terms v (among v e) in
      (t.0, older p.symbols symbols more_symbols (p.term_of v) t.1);
  old = older_form p.symbols symbols more_symbols f old;
}

module _ (f h : Form) (p : Place) where
  pub both_left : Fits (both f h) p → Fits f p
  both_left fits = fits_part f (both f h) p p.symbols (omega arith) fits (λ v e. member_left v (free_variables f) (free_variables h) e) (and_parts (is_old_form p.symbols f) (is_old_form p.symbols h) fits.old).0

  pub both_right : Fits (both f h) p → Fits h (behind f p)
  both_right fits = fits_part h (both f h) p (p.symbols + existentials f) (omega arith) fits (λ v e. member_right v (free_variables f) (free_variables h) e) (and_parts (is_old_form p.symbols f) (is_old_form p.symbols h) fits.old).1

  pub either_left : Fits (either f h) p → Fits f p
  either_left fits = fits_part f (either f h) p p.symbols (omega arith) fits (λ v e. member_left v (free_variables f) (free_variables h) e) (and_parts (is_old_form p.symbols f) (is_old_form p.symbols h) fits.old).0

  pub either_right : Fits (either f h) p → Fits h (behind f p)
  either_right fits = fits_part h (either f h) p (p.symbols + existentials f) (omega arith) fits (λ v e. member_right v (free_variables f) (free_variables h) e) (and_parts (is_old_form p.symbols f) (is_old_form p.symbols h) fits.old).1

-- ---- within a quantifier

-- a new term that passes stands for x, and the old ones pass the new tests
module _ (f : Form) (x : ℕ) (t : Term) (p : Place) (scope : List ℕ) (symbols : ℕ) where
  abbrev IsPassing : Term → Type 0
  IsPassing s = (list_all (is_in scope) (term_variables s) ≡ true) × (is_old_term symbols s ≡ true)

  pub within : ((v : ℕ) → is_member v p.scope ≡ true → is_member v scope ≡ true) → p.symbols ≤ symbols → IsPassing t → ArePassing p.symbols (is_in p.scope) p.term_of (all_but x (free_variables f)) → is_old_form p.symbols f ≡ true → Fits f (record { term_of = set_to x t p.term_of; scope = scope; symbols = symbols })
  within more_scope more_symbols new terms old = record {
    terms = λ v e. at_test v e (v == x) refl;
    old = older_form p.symbols symbols more_symbols f old;
  }
    where
      at_test : (v : ℕ) → is_member v (free_variables f) ≡ true → (b : Bool) → (v == x) ≡ b → IsPassing (if b then t else p.term_of v)
      at_test v e true q = new
      at_test v e false q =
          let s = terms v (member_filter (λ w. not (w == x)) v (ap not q) (free_variables f) e) in
          (more_pass (is_in p.scope) (is_in scope) more_scope (term_variables (p.term_of v)) s.0, older p.symbols symbols more_symbols (p.term_of v) s.1)

pub variable_fits : (x : ℕ) (f : Form) (p : Place) → Fits (for_all x f) p → Fits f (with_variable x p)
variable_fits x f p fits =
    within f x (Var x) p (p.scope ++ x ∷ []) p.symbols (λ v e. member_left v p.scope (x ∷ []) e) (omega arith)
    (ap (list_all (is_in (p.scope ++ x ∷ []))) (term_variables-Var x) ∙ and_from (is_member x (p.scope ++ x ∷ [])) true (member_right x p.scope (x ∷ []) (member_self x [])) refl, old-Var p.symbols x)
    fits.terms fits.old

flat_variables : (vs : List ℕ) → flat_map term_variables (map Var vs) ≡ vs
flat_variables [] = refl
flat_variables (v ∷ vs) = (let h = term_variables-Var v in let k = flat_variables vs in λ i. h i ++ k i)

old_variables : (k : ℕ) (vs : List ℕ) → list_all (is_old_term k) (map Var vs) ≡ true
old_variables k [] = refl
old_variables k (v ∷ vs) = and_from (is_old_term k (Var v)) (list_all (is_old_term k) (map Var vs)) (old-Var k v) (old_variables k vs)

arguments_in : (f : Form) (p : Place) → list_all (is_in p.scope) (skolem_arguments f p) ≡ true
arguments_in f p =
    member_all (is_in p.scope) (skolem_arguments f p)
    (λ v e. filter_member (λ u. is_member u (flat_map (λ w. term_variables (p.term_of w)) (free_variables f))) v p.scope e)

pub skolem_fits : (y : ℕ) (f : Form) (p : Place) → Fits (for_some y f) p → Fits f (with_skolem y (for_some y f) p)
skolem_fits y f p fits =
    let whole : Form = for_some y f in
    within f y (skolem_term whole p) p p.scope (p.symbols + 1) (λ v e. e) (omega arith) (
      ap (list_all (is_in p.scope)) (term_variables-App (skolem_symbol p) (map Var (skolem_arguments whole p)) ∙ flat_variables (skolem_arguments whole p)) ∙ arguments_in whole p,
      old_from (p.symbols + 1) (skolem_symbol p) (map Var (skolem_arguments whole p)) (omega arith) (old_variables (p.symbols + 1) (skolem_arguments whole p)),
    )
    fits.terms fits.old
