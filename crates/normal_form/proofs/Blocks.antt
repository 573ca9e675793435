-- The existential variables of one quantifier: all their Skolem terms have the same arguments.
use Rattle.std.proofs.Common.{◌≡◌, inl, inr, ℕ, ◌+◌, Bool, true, false, not, ◌&&◌, ◌==◌, if◌then◌else◌, List, [], ◌∷◌, ◌++◌, map, refl, sym, ap, ◌∙◌}
use Rattle.std.specs.List.{filter, flat_map}
use Rattle.std.proofs.lemmas.Bool.{eqb-true, eq-eqb, or_cases, or_left, or_right, and_parts, not-true, cases_Bool, false≢true}
use Rattle.std.proofs.lemmas.List.Folds.{list_any-append}
use Rattle.spl_terms.specs.declared.term.Term.{Var}
use Rattle.spl_terms.specs.Terms.{term_variables}
use Rattle.spl_terms.specs.TermLaws.{term_variables-App, term_variables-Var}
use Rattle.formulas.specs.Negations.{Form, for_some}
use Rattle.normal_form.specs.Skolem.{all_but, free_variables, Place, skolem_arguments, skolem_symbol, skolem_term, with_skolem}
use Rattle.formulas.specs.Bindings.{is_member}
use Rattle.spl_terms.specs.declared.term.Kind.TheVariants.{Function}
use Rattle.normal_form.specs.declared.scope.SkolemTerms.{SkolemTerms}
use Rattle.normal_form.specs.Blocks.{skolem_at}
use Rattle.normal_form.proofs.Members.{member_without, member_flat_map}

-- a member of several lists is one of some list
pub record Found (f : ℕ → List ℕ) (u : ℕ) (vs : List ℕ) : Type 0 where
  pub at : ℕ
  pub among : is_member at vs ≡ true
  pub inside : is_member u (f at) ≡ true

pub found : (f : ℕ → List ℕ) (u : ℕ) (vs : List ℕ) → is_member u (flat_map f vs) ≡ true → Found f u vs
found f u [] h = absurd (false≢true h)
found f u (v ∷ vs) h = elim (or_cases (is_member u (f v)) (is_member u (flat_map f vs)) (sym (list_any-append (λ w. u == w) (f v) (flat_map f vs)) ∙ h)) [
  | inl k ↦ record { at = v; among = or_left (v == v) (is_member v vs) (eq-eqb v v refl); inside = k }
  | inr k ↦ (let r = found f u vs k in record { at = r.at; among = or_right (r.at == v) (is_member r.at vs) r.among; inside = r.inside })
]

-- what stands in the list of those that pass passes
passes : (test : ℕ → Bool) (u : ℕ) (xs : List ℕ) → is_member u (filter test xs) ≡ true → test u ≡ true
passes test u [] h = absurd (false≢true h)
passes test u (x ∷ xs) h = at_test (test x) refl h (passes test u xs)
  where
    at_test : (b : Bool) → test x ≡ b → is_member u (if b then x ∷ filter test xs else filter test xs) ≡ true → (is_member u (filter test xs) ≡ true → test u ≡ true) → test u ≡ true
    at_test true e k later = elim (or_cases (u == x) (is_member u (filter test xs)) k) [
      | inl same ↦ ap test (eqb-true u x same) ∙ e
      | inr m ↦ later m
    ]
    at_test false e k later = later k

pub same_answers : (a b : Bool) → (a ≡ true → b ≡ true) → (b ≡ true → a ≡ true) → a ≡ b
same_answers true b f g = sym (f refl)
same_answers false true f g = g refl
same_answers false false f g = refl

pub flat_variables : (vs : List ℕ) → flat_map term_variables (map Var vs) ≡ vs
flat_variables [] = refl
flat_variables (v ∷ vs) = (let h = term_variables-Var v in let k = flat_variables vs in λ i. h i ++ k i)

pub skolem_variables : (terms : SkolemTerms) (place : ℕ) → term_variables (skolem_at terms place) ≡ terms.args
skolem_variables terms place = term_variables-App (record { number = terms.next + place; kind = Function }) (map Var terms.args) ∙ flat_variables terms.args

-- one variable of the block, before the quantifier of the next one
module _ (x : ℕ) (inner : Form) (p : Place) where
  abbrev whole : Form
  whole = for_some x inner

  abbrev after : Place
  after = with_skolem x whole p

  abbrev variables_before : ℕ → List ℕ
  variables_before v = term_variables (p.term_of v)

  abbrev variables_after : ℕ → List ℕ
  variables_after v = term_variables (after.term_of v)

  abbrev stands_before : ℕ → Bool
  stands_before u = is_member u (flat_map variables_before (all_but x (free_variables inner)))

  term_has : term_variables (skolem_term whole p) ≡ skolem_arguments whole p
  term_has = term_variables-App (skolem_symbol p) (map Var (skolem_arguments whole p)) ∙ flat_variables (skolem_arguments whole p)

  at_other : (v : ℕ) → (v == x) ≡ false → variables_after v ≡ variables_before v
  at_other v e = ap (λ b. term_variables (if b then skolem_term whole p else p.term_of v)) e

  at_own : (v : ℕ) → (v == x) ≡ true → variables_after v ≡ skolem_arguments whole p
  at_own v e = ap (λ b. term_variables (if b then skolem_term whole p else p.term_of v)) e ∙ term_has

  kept_in : (v : ℕ) → (v == x) ≡ false → is_member v (free_variables inner) ≡ true → is_member v (all_but x (free_variables inner)) ≡ true
  kept_in v e m = member_without v x (free_variables inner) ∙ (λ i. not (e i) && m i)

  forth : (u : ℕ) → is_member u (flat_map variables_after (free_variables inner)) ≡ true → stands_before u ≡ true
  forth u h =
      let r = found variables_after u (free_variables inner) h in
      elim (cases_Bool (r.at == x)) [
        | inl e ↦ passes stands_before u p.scope (ap (is_member u) (sym (at_own r.at e)) ∙ r.inside)
        | inr e ↦ member_flat_map variables_before r.at u (all_but x (free_variables inner)) (kept_in r.at e r.among) (ap (is_member u) (sym (at_other r.at e)) ∙ r.inside)
      ]

  back : (u : ℕ) → stands_before u ≡ true → is_member u (flat_map variables_after (free_variables inner)) ≡ true
  back u h =
      let r = found variables_before u (all_but x (free_variables inner)) h in
      let parts = and_parts (not (r.at == x)) (is_member r.at (free_variables inner)) (sym (member_without r.at x (free_variables inner)) ∙ r.among) in
      member_flat_map variables_after r.at u (free_variables inner) parts.1 (ap (is_member u) (at_other r.at (not-true (r.at == x) parts.0)) ∙ r.inside)

  -- behind the quantifier of x the same variables of the scope stand in the rest as in the whole
  pub same_arguments : skolem_arguments inner after ≡ skolem_arguments whole p
  same_arguments = ap (λ test. filter test p.scope) (λ i u. same_answers (is_member u (flat_map variables_after (free_variables inner))) (stands_before u) (forth u) (back u) i)
