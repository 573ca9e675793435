-- Laws with their proofs, not definitions that a reader must believe: numbers by first occurrence, and variables that are renamed.
use Rattle.std.proofs.Common.{◌≡◌, inl, inr, ℕ, suc, ◌+◌, ◌<◌, Bool, true, false, not, ◌||◌, ◌==◌, if◌then◌else◌, cond, List, [], ◌∷◌, ◌++◌, length, map, fold, refl, sym, ap, ◌∙◌, subst, arith, eq-eqb}
use Rattle.std.specs.Prelude.{slice_index}
use Rattle.std.specs.List.{list_any, flat_map}
use Rattle.std.proofs.lemmas.Grind.{flat_map-append}
use Rattle.std.proofs.lemmas.List.Folds.{list_any-append}
use Rattle.std.proofs.lemmas.List.{map-append}
use Rattle.std.proofs.lemmas.Bool.{eqb-true, false≢true, or_cases, or_left, or_right}
use Rattle.spl_terms.specs.declared.term.Term.{Term, Var}
use Rattle.spl_terms.specs.declared.atom.Atom.{Atom}
use Rattle.spl_terms.specs.declared.atom.Atom.TheVariants.{Holds, Equal}
use Rattle.spl_terms.specs.declared.clause.Clause.{Clause}
use Rattle.spl_terms.specs.Terms.{replace, term_variables}
use Rattle.spl_terms.specs.Clauses.{atom_variables, clause_variables, noted, place_in, replace_in_atom, replace_in}
use Rattle.spl_terms.specs.BoolLaws.{equally}
use Rattle.spl_terms.specs.TermLaws.{Each, term_induction, term_variables-Var, term_variables-App, replace-Var, replace-App}

-- ---- tests

pub itself : (v : ℕ) → (v == v) ≡ true
itself v = eq-eqb v v refl

pub eqb-sym : (a b : ℕ) → (a == b) ≡ (b == a)
eqb-sym a b = equally (a == b) (b == a) (λ e. eq-eqb b a (sym (eqb-true a b e))) (λ e. eq-eqb a b (sym (eqb-true b a e)))

-- ---- numbers in a list

-- whether the number stands in the list
abbrev pub has : ℕ → List ℕ → Bool
has v = list_any (λ w. v == w)

pub has-append-left : (v : ℕ) (vs ws : List ℕ) → has v vs ≡ true → has v (vs ++ ws) ≡ true
has-append-left v vs ws e = list_any-append (λ w. v == w) vs ws ∙ or_left _ _ e

pub has-append-right : (v : ℕ) (vs ws : List ℕ) → has v ws ≡ true → has v (vs ++ ws) ≡ true
has-append-right v vs ws e = list_any-append (λ w. v == w) vs ws ∙ or_right (has v vs) _ e

pub has-noted : (v x : ℕ) (os : List ℕ) → has v os ≡ true → has v (noted os x) ≡ true
has-noted v x os e = by_test (has x os)
  where
    by_test : (a : Bool) → has v (if a then os else os ++ x ∷ []) ≡ true
    by_test true = e
    by_test false = has-append-left v os (x ∷ []) e

pub noted-has : (v : ℕ) (os : List ℕ) → has v (noted os v) ≡ true
noted-has v os = by_test (has v os) refl
  where
    by_test : (a : Bool) → has v os ≡ a → has v (if a then os else os ++ v ∷ []) ≡ true
    by_test true e = e
    by_test false e = has-append-right v os (v ∷ []) (or_left (v == v) false (itself v))

-- what is noted was there, or is the new number
noted-cases : (P : ℕ → Type 0) (v x : ℕ) (os : List ℕ) → (has v os ≡ true → P v) → P x → has v (noted os x) ≡ true → P v
noted-cases P v x os there here = by_test (has x os)
  where
    by_test : (a : Bool) → has v (if a then os else os ++ x ∷ []) ≡ true → P v
    by_test true e = there e
    by_test false e = elim (or_cases (has v os) (has v (x ∷ [])) (sym (list_any-append (λ w. v == w) os (x ∷ [])) ∙ e)) [
      | inl before ↦ there before
      | inr last ↦ elim (or_cases (v == x) false last) [
        | inl same ↦ subst P (sym (eqb-true v x same)) here
        | inr none ↦ absurd (false≢true none)
      ]
    ]

has-fold : (v : ℕ) (xs os : List ℕ) → has v os ≡ true → has v (fold noted os xs) ≡ true
has-fold v [] os e = e
has-fold v (x ∷ xs) os e = has-fold v xs (noted os x) (has-noted v x os e)

pub has-firsts : (v : ℕ) (xs os : List ℕ) → has v xs ≡ true → has v (fold noted os xs) ≡ true
has-firsts v [] os e = absurd (false≢true e)
has-firsts v (x ∷ xs) os e = elim (or_cases (v == x) (has v xs) e) [
  | inl here ↦ has-fold v xs (noted os x) (subst (λ (y : ℕ). has v (noted os y) ≡ true) (eqb-true v x here) (noted-has v os))
  | inr there ↦ has-firsts v xs (noted os x) there
]

-- ---- a number that is there has a place, stands at it, and no other number has that place

pub place-below : (os : List ℕ) (v : ℕ) → has v os ≡ true → place_in os v < length os
place-below [] v e = absurd (false≢true e)
place-below (o ∷ os) v e = by_test (o == v) refl (place-below os v)
  where
    by_test : (t : Bool) → (o == v) ≡ t → (has v os ≡ true → place_in os v < length os) → cond (not t) (1 + place_in os v) 0 < suc (length os)
    by_test true f more = omega arith
    by_test false f more = elim (or_cases (v == o) (has v os) e) [
      | inl here ↦ absurd (false≢true (sym f ∙ eq-eqb o v (sym (eqb-true v o here))))
      | inr there ↦ (let h = more there in omega (arith, h))
    ]

pub place-stands : (os : List ℕ) (v : ℕ) → has v os ≡ true → slice_index os (place_in os v) ≡ v
place-stands [] v e = absurd (false≢true e)
place-stands (o ∷ os) v e = by_test (o == v) refl (place-stands os v)
  where
    by_test : (t : Bool) → (o == v) ≡ t → (has v os ≡ true → slice_index os (place_in os v) ≡ v) → slice_index (o ∷ os) (cond (not t) (1 + place_in os v) 0) ≡ v
    by_test true f more = eqb-true o v f
    by_test false f more = elim (or_cases (v == o) (has v os) e) [
      | inl here ↦ absurd (false≢true (sym f ∙ eq-eqb o v (sym (eqb-true v o here))))
      | inr there ↦ let one : 1 + place_in os v ≡ suc (place_in os v) = omega arith in ap (slice_index (o ∷ os)) one ∙ more there
    ]

pub place-apart : (os : List ℕ) (v w : ℕ) → has v os ≡ true → place_in os v ≡ place_in os w → v ≡ w
place-apart [] v w e p = absurd (false≢true e)
place-apart (x ∷ os) v w e p = by_test (x == v) (x == w) refl refl p (λ h q. place-apart os v w h q)
  where
    by_test : (a b : Bool) → (x == v) ≡ a → (x == w) ≡ b → cond (not a) (1 + place_in os v) 0 ≡ cond (not b) (1 + place_in os w) 0 → (has v os ≡ true → place_in os v ≡ place_in os w → v ≡ w) → v ≡ w
    by_test true true f g q more = sym (eqb-true x v f) ∙ eqb-true x w g
    by_test true false f g q more = absurd (omega (arith, q))
    by_test false true f g q more = absurd (omega (arith, q))
    by_test false false f g q more = more (ap (λ b. b || has v os) (sym (eqb-sym v x ∙ f)) ∙ e) (omega (arith, q))

-- ---- renaming numbers

-- each number of the one list is in the other one
abbrev Within : List ℕ → List ℕ → Type 0
Within os vs = (v : ℕ) → has v os ≡ true → has v vs ≡ true

within_rest : (o : ℕ) (os vs : List ℕ) → Within (o ∷ os) vs → Within os vs
within_rest o os vs w v e = w v (or_right (v == o) _ e)

-- a renaming that gives different numbers of the list different names keeps what comes first, and at which place
module _ (n : ℕ → ℕ) (vs : List ℕ) (apart : (v w : ℕ) → has v vs ≡ true → n v ≡ n w → v ≡ w) where
  same_test : (x o : ℕ) → has x vs ≡ true → (n x == n o) ≡ (x == o)
  same_test x o h = equally (n x == n o) (x == o) (λ e. eq-eqb x o (apart x o h (eqb-true (n x) (n o) e))) (λ e. eq-eqb (n x) (n o) (ap n (eqb-true x o e)))

  has-map : (x : ℕ) (os : List ℕ) → has x vs ≡ true → has (n x) (map n os) ≡ has x os
  has-map x [] h = refl
  has-map x (o ∷ os) h = λ i. same_test x o h i || has-map x os h i

  noted-map : (x : ℕ) (os : List ℕ) → has x vs ≡ true → noted (map n os) (n x) ≡ map n (noted os x)
  noted-map x os h = ap (λ t. if t then map n os else map n os ++ n x ∷ []) (has-map x os h) ∙ by_test (has x os)
    where
      by_test : (t : Bool) → (if t then map n os else map n os ++ n x ∷ []) ≡ map n (if t then os else os ++ x ∷ [])
      by_test true = refl
      by_test false = sym (map-append n os (x ∷ []))

  pub fold-map : (xs os : List ℕ) → Within xs vs → fold noted (map n os) (map n xs) ≡ map n (fold noted os xs)
  fold-map [] os w = refl
  fold-map (x ∷ xs) os w = ap (λ o. fold noted o (map n xs)) (noted-map x os (w x (or_left (x == x) _ (itself x)))) ∙ fold-map xs (noted os x) (within_rest x xs vs w)

  pub place-map : (x : ℕ) (os : List ℕ) → has x vs ≡ true → place_in (map n os) (n x) ≡ place_in os x
  place-map x [] h = refl
  place-map x (o ∷ os) h =
      let one : (n o == n x) ≡ (o == x) = eqb-sym (n o) (n x) ∙ same_test x o h ∙ eqb-sym x o in
      let rest = place-map x os h in
      λ i. cond (not (one i)) (1 + rest i) 0

-- ---- the variables of what is renamed

pub variables-parts : (c : Clause) → clause_variables c ≡ flat_map atom_variables c.constraint ++ flat_map atom_variables c.antecedent ++ flat_map atom_variables c.succedent
variables-parts c =
    flat_map-append atom_variables (c.constraint ++ c.antecedent) c.succedent
    ∙ ap (λ (l : List ℕ). l ++ flat_map atom_variables c.succedent) (flat_map-append atom_variables c.constraint c.antecedent)

module _ (n : ℕ → ℕ) where
  renamed_variables_each : (ts : List Term) → Each (λ t. term_variables (replace (λ v. Var (n v)) t) ≡ map n (term_variables t)) ts → flat_map term_variables (map (replace (λ v. Var (n v))) ts) ≡ map n (flat_map term_variables ts)
  renamed_variables_each [] each = refl
  renamed_variables_each (t ∷ ts) each = (λ i. each.0 i ++ renamed_variables_each ts each.1 i) ∙ sym (map-append n (term_variables t) (flat_map term_variables ts))

  pub renamed_variables : (t : Term) → term_variables (replace (λ v. Var (n v)) t) ≡ map n (term_variables t)
  renamed_variables =
      term_induction (λ t. term_variables (replace (λ v. Var (n v)) t) ≡ map n (term_variables t))
      (λ v. ap term_variables (replace-Var (λ v. Var (n v)) v) ∙ term_variables-Var (n v) ∙ sym (ap (map n) (term_variables-Var v)))
      (λ f ts each. ap term_variables (replace-App (λ v. Var (n v)) f ts) ∙ term_variables-App f (map (replace (λ v. Var (n v))) ts) ∙ renamed_variables_each ts each ∙ sym (ap (map n) (term_variables-App f ts)))

  renamed_variables_terms : (ts : List Term) → flat_map term_variables (map (replace (λ v. Var (n v))) ts) ≡ map n (flat_map term_variables ts)
  renamed_variables_terms [] = refl
  renamed_variables_terms (t ∷ ts) = (λ i. renamed_variables t i ++ renamed_variables_terms ts i) ∙ sym (map-append n (term_variables t) (flat_map term_variables ts))

  pub renamed_variables_atom : (a : Atom) → atom_variables (replace_in_atom (λ v. Var (n v)) a) ≡ map n (atom_variables a)
  renamed_variables_atom (Holds p ts) = renamed_variables_terms ts
  renamed_variables_atom (Equal s t) = renamed_variables_terms (s ∷ t ∷ [])

  renamed_variables_atoms : (as' : List Atom) → flat_map atom_variables (map (replace_in_atom (λ v. Var (n v))) as') ≡ map n (flat_map atom_variables as')
  renamed_variables_atoms [] = refl
  renamed_variables_atoms (a ∷ as') = (λ i. renamed_variables_atom a i ++ renamed_variables_atoms as' i) ∙ sym (map-append n (atom_variables a) (flat_map atom_variables as'))

  pub renamed_variables_clause : (c : Clause) → clause_variables (replace_in (λ v. Var (n v)) c) ≡ map n (clause_variables c)
  renamed_variables_clause c =
      let v = flat_map atom_variables in
      variables-parts (replace_in (λ v. Var (n v)) c)
      ∙ (λ i. (renamed_variables_atoms c.constraint i ++ renamed_variables_atoms c.antecedent i) ++ renamed_variables_atoms c.succedent i)
      ∙ (λ i. sym (map-append n (v c.constraint) (v c.antecedent)) i ++ map n (v c.succedent))
      ∙ sym (map-append n (v c.constraint ++ v c.antecedent) (v c.succedent))
      ∙ ap (map n) (sym (variables-parts c))
