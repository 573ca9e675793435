-- The values of terms and atoms: on what they depend, and what replacing variables does to them.
use Rattle.std.proofs.Common.{◌≡◌, ℕ, ◌<◌, ◌≤◌, Bool, true, ◌&&◌, ◌==◌, nat_lt, List, [], ◌∷◌, map, arith, refl, sym, subst, ap, ◌∙◌}
use Rattle.std.specs.List.{list_all, flat_map}
use Rattle.std.proofs.lemmas.Bool.{ltb-true, lt-ltb, and_parts, and_from}
use Rattle.std.proofs.lemmas.List.Folds.{list_all-append}
use Rattle.spl_terms.specs.declared.term.Symbol.{Symbol}
use Rattle.spl_terms.specs.declared.term.Term.{Term, Var, App}
use Rattle.spl_terms.specs.declared.atom.Atom.{Atom}
use Rattle.spl_terms.specs.declared.atom.Atom.TheVariants.{Holds, Equal}
use Rattle.spl_terms.specs.Terms.{term_variables, replace}
use Rattle.spl_terms.specs.Clauses.{atom_variables, replace_in_atom}
use Rattle.spl_terms.specs.TermLaws.{Each, term_induction, fold-Var, fold-App}
use Rattle.spl_terms.specs.TermLaws.{term_variables-Var, term_variables-App, replace-Var, replace-App}
use Rattle.formulas.specs.Bindings.{is_member}
use Rattle.normal_form.specs.Structures.{Structure, IsAssignment, value_step, value, holds_in, IsExpansion}
use Rattle.normal_form.specs.Law.{old_term_step, is_old_term, is_old_atom}
use Rattle.normal_form.proofs.Members.{member_left, member_right, member_self}

-- ---- one layer

pub value-Var : {size : ℕ} (m : Structure size) (g : ℕ → ℕ) (v : ℕ) → value m g (Var v) ≡ g v
value-Var m g v = fold-Var (value_step m g) v

pub value-App : {size : ℕ} (m : Structure size) (g : ℕ → ℕ) (f : Symbol) (ts : List Term) → value m g (App f ts) ≡ m.function f (map (value m g) ts)
value-App m g f ts = fold-App (value_step m g) f ts

all-map : (k : ℕ) (ts : List Term) → list_all (λ b. b) (map (is_old_term k) ts) ≡ list_all (is_old_term k) ts
all-map k [] = refl
all-map k (t ∷ ts) = ap (λ b. is_old_term k t && b) (all-map k ts)

pub old-Var : (k v : ℕ) → is_old_term k (Var v) ≡ true
old-Var k v = fold-Var (old_term_step k) v

pub old-App : (k : ℕ) (f : Symbol) (ts : List Term) → is_old_term k (App f ts) ≡ (nat_lt f.number k && list_all (is_old_term k) ts)
old-App k f ts = fold-App (old_term_step k) f ts ∙ ap (λ b. nat_lt f.number k && b) (all-map k ts)

-- the arguments of an old application are old, and so is its symbol
old_parts : (k : ℕ) (f : Symbol) (ts : List Term) → is_old_term k (App f ts) ≡ true → (f.number < k) × (list_all (is_old_term k) ts ≡ true)
old_parts k f ts h =
    let p = and_parts (nat_lt f.number k) (list_all (is_old_term k) ts) (sym (old-App k f ts) ∙ h) in
    (ltb-true f.number k p.0, p.1)

pub old_from : (k : ℕ) (f : Symbol) (ts : List Term) → f.number < k → list_all (is_old_term k) ts ≡ true → is_old_term k (App f ts) ≡ true
old_from k f ts h all = old-App k f ts ∙ and_from (nat_lt f.number k) (list_all (is_old_term k) ts) (lt-ltb f.number k h) all

-- ---- more numbers are old

module _ (k l : ℕ) (le : k ≤ l) where
  older_each : (ts : List Term) → Each (λ t. is_old_term k t ≡ true → is_old_term l t ≡ true) ts → list_all (is_old_term k) ts ≡ true → list_all (is_old_term l) ts ≡ true
  older_each [] each h = refl
  older_each (t ∷ ts) each h =
      let p = and_parts (is_old_term k t) (list_all (is_old_term k) ts) h in
      and_from (is_old_term l t) (list_all (is_old_term l) ts) (each.0 p.0) (older_each ts each.1 p.1)

  pub older : (t : Term) → is_old_term k t ≡ true → is_old_term l t ≡ true
  older =
      term_induction (λ t. is_old_term k t ≡ true → is_old_term l t ≡ true)
      (λ v h. old-Var l v)
      (λ f ts each h.
      let p = old_parts k f ts h in
      let less : f.number < k = p.0 in
      old_from l f ts (omega arith) (older_each ts each p.1))

  pub older_terms : (ts : List Term) → list_all (is_old_term k) ts ≡ true → list_all (is_old_term l) ts ≡ true
  older_terms [] h = refl
  older_terms (t ∷ ts) h =
      let p = and_parts (is_old_term k t) (list_all (is_old_term k) ts) h in
      and_from (is_old_term l t) (list_all (is_old_term l) ts) (older t p.0) (older_terms ts p.1)

-- ---- the value depends on the variables of the term, and on the symbols with smaller numbers

module _ {size : ℕ} (k : ℕ) (m n : Structure size) (extends : IsExpansion k m n) (g h : ℕ → ℕ) where
  abbrev pub AgreeOn : List ℕ → Type 0
  AgreeOn vs = (v : ℕ) → is_member v vs ≡ true → g v ≡ h v

  same_each : (ts : List Term) → Each (λ t. AgreeOn (term_variables t) → is_old_term k t ≡ true → value m g t ≡ value n h t) ts → AgreeOn (flat_map term_variables ts) → list_all (is_old_term k) ts ≡ true → map (value m g) ts ≡ map (value n h) ts
  same_each [] each agree old = refl
  same_each (t ∷ ts) each agree old =
      let p = and_parts (is_old_term k t) (list_all (is_old_term k) ts) old in
      let here : value m g t ≡ value n h t = each.0 (λ v e. agree v (member_left v (term_variables t) (flat_map term_variables ts) e)) p.0 in
      let rest : map (value m g) ts ≡ map (value n h) ts = same_each ts each.1 (λ v e. agree v (member_right v (term_variables t) (flat_map term_variables ts) e)) p.1 in
      λ i. here i ∷ rest i

  pub same_value : (t : Term) → AgreeOn (term_variables t) → is_old_term k t ≡ true → value m g t ≡ value n h t
  same_value =
      term_induction (λ t. AgreeOn (term_variables t) → is_old_term k t ≡ true → value m g t ≡ value n h t)
      (λ v agree old.
      value-Var m g v
      ∙ agree v (subst (λ vs. is_member v vs ≡ true) (sym (term_variables-Var v)) (member_self v []))
      ∙ sym (value-Var n h v))
      (λ f ts each agree old.
      let p = old_parts k f ts old in
      let inner = same_each ts each (λ v e. agree v (subst (λ vs. is_member v vs ≡ true) (sym (term_variables-App f ts)) e)) p.1 in
      value-App m g f ts
      ∙ ap (m.function f) inner
      ∙ sym (extends.functions f (map (value n h) ts) p.0)
      ∙ sym (value-App n h f ts))

  pub same_values : (ts : List Term) → AgreeOn (flat_map term_variables ts) → list_all (is_old_term k) ts ≡ true → map (value m g) ts ≡ map (value n h) ts
  same_values [] agree old = refl
  same_values (t ∷ ts) agree old =
      let p = and_parts (is_old_term k t) (list_all (is_old_term k) ts) old in
      let here : value m g t ≡ value n h t = same_value t (λ v e. agree v (member_left v (term_variables t) (flat_map term_variables ts) e)) p.0 in
      let rest : map (value m g) ts ≡ map (value n h) ts = same_values ts (λ v e. agree v (member_right v (term_variables t) (flat_map term_variables ts) e)) p.1 in
      λ i. here i ∷ rest i

  pub same_holds : (a : Atom) → AgreeOn (atom_variables a) → is_old_atom k a ≡ true → holds_in m g a ≡ holds_in n h a
  same_holds (Holds p ts) agree old = ap (m.predicate p) (same_values ts agree old) ∙ sym (extends.predicates p (map (value n h) ts))
  same_holds (Equal s t) agree old =
      let p = and_parts (is_old_term k s) (is_old_term k t && true) old in
      let q = and_parts (is_old_term k t) true p.1 in
      let left : value m g s ≡ value n h s = same_value s (λ v e. agree v (member_left v (term_variables s) (flat_map term_variables (t ∷ [])) e)) p.0 in
      let right : value m g t ≡ value n h t = same_value t (λ v e. agree v (member_right v (term_variables s) (flat_map term_variables (t ∷ [])) (member_left v (term_variables t) [] e))) q.0 in
      λ i. left i == right i

-- a structure extends itself
pub extends_self : {size : ℕ} (k : ℕ) (m : Structure size) → IsExpansion k m m
extends_self k m = record { functions = λ f xs h. refl; predicates = λ p xs. refl }

pub extends_fewer : {size : ℕ} (k l : ℕ) (m n : Structure size) → k ≤ l → IsExpansion l m n → IsExpansion k m n
extends_fewer k l m n h e = record { functions = λ f xs less. e.functions f xs (omega arith); predicates = e.predicates }

pub extends_both : {size : ℕ} (k : ℕ) (m n o : Structure size) → IsExpansion k m n → IsExpansion k n o → IsExpansion k m o
extends_both k m n o d e = record {
  functions = λ f xs less. e.functions f xs less ∙ d.functions f xs less;
  predicates = λ p xs. e.predicates p xs ∙ d.predicates p xs;
}

-- ---- where variables are replaced, their terms' values count

module _ {size : ℕ} (m : Structure size) (g : ℕ → ℕ) (terms : ℕ → Term) where
  abbrev pub valued : ℕ → ℕ
  valued v = value m g (terms v)

  replaced_each : (ts : List Term) → Each (λ t. value m g (replace terms t) ≡ value m valued t) ts → map (value m g) (map (replace terms) ts) ≡ map (value m valued) ts
  replaced_each [] each = refl
  replaced_each (t ∷ ts) each =
      let here : value m g (replace terms t) ≡ value m valued t = each.0 in
      let rest = replaced_each ts each.1 in
      λ i. here i ∷ rest i

  pub replaced_value : (t : Term) → value m g (replace terms t) ≡ value m valued t
  replaced_value =
      term_induction (λ t. value m g (replace terms t) ≡ value m valued t)
      (λ v. ap (value m g) (replace-Var terms v) ∙ sym (value-Var m valued v))
      (λ f ts each.
      ap (value m g) (replace-App terms f ts)
      ∙ value-App m g f (map (replace terms) ts)
      ∙ ap (m.function f) (replaced_each ts each)
      ∙ sym (value-App m valued f ts))

  replaced_values : (ts : List Term) → map (value m g) (map (replace terms) ts) ≡ map (value m valued) ts
  replaced_values [] = refl
  replaced_values (t ∷ ts) = let here = replaced_value t in let rest = replaced_values ts in λ i. here i ∷ rest i

  pub replaced_holds : (a : Atom) → holds_in m g (replace_in_atom terms a) ≡ holds_in m valued a
  replaced_holds (Holds p ts) = ap (m.predicate p) (replaced_values ts)
  replaced_holds (Equal s t) = let left = replaced_value s in let right = replaced_value t in λ i. left i == right i

-- ---- values are elements

pub value_within : {size : ℕ} (m : Structure size) (g : ℕ → ℕ) → IsAssignment size g → (t : Term) → value m g t < size
value_within {size} m g below =
    term_induction (λ t. value m g t < size)
    (λ v. subst (λ x. x < size) (sym (value-Var m g v)) (below v))
    (λ f ts each. subst (λ x. x < size) (sym (value-App m g f ts)) (m.closed f (map (value m g) ts)))

-- ---- variables and symbols of terms in which variables are replaced

module _ (k : ℕ) (passes : ℕ → Bool) (terms : ℕ → Term) where
  -- the variables of the term that stands for each of these pass the test, and its symbols are old
  abbrev pub ArePassing : List ℕ → Type 0
  ArePassing vs = (v : ℕ) → is_member v vs ≡ true → (list_all passes (term_variables (terms v)) ≡ true) × (is_old_term k (terms v) ≡ true)

  abbrev Passes : Term → Type 0
  Passes t = (list_all passes (term_variables (replace terms t)) ≡ true) × (is_old_term k (replace terms t) ≡ true)

  passing_each : (ts : List Term) → Each (λ t. ArePassing (term_variables t) → is_old_term k t ≡ true → Passes t) ts → ArePassing (flat_map term_variables ts) → list_all (is_old_term k) ts ≡ true
      → (list_all passes (flat_map term_variables (map (replace terms) ts)) ≡ true) × (list_all (is_old_term k) (map (replace terms) ts) ≡ true)
  passing_each [] each pass old = (refl, refl)
  passing_each (t ∷ ts) each pass old =
      let p = and_parts (is_old_term k t) (list_all (is_old_term k) ts) old in
      let here = each.0 (λ v e. pass v (member_left v (term_variables t) (flat_map term_variables ts) e)) p.0 in
      let rest = passing_each ts each.1 (λ v e. pass v (member_right v (term_variables t) (flat_map term_variables ts) e)) p.1 in
      (list_all-append passes (term_variables (replace terms t)) (flat_map term_variables (map (replace terms) ts)) ∙ and_from _ _ here.0 rest.0, and_from _ _ here.1 rest.1)

  pub passing : (t : Term) → ArePassing (term_variables t) → is_old_term k t ≡ true → Passes t
  passing =
      term_induction (λ t. ArePassing (term_variables t) → is_old_term k t ≡ true → Passes t)
      (λ v pass old.
      let here = pass v (subst (λ vs. is_member v vs ≡ true) (sym (term_variables-Var v)) (member_self v [])) in
      (ap (λ t. list_all passes (term_variables t)) (replace-Var terms v) ∙ here.0, ap (is_old_term k) (replace-Var terms v) ∙ here.1))
      (λ f ts each pass old.
      let p = old_parts k f ts old in
      let inner = passing_each ts each (λ v e. pass v (subst (λ vs. is_member v vs ≡ true) (sym (term_variables-App f ts)) e)) p.1 in (
        ap (λ t. list_all passes (term_variables t)) (replace-App terms f ts) ∙ ap (list_all passes) (term_variables-App f (map (replace terms) ts)) ∙ inner.0,
        ap (is_old_term k) (replace-App terms f ts) ∙ old_from k f (map (replace terms) ts) p.0 inner.1,
      ))

  pub passing_terms : (ts : List Term) → ArePassing (flat_map term_variables ts) → list_all (is_old_term k) ts ≡ true
      → (list_all passes (flat_map term_variables (map (replace terms) ts)) ≡ true) × (list_all (is_old_term k) (map (replace terms) ts) ≡ true)
  passing_terms [] pass old = (refl, refl)
  passing_terms (t ∷ ts) pass old =
      let p = and_parts (is_old_term k t) (list_all (is_old_term k) ts) old in
      let here = passing t (λ v e. pass v (member_left v (term_variables t) (flat_map term_variables ts) e)) p.0 in
      let rest = passing_terms ts (λ v e. pass v (member_right v (term_variables t) (flat_map term_variables ts) e)) p.1 in
      (list_all-append passes (term_variables (replace terms t)) (flat_map term_variables (map (replace terms) ts)) ∙ and_from _ _ here.0 rest.0, and_from _ _ here.1 rest.1)

  pub passing_atom : (a : Atom) → ArePassing (atom_variables a) → is_old_atom k a ≡ true
      → (list_all passes (atom_variables (replace_in_atom terms a)) ≡ true) × (is_old_atom k (replace_in_atom terms a) ≡ true)
  passing_atom (Holds p ts) pass old = passing_terms ts pass old
  passing_atom (Equal s t) pass old = passing_terms (s ∷ t ∷ []) pass old
