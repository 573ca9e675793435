-- The clauses of the normal form stand for the formulas.
use Rattle.std.proofs.Common.{◌≡◌, ◌⊎◌, inl, inr, ℕ, zero, suc, ◌+◌, ◌<◌, ◌≤◌, Bool, true, false, ◌&&◌, List, [], ◌∷◌, ◌++◌, map, Contains, arith, refl, sym, subst, ap, ◌∙◌}
use Rattle.std.specs.List.{list_all}
use Rattle.std.proofs.lemmas.Bool.{false≢true, true_from_ne_false}
use Rattle.std.proofs.lemmas.List.Elements.{Contains-append_left, Contains-append_right, Contains-append_cases}
use Rattle.spl_terms.specs.declared.clause.Clause.{Clause}
use Rattle.spl_terms.specs.declared.term.Term.{Var}
use Rattle.formulas.specs.declared.tree.Tree.{Tree}
use Rattle.formulas.specs.Negations.{Form, form}
use Rattle.normal_form.specs.Skolem.{Matrix, matrix, start}
use Rattle.normal_form.specs.Clausal.{Literal, literal_lists, clause_from}
use Rattle.normal_form.specs.NormalForm.{clauses_of_form, normal_form}
use Rattle.normal_form.specs.Structures.{Structure, IsAssignment, truth_in, clause_truth, AreTrue, AreTrueClauses, IsExpansion}
use Rattle.normal_form.specs.Law.{IsFormula, ClausesStand}
use Rattle.normal_form.proofs.Values.{value-Var, valued, value_within, extends_self, extends_fewer, extends_both}
use Rattle.normal_form.proofs.Forms.{form_truth, is_old_form, older_form, same_truth}
use Rattle.normal_form.proofs.Truths.{form-truth, form-free, form-old}
use Rattle.normal_form.proofs.Scopes.{Fits}
use Rattle.normal_form.proofs.Matrices.{matrix_truth, is_seen, matrix_within, same_matrix}
use Rattle.normal_form.proofs.Separate.{form-parts}
use Rattle.formulas.specs.Counts.{existentials}
use Rattle.normal_form.proofs.Skolemized.{skolemize}
use Rattle.normal_form.proofs.Refuted.{refute}
use Rattle.normal_form.proofs.Products.{list_truth, lists_truth}
use Rattle.normal_form.proofs.InOrder.{clause_from_list, list_from_clause}

-- ---- members of lists

head_of : {X : Type 0} (x : X) (xs : List X) → Contains (x ∷ xs) x
head_of x xs = (0, omega arith, refl)

rest_of : {X : Type 0} (x y : X) (xs : List X) → Contains xs y → Contains (x ∷ xs) y
rest_of x y xs (k, less, is) = (suc k, omega arith, is)

contained : {X : Type 0} (P : X → Type 0) (x y : X) (xs : List X) → Contains (x ∷ xs) y → P x → Contains xs y ⊎ P y
contained P x y xs (zero, less, is) p = inr (subst P is p)
contained P x y xs (suc k, less, is) p = inl (k, omega arith, is)

none : {X : Type 0} (x : X) → Contains [] x → ⊥
none x (k, less, is) = omega arith

-- ---- clauses of lists of literals

module _ {size : ℕ} (m : Structure size) where
  abbrev AllTrue : List (List Literal) → Type 0
  AllTrue lists = (g : ℕ → ℕ) → IsAssignment size g → list_all (list_truth m g) lists ≡ true

  and_first : (a b : Bool) → (a && b) ≡ true → a ≡ true
  and_first true b h = refl
  and_first false b h = h

  and_second : (a b : Bool) → (a && b) ≡ true → b ≡ true
  and_second true b h = h
  and_second false b h = absurd (false≢true h)

  and_true : (a b : Bool) → a ≡ true → b ≡ true → (a && b) ≡ true
  and_true a b p q = λ i. p i && q i

  clauses_true : (lists : List (List Literal)) → AllTrue lists → AreTrueClauses m (map clause_from lists)
  clauses_true [] h c within = absurd (none c within)
  clauses_true (l ∷ lists) h c within =
      elim (contained (λ d. (g : ℕ → ℕ) → IsAssignment size g → clause_truth m d g ≡ true) (clause_from l) c (map clause_from lists) within
      (clause_from_list m l (λ g is. and_first (list_truth m g l) (list_all (list_truth m g) lists) (h g is)))) [
        | inl later ↦ clauses_true lists (λ g is. and_second (list_truth m g l) (list_all (list_truth m g) lists) (h g is)) c later
        | inr here ↦ here
      ]

  lists_true : (lists : List (List Literal)) → AreTrueClauses m (map clause_from lists) → AllTrue lists
  lists_true [] h g is = refl
  lists_true (l ∷ lists) h g is =
      and_true (list_truth m g l) (list_all (list_truth m g) lists)
      (list_from_clause m l (h (clause_from l) (head_of (clause_from l) (map clause_from lists))) g is)
      (lists_true lists (λ c within. h c (rest_of (clause_from l) c (map clause_from lists) within)) g is)

-- ---- one formula

module _ (next : ℕ) (f : Tree) (entry : IsFormula next f) where
  abbrev the_form : Form
  the_form = form f

  abbrev the_matrix : Matrix
  the_matrix = matrix the_form (start next)

  pub entry_old : is_old_form next the_form ≡ true
  entry_old = form-old next f true ∙ entry.old

  entry_fits : Fits the_form (start next)
  entry_fits = record {
    terms = λ v e. absurd (false≢true (sym (form-free v f true ∙ entry.closed v) ∙ e));
    old = entry_old;
  }

  -- the matrix is true under each assignment
  abbrev pub MatrixHolds : {size : ℕ} → Structure size → Type 0
  MatrixHolds {size} m = (g : ℕ → ℕ) → IsAssignment size g → matrix_truth m the_matrix g ≡ true

  pub clauses_hold : {size : ℕ} (m : Structure size) → MatrixHolds m → AreTrueClauses m (clauses_of_form next the_form)
  clauses_hold m h = clauses_true m (literal_lists the_matrix) (λ g is. lists_truth m g the_matrix ∙ h g is)

  pub matrix_holds : {size : ℕ} (m : Structure size) → AreTrueClauses m (clauses_of_form next the_form) → MatrixHolds m
  matrix_holds m h g is = sym (lists_truth m g the_matrix) ∙ lists_true m (literal_lists the_matrix) h g is

  pub kept_matrix : {size : ℕ} (m n : Structure size) → IsExpansion (next + existentials the_form) m n → MatrixHolds m → MatrixHolds n
  kept_matrix m n extends h g is =
      sym (same_matrix (is_seen [] the_form) (next + existentials the_form) m n extends g g (λ v e. refl) the_matrix (matrix_within the_form (start next) entry_fits)) ∙ h g is

  pub extended_for : {size : ℕ} → 0 < size → (m : Structure size) → ((g : ℕ → ℕ) → IsAssignment size g → truth_in m f g ≡ true) → (n : Structure size) × IsExpansion next m n × MatrixHolds n
  extended_for positive m h =
      let s = skolemize positive the_form (start next) entry_fits m in
      (s.made, s.extends, λ g is. s.keeps g is (form-truth m f true (valued m g Var) ∙ h (valued m g Var) (λ v. value_within m g is (Var v))))

  pub formula_from : {size : ℕ} (m : Structure size) → MatrixHolds m → (g : ℕ → ℕ) → IsAssignment size g → truth_in m f g ≡ true
  formula_from m h g is = true_from_ne_false (truth_in m f g) (λ e.
      let false_form : form_truth m the_form (valued m g Var) ≡ false = ap (form_truth m the_form) (λ i v. value-Var m g v i) ∙ form-truth m f true g ∙ e in
      let r = refute m the_form (start next) entry_fits (form-parts f entry.different true).separate (λ v e. absurd (false≢true e)) g is false_form in
      false≢true (sym r.refutes ∙ h r.against r.is))

  -- a formula keeps its truth where only new symbols change
  pub kept_formula : {size : ℕ} (m n : Structure size) → IsExpansion next m n → ((g : ℕ → ℕ) → IsAssignment size g → truth_in m f g ≡ true) → (g : ℕ → ℕ) → IsAssignment size g → truth_in n f g ≡ true
  kept_formula m n extends h g is =
      sym (form-truth n f true g) ∙ sym (same_truth next m n extends the_form g g (λ v e. refl) entry_old) ∙ form-truth m f true g ∙ h g is

pub later_entry : (k l : ℕ) → k ≤ l → (f : Tree) → IsFormula k f → IsFormula l f
later_entry k l le f entry = record { closed = entry.closed; different = entry.different; old = sym (form-old l f true) ∙ older_form k l le (form f) (form-old k f true ∙ entry.old) }

-- ---- several formulas

both_lists : {size : ℕ} (m : Structure size) (as' bs : List Clause) → AreTrueClauses m as' → AreTrueClauses m bs → AreTrueClauses m (as' ++ bs)
both_lists m as' bs h k c within = elim (Contains-append_cases as' bs c within) [
  | inl first ↦ h c first
  | inr second ↦ k c second
]

abbrev AreEntries : ℕ → List Tree → Type 0
AreEntries next fs = (f : Tree) → Contains fs f → IsFormula next f

extend_all : (next : ℕ) (fs : List Tree) → AreEntries next fs → {size : ℕ} → 0 < size → (m : Structure size) → AreTrue m fs → (n : Structure size) × IsExpansion next m n × AreTrueClauses n (normal_form next fs)
extend_all next [] entries positive m h = (m, extends_self next m, λ c within. absurd (none c within))
extend_all next (f ∷ fs) entries positive m h =
    let entry = entries f (head_of f fs) in
    let after : ℕ = next + existentials (form f) in
    let one = extended_for next f entry positive m (h f (head_of f fs)) in
    let others : (k : Tree) → Contains fs k → IsFormula next k = λ k within. entries k (rest_of f k fs within) in
    let kept : AreTrue one.0 fs = λ k within. kept_formula next k (others k within) m one.0 one.1 (h k (rest_of f k fs within)) in
    let more = extend_all after fs (λ k within. later_entry next after (omega arith) k (others k within)) positive one.0 kept in (
      more.0,
      extends_both next m one.0 more.0 one.1 (extends_fewer next after one.0 more.0 (omega arith) more.1),
      both_lists more.0 (clauses_of_form next (form f)) (normal_form after fs) (clauses_hold next f entry more.0 (kept_matrix next f entry one.0 more.0 more.1 one.2)) more.2,
    )

back_all : (next : ℕ) (fs : List Tree) → AreEntries next fs → {size : ℕ} (m : Structure size) → AreTrueClauses m (normal_form next fs) → AreTrue m fs
back_all next [] entries m h f within = absurd (none f within)
back_all next (f ∷ fs) entries {size} m h k within =
    let entry = entries f (head_of f fs) in
    let after : ℕ = next + existentials (form f) in
    let here : (g : ℕ → ℕ) → IsAssignment size g → truth_in m f g ≡ true =
    formula_from next f entry m (matrix_holds next f entry m (λ c i. h c (Contains-append_left (clauses_of_form next (form f)) (normal_form after fs) c i))) in
    elim (contained (λ j. (g : ℕ → ℕ) → IsAssignment size g → truth_in m j g ≡ true) f k fs within here) [
      | inl later ↦ back_all after fs (λ j i. later_entry next after (omega arith) j (entries j (rest_of f j fs i))) m (λ c i. h c (Contains-append_right (clauses_of_form next (form f)) (normal_form after fs) c i)) k later
      | inr first ↦ first
    ]

pub the_law : ClausesStand
the_law next fs entries = record {
  extended = λ positive m h. extend_all next fs entries positive m h;
  back = λ positive m h. back_all next fs entries m h;
}
