-- Laws with their proofs, not definitions that a reader must believe: what `in_order` makes is in order, what is in order stays so,
-- and the variables of a clause in order are below their number.
use Rattle.std.proofs.Common.{◌≡◌, inl, inr, ℕ, ◌<◌, Bool, true, false, not, ◌&&◌, ◌||◌, ◌==◌, if◌then◌else◌, List, [], ◌∷◌, ◌++◌, map, fold, refl, sym, ap, ◌∙◌, subst, append_assoc, append-nil}
use Rattle.std.specs.Prelude.{slice_index}
use Rattle.std.specs.List.{list_any, flat_map}
use Rattle.std.proofs.lemmas.List.Folds.{list_any-append}
use Rattle.std.proofs.lemmas.Bool.{eqb-true, false≢true, and_parts, and_from, or_cases, or_left, not-true, or_parts, or_from}
use Rattle.spl_terms.specs.declared.term.Term.{Term, Var, App}
use Rattle.spl_terms.specs.declared.atom.Atom.{Atom}
use Rattle.spl_terms.specs.declared.atom.Atom.TheVariants.{Holds, Equal}
use Rattle.spl_terms.specs.declared.clause.Part.{Part}
use Rattle.spl_terms.specs.declared.clause.Part.TheVariants.{Constraint, Antecedent, Succedent}
use Rattle.spl_terms.specs.declared.clause.Clause.{Clause}
use Rattle.spl_terms.specs.Terms.{replace, term_variables}
use Rattle.spl_terms.specs.Clauses.{is_same, added, distinct, at_lists, atom_variables, clause_variables, firsts, place_in, number_in, replace_in_atom, replace_in, renumbered, in_order, part_of}
use Rattle.spl_terms.specs.InOrder.{are_different, IsInOrder, variables}
use Rattle.spl_terms.specs.TermLaws.{Each, term_induction, term_variables-Var, term_variables-App, replace-Var, replace-App, replace-itself, replace_all-itself}
use Rattle.spl_terms.specs.SameLaws.{same-replace}
use Rattle.spl_terms.specs.BoolLaws.{equally}
use Rattle.spl_terms.specs.VariableLaws.{itself, has, has-append-left, has-append-right, has-firsts, place-below, place-stands, place-apart, fold-map, place-map, variables-parts, renamed_variables_clause}

-- ---- dropping repeats

different-end : (os : List Atom) (x : Atom) → are_different os ≡ true → list_any (λ b. is_same x b) os ≡ false → are_different (os ++ x ∷ []) ≡ true
different-end [] x d n = refl
different-end (o ∷ os) x d n =
    let r : (not (list_any (λ b. is_same b o) os) ≡ true) × (are_different os ≡ true) = and_parts _ _ d in
    let m : (is_same x o ≡ false) × (list_any (λ b. is_same x b) os ≡ false) = or_parts _ _ n in
    and_from _ _ (ap not (list_any-append (λ b. is_same b o) os (x ∷ []) ∙ or_from _ _ (not-true _ r.0) (or_from _ false m.0 refl))) (different-end os x r.1 m.1)

pub added-different : (os : List Atom) (x : Atom) → are_different os ≡ true → are_different (added os x) ≡ true
added-different os x d = by_test (list_any (λ b. is_same x b) os) refl
  where
    by_test : (t : Bool) → list_any (λ b. is_same x b) os ≡ t → are_different (if t then os else os ++ x ∷ []) ≡ true
    by_test true e = d
    by_test false e = different-end os x d e

fold-different : (xs os : List Atom) → are_different os ≡ true → are_different (fold added os xs) ≡ true
fold-different [] os d = d
fold-different (x ∷ xs) os d = fold-different xs (added os x) (added-different os x d)

pub distinct-different : (xs : List Atom) → are_different (distinct xs) ≡ true
distinct-different xs = fold-different xs [] refl

-- an atom behind different ones is none of them
earlier-other : (os xs : List Atom) (x : Atom) → are_different (os ++ x ∷ xs) ≡ true → list_any (λ b. is_same x b) os ≡ false
earlier-other [] xs x d = refl
earlier-other (o ∷ os) xs x d =
    let r : (not (list_any (λ b. is_same b o) (os ++ x ∷ xs)) ≡ true) × (are_different (os ++ x ∷ xs) ≡ true) = and_parts _ _ d in
    let n = or_parts _ _ (sym (list_any-append (λ b. is_same b o) os (x ∷ xs)) ∙ not-true _ r.0) in
    or_from _ _ (or_parts _ _ n.1).0 (earlier-other os xs x r.1)

fold-kept : (xs os : List Atom) → are_different (os ++ xs) ≡ true → fold added os xs ≡ os ++ xs
fold-kept [] os d = sym (append-nil os)
fold-kept (x ∷ xs) os d =
    let one : added os x ≡ os ++ x ∷ [] = ap (λ t. if t then os else os ++ x ∷ []) (earlier-other os xs x d) in
    let more : (os ++ x ∷ []) ++ xs ≡ os ++ x ∷ xs = append_assoc os (x ∷ []) xs in
    ap (λ o. fold added o xs) one ∙ fold-kept xs (os ++ x ∷ []) (ap are_different more ∙ d) ∙ more

pub different-distinct : (xs : List Atom) → are_different xs ≡ true → distinct xs ≡ xs
different-distinct xs d = fold-kept xs [] d

-- ---- each variable replaced by itself

pub replace_in_atom-itself : (a : Atom) → replace_in_atom (λ v. Var v) a ≡ a
replace_in_atom-itself (Holds p ts) = ap (Holds p) (replace_all-itself ts)
replace_in_atom-itself (Equal s t) = λ i. Equal (replace-itself s i) (replace-itself t i)

atoms_itself : (as' : List Atom) → map (replace_in_atom (λ v. Var v)) as' ≡ as'
atoms_itself [] = refl
atoms_itself (a ∷ as') = λ i. replace_in_atom-itself a i ∷ atoms_itself as' i

pub replace_in-itself : (c : Clause) → replace_in (λ v. Var v) c ≡ c
replace_in-itself c = λ i. record { constraint = atoms_itself c.constraint i; antecedent = atoms_itself c.antecedent i; succedent = atoms_itself c.succedent i }

-- ---- one renaming after another

module _ (h k m : ℕ → ℕ) where
  -- on these variables h and then k is m
  abbrev pub Chains : List ℕ → Type 0
  Chains vs = (v : ℕ) → has v vs ≡ true → k (h v) ≡ m v

  first_of_both : (vs ws : List ℕ) → Chains (vs ++ ws) → Chains vs
  first_of_both vs ws u v e = u v (has-append-left v vs ws e)

  second_of_both : (vs ws : List ℕ) → Chains (vs ++ ws) → Chains ws
  second_of_both vs ws u v e = u v (has-append-right v vs ws e)

  chained_each : (ts : List Term) → Each (λ t. Chains (term_variables t) → replace (λ v. Var (k v)) (replace (λ v. Var (h v)) t) ≡ replace (λ v. Var (m v)) t) ts → Chains (flat_map term_variables ts) → map (replace (λ v. Var (k v))) (map (replace (λ v. Var (h v))) ts) ≡ map (replace (λ v. Var (m v))) ts
  chained_each [] each u = refl
  chained_each (t ∷ ts) each u = λ i. each.0 (first_of_both (term_variables t) (flat_map term_variables ts) u) i ∷ chained_each ts each.1 (second_of_both (term_variables t) (flat_map term_variables ts) u) i

  chained : (t : Term) → Chains (term_variables t) → replace (λ v. Var (k v)) (replace (λ v. Var (h v)) t) ≡ replace (λ v. Var (m v)) t
  chained =
      term_induction (λ t. Chains (term_variables t) → replace (λ v. Var (k v)) (replace (λ v. Var (h v)) t) ≡ replace (λ v. Var (m v)) t)
      (λ v u.
      ap (replace (λ v. Var (k v))) (replace-Var (λ v. Var (h v)) v)
      ∙ replace-Var (λ v. Var (k v)) (h v)
      ∙ ap Var (u v (ap (has v) (term_variables-Var v) ∙ or_left (v == v) false (itself v)))
      ∙ sym (replace-Var (λ v. Var (m v)) v))
      (λ f ts each u.
      ap (replace (λ v. Var (k v))) (replace-App (λ v. Var (h v)) f ts)
      ∙ replace-App (λ v. Var (k v)) f (map (replace (λ v. Var (h v))) ts)
      ∙ ap (App f) (chained_each ts each (subst Chains (term_variables-App f ts) u))
      ∙ sym (replace-App (λ v. Var (m v)) f ts))

  chained_terms : (ts : List Term) → Chains (flat_map term_variables ts) → map (replace (λ v. Var (k v))) (map (replace (λ v. Var (h v))) ts) ≡ map (replace (λ v. Var (m v))) ts
  chained_terms [] u = refl
  chained_terms (t ∷ ts) u = λ i. chained t (first_of_both (term_variables t) (flat_map term_variables ts) u) i ∷ chained_terms ts (second_of_both (term_variables t) (flat_map term_variables ts) u) i

  chained_atom : (a : Atom) → Chains (atom_variables a) → replace_in_atom (λ v. Var (k v)) (replace_in_atom (λ v. Var (h v)) a) ≡ replace_in_atom (λ v. Var (m v)) a
  chained_atom (Holds p ts) u = ap (Holds p) (chained_terms ts u)
  chained_atom (Equal s t) u =
      let one = chained s (first_of_both (term_variables s) (term_variables t ++ []) u) in
      let two = chained t (first_of_both (term_variables t) [] (second_of_both (term_variables s) (term_variables t ++ []) u)) in
      λ i. Equal (one i) (two i)

  chained_atoms : (as' : List Atom) → Chains (flat_map atom_variables as') → map (replace_in_atom (λ v. Var (k v))) (map (replace_in_atom (λ v. Var (h v))) as') ≡ map (replace_in_atom (λ v. Var (m v))) as'
  chained_atoms [] u = refl
  chained_atoms (a ∷ as') u =
      let one = chained_atom a (first_of_both (atom_variables a) (flat_map atom_variables as') u) in
      let rest = chained_atoms as' (second_of_both (atom_variables a) (flat_map atom_variables as') u) in
      λ i. one i ∷ rest i

-- a variable of one part is one of the clause
pub in_clause : (c : Clause) (part : Part) (v : ℕ) → has v (flat_map atom_variables (part_of c part)) ≡ true → has v (clause_variables c) ≡ true
in_clause c Constraint v e =
    let vs = flat_map atom_variables in
    ap (has v) (variables-parts c) ∙ has-append-left v (vs c.constraint ++ vs c.antecedent) (vs c.succedent) (has-append-left v (vs c.constraint) (vs c.antecedent) e)
in_clause c Antecedent v e =
    let vs = flat_map atom_variables in
    ap (has v) (variables-parts c) ∙ has-append-left v (vs c.constraint ++ vs c.antecedent) (vs c.succedent) (has-append-right v (vs c.constraint) (vs c.antecedent) e)
in_clause c Succedent v e =
    let vs = flat_map atom_variables in
    ap (has v) (variables-parts c) ∙ has-append-right v (vs c.constraint ++ vs c.antecedent) (vs c.succedent) e

pub chained_clause : (h k m : ℕ → ℕ) (c : Clause) → Chains h k m (clause_variables c) → replace_in (λ v. Var (k v)) (replace_in (λ v. Var (h v)) c) ≡ replace_in (λ v. Var (m v)) c
chained_clause h k m c u =
    let x = chained_atoms h k m c.constraint (λ v e. u v (in_clause c Constraint v e)) in
    let y = chained_atoms h k m c.antecedent (λ v e. u v (in_clause c Antecedent v e)) in
    let z = chained_atoms h k m c.succedent (λ v e. u v (in_clause c Succedent v e)) in
    λ i. record { constraint = x i; antecedent = y i; succedent = z i }

-- ---- renaming that can be undone keeps atoms different

module _ (h k : ℕ → ℕ) where
  abbrev Undoes : List ℕ → Type 0
  Undoes = Chains h k (λ v. v)

  abbrev rename : Atom → Atom
  rename = replace_in_atom (λ v. Var (h v))

  undone_atom : (a : Atom) → Undoes (atom_variables a) → replace_in_atom (λ v. Var (k v)) (rename a) ≡ a
  undone_atom a u = chained_atom h k (λ v. v) a u ∙ replace_in_atom-itself a

  same-renamed : (a b : Atom) → Undoes (atom_variables a) → Undoes (atom_variables b) → is_same (rename a) (rename b) ≡ is_same a b
  same-renamed a b u v =
      equally _ _
      (λ e. (λ i. is_same (sym (undone_atom a u) i) (sym (undone_atom b v) i)) ∙ same-replace (λ v. Var (k v)) (rename a) (rename b) e)
      (same-replace (λ v. Var (h v)) a b)

  any-renamed : (a : Atom) (more : List Atom) → Undoes (atom_variables a) → Undoes (flat_map atom_variables more) → list_any (λ b. is_same b (rename a)) (map rename more) ≡ list_any (λ b. is_same b a) more
  any-renamed a [] u w = refl
  any-renamed a (b ∷ more) u w =
      let one = same-renamed b a (first_of_both h k (λ v. v) (atom_variables b) (flat_map atom_variables more) w) u in
      let rest = any-renamed a more u (second_of_both h k (λ v. v) (atom_variables b) (flat_map atom_variables more) w) in
      λ i. one i || rest i

  different-renamed : (as' : List Atom) → Undoes (flat_map atom_variables as') → are_different (map rename as') ≡ are_different as'
  different-renamed [] u = refl
  different-renamed (a ∷ more) u =
      let one = any-renamed a more (first_of_both h k (λ v. v) (atom_variables a) (flat_map atom_variables more) u) (second_of_both h k (λ v. v) (atom_variables a) (flat_map atom_variables more) u) in
      let rest = different-renamed more (second_of_both h k (λ v. v) (atom_variables a) (flat_map atom_variables more) u) in
      λ i. not (one i) && rest i

-- ---- renumbering

module _ (c : Clause) where
  abbrev order : List ℕ
  order = firsts (clause_variables c)

  undoes : Undoes (place_in order) (slice_index order) (clause_variables c)
  undoes v e = place-stands order v (has-firsts v (clause_variables c) [] e)

  undoes_part : (part : Part) → Undoes (place_in order) (slice_index order) (flat_map atom_variables (part_of c part))
  undoes_part part v e = undoes v (in_clause c part v e)

  pub renumbered-different : (part : Part) → are_different (part_of c part) ≡ true → are_different (part_of (renumbered c) part) ≡ true
  renumbered-different Constraint d = different-renamed (place_in order) (slice_index order) c.constraint (undoes_part Constraint) ∙ d
  renumbered-different Antecedent d = different-renamed (place_in order) (slice_index order) c.antecedent (undoes_part Antecedent) ∙ d
  renumbered-different Succedent d = different-renamed (place_in order) (slice_index order) c.succedent (undoes_part Succedent) ∙ d

  -- each number turned back into the variable that had it
  pub renumbered-undone : replace_in (λ v. Var (slice_index order v)) (renumbered c) ≡ c
  renumbered-undone = chained_clause (place_in order) (slice_index order) (λ v. v) c undoes ∙ replace_in-itself c

  apart : (v w : ℕ) → has v (clause_variables c) ≡ true → number_in c v ≡ number_in c w → v ≡ w
  apart v w e p = place-apart order v w (has-firsts v (clause_variables c) [] e) p

  -- a variable keeps its number when the clause is renumbered again
  number-again : (v : ℕ) → has v (clause_variables c) ≡ true → number_in (renumbered c) (number_in c v) ≡ number_in c v
  number-again v e =
      let vs = clause_variables c in
      let names : firsts (clause_variables (renumbered c)) ≡ map (number_in c) order = ap firsts (renamed_variables_clause (number_in c) c) ∙ fold-map (number_in c) vs apart vs [] (λ w f. f) in
      ap (λ os. place_in os (number_in c v)) names ∙ place-map (number_in c) vs apart v order e

-- what is renumbered stays so
pub renumbered-renumbered : (c : Clause) → renumbered (renumbered c) ≡ renumbered c
renumbered-renumbered c = chained_clause (number_in c) (number_in (renumbered c)) (number_in c) c (number-again c)

pub renumbered-in_order : (c : Clause) → renumbered (in_order c) ≡ in_order c
renumbered-in_order c = renumbered-renumbered (at_lists distinct c)

-- ---- the laws

kept_different : (c : Clause) (part : Part) → are_different (part_of (at_lists distinct c) part) ≡ true
kept_different c Constraint = distinct-different c.constraint
kept_different c Antecedent = distinct-different c.antecedent
kept_different c Succedent = distinct-different c.succedent

-- what is brought into order is in order
pub in_order-IsInOrder : (c : Clause) → IsInOrder (in_order c)
in_order-IsInOrder c = record { different = λ part. renumbered-different (at_lists distinct c) part (kept_different c part); numbered = renumbered-in_order c }

-- a clause in order stays as it is
pub IsInOrder-in_order : (c : Clause) → IsInOrder c → in_order c ≡ c
IsInOrder-in_order c o =
    let x = different-distinct c.constraint (o.different Constraint) in
    let y = different-distinct c.antecedent (o.different Antecedent) in
    let z = different-distinct c.succedent (o.different Succedent) in
    let same : at_lists distinct c ≡ c = λ i. record { constraint = x i; antecedent = y i; succedent = z i } in
    ap renumbered same ∙ o.numbered

-- bringing into order once is enough
pub in_order-in_order : (c : Clause) → in_order (in_order c) ≡ in_order c
in_order-in_order c = IsInOrder-in_order (in_order c) (in_order-IsInOrder c)

fixed : (n : ℕ → ℕ) (vs : List ℕ) → map n vs ≡ vs → (v : ℕ) → has v vs ≡ true → n v ≡ v
fixed n [] e v h = absurd (false≢true h)
fixed n (x ∷ vs) e v h = elim (or_cases (v == x) (has v vs) h) [
  | inl here ↦ let k : v ≡ x = eqb-true v x here in let f : n x ≡ x = ap (λ (l : List ℕ). slice_index l 0) e in ap n k ∙ f ∙ sym k
  | inr there ↦ fixed n vs (ap rest e) v there
]
  where
    rest : List ℕ → List ℕ
    rest [] = []
    rest (y ∷ ys) = ys

-- each variable of a clause in order is below the number of its variables
pub variables-below : (c : Clause) → IsInOrder c → (v : ℕ) → has v (clause_variables c) ≡ true → v < variables c
variables-below c o v e =
    let stays : number_in c v ≡ v = fixed (number_in c) (clause_variables c) (sym (renamed_variables_clause (number_in c) c) ∙ ap clause_variables o.numbered) v e in
    let low = place-below (firsts (clause_variables c)) v (has-firsts v (clause_variables c) [] e) in
    subst (λ n. n < variables c) stays low
