-- The clauses of formulas whose symbols are of a signature are of that signature with the Skolem symbols behind it.
use Rattle.std.proofs.Common.{◌≡◌, ℕ, zero, suc, ◌+◌, Bool, true, false, ◌&&◌, ◌==◌, if◌then◌else◌, List, [], ◌∷◌, ◌++◌, length, map, fold, slice_get, Option, Some, None, refl, sym, ap, ◌∙◌, arith, length-append}
use Rattle.std.specs.List.{list_all, list_any, filter}
use Rattle.std.proofs.lemmas.Bool.{and_parts, and_from, false≢true, eq-eqb}
use Rattle.std.proofs.lemmas.List.Folds.{list_all-append}
use Rattle.std.proofs.lemmas.Option.{none-some, same_Some}
use Rattle.spl_terms.specs.declared.term.Kind.{Kind}
use Rattle.spl_terms.specs.declared.term.Kind.TheVariants.{Function}
use Rattle.spl_terms.specs.declared.term.Symbol.{Symbol}
use Rattle.spl_terms.specs.declared.term.Term.{Term, Var, App}
use Rattle.spl_terms.specs.declared.atom.Atom.{Atom}
use Rattle.spl_terms.specs.declared.atom.Atom.TheVariants.{Holds, Equal}
use Rattle.spl_terms.specs.declared.clause.Clause.{Clause}
use Rattle.spl_terms.specs.Terms.{replace}
use Rattle.spl_terms.specs.Clauses.{replace_in_atom, is_same, added, distinct, number_in, at_lists}
use Rattle.spl_terms.specs.TermLaws.{Each, term_induction, fold-Var, fold-App, replace-Var, replace-App}
use Rattle.spl_symbols.specs.Symbols.{Declared}
use Rattle.spl_symbols.specs.Skolems.{HasSkolems, skolem_symbol}
use Rattle.spl_symbols.specs.OfSignature.{declares, is_declared, fits_place, term_of_step, is_term_of, is_atom_of, is_clause_of}
use Rattle.formulas.specs.declared.entry.Entry.{Entry}
use Rattle.formulas.specs.Entries.{stands, entry_formula}
use Rattle.formulas.specs.Negations.{Form, constant, literal, both, either, for_all, for_some, form}
use Rattle.formulas.specs.Counts.{existentials}
use Rattle.normal_form.specs.Skolem.{Place, behind, with_variable, with_skolem, skolem_arguments, skolem_term, skolem_symbol as symbol_at, Matrix, value, signed, conjunction, disjunction, matrix, start}
use Rattle.normal_form.specs.Choices.{arities}
use Rattle.normal_form.specs.Clausal.{Literal, products, literal_lists, atoms_where, stands_right, stands_left, stands_in_constraint, clause_from}
use Rattle.normal_form.specs.NormalForm.{clauses_of_form, normal_form}
use Rattle.normal_form.specs.ClauseSets.{all_arities}
use Rattle.normal_form.specs.OfSignature.{is_formula_of, AreOfSignature, AreClausesOf}
use Rattle.normal_form.proofs.Choosing.{length-arities}
use Rattle.normal_form.proofs.Forms.{passing_form}
use Rattle.normal_form.proofs.Truths.{form-atoms}
use Rattle.normal_form.proofs.Formed.{entry_form}

-- ---- one layer of a term

all-map : (symbols : List Declared) (ts : List Term) → list_all (λ b. b) (map (is_term_of symbols) ts) ≡ list_all (is_term_of symbols) ts
all-map symbols [] = refl
all-map symbols (t ∷ ts) = ap (λ b. is_term_of symbols t && b) (all-map symbols ts)

length-map : {X Y : Type 0} (h : X → Y) (xs : List X) → length (map h xs) ≡ length xs
length-map h [] = refl
length-map h (x ∷ xs) = ap suc (length-map h xs)

of-Var : (symbols : List Declared) (v : ℕ) → is_term_of symbols (Var v) ≡ true
of-Var symbols v = fold-Var (term_of_step symbols) v

of-App : (symbols : List Declared) (f : Symbol) (ts : List Term) → is_term_of symbols (App f ts) ≡ (is_declared symbols true f (length ts) && list_all (is_term_of symbols) ts)
of-App symbols f ts =
    fold-App (term_of_step symbols) f ts
    ∙ (λ i. is_declared symbols true f (length-map (is_term_of symbols) ts i) && all-map symbols ts i)

-- ---- a signature with more symbols, and terms for variables

-- each symbol of the one is a symbol of the other, under its number
abbrev Grows : List Declared → List Declared → Type 0
Grows old new = (k : ℕ) (d : Declared) → slice_get old k ≡ Some d → slice_get new k ≡ Some d

module _ (old new : List Declared) (grows : Grows old new) (terms : ℕ → Term) (of : (v : ℕ) → is_term_of new (terms v) ≡ true) where
  still_declares : (k : ℕ) (kind : Kind) (count : ℕ) → declares (slice_get old k) kind count ≡ true → declares (slice_get new k) kind count ≡ true
  still_declares k kind count h = at (slice_get old k) refl h
    where
      at : (o : Option Declared) → slice_get old k ≡ o → declares o kind count ≡ true → declares (slice_get new k) kind count ≡ true
      at None e g = absurd (false≢true g)
      at (Some d) e g = ap (λ o. declares o kind count) (grows k d e) ∙ g

  still_declared : (in_term : Bool) (s : Symbol) (count : ℕ) → is_declared old in_term s count ≡ true → is_declared new in_term s count ≡ true
  still_declared in_term s count h =
      let p = and_parts (fits_place in_term s.kind) (declares (slice_get old s.number) s.kind count) h in
      and_from (fits_place in_term s.kind) (declares (slice_get new s.number) s.kind count) p.0 (still_declares s.number s.kind count p.1)

  abbrev IsStillOf : Term → Type 0
  IsStillOf t = is_term_of old t ≡ true → is_term_of new (replace terms t) ≡ true

  each_replaced : (ts : List Term) → Each IsStillOf ts → list_all (is_term_of old) ts ≡ true → list_all (is_term_of new) (map (replace terms) ts) ≡ true
  each_replaced [] each h = refl
  each_replaced (t ∷ ts) each h =
      let p = and_parts (is_term_of old t) (list_all (is_term_of old) ts) h in
      and_from (is_term_of new (replace terms t)) (list_all (is_term_of new) (map (replace terms) ts)) (each.0 p.0) (each_replaced ts each.1 p.1)

  replaced_term : (t : Term) → IsStillOf t
  replaced_term =
      term_induction IsStillOf
      (λ v h. ap (is_term_of new) (replace-Var terms v) ∙ of v)
      (λ f ts each h.
      let p = and_parts (is_declared old true f (length ts)) (list_all (is_term_of old) ts) (sym (of-App old f ts) ∙ h) in
      ap (is_term_of new) (replace-App terms f ts)
      ∙ of-App new f (map (replace terms) ts)
      ∙ and_from (is_declared new true f (length (map (replace terms) ts))) (list_all (is_term_of new) (map (replace terms) ts))
      (ap (is_declared new true f) (length-map (replace terms) ts) ∙ still_declared true f (length ts) p.0)
      (each_replaced ts each p.1))

  replaced_terms : (ts : List Term) → list_all (is_term_of old) ts ≡ true → list_all (is_term_of new) (map (replace terms) ts) ≡ true
  replaced_terms [] h = refl
  replaced_terms (t ∷ ts) h =
      let p = and_parts (is_term_of old t) (list_all (is_term_of old) ts) h in
      and_from (is_term_of new (replace terms t)) (list_all (is_term_of new) (map (replace terms) ts)) (replaced_term t p.0) (replaced_terms ts p.1)

  replaced_atom : (a : Atom) → is_atom_of old a ≡ true → is_atom_of new (replace_in_atom terms a) ≡ true
  replaced_atom (Holds q ts) h =
      let p = and_parts (is_declared old false q (length ts)) (list_all (is_term_of old) ts) h in
      and_from (is_declared new false q (length (map (replace terms) ts))) (list_all (is_term_of new) (map (replace terms) ts))
      (ap (is_declared new false q) (length-map (replace terms) ts) ∙ still_declared false q (length ts) p.0)
      (replaced_terms ts p.1)
  replaced_atom (Equal s t) h =
      let p = and_parts (is_term_of old s) (is_term_of old t) h in
      and_from (is_term_of new (replace terms s)) (is_term_of new (replace terms t)) (replaced_term s p.0) (replaced_term t p.1)

  replaced_atoms : (as' : List Atom) → list_all (is_atom_of old) as' ≡ true → list_all (is_atom_of new) (map (replace_in_atom terms) as') ≡ true
  replaced_atoms [] h = refl
  replaced_atoms (a ∷ as') h =
      let p = and_parts (is_atom_of old a) (list_all (is_atom_of old) as') h in
      and_from (is_atom_of new (replace_in_atom terms a)) (list_all (is_atom_of new) (map (replace_in_atom terms) as')) (replaced_atom a p.0) (replaced_atoms as' p.1)

-- ---- the matrix

abbrev passing_matrix : (Atom → Bool) → Matrix → Bool
passing_matrix test (value b) = true
passing_matrix test (signed sign a) = test a
passing_matrix test (conjunction m n) = passing_matrix test m && passing_matrix test n
passing_matrix test (disjunction m n) = passing_matrix test m && passing_matrix test n

-- from this number on the signature has functions with these numbers of arguments
abbrev HasArities : List Declared → ℕ → List ℕ → Type 0
HasArities symbols from as' = (k a : ℕ) → slice_get as' k ≡ Some a → declares (slice_get symbols (from + k)) Function a ≡ true

arities_first : (symbols : List Declared) (from : ℕ) (as' bs : List ℕ) → HasArities symbols from (as' ++ bs) → HasArities symbols from as'
arities_first symbols from as' bs has k a e = has k a (first as' k e)
  where
    first : (xs : List ℕ) (j : ℕ) → slice_get xs j ≡ Some a → slice_get (xs ++ bs) j ≡ Some a
    first [] j h = absurd (none-some a h)
    first (x ∷ xs) zero h = h
    first (x ∷ xs) (suc j) h = first xs j h

arities_second : (symbols : List Declared) (from : ℕ) (as' bs : List ℕ) (n : ℕ) → n ≡ from + length as' → HasArities symbols from (as' ++ bs) → HasArities symbols n bs
arities_second symbols from as' bs n n_is has k a e =
    ap (λ (j : ℕ). declares (slice_get symbols j) Function a) (let h : n + k ≡ from + (length as' + k) = omega arith in h)
    ∙ has (length as' + k) a (later as')
  where
    later : (xs : List ℕ) → slice_get (xs ++ bs) (length xs + k) ≡ Some a
    later [] = ap (slice_get bs) (let h : 0 + k ≡ k = omega arith in h) ∙ e
    later (x ∷ xs) = ap (slice_get (x ∷ (xs ++ bs))) (let h : suc (length xs) + k ≡ suc (length xs + k) = omega arith in h) ∙ later xs

arities_rest : (symbols : List Declared) (from a : ℕ) (as' : List ℕ) → HasArities symbols from (a ∷ as') → HasArities symbols (from + 1) as'
arities_rest symbols from a as' has k b e = ap (λ (j : ℕ). declares (slice_get symbols j) Function b) (let h : from + 1 + k ≡ from + suc k = omega arith in h) ∙ has (suc k) b e

variables_of : (symbols : List Declared) (vs : List ℕ) → list_all (is_term_of symbols) (map Var vs) ≡ true
variables_of symbols [] = refl
variables_of symbols (v ∷ vs) = and_from (is_term_of symbols (Var v)) (list_all (is_term_of symbols) (map Var vs)) (of-Var symbols v) (variables_of symbols vs)

set_of : (symbols : List Declared) (t u : Term) (b : Bool) → is_term_of symbols t ≡ true → is_term_of symbols u ≡ true → is_term_of symbols (if b then t else u) ≡ true
set_of symbols t u true h k = h
set_of symbols t u false h k = k

module _ (old new : List Declared) (grows : Grows old new) where
  skolem_of : (f : Form) (p : Place) → declares (slice_get new p.symbols) Function (length (skolem_arguments f p)) ≡ true → is_term_of new (skolem_term f p) ≡ true
  skolem_of f p h =
      of-App new (symbol_at p) (map Var (skolem_arguments f p))
      ∙ and_from (is_declared new true (symbol_at p) (length (map Var (skolem_arguments f p)))) (list_all (is_term_of new) (map Var (skolem_arguments f p)))
      (ap (declares (slice_get new p.symbols) Function) (length-map Var (skolem_arguments f p)) ∙ h)
      (variables_of new (skolem_arguments f p))

  matrix_of : (f : Form) (p : Place) → passing_form (is_atom_of old) f ≡ true → ((v : ℕ) → is_term_of new (p.term_of v) ≡ true) → HasArities new p.symbols (arities f p) → passing_matrix (is_atom_of new) (matrix f p) ≡ true
  matrix_of (constant b) p h of has = refl
  matrix_of (literal sign a) p h of has = replaced_atom old new grows p.term_of of a h
  matrix_of (both f g) p h of has =
      let q = and_parts (passing_form (is_atom_of old) f) (passing_form (is_atom_of old) g) h in
      let n : p.symbols + existentials f ≡ p.symbols + length (arities f p) = ap (λ k. p.symbols + k) (sym (length-arities f p)) in
      and_from (passing_matrix (is_atom_of new) (matrix f p)) (passing_matrix (is_atom_of new) (matrix g (behind f p)))
      (matrix_of f p q.0 of (arities_first new p.symbols (arities f p) (arities g (behind f p)) has))
      (matrix_of g (behind f p) q.1 of (arities_second new p.symbols (arities f p) (arities g (behind f p)) (p.symbols + existentials f) n has))
  matrix_of (either f g) p h of has =
      let q = and_parts (passing_form (is_atom_of old) f) (passing_form (is_atom_of old) g) h in
      let n : p.symbols + existentials f ≡ p.symbols + length (arities f p) = ap (λ k. p.symbols + k) (sym (length-arities f p)) in
      and_from (passing_matrix (is_atom_of new) (matrix f p)) (passing_matrix (is_atom_of new) (matrix g (behind f p)))
      (matrix_of f p q.0 of (arities_first new p.symbols (arities f p) (arities g (behind f p)) has))
      (matrix_of g (behind f p) q.1 of (arities_second new p.symbols (arities f p) (arities g (behind f p)) (p.symbols + existentials f) n has))
  matrix_of (for_all x f) p h of has = matrix_of f (with_variable x p) h (λ v. set_of new (Var x) (p.term_of v) (v == x) (of-Var new x) (of v)) has
  matrix_of (for_some y f) p h of has =
      let own : declares (slice_get new p.symbols) Function (length (skolem_arguments (for_some y f) p)) ≡ true =
      ap (λ (j : ℕ). declares (slice_get new j) Function (length (skolem_arguments (for_some y f) p))) (let e : p.symbols ≡ p.symbols + 0 = omega arith in e) ∙ has 0 (length (skolem_arguments (for_some y f) p)) refl in
      matrix_of f (with_skolem y (for_some y f) p) h (λ v. set_of new (skolem_term (for_some y f) p) (p.term_of v) (v == y) (skolem_of (for_some y f) p own) (of v))
      (arities_rest new p.symbols (length (skolem_arguments (for_some y f) p)) (arities f (with_skolem y (for_some y f) p)) has)

-- ---- lists of literals, and clauses

module _ (symbols : List Declared) where
  abbrev passes : Literal → Bool
  passes l = is_atom_of symbols l.atom

  abbrev lists_pass : List (List Literal) → Bool
  lists_pass = list_all (list_all passes)

  each_pass : (a : List Literal) (bs : List (List Literal)) → list_all passes a ≡ true → lists_pass bs ≡ true → lists_pass (map (λ b. a ++ b) bs) ≡ true
  each_pass a [] h k = refl
  each_pass a (b ∷ bs) h k =
      let p = and_parts (list_all passes b) (lists_pass bs) k in
      and_from (list_all passes (a ++ b)) (lists_pass (map (λ c. a ++ c) bs)) (list_all-append passes a b ∙ and_from (list_all passes a) (list_all passes b) h p.0) (each_pass a bs h p.1)

  products_pass : (as' bs : List (List Literal)) → lists_pass as' ≡ true → lists_pass bs ≡ true → lists_pass (products as' bs) ≡ true
  products_pass [] bs h k = refl
  products_pass (a ∷ as') bs h k =
      let p = and_parts (list_all passes a) (lists_pass as') h in
      list_all-append (list_all passes) (map (λ b. a ++ b) bs) (products as' bs)
      ∙ and_from (lists_pass (map (λ b. a ++ b) bs)) (lists_pass (products as' bs)) (each_pass a bs p.0 k) (products_pass as' bs p.1 k)

  lists_of : (m : Matrix) → passing_matrix (is_atom_of symbols) m ≡ true → lists_pass (literal_lists m) ≡ true
  lists_of (value true) h = refl
  lists_of (value false) h = refl
  lists_of (signed sign a) h = and_from (is_atom_of symbols a && true) true (and_from (is_atom_of symbols a) true h refl) refl
  lists_of (conjunction m n) h =
      let p = and_parts (passing_matrix (is_atom_of symbols) m) (passing_matrix (is_atom_of symbols) n) h in
      list_all-append (list_all passes) (literal_lists m) (literal_lists n) ∙ and_from (lists_pass (literal_lists m)) (lists_pass (literal_lists n)) (lists_of m p.0) (lists_of n p.1)
  lists_of (disjunction m n) h =
      let p = and_parts (passing_matrix (is_atom_of symbols) m) (passing_matrix (is_atom_of symbols) n) h in
      products_pass (literal_lists m) (literal_lists n) (lists_of m p.0) (lists_of n p.1)

  where_of : (test : Literal → Bool) (ls : List Literal) → list_all passes ls ≡ true → list_all (is_atom_of symbols) (atoms_where test ls) ≡ true
  where_of test [] h = refl
  where_of test (l ∷ ls) h = let p = and_parts (passes l) (list_all passes ls) h in at (test l) p.0 (where_of test ls p.1)
    where
      at : (b : Bool) → passes l ≡ true → list_all (is_atom_of symbols) (atoms_where test ls) ≡ true → list_all (is_atom_of symbols) (map (λ (m : Literal). m.atom) (if b then l ∷ filter test ls else filter test ls)) ≡ true
      at true here rest = and_from (passes l) (list_all (is_atom_of symbols) (atoms_where test ls)) here rest
      at false here rest = rest

  added_of : (as' : List Atom) (a : Atom) → list_all (is_atom_of symbols) as' ≡ true → is_atom_of symbols a ≡ true → list_all (is_atom_of symbols) (added as' a) ≡ true
  added_of as' a h k = at (list_any (λ b. is_same a b) as')
    where
      at : (b : Bool) → list_all (is_atom_of symbols) (if b then as' else as' ++ a ∷ []) ≡ true
      at true = h
      at false = list_all-append (is_atom_of symbols) as' (a ∷ []) ∙ and_from (list_all (is_atom_of symbols) as') (is_atom_of symbols a && true) h (and_from (is_atom_of symbols a) true k refl)

  fold_of : (as' bs : List Atom) → list_all (is_atom_of symbols) as' ≡ true → list_all (is_atom_of symbols) bs ≡ true → list_all (is_atom_of symbols) (fold added as' bs) ≡ true
  fold_of as' [] h k = h
  fold_of as' (b ∷ bs) h k =
      let p = and_parts (is_atom_of symbols b) (list_all (is_atom_of symbols) bs) k in
      fold_of (added as' b) bs (added_of as' b h p.0) p.1

  three_of : (as' bs cs : List Atom) → list_all (is_atom_of symbols) as' ≡ true → list_all (is_atom_of symbols) bs ≡ true → list_all (is_atom_of symbols) cs ≡ true → list_all (is_atom_of symbols) (as' ++ bs ++ cs) ≡ true
  three_of as' bs cs x y z =
      list_all-append (is_atom_of symbols) (as' ++ bs) cs
      ∙ and_from (list_all (is_atom_of symbols) (as' ++ bs)) (list_all (is_atom_of symbols) cs)
      (list_all-append (is_atom_of symbols) as' bs ∙ and_from (list_all (is_atom_of symbols) as') (list_all (is_atom_of symbols) bs) x y) z

  clause_of : (ls : List Literal) → list_all passes ls ≡ true → is_clause_of symbols (clause_from ls) ≡ true
  clause_of ls h =
      let c : Clause = at_lists distinct (record { constraint = atoms_where stands_in_constraint ls; antecedent = atoms_where stands_left ls; succedent = atoms_where stands_right ls }) in
      let part : (test : Literal → Bool) → list_all (is_atom_of symbols) (map (replace_in_atom (λ v. Var (number_in c v))) (distinct (atoms_where test ls))) ≡ true =
      λ test. replaced_atoms symbols symbols (λ k d e. e) (λ v. Var (number_in c v)) (λ v. of-Var symbols (number_in c v)) (distinct (atoms_where test ls)) (fold_of [] (atoms_where test ls) refl (where_of test ls h)) in
      three_of (map (replace_in_atom (λ v. Var (number_in c v))) c.constraint) (map (replace_in_atom (λ v. Var (number_in c v))) c.antecedent) (map (replace_in_atom (λ v. Var (number_in c v))) c.succedent) (part stands_in_constraint) (part stands_left) (part stands_right)

  clauses_of_lists : (ls : List (List Literal)) → lists_pass ls ≡ true → AreClausesOf symbols (map clause_from ls)
  clauses_of_lists [] h = tt
  clauses_of_lists (l ∷ ls) h = let p = and_parts (list_all passes l) (lists_pass ls) h in (clause_of l p.0, clauses_of_lists ls p.1)

  both_of : (cs ds : List Clause) → AreClausesOf symbols cs → AreClausesOf symbols ds → AreClausesOf symbols (cs ++ ds)
  both_of [] ds x y = y
  both_of (c ∷ cs) ds x y = (x.0, both_of cs ds x.1 y)

-- ---- several formulas

module _ (old new : List Declared) (grows : Grows old new) where
  form_of : (next : ℕ) (f : Form) → passing_form (is_atom_of old) f ≡ true → HasArities new next (arities f (start next)) → AreClausesOf new (clauses_of_form next f)
  form_of next f h has = clauses_of_lists new (literal_lists (matrix f (start next))) (lists_of new (matrix f (start next)) (matrix_of old new grows f (start next) h (of-Var new) has))

  entry_of : (e : Entry) → is_formula_of old e.formula ≡ true → passing_form (is_atom_of old) (form (entry_formula e)) ≡ true
  entry_of e h = ap (passing_form (is_atom_of old)) (entry_form e) ∙ form-atoms (is_atom_of old) e.formula (stands e.role) ∙ h

  pub entries_of : (next : ℕ) (es : List Entry) → AreOfSignature old es → HasArities new next (all_arities next (map entry_formula es)) → AreClausesOf new (normal_form next (map entry_formula es))
  entries_of next [] all has = tt
  entries_of next (e ∷ es) all has =
      let f : Form = form (entry_formula e) in
      let n : next + existentials f ≡ next + length (arities f (start next)) = ap (λ k. next + k) (sym (length-arities f (start next))) in
      let rest : List ℕ = all_arities (next + existentials f) (map entry_formula es) in
      both_of new (clauses_of_form next f) (normal_form (next + existentials f) (map entry_formula es))
      (form_of next f (entry_of e all.0) (arities_first new next (arities f (start next)) rest has))
      (entries_of (next + existentials f) es all.1 (arities_second new next (arities f (start next)) rest (next + existentials f) n has))

-- ---- a signature with Skolem symbols

at_end : (ds : List Declared) (x : Declared) → slice_get (ds ++ x ∷ []) (length ds) ≡ Some x
at_end [] x = refl
at_end (d ∷ ds) x = at_end ds x

before_end : (ds : List Declared) (x : Declared) → Grows ds (ds ++ x ∷ [])
before_end [] x k d e = absurd (none-some d e)
before_end (y ∷ ds) x zero d e = e
before_end (y ∷ ds) x (suc k) d e = before_end ds x k d e

pub has_grown : (old : List Declared) (from : ℕ) (as' : List ℕ) (new : List Declared) (next : ℕ) → HasSkolems old from as' new next → Grows old new
has_grown old from [] new next h k d e = ap (λ ds. slice_get ds k) h.0 ∙ e
has_grown old from (a ∷ as') new next h k d e = has_grown (old ++ skolem_symbol a h.0 ∷ []) (h.0 + 1) as' new next h.2 k d (before_end old (skolem_symbol a h.0) k d e)

pub has_arities : (old : List Declared) (from : ℕ) (as' : List ℕ) (new : List Declared) (next : ℕ) → HasSkolems old from as' new next → HasArities new (length old) as'
has_arities old from [] new next h k a e = absurd (none-some a e)
has_arities old from (b ∷ as') new next h zero a e =
    let x : Declared = skolem_symbol b h.0 in
    let there : slice_get new (length old + 0) ≡ Some x = ap (slice_get new) (let z : length old + 0 ≡ length old = omega arith in z) ∙ has_grown (old ++ x ∷ []) (h.0 + 1) as' new next h.2 (length old) x (at_end old x) in
    ap (λ o. declares o Function a) there ∙ eq-eqb b a (same_Some b a e)
has_arities old from (b ∷ as') new next h (suc k) a e =
    let x : Declared = skolem_symbol b h.0 in
    ap (λ (j : ℕ). declares (slice_get new j) Function a) (let z : length old + suc k ≡ length (old ++ x ∷ []) + k = omega (arith, length-append old (x ∷ [])) in z)
    ∙ has_arities (old ++ x ∷ []) (h.0 + 1) as' new next h.2 k a e
