-- Laws with their proofs, not definitions that a reader must believe: each entry of a problem is well formed, and no problem has more entries than bytes.
use Rattle.std.proofs.Common.{◌≡◌, ◌⊎◌, inl, inr, ℕ, zero, suc, ◌+◌, ◌<◌, ◌≤◌, Bool, true, false, not, ◌||◌, ◌==◌, List, [], ◌∷◌, ◌++◌, length, map, fold, Result, Ok, Err, IfOk, refl, sym, subst, ap, ◌∙◌, arith, length-append}
use Rattle.std.specs.List.{AllByRecursion, IsDistinct}
use Rattle.std.proofs.lemmas.Bool.{false≢true, eq-eqb, eqb-true, and_from, false_from_ne_true}
use Rattle.std.proofs.lemmas.List.Sorted.{IsPermutation-sym}
use Rattle.std.proofs.lemmas.Map.Keys.{IsDistinct-IsPermutation}
use Rattle.spl_terms.specs.declared.term.Symbol.{Symbol}
use Rattle.spl_terms.specs.declared.term.Term.{Var}
use Rattle.spl_terms.specs.declared.atom.Atom.TheVariants.{Holds}
use Rattle.spl_symbols.specs.Symbols.{Declared}
use Rattle.spl_symbols.specs.OfSignature.{is_declared}
use Rattle.formulas.specs.declared.tree.Tree as tree
use Rattle.formulas.specs.declared.tree.Tree.{Tree}
use Rattle.formulas.specs.declared.entry.Role.{Role}
use Rattle.formulas.specs.declared.entry.Entry.{Entry}
use Rattle.formulas.specs.Bindings.{is_member, is_free, bindings, all_distinct, numbers_from}
use Rattle.dfg_tokens.specs.declared.piece.Mark.TheVariants.{Comma}
use Rattle.dfg_tokens.specs.declared.word.Word.TheVariants as words
use Rattle.dfg_tokens.specs.declared.token.Token.{Token}
use Rattle.dfg_tokens.specs.Tokens.{tokens}
use Rattle.dfg_terms.specs.declared.fault.InputError.{InputError}
use Rattle.dfg_terms.specs.Reading.{place}
use Rattle.dfg_terms.specs.Phrases.{Phrase, ◌⨾◌, mark, word, each}
use Rattle.dfg_terms.specs.FrontLaws.{Takes, Keeps, fewer, weaken, then_keeps, mark_takes, word_takes, enclosed_takes}
use Rattle.dfg_formulas.specs.declared.shape.Shape.{Shape}
use Rattle.dfg_formulas.specs.Grammar.{binding_count, sort_name}
use Rattle.dfg_lists.specs.Grammar.{concatenated, passed}
use Rattle.dfg_lists.specs.GroupLaws.{end_keeps}
use Rattle.dfg_lists.specs.DescriptionLaws.{head_takes, descriptions_keep}
use Rattle.dfg_lists.specs.SymbolListLaws.{signature_keeps}
use Rattle.dfg_problem.specs.declared.problem.Problem.{Problem}
use Rattle.dfg_problem.specs.Declarations.{is_of, inclusion, variables, with_sort, sort_atoms, argument_sorts}
use Rattle.dfg_problem.specs.Grammar.{sort_declaration, declaration_item, labelled, formula_item, clause_item, entry_list, role_word, ListParts, problem_list, IsProblem}
use Rattle.dfg_problem.specs.WellFormed.{IsWellFormed, AreWellFormed}
use Rattle.dfg_problem.specs.TermFormedLaws.{each_holds, behind_hold, of_atoms, TermFits, variable_fits, predicate_fits}
use Rattle.dfg_problem.specs.FormulaFormedLaws.{number_among, Fits, IsPlain, atom_is_fit, implies_fits, block_fits, plain_and, behind_plain, sort_atom_fits, sort_is_declared, formula_fits, declaration_fits}
use Rattle.dfg_problem.specs.EntryLaws.{formula_item_takes, clause_item_takes, declaration_item_takes}
use Rattle.dfg_problem.specs.ListLaws.{shorter, role_keeps, list_takes}
use Rattle.dfg_problem.specs.ProblemLaws.{tokens_few}

-- ---- numbers in a row differ

flipped : (x y : ℕ) → (x == y) ≡ (y == x)
flipped x y = by_both (x == y) (y == x) refl refl
  where
    by_both : (a b : Bool) → (x == y) ≡ a → (y == x) ≡ b → a ≡ b
    by_both true true e f = refl
    by_both false false e f = refl
    by_both true false e f = absurd (false≢true (sym f ∙ eq-eqb y x (sym (eqb-true x y e))))
    by_both false true e f = absurd (false≢true (sym e ∙ eq-eqb x y (sym (eqb-true y x f))))

apart_from : (x first count : ℕ) → x < first → AllByRecursion (λ y. (x == y) ≡ false) (numbers_from first count)
apart_from x first zero h = tt
apart_from x first (suc count) h = (false_from_ne_true (x == first) (λ e. omega (arith, h, eqb-true x first e)), apart_from x (suc first) count (omega (arith, h)))

numbers_differ : (first count : ℕ) → IsDistinct (λ x y. x == y) (numbers_from first count)
unfolding IsDistinct
numbers_differ first zero = tt
numbers_differ first (suc count) = (apart_from first (suc first) count (omega arith), numbers_differ (suc first) count)

no_member : (x : ℕ) (vs : List ℕ) → AllByRecursion (λ y. (x == y) ≡ false) vs → is_member x vs ≡ false
no_member x [] apart = refl
no_member x (v ∷ vs) apart = λ i. apart.0 i || no_member x vs apart.1 i

all_differ : (vs : List ℕ) → IsDistinct (λ x y. x == y) vs → all_distinct vs ≡ true
unfolding IsDistinct
all_differ [] d = refl
all_differ (v ∷ vs) d = and_from (not (is_member v vs)) (all_distinct vs) (ap not (no_member v vs d.0)) (all_differ vs d.1)

-- ---- formulas

all_of_both : {X : Type 0} (Q : X → Type 0) (xs ys : List X) → AllByRecursion Q xs → AllByRecursion Q ys → AllByRecursion Q (xs ++ ys)
all_of_both Q [] ys p q = q
all_of_both Q (x ∷ xs) ys p q = (p.0, all_of_both Q xs ys p.1 q)

module _ (symbols : List Declared) where
  well_formed : (f : Tree) → Fits symbols [] 0 f → IsWellFormed symbols f
  well_formed f fit = record {
    closed = λ v. false_from_ne_true (is_free v f) (λ h. false≢true (fit.variables v h));
    different = all_differ (bindings f) (IsDistinct-IsPermutation (λ x y. x == y) flipped (numbers_from 0 (binding_count f)) (bindings f) (IsPermutation-sym (bindings f) (numbers_from 0 (binding_count f)) fit.numbered) (numbers_differ 0 (binding_count f)));
    declared = fit.declared;
  }

  -- ---- what declarations say

  among : (count k : ℕ) → k < count → is_member k (numbers_from 0 count) ≡ true
  among count k h = ap (λ v. is_member v (numbers_from 0 count)) (let e : k ≡ 0 + k = omega arith in e) ∙ number_among 0 count k h

  inclusion_fits : (s t : Symbol) → is_declared symbols false s 1 ≡ true → is_declared symbols false t 1 ≡ true → Fits symbols [] 0 (inclusion s t)
  inclusion_fits s t p q =
      let known = numbers_from 0 1 in
      let left = sort_atom_fits symbols known s 0 (among 1 0 (omega arith)) p in
      let right = sort_atom_fits symbols known t 0 (among 1 0 (omega arith)) q in
      block_fits symbols true [] 0 1 (tree.Implies (is_of s 0) (is_of t 0)) (implies_fits symbols known (0 + 1) (is_of s 0) (is_of t 0) (left.1 (0 + 1)) (behind_plain symbols known (0 + 1) (is_of s 0) (is_of t 0) left (right.1 (0 + 1))))

  length-variables : (n : ℕ) → length (variables n) ≡ n
  length-variables zero = refl
  length-variables (suc n) = omega (arith, length-append (variables n) (Var n ∷ []), length-variables n)

  variables_fit : (count n : ℕ) → n ≤ count → AllByRecursion (TermFits symbols (numbers_from 0 count)) (variables n)
  variables_fit count zero h = tt
  variables_fit count (suc n) h = all_of_both (TermFits symbols (numbers_from 0 count)) (variables n) (Var n ∷ []) (variables_fit count n (omega (arith, h))) (variable_fits symbols (numbers_from 0 count) n (among count n h), tt)

  abbrev AreSorts : List Symbol → Type 0
  AreSorts = AllByRecursion (λ s. is_declared symbols false s 1 ≡ true)

  sorts_are_plain : (count : ℕ) (atoms : List Tree) (sorts : List Symbol) → length atoms + length sorts ≤ count → AreSorts sorts → AllByRecursion (IsPlain symbols (numbers_from 0 count)) atoms → AllByRecursion (IsPlain symbols (numbers_from 0 count)) (fold with_sort atoms sorts)
  sorts_are_plain count atoms [] few are plain = plain
  sorts_are_plain count atoms (s ∷ sorts) few are plain =
      let one = is_of s (length atoms) in
      sorts_are_plain count (with_sort atoms s) sorts (omega (arith, few, length-append atoms (one ∷ []))) are.1
      (all_of_both (IsPlain symbols (numbers_from 0 count)) atoms (one ∷ []) plain (sort_atom_fits symbols (numbers_from 0 count) s (length atoms) (among count (length atoms) (omega (arith, few))) are.0, tt))

  argument_sorts_fit : (p : Symbol) (sorts : List Symbol) → is_declared symbols false p (length sorts) ≡ true → AreSorts sorts → Fits symbols [] 0 (argument_sorts p sorts)
  argument_sorts_fit p sorts is are =
      let n = length sorts in
      let known = numbers_from 0 n in
      let a = Holds p (variables n) in
      let all = tree.And (sort_atoms sorts) in
      let count : length (variables n) ≡ n = length-variables n in
      let atom : (first : ℕ) → Fits symbols known first (tree.Atom a) = λ first. atom_is_fit symbols known first a (predicate_fits symbols known p (variables n) (ap (is_declared symbols false p) count ∙ is) (variables_fit n n (omega arith))) in
      let plain = plain_and symbols known (sort_atoms sorts) (sorts_are_plain n [] sorts (omega arith) are tt) in
      block_fits symbols true [] 0 n (tree.Implies (tree.Atom a) all) (implies_fits symbols known (0 + n) (tree.Atom a) all (atom (0 + n)) (plain.1 (0 + n + binding_count (tree.Atom a))))

module _ (bytes : List ℕ) (symbols : List Declared) where
  sort_of_name : (s : Symbol) (ts rest : List Token) → sort_name bytes symbols s ts rest → is_declared symbols false s 1 ≡ true
  sort_of_name s ts rest p = sort_is_declared bytes symbols s p.1.0 p.1.1

  declared_fits : (f : Tree) (ts rest : List Token) → sort_declaration bytes symbols f ts rest → Fits symbols [] 0 f
  declared_fits f ts rest (inl p) =
      let e = p.3.2 in
      let q = e.2.1 in
      subst (Fits symbols [] 0) (sym p.2) (inclusion_fits symbols p.0 p.1 (sort_of_name p.0 e.0 q.0 q.1) (sort_of_name p.1 q.2.0 e.2.0 q.2.2))
  declared_fits f ts rest (inr (inl p)) =
      let e = p.3.2 in
      let q = e.2.1 in
      let is = q.1.1 in
      subst (Fits symbols [] 0) (sym p.2)
      (argument_sorts_fit symbols p.0 p.1 (of_atoms symbols p.0 (length p.1) is.0 is.1) (behind_hold (sort_name bytes symbols) (λ s. is_declared symbols false s 1 ≡ true) sort_of_name p.1 q.0 e.2.0 q.2))
  declared_fits f ts rest (inr (inr p)) = declaration_fits bytes symbols 1000 [] 0 f ts rest p.1

  -- ---- entries

  abbrev EntryFits : Entry → Type 0
  EntryFits e = IsWellFormed symbols e.formula

  labelled_fits : (shape : Shape) (f : Tree) (ts rest : List Token) → labelled bytes symbols shape f ts rest → IsWellFormed symbols f
  labelled_fits shape f ts rest p =
      let e = p.1 in
      let q = e.2.1 in
      well_formed symbols f (formula_fits bytes symbols 1000 shape [] 0 f e.0 q.0 q.1)

  formula_item_fits : (role : Role) (e : Entry) (ts rest : List Token) → formula_item bytes symbols role e ts rest → EntryFits e
  formula_item_fits role e ts rest p = let w = p.2 in labelled_fits _ e.formula w.0 rest w.2

  clause_item_fits : (e : Entry) (ts rest : List Token) → clause_item bytes symbols e ts rest → EntryFits e
  clause_item_fits e ts rest p = let w = p.2 in labelled_fits _ e.formula w.0 rest w.2

  declaration_item_fits : (e : Entry) (ts rest : List Token) → declaration_item bytes symbols e ts rest → EntryFits e
  declaration_item_fits e ts rest p = let w = p.2 in well_formed symbols e.formula (declared_fits e.formula ts w.0 w.1)

  entry_list_fits : (es : List Entry) (ts rest : List Token) → entry_list bytes symbols es ts rest → AreWellFormed symbols es
  entry_list_fits es ts rest (inl p) = let q = p.2.2 in each_holds (declaration_item bytes symbols) EntryFits declaration_item_fits es p.2.0 q.0 q.1
  entry_list_fits es ts rest (inr (inl p)) = let q = p.1.2.2 in each_holds (formula_item bytes symbols p.0) EntryFits (formula_item_fits p.0) es q.0 q.2.0 q.2.1
  entry_list_fits es ts rest (inr (inr p)) = let q = p.1.2.2 in each_holds (clause_item bytes symbols) EntryFits clause_item_fits es q.0 q.2.0 q.2.1

  none_fits : (es : List Entry) → es ≡ [] → AreWellFormed symbols es
  none_fits es e = subst (AreWellFormed symbols) (sym e) tt

  list_fits : (g : ListParts) (ts rest : List Token) → problem_list bytes symbols g ts rest → AreWellFormed symbols g.entries
  list_fits g ts rest (inl p) = entry_list_fits g.entries ts rest p.1
  list_fits g ts rest (inr (inl p)) = none_fits g.entries p.0
  list_fits g ts rest (inr (inr p)) = none_fits g.entries p.0

  all_fit : (groups : List ListParts) → AllByRecursion (λ (g : ListParts). AreWellFormed symbols g.entries) groups → AreWellFormed symbols (concatenated (map (λ (g : ListParts). g.entries) groups))
  all_fit [] are = tt
  all_fit (g ∷ groups) are = all_of_both EntryFits g.entries (concatenated (map (λ (h : ListParts). h.entries) groups)) are.0 (all_fit groups are.1)

  -- ---- how many entries there are

  -- what stands in the parentheses of a list of clauses
  abbrev form_words : Role → Phrase
  form_words role = role_word role ⨾ mark Comma ⨾ word words.Cnf

  form_words_keep : (role : Role) → Keeps (form_words role)
  form_words_keep role = then_keeps (role_word role) (mark Comma ⨾ word words.Cnf) (role_keeps role) (then_keeps (mark Comma) (word words.Cnf) (weaken (mark Comma) (mark_takes _)) (weaken (word words.Cnf) (word_takes _)))

  each_counted : (P : Entry → Phrase) → ((e : Entry) → Takes (P e)) → (es : List Entry) (ts rest : List Token) → each P es ts rest → length es + length rest ≤ length ts
  each_counted P takes [] ts rest p = omega (arith, ap length p)
  each_counted P takes (e ∷ es) ts rest p = omega (arith, fewer ts p.0 (takes e ts p.0 p.1), each_counted P takes es p.0 rest p.2)

  entry_list_counted : (es : List Entry) (ts rest : List Token) → entry_list bytes symbols es ts rest → length es + length rest ≤ length ts
  entry_list_counted es ts rest (inl p) =
      let q = p.2.2 in
      omega (arith, fewer ts p.0 (word_takes _ ts p.0 p.1), fewer p.0 p.2.0 (mark_takes _ p.0 p.2.0 p.2.1), each_counted (declaration_item bytes symbols) (declaration_item_takes bytes symbols) es p.2.0 q.0 q.1, shorter q.0 rest (end_keeps q.0 rest q.2))
  entry_list_counted es ts rest (inr (inl p)) =
      let w = p.1 in
      let q = w.2.2 in
      omega (arith, fewer ts w.0 (word_takes _ ts w.0 w.1), fewer w.0 w.2.0 (enclosed_takes (role_word p.0) (role_keeps p.0) w.0 w.2.0 w.2.1), fewer w.2.0 q.0 (mark_takes _ w.2.0 q.0 q.1), each_counted (formula_item bytes symbols p.0) (formula_item_takes bytes symbols p.0) es q.0 q.2.0 q.2.1, shorter q.2.0 rest (end_keeps q.2.0 rest q.2.2))
  entry_list_counted es ts rest (inr (inr p)) =
      let w = p.1 in
      let q = w.2.2 in
      omega (arith, fewer ts w.0 (word_takes _ ts w.0 w.1), fewer w.0 w.2.0 (enclosed_takes (form_words p.0) (form_words_keep p.0) w.0 w.2.0 w.2.1), fewer w.2.0 q.0 (mark_takes _ w.2.0 q.0 q.1), each_counted (clause_item bytes symbols) (clause_item_takes bytes symbols) es q.0 q.2.0 q.2.1, shorter q.2.0 rest (end_keeps q.2.0 rest q.2.2))

  list_counted : (g : ListParts) (ts rest : List Token) → problem_list bytes symbols g ts rest → length g.entries + length rest ≤ length ts
  list_counted g ts rest (inl p) = entry_list_counted g.entries ts rest p.1
  list_counted g ts rest (inr p) = omega (arith, ap length (no_entries p), fewer ts rest (list_takes bytes symbols g ts rest (inr p)))
    where
      no_entries : ((g.entries ≡ []) × (g.proofs ≡ place ts ∷ []) × (word words.ListOfProof ⨾ passed) ts rest) ⊎ ((g.entries ≡ []) × (g.proofs ≡ []) × (word words.ListOfSettings ⨾ passed) ts rest) → g.entries ≡ []
      no_entries (inl q) = q.0
      no_entries (inr q) = q.0

  lists_counted : (groups : List ListParts) (ts rest : List Token) → each (problem_list bytes symbols) groups ts rest → length (concatenated (map (λ (g : ListParts). g.entries) groups)) + length rest ≤ length ts
  lists_counted [] ts rest p = omega (arith, ap length p)
  lists_counted (g ∷ groups) ts rest p = omega (arith, length-append g.entries (concatenated (map (λ (h : ListParts). h.entries) groups)), list_counted g ts p.0 p.1, lists_counted groups p.0 rest p.2)

pub problem_well_formed : (bytes : List ℕ) (p : Problem) → IsProblem bytes p → AreWellFormed p.signature p.entries
problem_well_formed bytes p w =
    let listed = w.3.2.2.2.1 in
    subst (AreWellFormed p.signature) (sym listed.1) (all_fit bytes p.signature listed.0 (each_holds (problem_list bytes p.signature) (λ (g : ListParts). AreWellFormed p.signature g.entries) (list_fits bytes p.signature) listed.0 _ _ listed.3))

pub problem_counted : (bytes : List ℕ) (p : Problem) → IsProblem bytes p → length p.entries ≤ length bytes
problem_counted bytes p w =
    let begun = w.3 in
    let described = begun.2 in
    let declared = described.2 in
    let listed = declared.2 in
    let groups = listed.1 in
    omega (arith, tokens_few bytes, fewer (tokens bytes) begun.0 (head_takes (tokens bytes) begun.0 begun.1), shorter begun.0 described.0 (descriptions_keep begun.0 described.0 described.1), shorter described.0 declared.0 (signature_keeps bytes p.signature described.0 declared.0 declared.1), lists_counted bytes p.signature groups.0 declared.0 listed.0 groups.3, ap length groups.1)

-- ---- both, of an answer

pub formed-read : (bytes : List ℕ) (r : Result Problem InputError) → IfOk r (λ p. IsProblem bytes p) → IfOk r (λ p. AreWellFormed p.signature p.entries)
formed-read bytes (Ok p) w = problem_well_formed bytes p w
formed-read bytes (Err e) w = tt

pub counted-read : (bytes : List ℕ) (r : Result Problem InputError) → IfOk r (λ p. IsProblem bytes p) → IfOk r (λ p. length p.entries ≤ length bytes)
counted-read bytes (Ok p) w = problem_counted bytes p w
counted-read bytes (Err e) w = tt
