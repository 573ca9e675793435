-- Well-formed entries meet the conditions of the normal form.
use Rattle.std.proofs.Common.{◌≡◌, ℕ, Bool, true, false, ◌&&◌, List, [], ◌∷◌, length, map, slice_get, Option, Some, None, refl, sym, subst, ap, ◌∙◌}
use Rattle.std.specs.Prelude.{nat_lt, Contains}
use Rattle.std.specs.List.{list_all, AllByRecursion}
use Rattle.std.proofs.lemmas.Bool.{false≢true, and_parts, and_from, lt-ltb}
use Rattle.std.proofs.lemmas.List.Elements.{All-contains, All-from_recursion}
use Rattle.std.proofs.lemmas.Option.{slice_get_within}
use Rattle.spl_terms.specs.declared.term.Symbol.{Symbol}
use Rattle.spl_terms.specs.declared.term.Term.{Term}
use Rattle.spl_terms.specs.declared.atom.Atom.{Atom}
use Rattle.spl_terms.specs.declared.atom.Atom.TheVariants.{Holds, Equal}
use Rattle.spl_terms.specs.TermLaws.{Each, term_induction, fold-Var, fold-App}
use Rattle.spl_symbols.specs.Symbols.{Declared}
use Rattle.spl_symbols.specs.OfSignature.{fits_place, declares, is_declared, term_of_step, is_term_of, is_atom_of}
use Rattle.formulas.specs.declared.tree.Tree as tree
use Rattle.formulas.specs.declared.tree.Tree.{Tree, Tree-F}
use Rattle.formulas.specs.declared.tree.Tree.TheOpen as layer
use Rattle.formulas.specs.declared.tree.Tree.TheViews.{roll-Tree, rolls-Not}
use Rattle.formulas.specs.declared.tree.Tree.TheFolds.{map-Tree, fold-roll-Tree, ind-Tree}
use Rattle.formulas.specs.declared.entry.Entry.{Entry}
use Rattle.formulas.specs.Entries.{stands, with_sign, entry_formula}
use Rattle.formulas.specs.Bindings.{free_step, bindings, all_distinct}
use Rattle.formulas.specs.BindingLaws.{bindings-Not}
use Rattle.formulas.specs.AtomTests.{all_step, all_atoms}
use Rattle.normal_form.specs.Law.{old_term_step, is_old_term, is_old_atom, IsFormula}
use Rattle.normal_form.specs.OfSignature.{AreOfSignature}
use Rattle.dfg_problem.specs.WellFormed.{IsWellFormed, AreWellFormed}
use Rattle.dfg_problem.specs.FormulaFormedLaws.{at_layer}

-- ---- a test that passes where another one does

module _ (p q : Atom → Bool) (law : (a : Atom) → p a ≡ true → q a ≡ true) where
  abbrev Passes : Tree → Type 0
  Passes t = all_atoms p t ≡ true → all_atoms q t ≡ true

  abbrev Passing : Type 0
  Passing = (t : Tree) × Passes t

  abbrev trees : List Passing → List Tree
  trees es = map (λ (e : Passing). e.0) es

  all_pass : (es : List Passing) → list_all (λ b. b) (map (all_atoms p) (trees es)) ≡ true → list_all (λ b. b) (map (all_atoms q) (trees es)) ≡ true
  all_pass [] h = refl
  all_pass (e ∷ es) h =
      let both = and_parts (all_atoms p e.0) (list_all (λ b. b) (map (all_atoms p) (trees es))) h in
      and_from (all_atoms q e.0) (list_all (λ b. b) (map (all_atoms q) (trees es))) (e.1 both.0) (all_pass es both.1)

  both_pass : (e f : Passing) → (all_atoms p e.0 && all_atoms p f.0) ≡ true → (all_atoms q e.0 && all_atoms q f.0) ≡ true
  both_pass e f h =
      let both = and_parts (all_atoms p e.0) (all_atoms p f.0) h in
      and_from (all_atoms q e.0) (all_atoms q f.0) (e.1 both.0) (f.1 both.1)

  abbrev opened : Tree-F Passing → Tree-F Tree
  opened y = map-Tree Passing Tree (λ e. e.0) y

  layer_passes : (y : Tree-F Passing) → all_step p (map-Tree Tree Bool (all_atoms p) (opened y)) ≡ true → all_step q (map-Tree Tree Bool (all_atoms q) (opened y)) ≡ true
  layer_passes layer.True h = refl
  layer_passes layer.False h = refl
  layer_passes (layer.Atom a) h = law a h
  layer_passes (layer.Not e) h = e.1 h
  layer_passes (layer.And es) h = all_pass es h
  layer_passes (layer.Or es) h = all_pass es h
  layer_passes (layer.Implies e f) h = both_pass e f h
  layer_passes (layer.Equiv e f) h = both_pass e f h
  layer_passes (layer.Forall x e) h = e.1 h
  layer_passes (layer.Exists x e) h = e.1 h

  passes : (t : Tree) → Passes t
  passes = ind-Tree Passes (λ x y is. subst (λ z. Passes (roll-Tree z)) is (λ h. fold-roll-Tree Bool (all_step q) (opened y) ∙ layer_passes y (sym (fold-roll-Tree Bool (all_step p) (opened y)) ∙ h)))

-- ---- declared symbols have numbers below that of the next one

module _ (symbols : List Declared) where
  abbrev next : ℕ
  next = length symbols

  old_symbol : (in_term : Bool) (s : Symbol) (count : ℕ) → is_declared symbols in_term s count ≡ true → nat_lt s.number next ≡ true
  old_symbol in_term s count h = by_symbol (slice_get symbols s.number) refl (and_parts (fits_place in_term s.kind) (declares (slice_get symbols s.number) s.kind count) h).1
    where
      by_symbol : (o : Option Declared) → slice_get symbols s.number ≡ o → declares o s.kind count ≡ true → nat_lt s.number (length symbols) ≡ true
      by_symbol None e d = absurd (false≢true d)
      by_symbol (Some d) e is = lt-ltb s.number (length symbols) (slice_get_within symbols s.number d e)

  abbrev IsOld : Term → Type 0
  IsOld t = is_term_of symbols t ≡ true → is_old_term next t ≡ true

  each_old : (ts : List Term) → Each IsOld ts → list_all (λ b. b) (map (is_term_of symbols) ts) ≡ true → list_all (λ b. b) (map (is_old_term next) ts) ≡ true
  each_old [] each h = refl
  each_old (t ∷ ts) each h =
      let both = and_parts (is_term_of symbols t) (list_all (λ b. b) (map (is_term_of symbols) ts)) h in
      and_from (is_old_term next t) (list_all (λ b. b) (map (is_old_term next) ts)) (each.0 both.0) (each_old ts each.1 both.1)

  old_term : (t : Term) → IsOld t
  old_term =
      term_induction IsOld
      (λ v h. fold-Var (old_term_step next) v)
      (λ f ts each h.
      let both = and_parts (is_declared symbols true f (length (map (is_term_of symbols) ts))) (list_all (λ b. b) (map (is_term_of symbols) ts)) (sym (fold-App (term_of_step symbols) f ts) ∙ h) in
      fold-App (old_term_step next) f ts
      ∙ and_from (nat_lt f.number next) (list_all (λ b. b) (map (is_old_term next) ts)) (old_symbol true f (length (map (is_term_of symbols) ts)) both.0) (each_old ts each both.1))

  old_terms : (ts : List Term) → list_all (is_term_of symbols) ts ≡ true → list_all (is_old_term next) ts ≡ true
  old_terms [] h = refl
  old_terms (t ∷ ts) h =
      let both = and_parts (is_term_of symbols t) (list_all (is_term_of symbols) ts) h in
      and_from (is_old_term next t) (list_all (is_old_term next) ts) (old_term t both.0) (old_terms ts both.1)

  old_atom : (a : Atom) → is_atom_of symbols a ≡ true → is_old_atom next a ≡ true
  old_atom (Holds p ts) h = old_terms ts (and_parts (is_declared symbols false p (length ts)) (list_all (is_term_of symbols) ts) h).1
  old_atom (Equal s t) h =
      let both = and_parts (is_term_of symbols s) (is_term_of symbols t) h in
      and_from (is_old_term next s) (is_old_term next t && true) (old_term s both.0) (and_from (is_old_term next t) true (old_term t both.1) refl)

  -- ---- entries

  fits : (f : Tree) → IsWellFormed symbols f → IsFormula next f
  fits f formed = record { closed = formed.closed; different = formed.different; old = passes (is_atom_of symbols) (is_old_atom next) old_atom f formed.declared }

  negated : (f : Tree) → IsFormula next f → IsFormula next (tree.Not f)
  negated f is = record {
    closed = λ v. at_layer (free_step v) (tree.Not f) (layer.Not f) (rolls-Not f) ∙ is.closed v;
    different = ap all_distinct (bindings-Not f) ∙ is.different;
    old = at_layer (all_step (is_old_atom next)) (tree.Not f) (layer.Not f) (rolls-Not f) ∙ is.old;
  }

  signed : (sign : Bool) (f : Tree) → IsFormula next f → IsFormula next (with_sign sign f)
  signed true f is = is
  signed false f is = negated f is

  entries_fit : (es : List Entry) → AreWellFormed symbols es → AllByRecursion (IsFormula next) (map entry_formula es)
  entries_fit [] are = tt
  entries_fit (e ∷ es) are = (signed (stands e.role) e.formula (fits e.formula are.0), entries_fit es are.1)

  pub formulas_fit : (es : List Entry) → AreWellFormed symbols es → (f : Tree) → Contains (map entry_formula es) f → IsFormula (length symbols) f
  formulas_fit es are f among = All-contains (IsFormula next) (map entry_formula es) f (All-from_recursion (IsFormula next) (map entry_formula es) (entries_fit es are)) among

  pub bindings_differ : (es : List Entry) → AreWellFormed symbols es → (e : Entry) → Contains es e → all_distinct (bindings e.formula) ≡ true
  bindings_differ es are e among = (All-contains (λ (d : Entry). IsWellFormed symbols d.formula) es e (All-from_recursion (λ (d : Entry). IsWellFormed symbols d.formula) es are) among).different

  pub symbols_declared : (es : List Entry) → AreWellFormed symbols es → AreOfSignature symbols es
  symbols_declared [] are = tt
  symbols_declared (e ∷ es) are = (are.0.declared, symbols_declared es are.1)
