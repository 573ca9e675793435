-- Laws with their proofs, not definitions that a reader must believe: formulas that are written are closed, their bindings are numbered in order, and their symbols are declared.
use Rattle.std.proofs.Common.{◌≡◌, inl, inr, ℕ, zero, suc, ◌+◌, ◌-◌, ◌<◌, ◌≤◌, Bool, true, false, not, ◌&&◌, ◌||◌, ◌==◌, List, [], ◌∷◌, ◌++◌, length, map, Option, Some, None, refl, sym, subst, ap, ◌∙◌, arith}
use Rattle.std.specs.Prelude.{⊤}
use Rattle.std.specs.List.{list_all, list_any, flat_map, AllByRecursion}
use Rattle.std.specs.List.Sorted.{IsPermutation}
use Rattle.std.proofs.lemmas.Bool.{false≢true, eq-eqb, or_cases, or_left, or_right, and_from, and_parts, not-true}
use Rattle.std.proofs.lemmas.List.{map-append}
use Rattle.std.proofs.lemmas.List.Folds.{list_any-append}
use Rattle.std.proofs.lemmas.List.Sorted.{IsPermutation-refl, IsPermutation-trans, IsPermutation-append, IsPermutation-append_comm}
use Rattle.spl_terms.specs.declared.term.Kind.{Kind}
use Rattle.spl_terms.specs.declared.term.Kind.TheVariants as kinds
use Rattle.spl_terms.specs.declared.term.Symbol.{Symbol}
use Rattle.spl_terms.specs.declared.term.Term.{Var}
use Rattle.spl_terms.specs.declared.atom.Atom.{Atom}
use Rattle.spl_terms.specs.declared.atom.Atom.TheVariants.{Holds}
use Rattle.spl_symbols.specs.Symbols.{Declared}
use Rattle.spl_symbols.specs.OfSignature.{fits_place, is_declared, is_atom_of}
use Rattle.formulas.specs.declared.tree.Tree as tree
use Rattle.formulas.specs.declared.tree.Tree.{Tree, Tree-F, fold-Tree}
use Rattle.formulas.specs.declared.tree.Tree.TheOpen as layer
use Rattle.formulas.specs.declared.tree.Tree.TheViews.{roll-Tree, rolls-True, rolls-False, rolls-Atom, rolls-Not, rolls-And, rolls-Or, rolls-Implies, rolls-Equiv, rolls-Forall, rolls-Exists}
use Rattle.formulas.specs.declared.tree.Tree.TheFolds.{map-Tree, fold-roll-Tree}
use Rattle.formulas.specs.Bindings.{is_member, free_step, is_free, bindings, numbers_from}
use Rattle.formulas.specs.BindingLaws.{bindings-True, bindings-False, bindings-Atom, bindings-Not, bindings-And, bindings-Or, bindings-Implies, bindings-Equiv, bindings-foralls, bindings-exists}
use Rattle.formulas.specs.AtomTests.{all_step, all_atoms}
use Rattle.dfg_tokens.specs.declared.token.Token.{Token}
use Rattle.dfg_terms.specs.Scopes.{Binding}
use Rattle.dfg_formulas.specs.declared.shape.Shape.{Shape}
use Rattle.dfg_formulas.specs.declared.shape.Connective.{Connective}
use Rattle.dfg_formulas.specs.declared.shape.Connective.TheVariants as connectives
use Rattle.dfg_formulas.specs.Quantifiers.{Item, of_sort, guard, guarded, block}
use Rattle.dfg_formulas.specs.Formulas.{is_of_atoms, joined, pair_of}
use Rattle.dfg_formulas.specs.Grammar.{total, count_in_layer, binding_count, IsSort, item_of, item, bindings_from, sorts_of, FormulaPhrase, behind_in_turn, in_turn, negation, several, pair, quantification, inside, atomic, formula, sorted_term, term_declaration}
use Rattle.dfg_problem.specs.TermFormedLaws.{separated_hold, numbers_of, is_declared_so, variable_fits, AtomFits, predicate_fits, application_of, atom_fits}

-- ---- one layer of a formula

module _ {B : Type 0} (step : Tree-F B → B) where
  pub at_layer : (t : Tree) (y : Tree-F Tree) → roll-Tree y ≡ t → fold-Tree B step t ≡ step (map-Tree Tree B (fold-Tree B step) y)
  at_layer t y e = ap (fold-Tree B step) (sym e) ∙ fold-roll-Tree B step y

-- ---- numbers in a row

pub numbers-plus : (first m n : ℕ) → numbers_from first (m + n) ≡ numbers_from first m ++ numbers_from (first + m) n
numbers-plus first zero n = ap (numbers_from first) (let h : zero + n ≡ n = omega arith in h) ∙ ap (λ k. numbers_from k n) (let h : first ≡ first + zero = omega arith in h)
numbers-plus first (suc m) n =
    ap (numbers_from first) (let h : suc m + n ≡ suc (m + n) = omega arith in h)
    ∙ ap (λ vs. first ∷ vs) (numbers-plus (suc first) m n ∙ ap (λ k. numbers_from (suc first) m ++ numbers_from k n) (let h : suc first + m ≡ first + suc m = omega arith in h))

pub number_among : (first count k : ℕ) → k < count → is_member (first + k) (numbers_from first count) ≡ true
number_among first zero k h = absurd (omega (arith, h))
number_among first (suc count) zero h = or_left ((first + 0) == first) (is_member (first + 0) (numbers_from (suc first) count)) (eq-eqb (first + 0) first (omega arith))
number_among first (suc count) (suc k) h =
    or_right ((first + suc k) == first) (is_member (first + suc k) (numbers_from (suc first) count))
    (ap (λ v. is_member v (numbers_from (suc first) count)) (let e : first + suc k ≡ suc first + k = omega arith in e) ∙ number_among (suc first) count k (omega (arith, h)))

-- ---- formulas where these variables are known and the first binding has this number

module _ (symbols : List Declared) where
  abbrev pub atoms_declared : Tree → Bool
  atoms_declared = all_atoms (is_atom_of symbols)

  pub record Fits (known : List ℕ) (first : ℕ) (f : Tree) : Type 0 where
    pub variables : (v : ℕ) → is_free v f ≡ true → is_member v known ≡ true
    pub numbered : IsPermutation (bindings f) (numbers_from first (binding_count f))
    pub declared : atoms_declared f ≡ true

  renumbered : (first m n : ℕ) (xs ys : List ℕ) → xs ≡ ys → n ≡ m → IsPermutation ys (numbers_from first m) → IsPermutation xs (numbers_from first n)
  renumbered first m n xs ys e count p = subst (λ k. IsPermutation xs (numbers_from first k)) (sym count) (subst (λ vs. IsPermutation vs (numbers_from first m)) (sym e) p)

  -- no bindings have no numbers
  none_from : (first : ℕ) (f : Tree) → bindings f ≡ [] → binding_count f ≡ 0 → IsPermutation (bindings f) (numbers_from first (binding_count f))
  none_from first f e count = renumbered first 0 (binding_count f) (bindings f) [] e count (IsPermutation-refl [])

  module _ (known : List ℕ) where
    pub true_fits : (first : ℕ) → Fits known first tree.True
    true_fits first = record {
      variables = λ v h. absurd (false≢true (sym (at_layer (free_step v) tree.True layer.True rolls-True) ∙ h));
      numbered = none_from first tree.True bindings-True (at_layer count_in_layer tree.True layer.True rolls-True);
      declared = at_layer (all_step (is_atom_of symbols)) tree.True layer.True rolls-True;
    }

    pub false_fits : (first : ℕ) → Fits known first tree.False
    false_fits first = record {
      variables = λ v h. absurd (false≢true (sym (at_layer (free_step v) tree.False layer.False rolls-False) ∙ h));
      numbered = none_from first tree.False bindings-False (at_layer count_in_layer tree.False layer.False rolls-False);
      declared = at_layer (all_step (is_atom_of symbols)) tree.False layer.False rolls-False;
    }

    pub atom_is_fit : (first : ℕ) (a : Atom) → AtomFits symbols known a → Fits known first (tree.Atom a)
    atom_is_fit first a fit = record {
      variables = λ v h. fit.variables v (sym (at_layer (free_step v) (tree.Atom a) (layer.Atom a) (rolls-Atom a)) ∙ h);
      numbered = none_from first (tree.Atom a) (bindings-Atom a) (at_layer count_in_layer (tree.Atom a) (layer.Atom a) (rolls-Atom a));
      declared = at_layer (all_step (is_atom_of symbols)) (tree.Atom a) (layer.Atom a) (rolls-Atom a) ∙ fit.declared;
    }

    pub not_fits : (first : ℕ) (f : Tree) → Fits known first f → Fits known first (tree.Not f)
    not_fits first f fit = record {
      variables = λ v h. fit.variables v (sym (at_layer (free_step v) (tree.Not f) (layer.Not f) (rolls-Not f)) ∙ h);
      numbered = renumbered first (binding_count f) (binding_count (tree.Not f)) (bindings (tree.Not f)) (bindings f) (bindings-Not f) (at_layer count_in_layer (tree.Not f) (layer.Not f) (rolls-Not f)) fit.numbered;
      declared = at_layer (all_step (is_atom_of symbols)) (tree.Not f) (layer.Not f) (rolls-Not f) ∙ fit.declared;
    }

    -- ---- two parts

    both_known : (v : ℕ) (f g : Tree) (first second : ℕ) → Fits known first f → Fits known second g → (is_free v f || is_free v g) ≡ true → is_member v known ≡ true
    both_known v f g first second p q h = elim (or_cases (is_free v f) (is_free v g) h) [
      | inl e ↦ p.variables v e
      | inr e ↦ q.variables v e
    ]

    row_numbered : (first m n : ℕ) (vs ws : List ℕ) → IsPermutation vs (numbers_from first m) → IsPermutation ws (numbers_from (first + m) n) → IsPermutation (vs ++ ws) (numbers_from first (m + n))
    row_numbered first m n vs ws p q = subst (IsPermutation (vs ++ ws)) (sym (numbers-plus first m n)) (IsPermutation-append vs (numbers_from first m) ws (numbers_from (first + m) n) p q)

    pub implies_fits : (first : ℕ) (f g : Tree) → Fits known first f → Fits known (first + binding_count f) g → Fits known first (tree.Implies f g)
    implies_fits first f g p q = record {
      variables = λ v h. both_known v f g first (first + binding_count f) p q (sym (at_layer (free_step v) (tree.Implies f g) (layer.Implies f g) (rolls-Implies f g)) ∙ h);
      numbered = renumbered first (binding_count f + binding_count g) (binding_count (tree.Implies f g)) (bindings (tree.Implies f g)) (bindings f ++ bindings g) (bindings-Implies f g) (at_layer count_in_layer (tree.Implies f g) (layer.Implies f g) (rolls-Implies f g)) (row_numbered first (binding_count f) (binding_count g) (bindings f) (bindings g) p.numbered q.numbered);
      declared = at_layer (all_step (is_atom_of symbols)) (tree.Implies f g) (layer.Implies f g) (rolls-Implies f g) ∙ and_from (atoms_declared f) (atoms_declared g) p.declared q.declared;
    }

    pub equiv_fits : (first : ℕ) (f g : Tree) → Fits known first f → Fits known (first + binding_count f) g → Fits known first (tree.Equiv f g)
    equiv_fits first f g p q = record {
      variables = λ v h. both_known v f g first (first + binding_count f) p q (sym (at_layer (free_step v) (tree.Equiv f g) (layer.Equiv f g) (rolls-Equiv f g)) ∙ h);
      numbered = renumbered first (binding_count f + binding_count g) (binding_count (tree.Equiv f g)) (bindings (tree.Equiv f g)) (bindings f ++ bindings g) (bindings-Equiv f g) (at_layer count_in_layer (tree.Equiv f g) (layer.Equiv f g) (rolls-Equiv f g)) (row_numbered first (binding_count f) (binding_count g) (bindings f) (bindings g) p.numbered q.numbered);
      declared = at_layer (all_step (is_atom_of symbols)) (tree.Equiv f g) (layer.Equiv f g) (rolls-Equiv f g) ∙ and_from (atoms_declared f) (atoms_declared g) p.declared q.declared;
    }

    -- the part that is read last comes first
    pub implied_fits : (first : ℕ) (f g : Tree) → Fits known first f → Fits known (first + binding_count f) g → Fits known first (tree.Implies g f)
    implied_fits first f g p q = record {
      variables = λ v h. both_known v g f (first + binding_count f) first q p (sym (at_layer (free_step v) (tree.Implies g f) (layer.Implies g f) (rolls-Implies g f)) ∙ h);
      numbered = renumbered first (binding_count f + binding_count g) (binding_count (tree.Implies g f)) (bindings (tree.Implies g f)) (bindings g ++ bindings f) (bindings-Implies g f)
          (let h : binding_count (tree.Implies g f) ≡ binding_count f + binding_count g = omega (arith, at_layer count_in_layer (tree.Implies g f) (layer.Implies g f) (rolls-Implies g f)) in h)
          (IsPermutation-trans (bindings g ++ bindings f) (bindings f ++ bindings g) (numbers_from first (binding_count f + binding_count g)) (IsPermutation-append_comm (bindings g) (bindings f)) (row_numbered first (binding_count f) (binding_count g) (bindings f) (bindings g) p.numbered q.numbered));
      declared = at_layer (all_step (is_atom_of symbols)) (tree.Implies g f) (layer.Implies g f) (rolls-Implies g f) ∙ and_from (atoms_declared g) (atoms_declared f) q.declared p.declared;
    }

    -- ---- several parts

    pub record AllFit (first : ℕ) (fs : List Tree) : Type 0 where
      pub variables : (v : ℕ) → list_any (λ b. b) (map (is_free v) fs) ≡ true → is_member v known ≡ true
      pub numbered : IsPermutation (flat_map bindings fs) (numbers_from first (total (map binding_count fs)))
      pub declared : list_all (λ b. b) (map atoms_declared fs) ≡ true

    pub none_fit : (first : ℕ) → AllFit first []
    none_fit first = record { variables = λ v h. absurd (false≢true h); numbered = IsPermutation-refl []; declared = refl }

    pub more_fit : (first : ℕ) (f : Tree) (fs : List Tree) → Fits known first f → AllFit (first + binding_count f) fs → AllFit first (f ∷ fs)
    more_fit first f fs p q = record {
      variables = λ v h. elim (or_cases (is_free v f) (list_any (λ b. b) (map (is_free v) fs)) h) [
        | inl e ↦ p.variables v e
        | inr e ↦ q.variables v e
      ];
      numbered = row_numbered first (binding_count f) (total (map binding_count fs)) (bindings f) (flat_map bindings fs) p.numbered q.numbered;
      declared = and_from (atoms_declared f) (list_all (λ b. b) (map atoms_declared fs)) p.declared q.declared;
    }

    pub and_fits : (first : ℕ) (fs : List Tree) → AllFit first fs → Fits known first (tree.And fs)
    and_fits first fs fit = record {
      variables = λ v h. fit.variables v (sym (at_layer (free_step v) (tree.And fs) (layer.And fs) (rolls-And fs)) ∙ h);
      numbered = renumbered first (total (map binding_count fs)) (binding_count (tree.And fs)) (bindings (tree.And fs)) (flat_map bindings fs) (bindings-And fs) (at_layer count_in_layer (tree.And fs) (layer.And fs) (rolls-And fs)) fit.numbered;
      declared = at_layer (all_step (is_atom_of symbols)) (tree.And fs) (layer.And fs) (rolls-And fs) ∙ fit.declared;
    }

    pub or_fits : (first : ℕ) (fs : List Tree) → AllFit first fs → Fits known first (tree.Or fs)
    or_fits first fs fit = record {
      variables = λ v h. fit.variables v (sym (at_layer (free_step v) (tree.Or fs) (layer.Or fs) (rolls-Or fs)) ∙ h);
      numbered = renumbered first (total (map binding_count fs)) (binding_count (tree.Or fs)) (bindings (tree.Or fs)) (flat_map bindings fs) (bindings-Or fs) (at_layer count_in_layer (tree.Or fs) (layer.Or fs) (rolls-Or fs)) fit.numbered;
      declared = at_layer (all_step (is_atom_of symbols)) (tree.Or fs) (layer.Or fs) (rolls-Or fs) ∙ fit.declared;
    }

  -- ---- quantifiers

  abbrev pub quantifier : Bool → ℕ → Tree → Tree
  quantifier true = tree.Forall
  quantifier false = tree.Exists

  free-quantifier : (all : Bool) (v x : ℕ) (f : Tree) → is_free v (quantifier all x f) ≡ (not (v == x) && is_free v f)
  free-quantifier true v x f = at_layer (free_step v) (tree.Forall x f) (layer.Forall x f) (rolls-Forall x f)
  free-quantifier false v x f = at_layer (free_step v) (tree.Exists x f) (layer.Exists x f) (rolls-Exists x f)

  count-quantifier : (all : Bool) (x : ℕ) (f : Tree) → binding_count (quantifier all x f) ≡ 1 + binding_count f
  count-quantifier true x f = at_layer count_in_layer (tree.Forall x f) (layer.Forall x f) (rolls-Forall x f)
  count-quantifier false x f = at_layer count_in_layer (tree.Exists x f) (layer.Exists x f) (rolls-Exists x f)

  declared-quantifier : (all : Bool) (x : ℕ) (f : Tree) → atoms_declared (quantifier all x f) ≡ atoms_declared f
  declared-quantifier true x f = at_layer (all_step (is_atom_of symbols)) (tree.Forall x f) (layer.Forall x f) (rolls-Forall x f)
  declared-quantifier false x f = at_layer (all_step (is_atom_of symbols)) (tree.Exists x f) (layer.Exists x f) (rolls-Exists x f)

  bindings-block : (all : Bool) (first count : ℕ) (f : Tree) → bindings (block all first count f) ≡ numbers_from first count ++ bindings f
  bindings-block true first count f = bindings-foralls first count f
  bindings-block false first count f = bindings-exists first count f

  -- one quantifier for each variable
  block-none : (all : Bool) (first : ℕ) (f : Tree) → block all first 0 f ≡ f
  block-none true first f = refl
  block-none false first f = refl

  block-more : (all : Bool) (first count : ℕ) (f : Tree) → block all first (suc count) f ≡ quantifier all first (block all (suc first) count f)
  block-more true first count f = refl
  block-more false first count f = refl

  count-block : (all : Bool) (first count : ℕ) (f : Tree) → binding_count (block all first count f) ≡ count + binding_count f
  count-block all first zero f = omega (arith, ap binding_count (block-none all first f))
  count-block all first (suc count) f =
      let inner = block all (suc first) count f in
      omega (arith, ap binding_count (block-more all first count f), count-quantifier all first inner, count-block all (suc first) count f)

  declared-block : (all : Bool) (first count : ℕ) (f : Tree) → atoms_declared (block all first count f) ≡ atoms_declared f
  declared-block all first zero f = ap atoms_declared (block-none all first f)
  declared-block all first (suc count) f = ap atoms_declared (block-more all first count f) ∙ declared-quantifier all first (block all (suc first) count f) ∙ declared-block all (suc first) count f

  -- what is free in it is free in the part, and is none of its variables
  free-block : (all : Bool) (v first count : ℕ) (f : Tree) → is_free v (block all first count f) ≡ true → (is_member v (numbers_from first count) ≡ false) × (is_free v f ≡ true)
  free-block all v first zero f h = (refl, sym (ap (is_free v) (block-none all first f)) ∙ h)
  free-block all v first (suc count) f h =
      let inner = block all (suc first) count f in
      let both = and_parts (not (v == first)) (is_free v inner) (sym (ap (is_free v) (block-more all first count f) ∙ free-quantifier all v first inner) ∙ h) in
      let more = free-block all v (suc first) count f both.1 in
      ((λ i. not-true (v == first) both.0 i || more.0 i), more.1)

  pub block_fits : (all : Bool) (known : List ℕ) (first count : ℕ) (f : Tree) → Fits (known ++ numbers_from first count) (first + count) f → Fits known first (block all first count f)
  block_fits all known first count f fit = record {
    variables = λ v h.
        let p = free-block all v first count f h in
        elim (or_cases (is_member v known) (is_member v (numbers_from first count)) (sym (list_any-append (λ w. v == w) known (numbers_from first count)) ∙ fit.variables v p.1)) [
          | inl m ↦ m
          | inr m ↦ absurd (false≢true (sym p.0 ∙ m))
        ];
    numbered = renumbered first (count + binding_count f) (binding_count (block all first count f)) (bindings (block all first count f)) (numbers_from first count ++ bindings f) (bindings-block all first count f) (count-block all first count f) (row_numbered known first count (binding_count f) (numbers_from first count) (bindings f) (IsPermutation-refl (numbers_from first count)) fit.numbered);
    declared = declared-block all first count f ∙ fit.declared;
  }

  -- ---- sorts of variables

  -- it binds no variable
  abbrev pub IsPlain : List ℕ → Tree → Type 0
  IsPlain known f = (binding_count f ≡ 0) × ((first : ℕ) → Fits known first f)

  -- the sort is a declared one
  abbrev pub SortFits : Option Symbol → Type 0
  SortFits None = ⊤
  SortFits (Some s) = is_declared symbols false s 1 ≡ true

  module _ (known : List ℕ) where
    plain_count : (fs : List Tree) → AllByRecursion (IsPlain known) fs → total (map binding_count fs) ≡ 0
    plain_count [] plain = refl
    plain_count (f ∷ fs) plain = omega (arith, plain.0.0, plain_count fs plain.1)

    plain_fit : (fs : List Tree) → AllByRecursion (IsPlain known) fs → (first : ℕ) → AllFit known first fs
    plain_fit [] plain first = none_fit known first
    plain_fit (f ∷ fs) plain first = more_fit known first f fs (plain.0.1 first) (plain_fit fs plain.1 (first + binding_count f))

    pub plain_and : (fs : List Tree) → AllByRecursion (IsPlain known) fs → IsPlain known (tree.And fs)
    plain_and fs plain = (at_layer count_in_layer (tree.And fs) (layer.And fs) (rolls-And fs) ∙ plain_count fs plain, λ first. and_fits known first fs (plain_fit fs plain first))

    plain_guard : (fs : List Tree) → AllByRecursion (IsPlain known) fs → IsPlain known (guard fs)
    plain_guard [] plain = plain_and [] plain
    plain_guard (f ∷ []) plain = plain.0
    plain_guard (f ∷ (g ∷ fs)) plain = plain_and (f ∷ (g ∷ fs)) plain

    pub behind_plain : (first : ℕ) (f g : Tree) → IsPlain known f → Fits known first g → Fits known (first + binding_count f) g
    behind_plain first f g plain fit = subst (λ k. Fits known k g) (let h : first ≡ first + binding_count f = omega (arith, plain.0) in h) fit

    pub guarded_fits : (all : Bool) (first : ℕ) (sorts : List Tree) (g : Tree) → AllByRecursion (IsPlain known) sorts → Fits known first g → Fits known first (guarded all sorts g)
    guarded_fits all first [] g plain fit = fit
    guarded_fits true first (s ∷ sorts) g plain fit =
        let all = guard (s ∷ sorts) in
        let p = plain_guard (s ∷ sorts) plain in
        implies_fits known first all g (p.1 first) (behind_plain first all g p fit)
    guarded_fits false first (s ∷ sorts) g plain fit =
        let all = guard (s ∷ sorts) in
        let p = plain_guard (s ∷ sorts) plain in
        and_fits known first (all ∷ (g ∷ [])) (more_fit known first all (g ∷ []) (p.1 first) (more_fit known (first + binding_count all) g [] (behind_plain first all g p fit) (none_fit known (first + binding_count all + binding_count g))))

    pub sort_atom_fits : (s : Symbol) (n : ℕ) → is_member n known ≡ true → is_declared symbols false s 1 ≡ true → IsPlain known (tree.Atom (Holds s (Var n ∷ [])))
    sort_atom_fits s n m is =
        let a = Holds s (Var n ∷ []) in
        (at_layer count_in_layer (tree.Atom a) (layer.Atom a) (rolls-Atom a), λ first. atom_is_fit known first a (predicate_fits symbols known s (Var n ∷ []) is (variable_fits symbols known n m, tt)))

    sort_is_plain : (o : Option Symbol) (n : ℕ) (fs : List Tree) → is_member n known ≡ true → SortFits o → AllByRecursion (IsPlain known) fs → AllByRecursion (IsPlain known) (of_sort o n ++ fs)
    sort_is_plain None n fs m is plain = plain
    sort_is_plain (Some s) n fs m is plain = (sort_atom_fits s n m is, plain)

    pub plain_sorts : (first count : ℕ) → ((k : ℕ) → k < count → is_member (first + k) known ≡ true) → (items : List Item) (k : ℕ) → k + length items ≤ count → AllByRecursion (λ i. SortFits i.sort) items → AllByRecursion (IsPlain known) (sorts_of (first + k) items)
    plain_sorts first count among [] k few are = tt
    plain_sorts first count among (i ∷ items) k few are =
        let more = plain_sorts first count among items (k + 1) (omega (arith, few)) are.1 in
        sort_is_plain i.sort (first + k) (sorts_of (first + k + 1) items) (among k (omega (arith, few))) are.0
        (subst (λ n. AllByRecursion (IsPlain known) (sorts_of n items)) (let h : first + (k + 1) ≡ first + k + 1 = omega arith in h) more)

-- ---- as they are written

numbers_bindings : (first : ℕ) (items : List Item) → numbers_of (bindings_from first items) ≡ numbers_from first (length items)
numbers_bindings first [] = refl
numbers_bindings first (i ∷ items) = ap (λ ns. first ∷ ns) (numbers_bindings (first + 1) items ∙ ap (λ k. numbers_from k (length items)) (let h : first + 1 ≡ suc first = omega arith in h))

module _ (bytes : List ℕ) (symbols : List Declared) where
  abbrev pub FormulasFit : FormulaPhrase → Type 0
  FormulasFit P = (scope : List Binding) (first : ℕ) (f : Tree) (ts rest : List Token) → P scope first f ts rest → Fits symbols (numbers_of scope) first f

  of_atoms_fits : (k : Kind) → is_of_atoms k ≡ true → fits_place false k ≡ true
  of_atoms_fits kinds.Function e = absurd (false≢true e)
  of_atoms_fits kinds.Predicate e = refl
  of_atoms_fits kinds.Sort e = refl

  pub sort_is_declared : (s : Symbol) (name : List ℕ) → IsSort symbols s name → is_declared symbols false s 1 ≡ true
  sort_is_declared s name is = is_declared_so symbols false s 1 name (of_atoms_fits s.kind is.0) is.1

  item_is_sorted : (o : Option Symbol) (name : List ℕ) (ts rest : List Token) → item_of bytes symbols o name ts rest → SortFits symbols o
  item_is_sorted None name ts rest p = tt
  item_is_sorted (Some s) name ts rest p = let t = p.1.1 in sort_is_declared s t.0 t.1

  module _ (P : FormulaPhrase) (law : FormulasFit P) where
    behind_fit : (scope : List Binding) (first : ℕ) (fs : List Tree) (ts rest : List Token) → behind_in_turn (P scope) first fs ts rest → AllFit symbols (numbers_of scope) first fs
    behind_fit scope first [] ts rest p = none_fit symbols (numbers_of scope) first
    behind_fit scope first (f ∷ fs) ts rest p =
        let q = p.2 in
        more_fit symbols (numbers_of scope) first f fs (law scope first f p.0 q.0 q.1) (behind_fit scope (first + binding_count f) fs q.0 rest q.2)

    turns_fit : (scope : List Binding) (first : ℕ) (fs : List Tree) (ts rest : List Token) → in_turn (P scope) first fs ts rest → AllFit symbols (numbers_of scope) first fs
    turns_fit scope first [] ts rest p = absurd p
    turns_fit scope first (f ∷ fs) ts rest p = more_fit symbols (numbers_of scope) first f fs (law scope first f ts p.0 p.1) (behind_fit scope (first + binding_count f) fs p.0 rest p.2)

    joined_fits : (all : Bool) (known : List ℕ) (first : ℕ) (fs : List Tree) → AllFit symbols known first fs → Fits symbols known first (joined all fs)
    joined_fits true known first fs fit = and_fits symbols known first fs fit
    joined_fits false known first fs fit = or_fits symbols known first fs fit

    several_fits : (all : Bool) → FormulasFit (several all P)
    several_fits all scope first f ts rest p = subst (Fits symbols (numbers_of scope) first) (sym p.1) (joined_fits all (numbers_of scope) first p.0 (turns_fit scope first p.0 ts rest p.2))

    negation_fits : FormulasFit (negation P)
    negation_fits scope first f ts rest p = subst (Fits symbols (numbers_of scope) first) (sym p.1) (not_fits symbols (numbers_of scope) first p.0 (law scope first p.0 ts rest p.2))

    pair_fits : (c : Connective) → ((known : List ℕ) (n : ℕ) (g h : Tree) → Fits symbols known n g → Fits symbols known (n + binding_count g) h → Fits symbols known n (pair_of c g h)) → FormulasFit (pair c P)
    pair_fits c both scope first f ts rest p =
        let q = p.3 in
        let r = q.2 in
        subst (Fits symbols (numbers_of scope) first) (sym p.2) (both (numbers_of scope) first p.0 p.1 (law scope first p.0 ts q.0 q.1) (law scope (first + binding_count p.0) p.1 r.0 rest r.2))

    pub quantification_fits : (all : Bool) → FormulasFit (quantification bytes symbols all P)
    quantification_fits all scope first f ts rest p =
        let items = p.0 in
        let n = length items in
        let q = p.3 in
        let r = q.2 in
        let body = r.2.2 in
        let known = numbers_of scope ++ numbers_from first n in
        let are = separated_hold (item bytes symbols) (λ (i : Item). SortFits symbols i.sort) (λ i us vs w. item_is_sorted i.sort i.name us vs w) items q.0 r.0 r.1 in
        let among : (k : ℕ) → k < n → is_member (first + k) known ≡ true = λ k h. list_any-append (λ w. first + k == w) (numbers_of scope) (numbers_from first n) ∙ or_right (is_member (first + k) (numbers_of scope)) (is_member (first + k) (numbers_from first n)) (number_among first n k h) in
        let sorts = plain_sorts symbols known first n among items 0 (omega arith) are in
        let sorts' = subst (λ k. AllByRecursion (IsPlain symbols known) (sorts_of k items)) (let h : first + 0 ≡ first = omega arith in h) sorts in
        let inner = subst (λ (vs : List ℕ). Fits symbols vs (first + n) p.1) (map-append (λ (b : Binding). b.number) scope (bindings_from first items) ∙ ap (λ vs. numbers_of scope ++ vs) (numbers_bindings first items)) (law (scope ++ bindings_from first items) (first + n) p.1 body.0 rest body.2) in
        subst (Fits symbols (numbers_of scope) first) (sym p.2)
        (block_fits symbols all (numbers_of scope) first n (guarded all (sorts_of first items) p.1) (guarded_fits symbols known all (first + n) (sorts_of first items) p.1 sorts' inner))

    inside_fits : (c : Connective) → FormulasFit (inside bytes symbols c P)
    inside_fits connectives.Not = negation_fits
    inside_fits connectives.And = several_fits true
    inside_fits connectives.Or = several_fits false
    inside_fits connectives.Implies = pair_fits connectives.Implies (implies_fits symbols)
    inside_fits connectives.Implied = pair_fits connectives.Implied (implied_fits symbols)
    inside_fits connectives.Equiv = pair_fits connectives.Equiv (equiv_fits symbols)
    inside_fits connectives.Forall = quantification_fits true
    inside_fits connectives.Exists = quantification_fits false

  -- ---- formulas

  atomic_fits : (depth : ℕ) → FormulasFit (atomic bytes symbols depth)
  atomic_fits depth scope first f ts rest p = subst (Fits symbols (numbers_of scope) first) (sym p.1) (atom_is_fit symbols (numbers_of scope) first p.0 (atom_fits symbols bytes scope depth p.0 ts rest p.2))

  pub formula_fits : (depth : ℕ) (shape : Shape) → FormulasFit (formula bytes symbols depth shape)
  unfolding formula
  formula_fits zero shape scope first f ts rest p = absurd p
  formula_fits (suc depth) shape scope first f ts rest (inl (inl p)) = subst (Fits symbols (numbers_of scope) first) (sym p.0) (true_fits symbols (numbers_of scope) first)
  formula_fits (suc depth) shape scope first f ts rest (inl (inr p)) = subst (Fits symbols (numbers_of scope) first) (sym p.0) (false_fits symbols (numbers_of scope) first)
  formula_fits (suc depth) shape scope first f ts rest (inr (inl p)) = atomic_fits depth scope first f ts rest p
  formula_fits (suc depth) shape scope first f ts rest (inr (inr p)) =
      let e = p.3.2 in
      inside_fits (formula bytes symbols depth p.1) (formula_fits depth p.1) p.0 scope first f e.0 e.2.0 e.2.1

  sorted_term_fits : (depth : ℕ) → FormulasFit (sorted_term bytes symbols depth)
  sorted_term_fits depth scope first f ts rest p =
      subst (Fits symbols (numbers_of scope) first) (sym p.2) (atom_is_fit symbols (numbers_of scope) first (Holds p.0 (p.1 ∷ [])) (application_of symbols bytes scope depth p.0 (p.1 ∷ []) ts rest p.3))

  pub declaration_fits : (depth : ℕ) → FormulasFit (term_declaration bytes symbols depth)
  declaration_fits depth scope first f ts rest (inl p) = sorted_term_fits (depth - 1) scope first f ts rest p
  declaration_fits depth scope first f ts rest (inr p) =
      let e = p.2 in
      quantification_fits (sorted_term bytes symbols (depth - 2)) (sorted_term_fits (depth - 2)) true scope first f e.0 e.2.0 e.2.1
