-- The counts of each case of a formula.
use Rattle.std.proofs.Common.{◌≡◌, ℕ, zero, suc, ◌+◌, Bool, true, false, List, [], ◌∷◌, map, fold, take, get_or, length, ◌<◌, arith, refl, sym, ap, ◌∙◌}
use Rattle.spl_terms.specs.declared.atom.Atom.{Atom}
use Rattle.formulas.specs.declared.tree.Tree as tree
use Rattle.formulas.specs.declared.tree.Tree.{Tree}
use Rattle.formulas.specs.Trees.{foralls, exists}
use Rattle.formulas.specs.Negations.{Form, constant, literal, both, either, signed_form, all_of, some_hold}
use Rattle.formulas.specs.Counts.{clause_count, existentials, saturated, form_count, counts_of}
use Rattle.formulas.specs.FormLaws.{form-True, form-False, form-Atom, form-Not, form-And, form-Or, form-Forall, form-Exists}

-- by the forms of the two signs
pub counts_by : (t : Tree) (f g : Form) → signed_form t true ≡ f → signed_form t false ≡ g → counts_of t ≡ record { positive = form_count f; negative = form_count g }
counts_by t f g p q = λ i. record { positive = form_count (p i); negative = form_count (q i) }

pub counts-True : counts_of tree.True ≡ record { positive = form_count (constant true); negative = form_count (constant false) }
counts-True = counts_by tree.True (constant true) (constant false) (form-True true) (form-True false)

pub counts-False : counts_of tree.False ≡ record { positive = form_count (constant false); negative = form_count (constant true) }
counts-False = counts_by tree.False (constant false) (constant true) (form-False true) (form-False false)

pub counts-Atom : (a : Atom) → counts_of (tree.Atom a) ≡ record { positive = form_count (literal true a); negative = form_count (literal false a) }
counts-Atom a = counts_by (tree.Atom a) (literal true a) (literal false a) (form-Atom a true) (form-Atom a false)

pub counts-Not : (t : Tree) → counts_of (tree.Not t) ≡ record { positive = (counts_of t).negative; negative = (counts_of t).positive }
counts-Not t = counts_by (tree.Not t) (signed_form t false) (signed_form t true) (form-Not t true) (form-Not t false)

pub counts-And : (ts : List Tree) → counts_of (tree.And ts) ≡ record { positive = form_count (all_of true ts); negative = form_count (some_hold false ts) }
counts-And ts = counts_by (tree.And ts) (all_of true ts) (some_hold false ts) (form-And ts true) (form-And ts false)

pub counts-Or : (ts : List Tree) → counts_of (tree.Or ts) ≡ record { positive = form_count (some_hold true ts); negative = form_count (all_of false ts) }
counts-Or ts = counts_by (tree.Or ts) (some_hold true ts) (all_of false ts) (form-Or ts true) (form-Or ts false)

-- ---- one more of several parts

both_more : (sign : Bool) (before : Form) (ts : List Tree) (i : ℕ) (t : Tree) → i < length ts → t ≡ get_or ts i t →
    fold both before (map (λ f. f sign) (map signed_form (take (suc i) ts))) ≡ both (fold both before (map (λ f. f sign) (map signed_form (take i ts)))) (signed_form t sign)
both_more sign before [] i t h e = absurd (omega arith)
both_more sign before (u ∷ ts) zero t h e = ap (λ w. both before (signed_form w sign)) (sym e)
both_more sign before (u ∷ ts) (suc i) t h e = both_more sign (both before (signed_form u sign)) ts i t (omega arith) e

either_more : (sign : Bool) (before : Form) (ts : List Tree) (i : ℕ) (t : Tree) → i < length ts → t ≡ get_or ts i t →
    fold either before (map (λ f. f sign) (map signed_form (take (suc i) ts))) ≡ either (fold either before (map (λ f. f sign) (map signed_form (take i ts)))) (signed_form t sign)
either_more sign before [] i t h e = absurd (omega arith)
either_more sign before (u ∷ ts) zero t h e = ap (λ w. either before (signed_form w sign)) (sym e)
either_more sign before (u ∷ ts) (suc i) t h e = either_more sign (either before (signed_form u sign)) ts i t (omega arith) e

next_place : (i : ℕ) → suc i ≡ i + 1
next_place i = omega arith

pub all_more : (sign : Bool) (ts : List Tree) (i : ℕ) (t : Tree) → i < length ts → t ≡ get_or ts i t → both (all_of sign (take i ts)) (signed_form t sign) ≡ all_of sign (take (i + 1) ts)
all_more sign ts i t h e = sym (both_more sign (constant true) ts i t h e) ∙ ap (λ (j : ℕ). all_of sign (take j ts)) (next_place i)

pub some_more : (sign : Bool) (ts : List Tree) (i : ℕ) (t : Tree) → i < length ts → t ≡ get_or ts i t → either (some_hold sign (take i ts)) (signed_form t sign) ≡ some_hold sign (take (i + 1) ts)
some_more sign ts i t h e = sym (either_more sign (constant false) ts i t h e) ∙ ap (λ (j : ℕ). some_hold sign (take j ts)) (next_place i)

-- ---- blocks

clauses-foralls : (first count : ℕ) (t : Tree) (sign : Bool) → clause_count (signed_form (foralls first count t) sign) ≡ clause_count (signed_form t sign)
clauses-foralls first zero t sign = refl
clauses-foralls first (suc count) t true = ap clause_count (form-Forall first (foralls (suc first) count t) true) ∙ clauses-foralls (suc first) count t true
clauses-foralls first (suc count) t false = ap clause_count (form-Forall first (foralls (suc first) count t) false) ∙ clauses-foralls (suc first) count t false

clauses-exists : (first count : ℕ) (t : Tree) (sign : Bool) → clause_count (signed_form (exists first count t) sign) ≡ clause_count (signed_form t sign)
clauses-exists first zero t sign = refl
clauses-exists first (suc count) t true = ap clause_count (form-Exists first (exists (suc first) count t) true) ∙ clauses-exists (suc first) count t true
clauses-exists first (suc count) t false = ap clause_count (form-Exists first (exists (suc first) count t) false) ∙ clauses-exists (suc first) count t false

skolems-foralls : (first count : ℕ) (t : Tree) → existentials (signed_form (foralls first count t) true) ≡ existentials (signed_form t true)
skolems-foralls first zero t = refl
skolems-foralls first (suc count) t = ap existentials (form-Forall first (foralls (suc first) count t) true) ∙ skolems-foralls (suc first) count t

skolems-no_foralls : (first count : ℕ) (t : Tree) → existentials (signed_form (foralls first count t) false) ≡ existentials (signed_form t false) + count
skolems-no_foralls first zero t = omega arith
skolems-no_foralls first (suc count) t = ap existentials (form-Forall first (foralls (suc first) count t) false) ∙ (let h = skolems-no_foralls (suc first) count t in omega arith)

skolems-exists : (first count : ℕ) (t : Tree) → existentials (signed_form (exists first count t) true) ≡ existentials (signed_form t true) + count
skolems-exists first zero t = omega arith
skolems-exists first (suc count) t = ap existentials (form-Exists first (exists (suc first) count t) true) ∙ (let h = skolems-exists (suc first) count t in omega arith)

skolems-no_exists : (first count : ℕ) (t : Tree) → existentials (signed_form (exists first count t) false) ≡ existentials (signed_form t false)
skolems-no_exists first zero t = refl
skolems-no_exists first (suc count) t = ap existentials (form-Exists first (exists (suc first) count t) false) ∙ skolems-no_exists (suc first) count t

pub counts-foralls : (first count : ℕ) (t : Tree) → counts_of (foralls first count t)
    ≡ record { positive = form_count (signed_form t true); negative = record { clauses = saturated (clause_count (signed_form t false)); skolems = saturated (existentials (signed_form t false) + count) } }
counts-foralls first count t =
    let p = clauses-foralls first count t true in
    let q = skolems-foralls first count t in
    let r = clauses-foralls first count t false in
    let s = skolems-no_foralls first count t in
    λ i. record { positive = record { clauses = saturated (p i); skolems = saturated (q i) }; negative = record { clauses = saturated (r i); skolems = saturated (s i) } }

pub counts-exists : (first count : ℕ) (t : Tree) → counts_of (exists first count t)
    ≡ record { positive = record { clauses = saturated (clause_count (signed_form t true)); skolems = saturated (existentials (signed_form t true) + count) }; negative = form_count (signed_form t false) }
counts-exists first count t =
    let p = clauses-exists first count t true in
    let q = skolems-exists first count t in
    let r = clauses-exists first count t false in
    let s = skolems-no_exists first count t in
    λ i. record { positive = record { clauses = saturated (p i); skolems = saturated (q i) }; negative = record { clauses = saturated (r i); skolems = saturated (s i) } }
