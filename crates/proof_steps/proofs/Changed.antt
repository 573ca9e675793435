-- Subterms of instances, and instances with another term in their place, without being built.
use Rattle.std.proofs.Common.{◌≡◌, ℕ, zero, suc, ◌+◌, ◌-◌, ◌<◌, ◌≤◌, List, [], ◌∷◌, ◌++◌, length, map, take, drop, get_or, sum, sum_by, Option, Some, None, option_map, option_and_then, unwrap_or, refl, sym, ap, ◌∙◌, arith}
use Rattle.std.specs.List.{slice_get}
use Rattle.std.proofs.lemmas.List.{length-map}
use Rattle.std.proofs.lemmas.List.Sums.{sum_by-cons}
use Rattle.std.proofs.lemmas.Option.{slice_get-map}
use Rattle.spl_terms.specs.declared.term.Symbol.{Symbol}
use Rattle.spl_terms.specs.declared.term.Term.{Term, Var, App}
use Rattle.spl_terms.specs.declared.atom.Atom.{Atom}
use Rattle.spl_terms.specs.declared.atom.Atom.TheVariants.{Holds, Equal}
use Rattle.spl_terms.specs.Terms.{term_symbols, replace}
use Rattle.spl_terms.specs.Clauses.{atom_terms, replace_in_atom}
use Rattle.spl_terms.specs.TermLaws.{term_symbols-App, replace-App}
use Rattle.spl_truth.specs.Truth.{entry}
use Rattle.spl_truth.specs.InstanceLaws.{sum-maps}
use Rattle.proof_steps.specs.Spots.{changed_at, subterm, with_subterm, term_under}
use Rattle.proof_steps.proofs.Places.{subterm-App, with_subterm-App, changed_past, part_to_end}

-- ---- entries

pub entry-there : (s : List Term) (v : ℕ) (t : Term) → slice_get s v ≡ Some t → entry s v ≡ t
entry-there s v t e = ap (λ o. unwrap_or o (Var v)) e

-- ---- the subterm

-- a path that is not empty, opened
pub opened_path : (path : List ℕ) → 1 ≤ length path → path ≡ get_or path 0 0 ∷ take (length path - 1) (drop 1 path)
opened_path [] h = absurd (omega arith)
opened_path (k ∷ rest) h = ap (λ l. k ∷ l) (sym (part_to_end 1 (k ∷ rest)))

module _ (h g : ℕ → Term) (t top : Term) (same : replace g top ≡ replace h t) where
  module _ (f : Symbol) (args : List Term) (is : top ≡ App f args) where
    opened : replace h t ≡ App f (map (replace g) args)
    opened = sym same ∙ ap (replace g) is ∙ replace-App g f args

    argument-of : (k : ℕ) (path : List ℕ) (o : Option Term) → slice_get args k ≡ o → subterm (k ∷ path) (replace h t) ≡ option_and_then (subterm path) (option_map (replace g) o)
    argument-of k path o e = ap (subterm (k ∷ path)) opened ∙ subterm-App k path f (map (replace g) args) ∙ ap (option_and_then (subterm path)) (slice_get-map (replace g) args k ∙ ap (option_map (replace g)) e)

    pub subterm-there : (k : ℕ) (path : List ℕ) (arg : Term) → slice_get args k ≡ Some arg → subterm (k ∷ path) (replace h t) ≡ subterm path (replace g arg)
    subterm-there k path arg e = argument-of k path (Some arg) e

    pub subterm-none : (k : ℕ) (path : List ℕ) → slice_get args k ≡ None → subterm (k ∷ path) (replace h t) ≡ None
    subterm-none k path e = argument-of k path None e

    pub with_subterm-there : (k : ℕ) (path : List ℕ) (new : Term) → with_subterm (k ∷ path) new (replace h t) ≡ App f (changed_at k (with_subterm path new) (map (replace g) args))
    with_subterm-there k path new = ap (with_subterm (k ∷ path) new) opened ∙ with_subterm-App k path new f (map (replace g) args)

    pub symbols-there : (k : ℕ) (path : List ℕ) (new : Term) → term_symbols (with_subterm (k ∷ path) new (replace h t)) ≡ sum (map term_symbols (changed_at k (with_subterm path new) (map (replace g) args))) + 1
    symbols-there k path new = ap term_symbols (with_subterm-there k path new) ∙ term_symbols-App f (changed_at k (with_subterm path new) (map (replace g) args))

-- the terms of an atom under a substitution
atom_terms-replace : (h : ℕ → Term) (a : Atom) → atom_terms (replace_in_atom h a) ≡ map (replace h) (atom_terms a)
atom_terms-replace h (Holds p ts) = refl
atom_terms-replace h (Equal s t) = refl

pub term_under-argument : (h : ℕ → Term) (k : ℕ) (path : List ℕ) (a : Atom) (o : Option Term) → slice_get (atom_terms a) k ≡ o → term_under (k ∷ path) (replace_in_atom h a) ≡ option_and_then (subterm path) (option_map (replace h) o)
term_under-argument h k path a o e = ap (option_and_then (subterm path)) (ap (λ ts. slice_get ts k) (atom_terms-replace h a) ∙ slice_get-map (replace h) (atom_terms a) k ∙ ap (option_map (replace h)) e)

-- ---- arguments of which one is changed

module _ (h : ℕ → Term) (f : Term → Term) where
  pub changed_past-map : (k : ℕ) (args : List Term) → length args ≤ k → changed_at k f (map (replace h) args) ≡ map (replace h) args
  changed_past-map k args past = changed_past k f (map (replace h) args) (omega (arith, past, length-map args (replace h)))

  pub changed_parts-map : (k : ℕ) (args : List Term) (x : Term) → k < length args → x ≡ get_or args k x → changed_at k f (map (replace h) args) ≡ (map (replace h) (take k args) ++ f (replace h x) ∷ []) ++ map (replace h) (drop (suc k) args)
  changed_parts-map k [] x below is = absurd (omega arith)
  changed_parts-map zero (y ∷ ys) x below is = ap (λ z. f (replace h z) ∷ map (replace h) ys) (sym is)
  changed_parts-map (suc k) (y ∷ ys) x below is = ap (λ l. replace h y ∷ l) (changed_parts-map k ys x (omega arith) is)

  abbrev pub counted : List Term → ℕ
  counted ts = sum_by (λ t. term_symbols (replace h t)) ts

  pub symbols_past : (k : ℕ) (args : List Term) → length args ≤ k → sum (map term_symbols (changed_at k f (map (replace h) args))) ≡ counted args
  symbols_past k args past = ap (λ l. sum (map term_symbols l)) (changed_past-map k args past) ∙ sum-maps h args

  pub symbols_parts : (k : ℕ) (args : List Term) (x : Term) → k < length args → x ≡ get_or args k x → sum (map term_symbols (changed_at k f (map (replace h) args))) ≡ counted (take k args) + term_symbols (f (replace h x)) + counted (drop (suc k) args)
  symbols_parts k [] x below is = absurd (omega arith)
  symbols_parts zero (y ∷ ys) x below is = omega (arith, sum_by-cons (λ n. n) (term_symbols (f (replace h y))) (map term_symbols (map (replace h) ys)), sum-maps h ys, ap (λ z. term_symbols (f (replace h z))) is)
  symbols_parts (suc k) (y ∷ ys) x below is = omega (arith, symbols_parts k ys x (omega arith) is, sum_by-cons (λ n. n) (term_symbols (replace h y)) (map term_symbols (changed_at k f (map (replace h) ys))), sum_by-cons (λ t. term_symbols (replace h t)) y (take k ys))
