-- What the list of equations keeps, and that the bindings are a most general unifier.
use Rattle.std.proofs.Common.{◌≡◌, inl, inr, ℕ, Bool, List, [], ◌∷◌, ◌++◌, length, map, refl, sym, ap, subst, ◌∙◌, arith}
use Rattle.std.specs.List.{zip}
use Rattle.spl_terms.specs.declared.term.Symbol.{Symbol}
use Rattle.spl_terms.specs.declared.term.Term.{Term, App}
use Rattle.spl_terms.specs.Terms.{replace}
use Rattle.spl_terms.specs.ListLaws.{same_first, same_rest}
use Rattle.spl_terms.specs.TermLaws.{replace-Var, replace-App}
use Rattle.spl_truth.specs.BindingLaws.{cap, IsOver}
use Rattle.spl_truth.specs.OccurrenceLaws.{same_arguments}
use Rattle.spl_truth.proofs.Actions.{Split, Bound}

-- ---- unifiers and instances

abbrev pub Solves : (ℕ → Term) → List (Term × Term) → Type 0
Solves g [] = Unit {0}
Solves g (e ∷ es) = (replace g e.0 ≡ replace g e.1) × Solves g es

pub Solves-append : (g : ℕ → Term) (es fs : List (Term × Term)) → Solves g es → Solves g fs → Solves g (es ++ fs)
Solves-append g [] fs h k = k
Solves-append g (e ∷ es) fs h k = (h.0, Solves-append g es fs h.1 k)

pub Solves-first : (g : ℕ → Term) (es fs : List (Term × Term)) → Solves g (es ++ fs) → Solves g es
Solves-first g [] fs h = tt
Solves-first g (e ∷ es) fs h = (h.0, Solves-first g es fs h.1)

pub Solves-rest : (g : ℕ → Term) (es fs : List (Term × Term)) → Solves g (es ++ fs) → Solves g fs
Solves-rest g [] fs h = h
Solves-rest g (e ∷ es) fs h = Solves-rest g es fs h.1

solves_zip : (g : ℕ → Term) (ss ts : List Term) → map (replace g) ss ≡ map (replace g) ts → Solves g (zip ss ts)
solves_zip g [] ts e = tt
solves_zip g (s ∷ ss) [] e = tt
solves_zip g (s ∷ ss) (t ∷ ts) e =
    (same_first _ _ _ _ e, solves_zip g ss ts (same_rest _ _ _ _ e))

zip_solved : (g : ℕ → Term) (ss ts : List Term) → length ss ≡ length ts → Solves g (zip ss ts) → map (replace g) ss ≡ map (replace g) ts
zip_solved g [] [] e h = refl
zip_solved g [] (t ∷ ts) e h = absurd (omega arith)
zip_solved g (s ∷ ss) [] e h = absurd (omega arith)
zip_solved g (s ∷ ss) (t ∷ ts) e h =
    let a : replace g s ≡ replace g t = h.0 in
    let m : length ss ≡ length ts = omega arith in
    let b : map (replace g) ss ≡ map (replace g) ts = zip_solved g ss ts m h.1 in
    λ i. a i ∷ b i

pub split_solved : (g : ℕ → Term) (a b : Term) (more : List (Term × Term)) → Split a b more → Solves g more → replace g a ≡ replace g b
split_solved g a b more p h =
    let args = zip_solved g p.lefts p.rights p.as_many (subst (Solves g) p.are h) in
    ap (replace g) p.left_is ∙ replace-App g p.symbol p.lefts ∙ ap (App p.symbol) args ∙ sym (replace-App g p.symbol p.rights) ∙ ap (replace g) (sym p.right_is)

pub solved_split : (g : ℕ → Term) (a b : Term) (more : List (Term × Term)) → Split a b more → replace g a ≡ replace g b → Solves g more
solved_split g a b more p e =
    let made = sym (replace-App g p.symbol p.lefts) ∙ ap (replace g) (sym p.left_is) ∙ e ∙ ap (replace g) p.right_is ∙ replace-App g p.symbol p.rights in
    subst (Solves g) (sym p.are) (solves_zip g p.lefts p.rights (same_arguments _ _ _ _ made))

pub bound_solved : (g : ℕ → Term) (a b : Term) (v : ℕ) (t : Term) → Bound a b v t → g v ≡ replace g t → replace g a ≡ replace g b
bound_solved g a b v t p e = elim p.sides [
  | inl (x, y) ↦ ap (replace g) x ∙ replace-Var g v ∙ e ∙ ap (replace g) (sym y)
  | inr (x, y) ↦ ap (replace g) y ∙ sym e ∙ sym (replace-Var g v) ∙ ap (replace g) (sym x)
]

pub solved_bound : (g : ℕ → Term) (a b : Term) (v : ℕ) (t : Term) → Bound a b v t → replace g a ≡ replace g b → g v ≡ replace g t
solved_bound g a b v t p e = elim p.sides [
  | inl (x, y) ↦ sym (replace-Var g v) ∙ ap (replace g) (sym x) ∙ e ∙ ap (replace g) y
  | inr (x, y) ↦ sym (replace-Var g v) ∙ ap (replace g) (sym x) ∙ sym e ∙ ap (replace g) y
]

-- ---- equations over a set of variables

abbrev pub AllWithin : (ℕ → Bool) → List (Term × Term) → Type 0
AllWithin n [] = Unit {0}
AllWithin n (e ∷ es) = IsOver n e.0 × IsOver n e.1 × AllWithin n es

AllWithin-zip : (n : ℕ → Bool) (ss ts : List Term) → map (replace (cap n)) ss ≡ ss → map (replace (cap n)) ts ≡ ts → AllWithin n (zip ss ts)
AllWithin-zip n [] ts p q = tt
AllWithin-zip n (s ∷ ss) [] p q = tt
AllWithin-zip n (s ∷ ss) (t ∷ ts) p q =
    let a : IsOver n s = cc in
    let b : IsOver n t = cc in
    let c : map (replace (cap n)) ss ≡ ss = cc in
    let d : map (replace (cap n)) ts ≡ ts = cc in
    (a, b, AllWithin-zip n ss ts c d)

pub AllWithin-append : (n : ℕ → Bool) (es fs : List (Term × Term)) → AllWithin n es → AllWithin n fs → AllWithin n (es ++ fs)
AllWithin-append n [] fs h k = k
AllWithin-append n (e ∷ es) fs h k = (h.0, h.1, AllWithin-append n es fs h.2 k)

pub replaced_arguments : (h : ℕ → Term) (a : Term) (f : Symbol) (ts : List Term) → a ≡ App f ts → replace h a ≡ a → map (replace h) ts ≡ ts
replaced_arguments h a f ts is e = same_arguments _ _ _ _ (sym (replace-App h f ts) ∙ ap (replace h) (sym is) ∙ e ∙ is)

pub split_within : (n : ℕ → Bool) (a b : Term) (more : List (Term × Term)) → Split a b more → IsOver n a → IsOver n b → AllWithin n more
split_within n a b more p x y = subst (AllWithin n) (sym p.are) (AllWithin-zip n p.lefts p.rights (replaced_arguments (cap n) a _ _ p.left_is x) (replaced_arguments (cap n) b _ _ p.right_is y))
