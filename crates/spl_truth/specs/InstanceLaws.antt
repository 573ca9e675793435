-- Laws with their proofs, not definitions that a reader must believe: instances, one after another, of no variables,
-- and how many symbols they have.
use Rattle.std.proofs.Common.{◌≡◌, ℕ, Bool, true, false, ◌&&◌, if◌then◌else◌, ◌+◌, List, [], ◌∷◌, ◌++◌, map, sum, sum_by, arith, refl, sym, ap, ◌∙◌}
use Rattle.std.specs.List.{list_all}
use Rattle.std.proofs.lemmas.Bool.{and_parts, and_from}
use Rattle.std.proofs.lemmas.List.Folds.{list_all-append}
use Rattle.std.proofs.lemmas.List.Sums.{sum_by-cons}
use Rattle.spl_terms.specs.declared.term.Kind.TheVariants.{Function}
use Rattle.spl_terms.specs.declared.term.Symbol.{Symbol}
use Rattle.spl_terms.specs.declared.term.Term.{Term, App}
use Rattle.spl_terms.specs.declared.atom.Atom.{Atom}
use Rattle.spl_terms.specs.declared.atom.Atom.TheVariants.{Holds, Equal}
use Rattle.spl_terms.specs.declared.clause.Clause.{Clause}
use Rattle.spl_terms.specs.Terms.{is_ground_term, replace, term_symbols}
use Rattle.spl_terms.specs.Clauses.{replace_in_atom, replace_in}
use Rattle.spl_terms.specs.TermLaws.{replace-Var, replace-App, ground-App, Each, term_induction, term_symbols-App}
use Rattle.spl_terms.specs.InOrderLaws.{replace_in-itself}
use Rattle.spl_truth.specs.Truth.{is_ground_atom, is_ground, apply}

-- ---- terms

-- two maps after one another agree with a third where they agree at each element
agree : (p q r : Term → Term) (ts : List Term) → Each (λ t. p (q t) ≡ r t) ts → map p (map q ts) ≡ map r ts
agree p q r [] each = refl
agree p q r (t ∷ ts) each = let h = each.0 in let k = agree p q r ts each.1 in λ i. h i ∷ k i

pub replace-replace : (g h : ℕ → Term) (t : Term) → replace g (replace h t) ≡ replace (λ v. replace g (h v)) t
replace-replace g h =
    term_induction (λ t. replace g (replace h t) ≡ replace (λ v. replace g (h v)) t)
    (λ v. ap (replace g) (replace-Var h v) ∙ sym (replace-Var (λ v. replace g (h v)) v))
    (λ f ts each.
    ap (replace g) (replace-App h f ts)
    ∙ replace-App g f (map (replace h) ts)
    ∙ ap (App f) (agree (replace g) (replace h) (replace (λ v. replace g (h v))) ts each)
    ∙ sym (replace-App (λ v. replace g (h v)) f ts))

-- ---- ground terms

abbrev pub AllGround : (ℕ → Term) → Type 0
AllGround g = (v : ℕ) → is_ground_term (g v) ≡ true

all_ground : (g : ℕ → Term) (ts : List Term) → Each (λ t. is_ground_term (replace g t) ≡ true) ts → list_all is_ground_term (map (replace g) ts) ≡ true
all_ground g [] each = refl
all_ground g (t ∷ ts) each = and_from _ _ each.0 (all_ground g ts each.1)

pub ground-replace : (g : ℕ → Term) → AllGround g → (t : Term) → is_ground_term (replace g t) ≡ true
ground-replace g all =
    term_induction (λ t. is_ground_term (replace g t) ≡ true)
    (λ v. ap is_ground_term (replace-Var g v) ∙ all v)
    (λ f ts each. ap is_ground_term (replace-App g f ts) ∙ ground-App f (map (replace g) ts) ∙ all_ground g ts each)

pub ground-replace_all : (g : ℕ → Term) → AllGround g → (ts : List Term) → list_all is_ground_term (map (replace g) ts) ≡ true
ground-replace_all g all [] = refl
ground-replace_all g all (t ∷ ts) = and_from _ _ (ground-replace g all t) (ground-replace_all g all ts)

-- some ground term
abbrev pub constant : Term
constant = App (record { number = 0; kind = Function }) []

-- the same map, with a ground term where it gave none
abbrev pub grounded : (ℕ → Term) → ℕ → Term
grounded g v = if is_ground_term (g v) then g v else constant

pub grounded-ground : (g : ℕ → Term) → AllGround (grounded g)
grounded-ground g v = pick (is_ground_term (g v)) refl
  where
    pick : (b : Bool) → is_ground_term (g v) ≡ b → is_ground_term (if b then g v else constant) ≡ true
    pick true e = e
    pick false e = ground-App _ []

same_where_ground : (g : ℕ → Term) (ts : List Term) → Each (λ t. is_ground_term (replace g t) ≡ true → replace (grounded g) t ≡ replace g t) ts → list_all is_ground_term (map (replace g) ts) ≡ true → map (replace (grounded g)) ts ≡ map (replace g) ts
same_where_ground g [] each e = refl
same_where_ground g (t ∷ ts) each e =
    let p = and_parts _ _ e in
    let h = each.0 p.0 in
    let k = same_where_ground g ts each.1 p.1 in
    λ i. h i ∷ k i

pub replace-grounded : (g : ℕ → Term) (t : Term) → is_ground_term (replace g t) ≡ true → replace (grounded g) t ≡ replace g t
replace-grounded g =
    term_induction (λ t. is_ground_term (replace g t) ≡ true → replace (grounded g) t ≡ replace g t)
    (λ v e.
    let here : is_ground_term (g v) ≡ true = ap is_ground_term (sym (replace-Var g v)) ∙ e in
    replace-Var (grounded g) v ∙ ap (λ b. if b then g v else constant) here ∙ sym (replace-Var g v))
    (λ f ts each e.
    let here : list_all is_ground_term (map (replace g) ts) ≡ true = sym (ground-App f (map (replace g) ts)) ∙ ap is_ground_term (sym (replace-App g f ts)) ∙ e in
    replace-App (grounded g) f ts ∙ ap (App f) (same_where_ground g ts each here) ∙ sym (replace-App g f ts))

pub replace_all-grounded : (g : ℕ → Term) (ts : List Term) → list_all is_ground_term (map (replace g) ts) ≡ true → map (replace (grounded g)) ts ≡ map (replace g) ts
replace_all-grounded g [] e = refl
replace_all-grounded g (t ∷ ts) e =
    let p = and_parts _ _ e in
    let h = replace-grounded g t p.0 in
    let k = replace_all-grounded g ts p.1 in
    λ i. h i ∷ k i

-- ---- atoms

maps-replace : (g h : ℕ → Term) (ts : List Term) → map (replace g) (map (replace h) ts) ≡ map (replace (λ v. replace g (h v))) ts
maps-replace g h [] = refl
maps-replace g h (t ∷ ts) = let p = replace-replace g h t in let k = maps-replace g h ts in λ i. p i ∷ k i

pub atom-replace-replace : (g h : ℕ → Term) (a : Atom) → replace_in_atom g (replace_in_atom h a) ≡ replace_in_atom (λ v. replace g (h v)) a
atom-replace-replace g h (Holds p ts) = ap (Holds p) (maps-replace g h ts)
atom-replace-replace g h (Equal s t) = let p = replace-replace g h s in let q = replace-replace g h t in λ i. Equal (p i) (q i)

pub atom-ground : (g : ℕ → Term) → AllGround g → (a : Atom) → is_ground_atom (replace_in_atom g a) ≡ true
atom-ground g all (Holds p ts) = ground-replace_all g all ts
atom-ground g all (Equal s t) = ground-replace_all g all (s ∷ t ∷ [])

pub atom-grounded : (g : ℕ → Term) (a : Atom) → is_ground_atom (replace_in_atom g a) ≡ true → replace_in_atom (grounded g) a ≡ replace_in_atom g a
atom-grounded g (Holds p ts) e = ap (Holds p) (replace_all-grounded g ts e)
atom-grounded g (Equal s t) e =
    let p = and_parts _ _ e in
    let q = and_parts _ _ p.1 in
    let h = replace-grounded g s p.0 in
    let k = replace-grounded g t q.0 in
    λ i. Equal (h i) (k i)

-- ---- clauses

abbrev pub at_each : (ℕ → Term) → List Atom → List Atom
at_each g = map (replace_in_atom g)

pub atoms-replace-replace : (g h : ℕ → Term) (as' : List Atom) → at_each g (at_each h as') ≡ at_each (λ v. replace g (h v)) as'
atoms-replace-replace g h [] = refl
atoms-replace-replace g h (a ∷ as') = let p = atom-replace-replace g h a in let k = atoms-replace-replace g h as' in λ i. p i ∷ k i

pub clause-replace-replace : (g h : ℕ → Term) (c : Clause) → replace_in g (replace_in h c) ≡ replace_in (λ v. replace g (h v)) c
clause-replace-replace g h c =
    λ i. record { constraint = atoms-replace-replace g h c.constraint i; antecedent = atoms-replace-replace g h c.antecedent i; succedent = atoms-replace-replace g h c.succedent i }

pub atoms-ground : (g : ℕ → Term) → AllGround g → (as' : List Atom) → list_all is_ground_atom (at_each g as') ≡ true
atoms-ground g all [] = refl
atoms-ground g all (a ∷ as') = and_from _ _ (atom-ground g all a) (atoms-ground g all as')

pub ground-parts : (xs ys zs : List Atom) → list_all is_ground_atom (xs ++ ys ++ zs) ≡ (list_all is_ground_atom xs && list_all is_ground_atom ys && list_all is_ground_atom zs)
ground-parts xs ys zs = list_all-append is_ground_atom (xs ++ ys) zs ∙ ap (λ b. b && list_all is_ground_atom zs) (list_all-append is_ground_atom xs ys)

pub clause-ground : (g : ℕ → Term) → AllGround g → (c : Clause) → is_ground (replace_in g c) ≡ true
clause-ground g all c =
    ground-parts (at_each g c.constraint) (at_each g c.antecedent) (at_each g c.succedent)
    ∙ and_from _ _ (and_from _ _ (atoms-ground g all c.constraint) (atoms-ground g all c.antecedent)) (atoms-ground g all c.succedent)

pub atoms-grounded : (g : ℕ → Term) (as' : List Atom) → list_all is_ground_atom (at_each g as') ≡ true → at_each (grounded g) as' ≡ at_each g as'
atoms-grounded g [] e = refl
atoms-grounded g (a ∷ as') e =
    let p = and_parts _ _ e in
    let h = atom-grounded g a p.0 in
    let k = atoms-grounded g as' p.1 in
    λ i. h i ∷ k i

pub clause-grounded : (g : ℕ → Term) (c : Clause) → is_ground (replace_in g c) ≡ true → replace_in (grounded g) c ≡ replace_in g c
clause-grounded g c e =
    let p = and_parts _ _ (sym (ground-parts (at_each g c.constraint) (at_each g c.antecedent) (at_each g c.succedent)) ∙ e) in
    let q = and_parts _ _ p.0 in
    let x = atoms-grounded g c.constraint q.0 in
    let y = atoms-grounded g c.antecedent q.1 in
    let z = atoms-grounded g c.succedent p.1 in
    λ i. record { constraint = x i; antecedent = y i; succedent = z i }

-- ---- how many symbols an instance has

pub sum-maps : (h : ℕ → Term) (ts : List Term) → sum (map term_symbols (map (replace h) ts)) ≡ sum_by (λ t. term_symbols (replace h t)) ts
sum-maps h [] = refl
sum-maps h (t ∷ ts) = omega (arith, sum_by-cons (λ n. n) (term_symbols (replace h t)) (map term_symbols (map (replace h) ts)), sum_by-cons (λ t. term_symbols (replace h t)) t ts, sum-maps h ts)

pub symbols-replace-App : (h : ℕ → Term) (f : Symbol) (ts : List Term) → term_symbols (replace h (App f ts)) ≡ sum_by (λ t. term_symbols (replace h t)) ts + 1
symbols-replace-App h f ts = ap term_symbols (replace-App h f ts) ∙ term_symbols-App f (map (replace h) ts) ∙ ap (λ n. n + 1) (sum-maps h ts)

-- ---- no entries

pub applied_none : (c : Clause) → apply [] c ≡ c
applied_none c = replace_in-itself c
