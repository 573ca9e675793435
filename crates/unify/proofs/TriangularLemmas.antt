-- Bindings as they were made, and what they stand for when they are applied to each other.
use Rattle.std.proofs.Common.{◌≡◌, ℕ, ◌+◌, zero, suc, ◌<◌, nat_lt, Bool, true, false, ◌||◌, ◌==◌, if◌then◌else◌, eq-eqb, List, [], ◌∷◌, map, sum_by, Option, Some, None, refl, sym, ap, subst, ◌∙◌, arith}
use Rattle.std.specs.List.{list_any}
use Rattle.std.proofs.lemmas.Bool.{eqb-true, lt-ltb, false≢true}
use Rattle.spl_terms.specs.declared.term.Symbol.{Symbol}
use Rattle.spl_terms.specs.declared.term.Term.{Term, Var, App}
use Rattle.spl_terms.specs.declared.term.Term.TheViews.{outs-Var, outs-App}
use Rattle.spl_terms.specs.Terms.{term_symbols, replace}
use Rattle.spl_truth.specs.Unifiers.{occurs, single, bind}
use Rattle.spl_terms.specs.TermLaws.{term_induction, term_symbols-Var, replace-Var, replace-App, replace-itself}
use Rattle.spl_truth.specs.InstanceLaws.{replace-replace, symbols-replace-App}
use Rattle.spl_truth.specs.OccurrenceLaws.{no_application, agree, occurs-Var, occurs-App, occurs-self}
use Rattle.spl_truth.specs.BindingLaws.{cap, IsOver, IsFine, CanBind, cap-inside, within-replace, instance_at, single-apart, bind_fine, bound_at, at_first}
use Rattle.unify.specs.Below.{IsBelow}
use Rattle.unify.specs.Bindings.{bound_to, substitution, IsFree, IsTriangular, lengthened, rank, rank_of, rank_of_layer}

-- the variables below a number
abbrev pub under : ℕ → ℕ → Bool
under vars v = nat_lt v vars

pub within_below : (vars : ℕ) (t : Term) → IsBelow vars t → IsOver (under vars) t
within_below vars t h = agree (cap (under vars)) Var t (λ x o. cap-inside (under vars) x (lt-ltb x vars (h x o))) ∙ replace-itself t

-- ---- what the bindings stand for

abbrev pub LeavesUnbound : List (ℕ × Term) → Type 0
LeavesUnbound made = (v : ℕ) → bound_to made v ≡ None → substitution made v ≡ Var v

pub can_bind : (vars : ℕ) (made : List (ℕ × Term)) (v : ℕ) (t : Term) → IsFine (under vars) (substitution made) → LeavesUnbound made → v < vars → IsBelow vars t → occurs v (replace (substitution made) t) ≡ false → bound_to made v ≡ None → CanBind (under vars) (substitution made) v (replace (substitution made) t)
can_bind vars made v t fine leaves lt below apart unbound = record {
  free = leaves v unbound;
  applied = instance_at (substitution made) (substitution made) fine.idempotent t;
  apart = apart;
  inside = lt-ltb v vars lt;
  within = within-replace (under vars) (substitution made) fine.within t (within_below vars t below);
}

one_unbound : (v w : ℕ) (t u : Term) (s : ℕ → Term) (o : Option Term) (b : Bool) → (w == v) ≡ b → (if b then Some u else o) ≡ None → (o ≡ None → s w ≡ Var w) → bind v t s w ≡ Var w
one_unbound v w t u s o true e h leaves = absurd (cc)
one_unbound v w t u s o false e h leaves = ap (replace (single v t)) (leaves h) ∙ replace-Var (single v t) w ∙ other (v == w) refl
  where
    other : (b : Bool) → (v == w) ≡ b → (if b then t else Var w) ≡ Var w
    other true same = absurd (false≢true (sym e ∙ eq-eqb w v (sym (eqb-true v w same))))
    other false differ = refl

pub stands : (vars : ℕ) (made : List (ℕ × Term)) → IsTriangular vars made → IsFine (under vars) (substitution made) × LeavesUnbound made
stands vars [] h = (at_first (under vars), λ v e. refl)
stands vars (b ∷ bs) h =
    let k = stands vars bs h.5 in
    let can = can_bind vars bs b.0 b.1 k.0 k.1 h.0 h.1 h.2 h.3 in (
      bind_fine (under vars) (substitution bs) b.0 (replace (substitution bs) b.1) k.0 can,
      λ v e. one_unbound b.0 v (replace (substitution bs) b.1) b.1 (substitution bs) (bound_to bs v) (v == b.0) refl e (k.1 v),
    )

pub idempotent_at : (vars : ℕ) (made : List (ℕ × Term)) → IsTriangular vars made → (t : Term) → replace (substitution made) (replace (substitution made) t) ≡ replace (substitution made) t
idempotent_at vars made h t = instance_at (substitution made) (substitution made) (stands vars made h).0.idempotent t

module _ (vars : ℕ) (b : ℕ × Term) (bs : List (ℕ × Term)) (h : IsTriangular vars (b ∷ bs)) where
  after : (x : Term) → replace (substitution (b ∷ bs)) x ≡ replace (single b.0 (replace (substitution bs) b.1)) (replace (substitution bs) x)
  after x = sym (replace-replace (single b.0 (replace (substitution bs) b.1)) (substitution bs) x)

  look_up : (v : ℕ) (t : Term) (c : Bool) → (v == b.0) ≡ c → (if c then Some b.1 else bound_to bs v) ≡ Some t → (bound_to bs v ≡ Some t → substitution bs v ≡ replace (substitution bs) t) → substitution (b ∷ bs) v ≡ replace (substitution (b ∷ bs)) t
  look_up v t true same here earlier =
      let k = stands vars bs h.5 in
      let can = can_bind vars bs b.0 b.1 k.0 k.1 h.0 h.1 h.2 h.3 in
      let r : b.1 ≡ t = cc in
      ap (substitution (b ∷ bs)) (eqb-true v b.0 same)
      ∙ bound_at (under vars) (substitution bs) b.0 (replace (substitution bs) b.1) k.0 can
      ∙ sym (single-apart b.0 (replace (substitution bs) b.1) h.2)
      ∙ sym (after b.1)
      ∙ ap (replace (substitution (b ∷ bs))) r
  look_up v t false differ here earlier = ap (replace (single b.0 (replace (substitution bs) b.1))) (earlier here) ∙ sym (after t)

-- a bound variable stands for what its term stands for
pub looked_up : (vars : ℕ) (made : List (ℕ × Term)) → IsTriangular vars made → (v : ℕ) (t : Term) → bound_to made v ≡ Some t → substitution made v ≡ replace (substitution made) t
looked_up vars [] h v t e = absurd (cc)
looked_up vars (b ∷ bs) h v t e = look_up vars b bs h v t (v == b.0) refl e (looked_up vars bs h.5 v t)

-- what a variable is bound to has variables below the number
pub bound_below : (vars : ℕ) (made : List (ℕ × Term)) → IsTriangular vars made → (v : ℕ) (t : Term) → bound_to made v ≡ Some t → IsBelow vars t
bound_below vars [] h v t e = absurd (cc)
bound_below vars (b ∷ bs) h v t e = by_test (v == b.0) e (bound_below vars bs h.5 v t)
  where
    by_test : (c : Bool) → (if c then Some b.1 else bound_to bs v) ≡ Some t → (bound_to bs v ≡ Some t → IsBelow vars t) → IsBelow vars t
    by_test true here earlier = let r : b.1 ≡ t = cc in subst (IsBelow vars) r h.1
    by_test false here earlier = earlier here

-- ---- looking up goes on to variables that were bound later

rank_of-Var : (made : List (ℕ × Term)) (v : ℕ) → rank_of made (Var v) ≡ rank made v
rank_of-Var made v = ap (rank_of_layer made) (outs-Var v)

rank_of-App : (made : List (ℕ × Term)) (f : Symbol) (ts : List Term) → rank_of made (App f ts) ≡ 0
rank_of-App made f ts = ap (rank_of_layer made) (outs-App f ts)

lengthened-less : (m n : ℕ) → m < n → lengthened m < lengthened n
lengthened-less zero zero h = absurd (omega arith)
lengthened-less zero (suc n) h = omega arith
lengthened-less (suc m) zero h = absurd (omega arith)
lengthened-less (suc m) (suc n) h = omega arith

lengthened-above : (m : ℕ) → 0 < m → 1 < lengthened m
lengthened-above zero h = absurd (omega arith)
lengthened-above (suc m) h = omega arith

rank_unbound : (made : List (ℕ × Term)) (v : ℕ) → bound_to made v ≡ None → rank made v ≡ 0
rank_unbound [] v e = refl
rank_unbound (b ∷ bs) v e = by_test (v == b.0) e (rank_unbound bs v)
  where
    by_test : (c : Bool) → (if c then Some b.1 else bound_to bs v) ≡ None → (bound_to bs v ≡ None → rank bs v ≡ 0) → (if c then 1 else lengthened (rank bs v)) ≡ 0
    by_test true h earlier = absurd (cc)
    by_test false h earlier = ap lengthened (earlier h)

rank_new : (vars : ℕ) (b : ℕ × Term) (bs : List (ℕ × Term)) → IsTriangular vars (b ∷ bs) → (t : Term) → b.1 ≡ t → rank_of (b ∷ bs) t ≡ 0
rank_new vars b bs h = term_induction (λ t. b.1 ≡ t → rank_of (b ∷ bs) t ≡ 0)
    (λ w is. rank_of-Var (b ∷ bs) w ∙ by_test w is (h.4 w is) (w == b.0) refl)
    (λ f ts _ is. rank_of-App (b ∷ bs) f ts)
  where
    by_test : (w : ℕ) → b.1 ≡ Var w → bound_to bs w ≡ None → (c : Bool) → (w == b.0) ≡ c → (if c then 1 else lengthened (rank bs w)) ≡ 0
    by_test w is free true same =
        let e : replace (substitution bs) b.1 ≡ Var w = ap (replace (substitution bs)) is ∙ replace-Var (substitution bs) w ∙ (stands vars bs h.5).1 w free in
        absurd (false≢true (sym h.2 ∙ ap (occurs b.0) e ∙ ap (λ x. occurs x (Var w)) (sym (eqb-true w b.0 same)) ∙ occurs-self w))
    by_test w is free false differ = ap lengthened (rank_unbound bs w free)

rank_later : (b : ℕ × Term) (bs : List (ℕ × Term)) (n w : ℕ) (c : Bool) → rank bs w < n → (if c then 1 else lengthened (rank bs w)) < lengthened n
rank_later b bs n w true less = lengthened-above n (omega arith)
rank_later b bs n w false less = lengthened-less (rank bs w) n less

later : (b : ℕ × Term) (bs : List (ℕ × Term)) (n : ℕ) (u : Term) → rank_of bs u < n → rank_of (b ∷ bs) u < lengthened n
later b bs n =
    term_induction (λ u. rank_of bs u < n → rank_of (b ∷ bs) u < lengthened n)
    (λ w less.
    let k = rank_of-Var bs w in
    let m = rank_of-Var (b ∷ bs) w in
    let r = rank_later b bs n w (w == b.0) (omega (arith, k, less)) in
    omega (arith, m, r))
    (λ f ts _ less. let k = rank_of-App (b ∷ bs) f ts in let m = lengthened-above n (omega arith) in omega (arith, k, m))

pub rank_less : (vars : ℕ) (made : List (ℕ × Term)) → IsTriangular vars made → (v : ℕ) (t : Term) → bound_to made v ≡ Some t → rank_of made t < rank made v
rank_less vars [] h v t e = absurd (cc)
rank_less vars (b ∷ bs) h v t e = by_test (v == b.0) e (rank_less vars bs h.5 v t)
  where
    by_test : (c : Bool) → (if c then Some b.1 else bound_to bs v) ≡ Some t → (bound_to bs v ≡ Some t → rank_of bs t < rank bs v) → rank_of (b ∷ bs) t < (if c then 1 else lengthened (rank bs v))
    by_test true here earlier = let r : b.1 ≡ t = cc in let k = rank_new vars b bs h t r in omega (arith, k)
    by_test false here earlier = later b bs (rank bs v) t (earlier here)

-- for the loop: the variable's term comes next
pub goes_on : (vars : ℕ) (made : List (ℕ × Term)) → IsTriangular vars made → (v : ℕ) (t u : Term) → t ≡ Var v → bound_to made v ≡ Some u → rank_of made u < rank_of made t
goes_on vars made h v t u is e = let k = rank_less vars made h v u e in let m = ap (rank_of made) is ∙ rank_of-Var made v in omega (arith, k, m)

pub same_on : (vars : ℕ) (made : List (ℕ × Term)) → IsTriangular vars made → (v : ℕ) (t u : Term) → t ≡ Var v → bound_to made v ≡ Some u → replace (substitution made) u ≡ replace (substitution made) t
same_on vars made h v t u is e = sym (looked_up vars made h v u e) ∙ sym (replace-Var (substitution made) v) ∙ ap (replace (substitution made)) (sym is)

-- ---- where a term is no bound variable

pub stays_variable : (vars : ℕ) (made : List (ℕ × Term)) → IsTriangular vars made → (t : Term) (v : ℕ) → t ≡ Var v → IsFree made t → replace (substitution made) t ≡ Var v
stays_variable vars made h t v is free = ap (replace (substitution made)) is ∙ replace-Var (substitution made) v ∙ (stands vars made h).1 v (free v is)

-- a term that becomes a variable is it, if it is no bound variable
pub was_variable : (vars : ℕ) (made : List (ℕ × Term)) → IsTriangular vars made → (t : Term) (v : ℕ) → IsFree made t → replace (substitution made) t ≡ Var v → t ≡ Var v
was_variable vars made h t v free e = by_case t free e
  where
    by_case : (u : Term) → IsFree made u → replace (substitution made) u ≡ Var v → u ≡ Var v
    by_case = term_induction (λ u. IsFree made u → replace (substitution made) u ≡ Var v → u ≡ Var v)
        (λ w free' e'. sym (stays_variable vars made h (Var w) w refl free') ∙ e')
        (λ f ts _ free' e'. absurd (no_application v f (map (replace (substitution made)) ts) (sym (replace-App (substitution made) f ts) ∙ e')))

pub at_arguments : (made : List (ℕ × Term)) (t : Term) (f : Symbol) (ts : List Term) → t ≡ App f ts → replace (substitution made) t ≡ App f (map (replace (substitution made)) ts)
at_arguments made t f ts is = ap (replace (substitution made)) is ∙ replace-App (substitution made) f ts

-- ---- sizes with the bindings applied

abbrev pub size : List (ℕ × Term) → Term → ℕ
size made t = term_symbols (replace (substitution made) t)

abbrev pub sizes : List (ℕ × Term) → List Term → ℕ
sizes made = sum_by (size made)

pub size_at_variable : (vars : ℕ) (made : List (ℕ × Term)) → IsTriangular vars made → (t top : Term) (v : ℕ) → top ≡ Var v → IsFree made top → replace (substitution made) top ≡ replace (substitution made) t → size made t ≡ 1
size_at_variable vars made h t top v is free same = ap term_symbols (sym same ∙ stays_variable vars made h top v is free) ∙ term_symbols-Var v

pub size_at_arguments : (made : List (ℕ × Term)) (t top : Term) (f : Symbol) (ts sl : List Term) → top ≡ App f ts → sl ≡ ts → replace (substitution made) top ≡ replace (substitution made) t → size made t ≡ sizes made sl + 1
size_at_arguments made t top f ts sl is same_list same =
    ap term_symbols (sym same ∙ ap (replace (substitution made)) is) ∙ symbols-replace-App (substitution made) f ts ∙ ap (λ l. sizes made l + 1) (sym same_list)

-- ---- occurring with the bindings applied

pub occurs_at_variable : (vars : ℕ) (made : List (ℕ × Term)) → IsTriangular vars made → (x : ℕ) (t : Term) (v : ℕ) → t ≡ Var v → IsFree made t → occurs x (replace (substitution made) t) ≡ (x == v)
occurs_at_variable vars made h x t v is free = ap (occurs x) (stays_variable vars made h t v is free) ∙ occurs-Var x v

pub occurs_at_bound : (vars : ℕ) (made : List (ℕ × Term)) → IsTriangular vars made → (x v : ℕ) (t top : Term) → bound_to made v ≡ Some t → replace (substitution made) top ≡ replace (substitution made) t → occurs x (replace (substitution made) top) ≡ occurs x (substitution made v)
occurs_at_bound vars made h x v t top e same = ap (occurs x) (same ∙ sym (looked_up vars made h v t e))

pub occurs_at_unbound : (vars : ℕ) (made : List (ℕ × Term)) → IsTriangular vars made → (x : ℕ) (t : Term) (v : ℕ) → t ≡ Var v → bound_to made v ≡ None → occurs x (replace (substitution made) t) ≡ (x == v)
occurs_at_unbound vars made h x t v is unbound =
    ap (occurs x) (ap (replace (substitution made)) is ∙ replace-Var (substitution made) v ∙ (stands vars made h).1 v unbound) ∙ occurs-Var x v

any-map : (x : ℕ) (made : List (ℕ × Term)) (ts : List Term) → list_any (occurs x) (map (replace (substitution made)) ts) ≡ list_any (λ t. occurs x (replace (substitution made) t)) ts
any-map x made [] = refl
any-map x made (t ∷ ts) = ap (λ b. occurs x (replace (substitution made) t) || b) (any-map x made ts)

pub occurs_at_arguments : (made : List (ℕ × Term)) (x : ℕ) (t : Term) (f : Symbol) (ts sl : List Term) → t ≡ App f ts → sl ≡ ts → occurs x (replace (substitution made) t) ≡ list_any (λ u. occurs x (replace (substitution made) u)) sl
occurs_at_arguments made x t f ts sl is same =
    ap (occurs x) (at_arguments made t f ts is)
    ∙ occurs-App x f (map (replace (substitution made)) ts)
    ∙ any-map x made ts
    ∙ ap (list_any (λ u. occurs x (replace (substitution made) u))) (sym same)
