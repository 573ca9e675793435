-- Laws with their proofs, not definitions that a reader must believe: bindings that are applied to each other, over a set of
-- variables, one more binding, and how many variables are unbound.
use Rattle.std.proofs.Common.{◌≡◌, ◌⊎◌, inl, inr, ℕ, zero, suc, ◌+◌, ◌≤◌, ◌<◌, Bool, true, false, ◌==◌, if◌then◌else◌, eq-eqb, List, [], ◌∷◌, ◌++◌, refl, sym, ap, subst, ◌∙◌, arith}
use Rattle.std.proofs.lemmas.Bool.{eqb-true, false≢true, cases_lt}
use Rattle.std.proofs.lemmas.List.Sums.{sum_by-cons, sum_by-append}
use Rattle.spl_terms.specs.declared.term.Kind.TheVariants.{Function}
use Rattle.spl_terms.specs.declared.term.Term.{Term, Var, App}
use Rattle.spl_terms.specs.Terms.{term_eq, term_symbols, replace}
use Rattle.spl_terms.specs.TermLaws.{term_eq-true, term_eq-refl, replace-Var, replace-App, replace-itself}
use Rattle.spl_truth.specs.Unifiers.{single, occurs, bind, left_symbols, IsIdempotent}
use Rattle.spl_truth.specs.InstanceLaws.{replace-replace}
use Rattle.spl_truth.specs.OccurrenceLaws.{no_application, agree, agreed, occurs-self}

-- ---- instances

-- g is made from s by replacing more: by g itself
abbrev pub IsInstance : (ℕ → Term) → (ℕ → Term) → Type 0
IsInstance g s = (v : ℕ) → replace g (s v) ≡ g v

pub instance_at : (g s : ℕ → Term) → IsInstance g s → (t : Term) → replace g (replace s t) ≡ replace g t
instance_at g s is t = replace-replace g s t ∙ (λ i. replace (λ v. is v i) t)

-- ---- bindings that are applied to each other

-- the variables of a set stay, the others become a constant
abbrev pub cap : (ℕ → Bool) → ℕ → Term
cap n v = if n v then Var v else App (record { number = 0; kind = Function }) []

-- each variable of t is in the set
abbrev pub IsOver : (ℕ → Bool) → Term → Type 0
IsOver n t = replace (cap n) t ≡ t

-- only variables of the set are bound, and only to terms over the set
pub record IsFine (n : ℕ → Bool) (s : ℕ → Term) : Type 0 where
  pub idempotent : IsIdempotent s
  pub within : (v : ℕ) → n v ≡ true → IsOver n (s v)
  pub outside : (v : ℕ) → n v ≡ false → s v ≡ Var v

-- v is unbound, and t is what it may be bound to
pub record CanBind (n : ℕ → Bool) (s : ℕ → Term) (v : ℕ) (t : Term) : Type 0 where
  pub free : s v ≡ Var v
  pub applied : replace s t ≡ t
  pub apart : occurs v t ≡ false
  pub inside : n v ≡ true
  pub within : IsOver n t

if_true : {X : Type 0} (b : Bool) (x y : X) → b ≡ true → (if b then x else y) ≡ x
if_true true x y e = refl
if_true false x y e = absurd (false≢true e)

pub cap-inside : (n : ℕ → Bool) (v : ℕ) → n v ≡ true → cap n v ≡ Var v
cap-inside n v h = if_true (n v) (Var v) _ h

pub inside_cap : (n : ℕ → Bool) (v : ℕ) → IsOver n (Var v) → n v ≡ true
inside_cap n v e = by_test (n v) refl (sym (replace-Var (cap n) v) ∙ e)
  where
    by_test : (b : Bool) → n v ≡ b → (if b then Var v else App (record { number = 0; kind = Function }) []) ≡ Var v → n v ≡ true
    by_test true t h = t
    by_test false t h = absurd (no_application v _ [] h)

-- applying bindings that stay below n
pub within-replace : (n : ℕ → Bool) (s : ℕ → Term) → ((v : ℕ) → n v ≡ true → IsOver n (s v)) → (t : Term) → IsOver n t → IsOver n (replace s t)
within-replace n s all t e = ap (λ x. replace (cap n) (replace s x)) (sym e) ∙ ap (replace (cap n)) (replace-replace s (cap n) t) ∙ replace-replace (cap n) (λ v. replace s (cap n v)) t ∙ (λ i. replace (λ v. at v i) t) ∙ sym (replace-replace s (cap n) t) ∙ ap (replace s) e
  where
    at_test : (v : ℕ) (b : Bool) → n v ≡ b → replace (cap n) (replace s (if b then Var v else App (record { number = 0; kind = Function }) [])) ≡ replace s (if b then Var v else App (record { number = 0; kind = Function }) [])
    at_test v true t = ap (replace (cap n)) (replace-Var s v) ∙ all v t ∙ sym (replace-Var s v)
    at_test v false t = ap (replace (cap n)) (replace-App s _ []) ∙ replace-App (cap n) _ [] ∙ sym (replace-App s _ [])

    at : (v : ℕ) → replace (cap n) (replace s (cap n v)) ≡ replace s (cap n v)
    at v = at_test v (n v) refl

-- ---- binding one more variable

pub single-self : (v : ℕ) (t : Term) → single v t v ≡ t
single-self v t = if_true (v == v) t (Var v) (eq-eqb v v refl)

pub single-apart : (v : ℕ) (t : Term) → occurs v t ≡ false → replace (single v t) t ≡ t
single-apart v t apart = agree (single v t) Var t (λ x o. at x o (v == x) refl) ∙ replace-itself t
  where
    at : (x : ℕ) → occurs x t ≡ true → (b : Bool) → (v == x) ≡ b → (if b then t else Var x) ≡ Var x
    at x o true e = absurd (false≢true (sym apart ∙ ap (λ y. occurs y t) (eqb-true v x e) ∙ o))
    at x o false e = refl

module _ (g : ℕ → Term) (v : ℕ) (t : Term) where
  single_solved : g v ≡ replace g t → (x : ℕ) → replace g (single v t x) ≡ g x
  single_solved e x = at (v == x) refl
    where
      at : (b : Bool) → (v == x) ≡ b → replace g (if b then t else Var x) ≡ g x
      at true same = sym e ∙ ap g (eqb-true v x same)
      at false same = replace-Var g x

  replace-single : g v ≡ replace g t → (u : Term) → replace g (replace (single v t) u) ≡ replace g u
  replace-single e u = replace-replace g (single v t) u ∙ (λ i. replace (λ x. single_solved e x i) u)

  pub bind_instance : (s : ℕ → Term) → IsInstance g s → g v ≡ replace g t → IsInstance g (bind v t s)
  bind_instance s is e w = replace-single e (s w) ∙ is w

  pub instance_bind : (s : ℕ → Term) → s v ≡ Var v → IsInstance g (bind v t s) → (g v ≡ replace g t) × IsInstance g s
  instance_bind s free is =
      let e : g v ≡ replace g t = sym (is v) ∙ ap (λ u. replace g (replace (single v t) u)) free ∙ ap (replace g) (replace-Var (single v t) v ∙ single-self v t) in
      (e, λ w. sym (replace-single e (s w)) ∙ is w)

module _ (n : ℕ → Bool) (s : ℕ → Term) (v : ℕ) (t : Term) (fine : IsFine n s) (can : CanBind n s v t) where
  pub bound_at : bind v t s v ≡ t
  bound_at = ap (replace (single v t)) can.free ∙ replace-Var (single v t) v ∙ single-self v t

  after : (u : Term) → replace (bind v t s) u ≡ replace (single v t) (replace s u)
  after u = sym (replace-replace (single v t) s u)

  idempotent_bind : IsIdempotent (bind v t s)
  idempotent_bind =
      bind_instance (bind v t s) v t s
      (λ w. after (s w) ∙ ap (replace (single v t)) (fine.idempotent w))
      (bound_at ∙ sym (after t ∙ ap (replace (single v t)) can.applied ∙ single-apart v t can.apart))

  within_single : (x : ℕ) → n x ≡ true → IsOver n (single v t x)
  within_single x h = at (v == x)
    where
      at : (b : Bool) → IsOver n (if b then t else Var x)
      at true = can.within
      at false = replace-Var (cap n) x ∙ cap-inside n x h

  still_outside : (w : ℕ) → n w ≡ false → bind v t s w ≡ Var w
  still_outside w out = ap (replace (single v t)) (fine.outside w out) ∙ replace-Var (single v t) w ∙ at (v == w) refl
    where
      at : (b : Bool) → (v == w) ≡ b → (if b then t else Var w) ≡ Var w
      at true e = absurd (false≢true (sym out ∙ ap n (sym (eqb-true v w e)) ∙ can.inside))
      at false e = refl

  pub bind_fine : IsFine n (bind v t s)
  bind_fine = record { idempotent = idempotent_bind; within = λ w h. within-replace n (single v t) within_single (s w) (fine.within w h); outside = still_outside }

  -- a variable that stays unbound was unbound
  pub was_unbound : (w : ℕ) → bind v t s w ≡ Var w → s w ≡ Var w
  was_unbound w e = sym (replace-Var s w) ∙ ap (replace s) (sym e) ∙ stays ∙ e
    where
      at : (x : ℕ) → occurs x (s w) ≡ true → (b : Bool) → replace s (if b then t else Var x) ≡ (if b then t else Var x)
      at x o true = can.applied
      at x o false = replace-Var s x ∙ agreed s Var (s w) (fine.idempotent w ∙ sym (replace-itself (s w))) x o

      stays : replace s (bind v t s w) ≡ bind v t s w
      stays = replace-replace s (single v t) (s w) ∙ agree (λ x. replace s (single v t x)) (single v t) (s w) (λ x o. at x o (v == x))

-- no binding
pub at_first : (n : ℕ → Bool) → IsFine n Var
at_first n = record { idempotent = λ v. replace-Var Var v; within = λ v h. replace-Var (cap n) v ∙ cap-inside n v h; outside = λ v h. refl }

-- ---- how many variables are unbound

abbrev pub is_unbound : (ℕ → Term) → ℕ → Bool
is_unbound s v = term_eq (s v) (Var v)

-- of those below n
abbrev pub unbound_below : ℕ → (ℕ → Term) → ℕ
unbound_below zero s = 0
unbound_below (suc n) s = (if is_unbound s n then 1 else 0) + unbound_below n s

one_at_most : (a b : Bool) → (a ≡ true → b ≡ true) → (if a then 1 else 0) ≤ (if b then 1 else 0)
one_at_most true true h = omega arith
one_at_most true false h = absurd (false≢true (h refl))
one_at_most false true h = omega arith
one_at_most false false h = omega arith

no_more : (s r : ℕ → Term) → ((w : ℕ) → r w ≡ Var w → s w ≡ Var w) → (n : ℕ) → unbound_below n r ≤ unbound_below n s
no_more s r h zero = omega arith
no_more s r h (suc n) = omega (arith, no_more s r h n, one_at_most (is_unbound r n) (is_unbound s n) (λ e. ap (λ t. term_eq t (Var n)) (h n (term_eq-true _ _ e)) ∙ term_eq-refl (Var n)))

at_or_before : (v n : ℕ) → v < suc n → (v < n) ⊎ (v ≡ n)
at_or_before v n h = elim (cases_lt v n) [
  | inl less ↦ inl less
  | inr more ↦ inr (omega (arith, h, more))
]

module _ (s r : ℕ → Term) (h : (w : ℕ) → r w ≡ Var w → s w ≡ Var w) (v : ℕ) (free : s v ≡ Var v) (taken : r v ≡ Var v → ⊥) where
  fewer_here : (n : ℕ) → v ≡ n → unbound_below (suc n) r < unbound_below (suc n) s
  fewer_here n same =
      let yes : is_unbound s n ≡ true = subst (λ w. is_unbound s w ≡ true) same (ap (λ t. term_eq t (Var v)) free ∙ term_eq-refl (Var v)) in
      let one : ℕ = 1 in
      let none : ℕ = 0 in
      let p : (if is_unbound s n then one else none) ≡ one = ap (λ b. if b then one else none) yes in
      by_test (is_unbound r n) refl p
    where
      by_test : (b : Bool) → is_unbound r n ≡ b → (let one : ℕ = 1 in (if is_unbound s n then one else 0) ≡ one) → (if b then 1 else 0) + unbound_below n r < (if is_unbound s n then 1 else 0) + unbound_below n s
      by_test true e p = absurd (taken (subst (λ w. r w ≡ Var w) (sym same) (term_eq-true _ _ e)))
      by_test false e p = omega (arith, p, no_more s r h n)

  pub fewer : (n : ℕ) → v < n → unbound_below n r < unbound_below n s
  fewer zero below = absurd (omega arith)
  fewer (suc n) below = elim (at_or_before v n below) [
    | inl lt ↦ omega (arith, fewer n lt, one_at_most (is_unbound r n) (is_unbound s n) (λ e. ap (λ t. term_eq t (Var n)) (h n (term_eq-true _ _ e)) ∙ term_eq-refl (Var n)))
    | inr same ↦ fewer_here n same
  ]

pub bind_fewer : (vars : ℕ) (n : ℕ → Bool) (s : ℕ → Term) (v : ℕ) (t : Term) → IsFine n s → CanBind n s v t → v < vars → unbound_below vars (bind v t s) < unbound_below vars s
bind_fewer vars n s v t fine can below = fewer s (bind v t s) (was_unbound n s v t fine can) v can.free (λ e. taken (sym (bound_at n s v t fine can) ∙ e)) vars below
  where
    taken : t ≡ Var v → ⊥
    taken e = false≢true (sym can.apart ∙ ap (occurs v) e ∙ occurs-self v)

pub all_unbound : (n : ℕ) → unbound_below n Var ≤ n
all_unbound zero = omega arith
all_unbound (suc n) = omega (arith, all_unbound n, one_at_most (is_unbound Var n) true (λ _. refl))

-- ---- the symbols of the left sides of equations

pub left-append : (s : ℕ → Term) (es fs : List (Term × Term)) → left_symbols s (es ++ fs) ≡ left_symbols s es + left_symbols s fs
left-append s es fs = sum_by-append (λ (p : Term × Term). term_symbols (replace s p.0)) es fs

pub left-cons : (s : ℕ → Term) (e : Term × Term) (es : List (Term × Term)) → left_symbols s (e ∷ es) ≡ term_symbols (replace s e.0) + left_symbols s es
left-cons s e es = sum_by-cons (λ (p : Term × Term). term_symbols (replace s p.0)) e es
