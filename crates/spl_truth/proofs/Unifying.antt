-- The laws of the unifier.
use Rattle.std.proofs.Common.{◌≡◌, inl, inr, ℕ, zero, suc, ◌+◌, ◌≤◌, ◌<◌, Bool, true, ◌||◌, List, [], ◌∷◌, ◌++◌, length, map, sum, Option, Some, None, refl, sym, ap, subst, ◌∙◌, arith}
use Rattle.std.specs.List.{zip}
use Rattle.std.proofs.lemmas.Bool.{or_left, or_right, or_from}
use Rattle.std.proofs.lemmas.List.Sums.{sum_by-cons}
use Rattle.spl_terms.specs.declared.term.Term.{Term, Var}
use Rattle.spl_terms.specs.Terms.{term_symbols, replace}
use Rattle.spl_terms.specs.TermLaws.{term_symbols-App, term_symbols-positive, replace-Var, replace-itself}
use Rattle.spl_truth.specs.Unifiers.{occurs, Action, trivial, eliminate, decompose, clash, Found, solved, bound, unsolvable, go_on, next_elimination, left_symbols, bind, bind_next, solution, IsMostGeneral}
use Rattle.spl_truth.specs.OccurrenceLaws.{agree}
use Rattle.spl_truth.proofs.Actions.{Split, Bound, Means, meant}
use Rattle.spl_truth.proofs.Solving.{Solves, Solves-append, Solves-first, Solves-rest, split_solved, solved_split, bound_solved, solved_bound, AllWithin, AllWithin-append, replaced_arguments, split_within}
use Rattle.spl_truth.specs.BindingLaws.{IsInstance, instance_at, cap, IsOver, IsFine, CanBind, cap-inside, inside_cap, within-replace, bind_instance, instance_bind, bind_fine, unbound_below, bind_fewer, left-append, left-cons, at_first, all_unbound}

-- ---- up to the next binding

-- what holds of g where it solves the equations, and of g that makes it hold
abbrev pub Finds : (ℕ → Term) → Found → Type 0
Finds g solved = Unit {0}
Finds g (bound v t es) = (g v ≡ replace g t) × Solves g es
Finds g unsolvable = ⊥

abbrev pub MayGoOn : (ℕ → Bool) → (ℕ → Term) → Found → Type 0
MayGoOn n s solved = Unit {0}
MayGoOn n s (bound v t es) = CanBind n s v t × AllWithin n es
MayGoOn n s unsolvable = Unit {0}

module _ (g s : ℕ → Term) (is : IsInstance g s) where
  solve_step : (rest : List (Term × Term) → Found) → ((es : List (Term × Term)) → Finds g (rest es) → Solves g es) → (es : List (Term × Term)) (a b : Term) (x : Action) → Means a b x → Finds g (go_on rest es x) → (replace g a ≡ replace g b) × Solves g es
  solve_step rest all es a b trivial k h = (ap (replace g) k, all es h)
  solve_step rest all es a b (eliminate v t) k h = (bound_solved g a b v t k h.0, h.1)
  solve_step rest all es a b (decompose more) k h =
      let whole = all (more ++ es) h in
      (split_solved g a b more k (Solves-first g more es whole), Solves-rest g more es whole)
  solve_step rest all es a b clash k h = absurd h

  pub found_solves : (k : ℕ) (es : List (Term × Term)) → Finds g (next_elimination k s es) → Solves g es
  found_solves zero [] h = tt
  found_solves zero (e ∷ es) h = absurd h
  found_solves (suc k) [] h = tt
  found_solves (suc k) (e ∷ es) h =
      let r = solve_step (next_elimination k s) (found_solves k) es (replace s e.0) (replace s e.1) _ (meant (replace s e.0) (replace s e.1)) h in
      (sym (instance_at g s is e.0) ∙ r.0 ∙ instance_at g s is e.1, r.1)

left-zip : (s : ℕ → Term) (ss ts : List Term) → length ss ≡ length ts → map (replace s) ss ≡ ss → left_symbols s (zip ss ts) ≡ sum (map term_symbols ss)
left-zip s [] [] m e = refl
left-zip s [] (t ∷ ts) m e = absurd (omega arith)
left-zip s (x ∷ ss) [] m e = absurd (omega arith)
left-zip s (x ∷ ss) (t ∷ ts) m e =
    let a : replace s x ≡ x = cc in
    let b : map (replace s) ss ≡ ss = cc in
    let n : length ss ≡ length ts = omega arith in
    omega (arith, left-zip s ss ts n b, ap term_symbols a, sum_by-cons (λ (p : Term × Term). term_symbols (replace s p.0)) (x, t) (zip ss ts), sum_by-cons (λ n. n) (term_symbols x) (map term_symbols ss))

pub left-split : (s : ℕ → Term) (a b : Term) (more : List (Term × Term)) → Split a b more → replace s a ≡ a → left_symbols s more + 1 ≡ term_symbols a
left-split s a b more p e = omega (arith, ap (left_symbols s) p.are, left-zip s p.lefts p.rights p.as_many (replaced_arguments s a _ _ p.left_is e), ap term_symbols p.left_is, term_symbols-App p.symbol p.lefts)

module _ (n : ℕ → Bool) (s : ℕ → Term) (fine : IsFine n s) where
  twice : (t : Term) → replace s (replace s t) ≡ replace s t
  twice = instance_at s s fine.idempotent

  module _ (g : ℕ → Term) (is : IsInstance g s) where
    find_step : (k : ℕ) (rest : List (Term × Term) → Found) → ((es : List (Term × Term)) → left_symbols s es ≤ k → Solves g es → Finds g (rest es)) → (es : List (Term × Term)) (a b : Term) → replace s a ≡ a → term_symbols a + left_symbols s es ≤ suc k → (x : Action) → Means a b x → replace g a ≡ replace g b → Solves g es → Finds g (go_on rest es x)
    find_step k rest all es a b same few trivial h e more = all es (omega (arith, term_symbols-positive a)) more
    find_step k rest all es a b same few (eliminate v t) h e more = (solved_bound g a b v t h e, more)
    find_step k rest all es a b same few (decompose new) h e more = all (new ++ es) (omega (arith, left-append s new es, left-split s a b new h same)) (Solves-append g new es (solved_split g a b new h e) more)
    find_step k rest all es a b same few clash h e more = absurd (h g e)

    pub solves_found : (k : ℕ) (es : List (Term × Term)) → left_symbols s es ≤ k → Solves g es → Finds g (next_elimination k s es)
    solves_found zero [] few h = tt
    solves_found zero (e ∷ es) few h = absurd (omega (arith, left-cons s e es, term_symbols-positive (replace s e.0)))
    solves_found (suc k) [] few h = tt
    solves_found (suc k) (e ∷ es) few h =
        find_step k (next_elimination k s) (solves_found k) es (replace s e.0) (replace s e.1) (twice e.0) (omega (arith, left-cons s e es)) _ (meant (replace s e.0) (replace s e.1))
        (instance_at g s is e.0 ∙ h.0 ∙ sym (instance_at g s is e.1)) h.1

  pub can_bind : (a b : Term) (v : ℕ) (t : Term) → Bound a b v t → replace s a ≡ a → replace s b ≡ b → IsOver n a → IsOver n b → CanBind n s v t
  can_bind a b v t p x y u w = elim p.sides [
    | inl (q, r) ↦ record {
      free = sym (replace-Var s v) ∙ ap (replace s) (sym q) ∙ x ∙ q;
      applied = ap (replace s) (sym r) ∙ y ∙ r;
      apart = p.apart;
      inside = inside_cap n v (subst (IsOver n) q u);
      within = subst (IsOver n) r w;
    }
    | inr (q, r) ↦ record {
      free = sym (replace-Var s v) ∙ ap (replace s) (sym q) ∙ y ∙ q;
      applied = ap (replace s) (sym r) ∙ x ∙ r;
      apart = p.apart;
      inside = inside_cap n v (subst (IsOver n) q w);
      within = subst (IsOver n) r u;
    }
  ]

  within_step : (rest : List (Term × Term) → Found) → ((es : List (Term × Term)) → AllWithin n es → MayGoOn n s (rest es)) → (es : List (Term × Term)) (a b : Term) → replace s a ≡ a → replace s b ≡ b → IsOver n a → IsOver n b → AllWithin n es → (x : Action) → Means a b x → MayGoOn n s (go_on rest es x)
  within_step rest all es a b x y u w h trivial k = all es h
  within_step rest all es a b x y u w h (eliminate v t) k = (can_bind a b v t k x y u w, h)
  within_step rest all es a b x y u w h (decompose more) k = all (more ++ es) (AllWithin-append n more es (split_within n a b more k u w) h)
  within_step rest all es a b x y u w h clash k = tt

  pub may_go_on : (k : ℕ) (es : List (Term × Term)) → AllWithin n es → MayGoOn n s (next_elimination k s es)
  may_go_on zero [] h = tt
  may_go_on zero (e ∷ es) h = tt
  may_go_on (suc k) [] h = tt
  may_go_on (suc k) (e ∷ es) h = within_step (next_elimination k s) (may_go_on k) es _ _ (twice e.0) (twice e.1) (within-replace n s fine.within e.0 h.0) (within-replace n s fine.within e.1 h.1) h.2 _ (meant (replace s e.0) (replace s e.1))

-- ---- the whole

abbrev pub Reached : (ℕ → Term) → Option (ℕ → Term) → Type 0
Reached g None = ⊥
Reached g (Some u) = IsInstance g u

abbrev pub Reaches : (ℕ → Bool) → (ℕ → Term) → List (Term × Term) → Option (ℕ → Term) → Type 0
Reaches n s es None = Unit {0}
Reaches n s es (Some u) = IsFine n u × ((g : ℕ → Term) → IsInstance g u → IsInstance g s × Solves g es)

module _ (vars : ℕ) (n : ℕ → Bool) (below : (v : ℕ) → n v ≡ true → v < vars) where
  reached_step : (m : ℕ) (rest : (ℕ → Term) → List (Term × Term) → Option (ℕ → Term)) → ((s : ℕ → Term) (es : List (Term × Term)) → IsFine n s → AllWithin n es → unbound_below vars s < m → (g : ℕ → Term) → IsInstance g s → Solves g es → Reached g (rest s es)) →
      (s : ℕ → Term) → IsFine n s → unbound_below vars s ≤ m → (g : ℕ → Term) → IsInstance g s → (x : Found) → MayGoOn n s x → Finds g x → Reached g (bind_next rest s x)
  reached_step m rest all s fine few g is solved can h = is
  reached_step m rest all s fine few g is (bound v t es) can h = all (bind v t s) es (bind_fine n s v t fine can.0) can.1 (omega (arith, bind_fewer vars n s v t fine can.0 (below v can.0.inside))) g (bind_instance g v t s is h.0) h.1
  reached_step m rest all s fine few g is unsolvable can h = absurd h

  -- a unifier of the equations, made from the bindings, is made from those that are found
  pub reached : (m : ℕ) (s : ℕ → Term) (es : List (Term × Term)) → IsFine n s → AllWithin n es → unbound_below vars s ≤ m → (g : ℕ → Term) → IsInstance g s → Solves g es → Reached g (solution m s es)
  reached zero s es fine in' few g is h = reached_step zero (λ _ _. None) (λ s' es' _ _ few' _ _ _. absurd (omega arith)) s fine few g is _ (may_go_on n s fine (left_symbols s es) es in') (solves_found n s fine g is (left_symbols s es) es (omega arith) h)
  reached (suc m) s es fine in' few g is h = reached_step (suc m) _ (λ s' es' f w l g' i' h'. reached m s' es' f w (omega arith) g' i' h') s fine few g is _ (may_go_on n s fine (left_symbols s es) es in') (solves_found n s fine g is (left_symbols s es) es (omega arith) h)

  reaches_step : (rest : (ℕ → Term) → List (Term × Term) → Option (ℕ → Term)) → ((s : ℕ → Term) (es : List (Term × Term)) → IsFine n s → AllWithin n es → Reaches n s es (rest s es)) →
      (s : ℕ → Term) (es : List (Term × Term)) → IsFine n s → (x : Found) → MayGoOn n s x → ((g : ℕ → Term) → IsInstance g s → Finds g x → Solves g es) → Reaches n s es (bind_next rest s x)
  reaches_step rest all s es fine solved can h = (fine, λ g is. (is, h g is tt))
  reaches_step rest all s es fine (bound v t fs) can h = onward (rest (bind v t s) fs) (all (bind v t s) fs (bind_fine n s v t fine can.0) can.1)
    where
      onward : (o : Option (ℕ → Term)) → Reaches n (bind v t s) fs o → Reaches n s es o
      onward None k = tt
      onward (Some u) k = (
        k.0,
        λ g is.
            let p = k.1 g is in
            let q = instance_bind g v t s can.0.free p.0 in
            (q.1, h g q.1 (q.0, p.1)),
      )
  reaches_step rest all s es fine unsolvable can h = tt

  -- what is made from the bindings that are found solves the equations
  pub reaches : (m : ℕ) (s : ℕ → Term) (es : List (Term × Term)) → IsFine n s → AllWithin n es → Reaches n s es (solution m s es)
  reaches zero s es fine in' = reaches_step (λ _ _. None) (λ _ _ _ _. tt {0}) s es fine _ (may_go_on n s fine (left_symbols s es) es in') (λ g is. found_solves g s is (left_symbols s es) es)
  reaches (suc m) s es fine in' = reaches_step _ (reaches m) s es fine _ (may_go_on n s fine (left_symbols s es) es in') (λ g is. found_solves g s is (left_symbols s es) es)

-- the variables of the two terms
abbrev pub in_either : Term → Term → ℕ → Bool
in_either a b v = occurs v a || occurs v b

pub left_within : (a b : Term) → IsOver (in_either a b) a
left_within a b = agree (cap (in_either a b)) Var a (λ x o. cap-inside (in_either a b) x (or_left _ _ o)) ∙ replace-itself a

pub right_within : (a b : Term) → IsOver (in_either a b) b
right_within a b = agree (cap (in_either a b)) Var b (λ x o. cap-inside (in_either a b) x (or_right (occurs x a) _ o)) ∙ replace-itself b

abbrev pub Unifies : Term → Term → Option (ℕ → Term) → Type 0
Unifies a b None = (g : ℕ → Term) → replace g a ≡ replace g b → ⊥
Unifies a b (Some u) = IsMostGeneral a b u

pub unifies : (n : ℕ) (a b : Term) → ((v : ℕ) → in_either a b v ≡ true → v < n) → Unifies a b (solution n Var ((a, b) ∷ []))
unifies n a b below = by_answer _ (λ g e. reached n (in_either a b) below n Var ((a, b) ∷ []) (at_first (in_either a b)) all (all_unbound n) g (λ v. replace-Var g v) (e, tt)) (reaches n (in_either a b) below n Var ((a, b) ∷ []) (at_first (in_either a b)) all)
  where
    all : AllWithin (in_either a b) ((a, b) ∷ [])
    all = (left_within a b, right_within a b, tt)

    by_answer : (o : Option (ℕ → Term)) → ((g : ℕ → Term) → replace g a ≡ replace g b → Reached g o) → Reaches (in_either a b) Var ((a, b) ∷ []) o → Unifies a b o
    by_answer None h k = h
    by_answer (Some u) h k = record { unifies = (k.1 u k.0.idempotent).1.0; general = λ g e t. instance_at g u (h g e) t; idempotent = k.0.idempotent; others = λ v p q. k.0.outside v (or_from _ _ p q) }
