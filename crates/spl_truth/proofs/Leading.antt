-- The answer that is computed is the one to which the list of equations leads.
use Rattle.std.proofs.Common.{◌≡◌, ℕ, zero, suc, ◌+◌, ◌≤◌, ◌<◌, Bool, true, List, [], ◌∷◌, ◌++◌, Option, Some, None, refl, sym, ap, subst, ◌∙◌, arith}
use Rattle.spl_terms.specs.declared.term.Term.{Term, Var}
use Rattle.spl_terms.specs.Terms.{term_symbols, replace}
use Rattle.spl_terms.specs.TermLaws.{term_symbols-positive}
use Rattle.spl_truth.specs.Unifiers.{Action, trivial, eliminate, decompose, clash, action, Found, solved, bound, unsolvable, go_on, next_elimination, first_elimination, left_symbols, bind, bind_next, solution, Leads, ends, skips, binds, splits, fails}
use Rattle.spl_truth.proofs.Actions.{Means, meant}
use Rattle.spl_truth.proofs.Stepping.{first_elimination-cons, first_elimination-nil}
use Rattle.spl_truth.specs.BindingLaws.{instance_at, IsOver, IsFine, CanBind, bind_fine, within-replace, unbound_below, bind_fewer, left-append, left-cons, at_first, all_unbound}
use Rattle.spl_truth.proofs.Solving.{AllWithin, AllWithin-append, split_within}
use Rattle.spl_truth.proofs.Unifying.{MayGoOn, may_go_on, can_bind, left-split, in_either, left_within, right_within}

-- what is left to lead to the answer
abbrev Onward : (ℕ → Term) → Found → Option (ℕ → Term) → Type 0
Onward s solved r = r ≡ Some s
Onward s (bound v t es) r = Leads (bind v t s) es r
Onward s unsolvable r = r ≡ None

module _ (n : ℕ → Bool) (s : ℕ → Term) (fine : IsFine n s) (r : Option (ℕ → Term)) where
  step : (k : ℕ) (rest : List (Term × Term) → Found) → ((es : List (Term × Term)) → left_symbols s es ≤ k → Onward s (rest es) r → Leads s es r) → (e : Term × Term) (es : List (Term × Term)) → term_symbols (replace s e.0) + left_symbols s es ≤ suc k → (x : Action) → x ≡ action (replace s e.0) (replace s e.1) → Means (replace s e.0) (replace s e.1) x → Onward s (go_on rest es x) r → Leads s (e ∷ es) r
  step k rest all e es few trivial is h on = skips s e es r (sym is) (all es (omega (arith, term_symbols-positive (replace s e.0))) on)
  step k rest all e es few (eliminate v t) is h on = binds s e es r v t (sym is) on
  step k rest all e es few (decompose more) is h on = splits s e es r more (sym is) (all (more ++ es) (omega (arith, left-append s more es, left-split s (replace s e.0) (replace s e.1) more h (instance_at s s fine.idempotent e.0))) on)
  step k rest all e es few clash is h on = subst (Leads s (e ∷ es)) (sym on) (fails s e es (sym is))

  leads_on : (k : ℕ) (es : List (Term × Term)) → left_symbols s es ≤ k → Onward s (next_elimination k s es) r → Leads s es r
  leads_on zero [] few on = subst (Leads s []) (sym on) (ends s)
  leads_on zero (e ∷ es) few on = absurd (omega (arith, left-cons s e es, term_symbols-positive (replace s e.0)))
  leads_on (suc k) [] few on = subst (Leads s []) (sym on) (ends s)
  leads_on (suc k) (e ∷ es) few on = step k (next_elimination k s) (leads_on k) e es (omega (arith, left-cons s e es)) (action (replace s e.0) (replace s e.1)) refl (meant (replace s e.0) (replace s e.1)) on

module _ (vars : ℕ) (n : ℕ → Bool) (below : (v : ℕ) → n v ≡ true → v < vars) where
  onward : (m : ℕ) (rest : (ℕ → Term) → List (Term × Term) → Option (ℕ → Term)) → ((s : ℕ → Term) (es : List (Term × Term)) → IsFine n s → AllWithin n es → unbound_below vars s < m → Leads s es (rest s es)) → (s : ℕ → Term) → IsFine n s → unbound_below vars s ≤ m → (x : Found) → MayGoOn n s x → Onward s x (bind_next rest s x)
  onward m rest all s fine few solved can = refl
  onward m rest all s fine few (bound v t es) can = all (bind v t s) es (bind_fine n s v t fine can.0) can.1 (omega (arith, bind_fewer vars n s v t fine can.0 (below v can.0.inside)))
  onward m rest all s fine few unsolvable can = refl

  leads : (m : ℕ) (s : ℕ → Term) (es : List (Term × Term)) → IsFine n s → AllWithin n es → unbound_below vars s ≤ m → Leads s es (solution m s es)
  leads zero s es fine in' few = leads_on n s fine _ (left_symbols s es) es (omega arith) (onward zero (λ _ _. None) (λ s' es' _ _ few'. absurd (omega arith)) s fine few (first_elimination s es) (may_go_on n s fine (left_symbols s es) es in'))
  leads (suc m) s es fine in' few = leads_on n s fine _ (left_symbols s es) es (omega arith) (onward (suc m) (solution m) (λ s' es' f w l. leads m s' es' f w (omega arith)) s fine few (first_elimination s es) (may_go_on n s fine (left_symbols s es) es in'))

-- U is what the list of the one equation leads to
pub solution_leads : (n : ℕ) (a b : Term) → ((v : ℕ) → in_either a b v ≡ true → v < n) → Leads Var ((a, b) ∷ []) (solution n Var ((a, b) ∷ []))
solution_leads n a b below = leads n (in_either a b) below n Var ((a, b) ∷ []) (at_first (in_either a b)) (left_within a b, right_within a b, tt) (all_unbound n)

-- ---- and it leads nowhere else

abbrev KeptBy : (ℕ → Bool) → (ℕ → Term) → List (Term × Term) → Action → Type 0
KeptBy n s es trivial = Unit {0}
KeptBy n s es (eliminate v t) = CanBind n s v t
KeptBy n s es (decompose more) = AllWithin n (more ++ es)
KeptBy n s es clash = Unit {0}

keeps : (n : ℕ → Bool) (s : ℕ → Term) → IsFine n s → (es : List (Term × Term)) (a b : Term) → replace s a ≡ a → replace s b ≡ b → IsOver n a → IsOver n b → AllWithin n es → (x : Action) → Means a b x → KeptBy n s es x
keeps n s fine es a b x y u w all trivial h = tt
keeps n s fine es a b x y u w all (eliminate v t) h = can_bind n s fine a b v t h x y u w
keeps n s fine es a b x y u w all (decompose more) h = AllWithin-append n more es (split_within n a b more h u w) all
keeps n s fine es a b x y u w all clash h = tt

module _ (vars : ℕ) (n : ℕ → Bool) (below : (v : ℕ) → n v ≡ true → v < vars) where
  at : (m : ℕ) (s : ℕ → Term) (es : List (Term × Term)) (x : Found) → first_elimination s es ≡ x → (o : Option (ℕ → Term)) → ((rest : (ℕ → Term) → List (Term × Term) → Option (ℕ → Term)) → bind_next rest s x ≡ o) → solution m s es ≡ o
  at zero s es x e o h = ap (bind_next (λ _ _. None) s) e ∙ h (λ _ _. None)
  at (suc m) s es x e o h = ap (bind_next (solution m) s) e ∙ h (solution m)

  same_found : (m : ℕ) (s : ℕ → Term) (es fs : List (Term × Term)) → first_elimination s es ≡ first_elimination s fs → solution m s es ≡ solution m s fs
  same_found zero s es fs e = ap (bind_next (λ _ _. None) s) e
  same_found (suc m) s es fs e = ap (bind_next (solution m) s) e

  cons : (s : ℕ → Term) → IsFine n s → (e : Term × Term) (es : List (Term × Term)) (x : Action) → action (replace s e.0) (replace s e.1) ≡ x → first_elimination s (e ∷ es) ≡ go_on (first_elimination s) es x
  cons s fine e es x is = first_elimination-cons s fine.idempotent e es ∙ ap (go_on (first_elimination s) es) is

  -- what one equation asks keeps to the set
  kept : (s : ℕ → Term) → IsFine n s → (e : Term × Term) (es : List (Term × Term)) → AllWithin n (e ∷ es) → (x : Action) → action (replace s e.0) (replace s e.1) ≡ x → KeptBy n s es x
  kept s fine e es all x is = keeps n s fine es (replace s e.0) (replace s e.1) (instance_at s s fine.idempotent e.0) (instance_at s s fine.idempotent e.1) (within-replace n s fine.within e.0 all.0) (within-replace n s fine.within e.1 all.1) all.2 x (subst (Means (replace s e.0) (replace s e.1)) is (meant (replace s e.0) (replace s e.1)))

  pub led : (s : ℕ → Term) (es : List (Term × Term)) (r : Option (ℕ → Term)) → Leads s es r → IsFine n s → AllWithin n es → (m : ℕ) → unbound_below vars s ≤ m → solution m s es ≡ r
  led _ _ _ (ends s) fine all m few = at m s [] solved (first_elimination-nil s fine.idempotent (left_symbols s [])) (Some s) (λ rest. refl)
  led _ _ _ (skips s e es r is on) fine all m few = same_found m s (e ∷ es) es (cons s fine e es trivial is) ∙ led s es r on fine all.2 m few
  led _ _ _ (binds s e es r v t is on) fine all m few =
      let k = kept s fine e es all (eliminate v t) is in
      bound_led m s e es v t fine k is few r (led (bind v t s) es r on (bind_fine n s v t fine k) all.2)
    where
      bound_led : (m : ℕ) (s : ℕ → Term) (e : Term × Term) (es : List (Term × Term)) (v : ℕ) (t : Term) → IsFine n s → CanBind n s v t → action (replace s e.0) (replace s e.1) ≡ eliminate v t → unbound_below vars s ≤ m → (r : Option (ℕ → Term)) → ((m : ℕ) → unbound_below vars (bind v t s) ≤ m → solution m (bind v t s) es ≡ r) → solution m s (e ∷ es) ≡ r
      bound_led zero s e es v t fine can is few r h = absurd (omega (arith, bind_fewer vars n s v t fine can (below v can.inside)))
      bound_led (suc m) s e es v t fine can is few r h = ap (bind_next (solution m) s) (cons s fine e es (eliminate v t) is) ∙ h m (omega (arith, bind_fewer vars n s v t fine can (below v can.inside)))
  led _ _ _ (splits s e es r more is on) fine all m few = same_found m s (e ∷ es) (more ++ es) (cons s fine e es (decompose more) is) ∙ led s (more ++ es) r on fine (kept s fine e es all (decompose more) is) m few
  led _ _ _ (fails s e es is) fine all m few = at m s (e ∷ es) unsolvable (cons s fine e es clash is) None (λ rest. refl)

pub leads_only : (n : ℕ) (a b : Term) → ((v : ℕ) → in_either a b v ≡ true → v < n) → (r : Option (ℕ → Term)) → Leads Var ((a, b) ∷ []) r → solution n Var ((a, b) ∷ []) ≡ r
leads_only n a b below r h = led n (in_either a b) below Var ((a, b) ∷ []) r h (at_first (in_either a b)) (left_within a b, right_within a b, tt) n (all_unbound n)
