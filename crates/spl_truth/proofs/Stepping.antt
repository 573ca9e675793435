-- What the code does with one equation.
use Rattle.std.proofs.Common.{◌≡◌, ℕ, zero, suc, ◌+◌, ◌≤◌, List, [], ◌∷◌, ◌++◌, refl, sym, arith}
use Rattle.spl_terms.specs.declared.term.Term.{Term}
use Rattle.spl_terms.specs.Terms.{term_symbols, replace}
use Rattle.spl_terms.specs.TermLaws.{term_symbols-positive}
use Rattle.spl_truth.specs.Unifiers.{Action, trivial, eliminate, decompose, clash, action, Found, solved, go_on, next_elimination, first_elimination, left_symbols, IsIdempotent}
use Rattle.spl_truth.proofs.Actions.{Means, meant}
use Rattle.spl_truth.specs.BindingLaws.{instance_at, left-append, left-cons}
use Rattle.spl_truth.proofs.Unifying.{left-split}

module _ (s : ℕ → Term) (idempotent : IsIdempotent s) where
  twice : (t : Term) → replace s (replace s t) ≡ replace s t
  twice = instance_at s s idempotent

  -- ---- more steps than are needed change nothing

  same_step : (k : ℕ) (one other : List (Term × Term) → Found) → ((es : List (Term × Term)) → left_symbols s es ≤ k → one es ≡ other es) → (es : List (Term × Term)) (a b : Term) → replace s a ≡ a → term_symbols a + left_symbols s es ≤ suc k → (x : Action) → Means a b x → go_on one es x ≡ go_on other es x
  same_step k one other all es a b same few trivial h = all es (omega (arith, term_symbols-positive a))
  same_step k one other all es a b same few (eliminate v t) h = refl
  same_step k one other all es a b same few (decompose more) h = all (more ++ es) (omega (arith, left-append s more es, left-split s a b more h same))
  same_step k one other all es a b same few clash h = refl

  steps_enough : (k m : ℕ) (es : List (Term × Term)) → left_symbols s es ≤ k → k ≤ m → next_elimination k s es ≡ next_elimination m s es
  steps_enough zero zero [] few le = refl
  steps_enough zero (suc m) [] few le = refl
  steps_enough zero zero (e ∷ es) few le = refl
  steps_enough zero (suc m) (e ∷ es) few le = absurd (omega (arith, left-cons s e es, term_symbols-positive (replace s e.0)))
  steps_enough (suc k) zero es few le = absurd (omega arith)
  steps_enough (suc k) (suc m) [] few le = refl
  steps_enough (suc k) (suc m) (e ∷ es) few le = same_step k (next_elimination k s) (next_elimination m s) (λ fs less. steps_enough k m fs less (omega arith)) es (replace s e.0) (replace s e.1) (twice e.0) (omega (arith, left-cons s e es)) _ (meant (replace s e.0) (replace s e.1))

  by_size : (n : ℕ) (e : Term × Term) (es : List (Term × Term)) → left_symbols s (e ∷ es) ≡ n → next_elimination n s (e ∷ es) ≡ go_on (first_elimination s) es (action (replace s e.0) (replace s e.1))
  by_size zero e es size = absurd (omega (arith, left-cons s e es, term_symbols-positive (replace s e.0)))
  by_size (suc n) e es size = same_step n (next_elimination n s) (first_elimination s) (λ fs less. sym (steps_enough (left_symbols s fs) n fs (omega arith) less)) es (replace s e.0) (replace s e.1) (twice e.0) (omega (arith, left-cons s e es)) _ (meant (replace s e.0) (replace s e.1))

  pub first_elimination-cons : (e : Term × Term) (es : List (Term × Term)) → first_elimination s (e ∷ es) ≡ go_on (first_elimination s) es (action (replace s e.0) (replace s e.1))
  first_elimination-cons e es = by_size (left_symbols s (e ∷ es)) e es refl

  pub first_elimination-nil : (n : ℕ) → next_elimination n s [] ≡ solved
  first_elimination-nil zero = refl
  first_elimination-nil (suc n) = refl
