-- Laws with their proofs, not definitions that a reader must believe: the equations of the order on terms, and that of two
-- terms at most one is greater.
use Rattle.std.proofs.Common.{◌≡◌, ℕ, suc, ◌<◌, Bool, true, false, ◌&&◌, ◌||◌, ◌==◌, nat_lt, if◌then◌else◌, List, [], ◌∷◌, length, map, refl, sym, ap, ◌∙◌, arith}
use Rattle.std.proofs.Common.{eq-eqb}
use Rattle.std.proofs.Math.Bool.{and-true, and-false}
use Rattle.std.proofs.lemmas.Bool.{ltb-true, ltb-false, lt-ltb, le-ltb, false≢true, and_parts, ne_eqb}
use Rattle.spl_terms.specs.declared.term.Kind.{Kind}
use Rattle.spl_terms.specs.declared.term.Kind.TheVariants.{Function, Predicate, Sort}
use Rattle.spl_terms.specs.declared.term.Symbol.{Symbol}
use Rattle.spl_terms.specs.declared.term.Term.{Term, Var, App, out-Term, para-roll-Term}
use Rattle.spl_terms.specs.declared.term.Term.TheOpen as layer
use Rattle.spl_terms.specs.declared.term.Term.TheViews.{outs-Var, outs-App, rolls-Var, rolls-App}
use Rattle.spl_terms.specs.Terms.{term_symbols, term_eq, symbol_eq, kind_eq}
use Rattle.spl_terms.specs.TermLaws.{Each, term_induction, term_eq-true, term_eq-refl}
use Rattle.spl_truth.specs.Orders.{kind_rank, is_greater_head, meets_variable_condition, first_differing, is_greater_at, by_weight, greater_step, is_greater}

-- ---- the equations

-- of two lists side by side the first term that differs is greater than the other
abbrev pub first_greater : List Term → List Term → Bool
first_greater [] ts = false
first_greater (s ∷ ss) [] = false
first_greater (s ∷ ss) (t ∷ ts) = if term_eq s t then first_greater ss ts else is_greater s t

pub is_greater-Var : (v : ℕ) (t : Term) → is_greater (Var v) t ≡ false
is_greater-Var v t =
    ap (λ s. is_greater s t) (sym (rolls-Var v)) ∙ ap (λ (h : Term → Bool). h t) (para-roll-Term (Term → Bool) greater_step (layer.Var v))

abbrev paired : List Term → List (Term × (Term → Bool))
paired = map (λ y. (y, is_greater y))

firsts : (ss : List Term) → map (λ (p : Term × (Term → Bool)). p.0) (paired ss) ≡ ss
firsts [] = refl
firsts (s ∷ ss) = ap (λ l. s ∷ l) (firsts ss)

length-paired : (ss : List Term) → length (paired ss) ≡ length ss
length-paired [] = refl
length-paired (s ∷ ss) = ap suc (length-paired ss)

first-paired : (ss ts : List Term) → first_differing (paired ss) ts ≡ first_greater ss ts
first-paired [] ts = refl
first-paired (s ∷ ss) [] = refl
first-paired (s ∷ ss) (t ∷ ts) = ap (λ b. if term_eq s t then b else is_greater s t) (first-paired ss ts)

is_greater-App : (f : Symbol) (ss : List Term) (t : Term) → is_greater (App f ss) t ≡ by_weight (App f ss) t (is_greater_at f (paired ss) (out-Term t))
is_greater-App f ss t =
    ap (λ s. is_greater s t) (sym (rolls-App f ss))
    ∙ ap (λ (h : Term → Bool). h t) (para-roll-Term (Term → Bool) greater_step (layer.App f ss))
    ∙ ap (λ l. by_weight (App f l) t (is_greater_at f (paired ss) (out-Term t))) (firsts ss)

pub is_greater-App-Var : (f : Symbol) (ss : List Term) (w : ℕ) → is_greater (App f ss) (Var w) ≡ by_weight (App f ss) (Var w) false
is_greater-App-Var f ss w = is_greater-App f ss (Var w) ∙ ap (λ y. by_weight (App f ss) (Var w) (is_greater_at f (paired ss) y)) (outs-Var w)

-- the same symbol with as many arguments
abbrev pub same_head : Symbol → ℕ → Symbol → ℕ → Bool
same_head f m g n = (m == n) && symbol_eq f g

-- the same head and the first argument that differs
abbrev pub by_arguments : Symbol → List Term → Symbol → List Term → Bool
by_arguments f ss g ts = same_head f (length ss) g (length ts) && first_greater ss ts

pub is_greater-App-App : (f : Symbol) (ss : List Term) (g : Symbol) (ts : List Term) → is_greater (App f ss) (App g ts) ≡ by_weight (App f ss) (App g ts) (is_greater_head f (length ss) g (length ts) || by_arguments f ss g ts)
is_greater-App-App f ss g ts =
    is_greater-App f ss (App g ts)
    ∙ ap (λ y. by_weight (App f ss) (App g ts) (is_greater_at f (paired ss) y)) (outs-App g ts)
    ∙ (λ i. by_weight (App f ss) (App g ts) (is_greater_head f (length-paired ss i) g (length ts) || (((length-paired ss i == length ts) && symbol_eq f g) && first-paired ss ts i)))

-- ---- weights

pub heavier : (s t : Term) (o : Bool) → term_symbols t < term_symbols s → by_weight s t o ≡ meets_variable_condition s t
heavier s t o h = ap (λ b. meets_variable_condition s t && (b || ((term_symbols s == term_symbols t) && o))) (lt-ltb _ _ h) ∙ and-true (meets_variable_condition s t)

pub lighter : (s t : Term) (o : Bool) → term_symbols s < term_symbols t → by_weight s t o ≡ false
lighter s t o h =
    let ne : term_symbols s ≡ term_symbols t → ⊥ = λ e. omega arith in
    (λ i. meets_variable_condition s t && (le-ltb (term_symbols t) (term_symbols s) (omega arith) i || (ne_eqb _ _ ne i && o))) ∙ and-false (meets_variable_condition s t)

pub balanced : (s t : Term) (o : Bool) → term_symbols s ≡ term_symbols t → by_weight s t o ≡ (meets_variable_condition s t && o)
balanced s t o e = λ i. meets_variable_condition s t && (le-ltb (term_symbols t) (term_symbols s) (omega arith) i || (eq-eqb _ _ e i && o))

-- ---- heads

-- two heads are the same, or the one is greater and not the other
pub data HeadCases (same greater less : Bool) : Type 0 where
  alike : same ≡ true → greater ≡ false → less ≡ false → HeadCases same greater less
  first : same ≡ false → greater ≡ true → less ≡ false → HeadCases same greater less
  second : same ≡ false → greater ≡ false → less ≡ true → HeadCases same greater less

kind_cases : (k l : Kind) → HeadCases (kind_eq k l) (nat_lt (kind_rank l) (kind_rank k)) (nat_lt (kind_rank k) (kind_rank l))
kind_cases Function Function = alike refl refl refl
kind_cases Function Predicate = second refl refl refl
kind_cases Function Sort = second refl refl refl
kind_cases Predicate Function = first refl refl refl
kind_cases Predicate Predicate = alike refl refl refl
kind_cases Predicate Sort = second refl refl refl
kind_cases Sort Function = first refl refl refl
kind_cases Sort Predicate = first refl refl refl
kind_cases Sort Sort = alike refl refl refl

-- the same where numbers decide first
by_number : (x y : ℕ) (s g l : Bool) → HeadCases s g l → HeadCases ((x == y) && s) (nat_lt y x || ((x == y) && g)) (nat_lt x y || ((y == x) && l))
by_number x y s g l cases = by_test (nat_lt x y) (nat_lt y x) refl refl
  where
    at_equal : x ≡ y → HeadCases ((x == y) && s) (nat_lt y x || ((x == y) && g)) (nat_lt x y || ((y == x) && l))
    at_equal e =
        let same : (x == y) ≡ true = eq-eqb x y e in
        let turned : (y == x) ≡ true = eq-eqb y x (sym e) in
        let up : nat_lt y x ≡ false = le-ltb y x (omega arith) in
        let down : nat_lt x y ≡ false = le-ltb x y (omega arith) in
        elim cases [
          | alike p q r ↦ alike (λ i. same i && p i) (λ i. up i || (same i && q i)) (λ i. down i || (turned i && r i))
          | first p q r ↦ first (λ i. same i && p i) (λ i. up i || (same i && q i)) (λ i. down i || (turned i && r i))
          | second p q r ↦ second (λ i. same i && p i) (λ i. up i || (same i && q i)) (λ i. down i || (turned i && r i))
        ]

    by_test : (a b : Bool) → nat_lt x y ≡ a → nat_lt y x ≡ b → HeadCases ((x == y) && s) (nat_lt y x || ((x == y) && g)) (nat_lt x y || ((y == x) && l))
    by_test true b p q =
        let lt : x < y = ltb-true x y p in
        let ne : (x == y) ≡ false = ne_eqb x y (λ e. omega arith) in
        let up : nat_lt y x ≡ false = le-ltb y x (omega arith) in
        second (λ i. ne i && s) (λ i. up i || (ne i && g)) (λ i. p i || ((y == x) && l))
    by_test false true p q =
        let lt : y < x = ltb-true y x q in
        let ne : (x == y) ≡ false = ne_eqb x y (λ e. omega arith) in
        let ne' : (y == x) ≡ false = ne_eqb y x (λ e. omega arith) in
        first (λ i. ne i && s) (λ i. q i || ((x == y) && g)) (λ i. p i || (ne' i && l))
    by_test false false p q = at_equal (omega (arith, ltb-false x y p, ltb-false y x q))

pub head_cases : (f : Symbol) (m : ℕ) (g : Symbol) (n : ℕ) → HeadCases (same_head f m g n) (is_greater_head f m g n) (is_greater_head g n f m)
head_cases f m g n = by_number m n _ _ _ (by_number f.number g.number _ _ _ (kind_cases f.kind g.kind))

-- ---- of two terms at most one is greater

pub term_eq-sym : (s t : Term) → term_eq s t ≡ term_eq t s
term_eq-sym s t = by_test (term_eq s t) (term_eq t s) refl refl
  where
    by_test : (a b : Bool) → term_eq s t ≡ a → term_eq t s ≡ b → a ≡ b
    by_test true true p q = refl
    by_test false false p q = refl
    by_test true false p q = let e = term_eq-true s t p in absurd (false≢true (sym q ∙ ap (λ x. term_eq t x) e ∙ term_eq-refl t))
    by_test false true p q = let e = term_eq-true t s q in absurd (false≢true (sym p ∙ ap (λ x. term_eq s x) e ∙ term_eq-refl s))

abbrev pub Asymmetric : Term → Type 0
Asymmetric s = (t : Term) → is_greater s t ≡ true → is_greater t s ≡ false

first_asymmetric : (ss : List Term) → Each Asymmetric ss → (ts : List Term) → first_greater ss ts ≡ true → first_greater ts ss ≡ false
first_asymmetric [] each ts e = absurd (false≢true e)
first_asymmetric (s ∷ ss) each [] e = refl
first_asymmetric (s ∷ ss) each (t ∷ ts) e = by_test (term_eq s t) (term_eq t s) (term_eq-sym s t) (first_asymmetric ss each.1 ts) e
  where
    by_test : (a b : Bool) → a ≡ b → (first_greater ss ts ≡ true → first_greater ts ss ≡ false) → (if a then first_greater ss ts else is_greater s t) ≡ true → (if b then first_greater ts ss else is_greater t s) ≡ false
    by_test true true p below q = below q
    by_test false false p below q = each.0 t q
    by_test true false p below q = absurd (false≢true (sym p))
    by_test false true p below q = absurd (false≢true p)

-- where what decides one way doesn't decide the other way
not_both : (s t : Term) (o p : Bool) → (o ≡ true → p ≡ false) → by_weight s t o ≡ true → by_weight t s p ≡ false
not_both s t o p excludes e = by_test (nat_lt (term_symbols s) (term_symbols t)) (nat_lt (term_symbols t) (term_symbols s)) refl refl
  where
    by_test : (a b : Bool) → nat_lt (term_symbols s) (term_symbols t) ≡ a → nat_lt (term_symbols t) (term_symbols s) ≡ b → by_weight t s p ≡ false
    by_test true b x y = absurd (false≢true (sym (lighter s t o (ltb-true _ _ x)) ∙ e))
    by_test false true x y = lighter t s p (ltb-true _ _ y)
    by_test false false x y =
        let same : term_symbols s ≡ term_symbols t = omega (arith, ltb-false _ _ x, ltb-false _ _ y) in
        let r : (meets_variable_condition s t ≡ true) × (o ≡ true) = and_parts _ _ (sym (balanced s t o same) ∙ e) in
        balanced t s p (sym same) ∙ ap (λ b. meets_variable_condition t s && b) (excludes r.1) ∙ and-false (meets_variable_condition t s)

-- heads and arguments exclude each other
head_excludes : (f : Symbol) (ss : List Term) (g : Symbol) (ts : List Term) → (first_greater ss ts ≡ true → first_greater ts ss ≡ false) → (is_greater_head f (length ss) g (length ts) || by_arguments f ss g ts) ≡ true → (is_greater_head g (length ts) f (length ss) || by_arguments g ts f ss) ≡ false
head_excludes f ss g ts below e = by_cases _ _ _ _ (head_cases f (length ss) g (length ts)) (head_cases g (length ts) f (length ss)) _ _ below e
  where
    by_cases : (a a' b c : Bool) → HeadCases a b c → HeadCases a' c b → (x y : Bool) → (x ≡ true → y ≡ false) → (b || (a && x)) ≡ true → (c || (a' && y)) ≡ false
    by_cases a a' b c (alike p q r) other x y h k =
        let z : y ≡ false = h (sym (λ i. q i || (p i && x)) ∙ k) in
        (λ i. r i || (a' && z i)) ∙ and-false a'
    by_cases a a' b c (first p q r) (alike p' q' r') x y h k = absurd (false≢true (sym r' ∙ q))
    by_cases a a' b c (first p q r) (first p' q' r') x y h k = absurd (false≢true (sym r ∙ q'))
    by_cases a a' b c (first p q r) (second p' q' r') x y h k = λ i. r i || (p' i && y)
    by_cases a a' b c (second p q r) other x y h k = absurd (false≢true (sym (λ i. q i || (p i && x)) ∙ k))

pub asymmetric : (s : Term) → Asymmetric s
asymmetric =
    term_induction Asymmetric
    (λ v t e. absurd (false≢true (sym (is_greater-Var v t) ∙ e)))
    (λ f ss each. term_induction (λ t. is_greater (App f ss) t ≡ true → is_greater t (App f ss) ≡ false)
    (λ w e. is_greater-Var w (App f ss))
    (λ g ts _ e.
    is_greater-App-App g ts f ss
    ∙ not_both (App f ss) (App g ts) _ _ (head_excludes f ss g ts (first_asymmetric ss each ts)) (sym (is_greater-App-App f ss g ts) ∙ e)))

all_asymmetric : (ss : List Term) → Each Asymmetric ss
all_asymmetric [] = tt
all_asymmetric (s ∷ ss) = (asymmetric s, all_asymmetric ss)

pub lists_asymmetric : (ss ts : List Term) → first_greater ss ts ≡ true → first_greater ts ss ≡ false
lists_asymmetric ss ts = first_asymmetric ss (all_asymmetric ss) ts
