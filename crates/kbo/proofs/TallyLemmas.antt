-- What counting does to a tally.
use Rattle.std.proofs.Common.{◌≡◌, ℕ, suc, ◌+◌, ◌-◌, ◌≤◌, ◌<◌, Bool, true, false, ◌&&◌, ◌||◌, ◌==◌, nat_lt, nat_le, if◌then◌else◌, List, [], ◌∷◌, ◌++◌, length, get_or, fold, sum_by, arith, refl, sym, ap, ◌∙◌, eq-eqb, get_or-set_same, get_or-set_other, length-append}
use Rattle.std.proofs.lemmas.Bool.{eqb-true, ltb-true, ltb-false, leb-false, lt-ltb, le-ltb, false≢true}
use Rattle.std.proofs.lemmas.List.{length-set}
use Rattle.std.proofs.lemmas.List.Sums.{sum_by-cons, get_or-le-sum_by}
use Rattle.std.proofs.lemmas.Grind.{fold-append}
use Rattle.spl_terms.specs.TermLaws.{term_symbols-Var, term_symbols-App, term_variables-Var, term_variables-App}
use Rattle.kbo.specs.declared.side.Side.{Side}
use Rattle.kbo.specs.declared.side.Side.TheVariants.{Left, Right}
use Rattle.spl_truth.specs.Orders.{times, contains_each}
use Rattle.kbo.specs.declared.order.Order.{Order}
use Rattle.kbo.specs.declared.order.Order.TheVariants.{Greater, Less, Incomparable}
use Rattle.kbo.specs.Comparisons.{decided, judged}
use Rattle.kbo.specs.Tallies.{above, below, raised, lowered, met_beyond, on_left, on_right, is_blind, told, IsEven, IsTally}
use Rattle.spl_terms.specs.BoolLaws.{equally}
use Rattle.kbo.proofs.TimesLemmas.{times-append, times-cons, times-within, contains_at, contains_all}

pub on_left-sum : (s : Side) (a b : ℕ) → on_left s (a + b) ≡ on_left s a + on_left s b
on_left-sum Left a b = refl
on_left-sum Right a b = omega arith

pub on_right-sum : (s : Side) (a b : ℕ) → on_right s (a + b) ≡ on_right s a + on_right s b
on_right-sum Left a b = omega arith
on_right-sum Right a b = refl

pub ruleset counting_laws = (term_symbols-Var, term_symbols-App, term_variables-Var, term_variables-App, fold-append, on_left-sum, on_right-sum)

-- ---- balances after counting

length-raised : (bs : List ℕ) (x : ℕ) → length (raised bs x) ≡ length bs
length-raised bs x = length-set bs x _

length-lowered : (bs : List ℕ) (x : ℕ) → length (lowered bs x) ≡ length bs
length-lowered bs x = length-set bs x _

raised-once : (bs : List ℕ) (x v : ℕ) → v < length bs → get_or (raised bs x) v 0 ≡ get_or bs v 0 + (if v == x then 1 else 0)
raised-once bs x v h = by_test (v == x) refl
  where
    by_test : (b : Bool) → (v == x) ≡ b → get_or (raised bs x) v 0 ≡ get_or bs v 0 + (if b then 1 else 0)
    by_test true e =
        let same : v ≡ x = eqb-true v x e in
        let within : x < length bs = omega arith in
        ap (λ w. get_or (raised bs x) w 0) same ∙ get_or-set_same bs x (get_or bs x 0 + 1) 0 within ∙ ap (λ w. get_or bs w 0 + 1) (sym same)
    by_test false e = get_or-set_other bs x v _ 0 (λ same. false≢true (sym e ∙ eq-eqb v x same)) ∙ omega arith

lowered-once : (bs : List ℕ) (x v : ℕ) → v < length bs → get_or (lowered bs x) v 0 ≡ get_or bs v 0 - (if v == x then 1 else 0)
lowered-once bs x v h = by_test (v == x) refl
  where
    by_test : (b : Bool) → (v == x) ≡ b → get_or (lowered bs x) v 0 ≡ get_or bs v 0 - (if b then 1 else 0)
    by_test true e =
        let same : v ≡ x = eqb-true v x e in
        let within : x < length bs = omega arith in
        ap (λ w. get_or (lowered bs x) w 0) same ∙ get_or-set_same bs x (get_or bs x 0 - 1) 0 within ∙ ap (λ w. get_or bs w 0 - 1) (sym same)
    by_test false e = get_or-set_other bs x v _ 0 (λ same. false≢true (sym e ∙ eq-eqb v x same)) ∙ omega arith

raised-all : (xs bs : List ℕ) (v : ℕ) → v < length bs → get_or (fold raised bs xs) v 0 ≡ get_or bs v 0 + times v xs
raised-all [] bs v h = omega arith
raised-all (x ∷ xs) bs v h =
    omega (arith, raised-all xs (raised bs x) v (omega (arith, length-raised bs x)), raised-once bs x v h, times-cons v x xs)

lowered-all : (xs bs : List ℕ) (v : ℕ) → v < length bs → get_or (fold lowered bs xs) v 0 ≡ get_or bs v 0 - times v xs
lowered-all [] bs v h = omega arith
lowered-all (x ∷ xs) bs v h =
    omega (arith, lowered-all xs (lowered bs x) v (omega (arith, length-lowered bs x)), lowered-once bs x v h, times-cons v x xs)

met_beyond-all : (n : ℕ) (xs : List ℕ) (b : Bool) → fold (met_beyond n) b xs ≡ false → (b ≡ false) × ((v : ℕ) → n ≤ v → times v xs ≡ 0)
met_beyond-all n [] b e = (e, λ v h. refl)
met_beyond-all n (x ∷ xs) b e = by_parts b (nat_le n x) refl (met_beyond-all n xs (met_beyond n b x) e)
  where
    by_parts : (c d : Bool) → nat_le n x ≡ d → (((c || nat_le n x) ≡ false) × ((v : ℕ) → n ≤ v → times v xs ≡ 0)) → (c ≡ false) × ((v : ℕ) → n ≤ v → times v (x ∷ xs) ≡ 0)
    by_parts true d p r = absurd (false≢true (sym r.0))
    by_parts false d p r = (refl, λ v h. at v h (v == x) refl)
      where
        at : (v : ℕ) → n ≤ v → (c : Bool) → (v == x) ≡ c → times v (x ∷ xs) ≡ 0
        at v h true e = let same : v ≡ x = eqb-true v x e in absurd (omega (arith, leb-false n x r.0))
        at v h false e = omega (arith, times-cons v x xs, r.1 v h, ap (λ b. let none : ℕ = 0 in (if b then 1 else none)) e)

-- ---- tallies

module _ (n : ℕ) (bs : List ℕ) (beyond : Bool) (l r : ℕ) where
  pub even_tally : IsEven n bs beyond l r → IsTally n bs beyond l r [] [] 0 0
  even_tally e = record {
    each = λ v h. omega (arith, e.each v h);
    others = λ p v h. refl;
    weights = omega (arith, e.no_left, e.no_right);
    left_within = omega (arith, e.no_left);
    right_within = omega (arith, e.no_right);
    few_left = omega arith;
    few_right = omega arith;
  }

  module _ (vs ws : List ℕ) (a b : ℕ) (t : IsTally n bs beyond l r vs ws a b) (size : length bs ≡ n) where
    pub left_counted : (xs : List ℕ) (x : ℕ) → length xs ≤ x → IsTally n (fold raised bs xs) (fold (met_beyond n) beyond xs) (l + x) r (vs ++ xs) ws (a + x) b
    left_counted xs x few = record {
      each = λ v h. omega (arith, t.each v h, raised-all xs bs v (omega arith), times-append v vs xs);
      others = λ p v h. let q = met_beyond-all n xs beyond p in omega (arith, t.others q.0 v h, q.1 v h, times-append v vs xs);
      weights = omega (arith, t.weights);
      left_within = omega (arith, t.left_within);
      right_within = t.right_within;
      few_left = omega (arith, t.few_left, length-append vs xs);
      few_right = t.few_right;
    }

    pub right_counted : (xs : List ℕ) (x : ℕ) → length xs ≤ x → b + x ≤ 4294967295 → IsTally n (fold lowered bs xs) (fold (met_beyond n) beyond xs) l (r + x) vs (ws ++ xs) a (b + x)
    right_counted xs x few room = record {
      each = λ v h. omega (arith, t.each v h, lowered-all xs bs v (omega arith), times-append v ws xs, times-within v ws, times-within v xs, t.few_right);
      others = λ p v h. let q = met_beyond-all n xs beyond p in omega (arith, t.others q.0 v h, q.1 v h, times-append v ws xs);
      weights = omega (arith, t.weights);
      left_within = t.left_within;
      right_within = omega (arith, t.right_within);
      few_left = t.few_left;
      few_right = omega (arith, t.few_right, length-append ws xs);
    }

  module _ (vs ws : List ℕ) (a b : ℕ) (t : IsTally n bs beyond l r vs ws a b) (e : IsEven n bs beyond l r) where
    even_times : (v : ℕ) → times v vs ≡ times v ws
    even_times v = by_test (nat_lt v n) refl
      where
        by_test : (c : Bool) → nat_lt v n ≡ c → times v vs ≡ times v ws
        by_test true p = omega (arith, t.each v (ltb-true v n p), e.each v (ltb-true v n p))
        by_test false p = t.others e.known v (ltb-false v n p)

    even_weights : a ≡ b
    even_weights = omega (arith, t.weights, e.no_left, e.no_right)

-- what is even before is put before the rest
pub put_before : (n : ℕ) (bs : List ℕ) (beyond : Bool) (l r : ℕ) (vs ws : List ℕ) (a b : ℕ) → IsTally n bs beyond l r vs ws a b → IsEven n bs beyond l r → (cs : List ℕ) (beyond' : Bool) (l' r' : ℕ) (xs ys : List ℕ) (x y : ℕ) → IsTally n cs beyond' l' r' xs ys x y → IsTally n cs beyond' l' r' (vs ++ xs) (ws ++ ys) (a + x) (b + y)
put_before n bs beyond l r vs ws a b t e cs beyond' l' r' xs ys x y u = record {
  each = λ v h. omega (arith, u.each v h, even_times n bs beyond l r vs ws a b t e v, times-append v vs xs, times-append v ws ys);
  others = λ p v h. omega (arith, u.others p v h, even_times n bs beyond l r vs ws a b t e v, times-append v vs xs, times-append v ws ys);
  weights = omega (arith, u.weights, even_weights n bs beyond l r vs ws a b t e);
  left_within = omega (arith, u.left_within);
  right_within = omega (arith, u.right_within);
  few_left = omega (arith, t.few_left, u.few_left, length-append vs xs);
  few_right = omega (arith, t.few_right, u.few_right, length-append ws ys);
}

-- ---- what a tally tells

sum_none : (f : ℕ → ℕ) (xs : List ℕ) → ((i : ℕ) → i < length xs → f (get_or xs i 0) ≡ 0) → sum_by f xs ≡ 0
sum_none f [] h = refl
sum_none f (x ∷ xs) h = omega (arith, sum_by-cons f x xs, h 0 (omega arith), sum_none f xs (λ i k. h (suc i) (omega (arith, k))))

module _ (n : ℕ) (bs : List ℕ) (beyond : Bool) (l r : ℕ) (vs ws : List ℕ) (a b : ℕ) (t : IsTally n bs beyond l r vs ws a b) (size : length bs ≡ n) where
  no_deficit : beyond ≡ false → sum_by below bs ≡ 0 → contains_each vs ws ≡ true
  no_deficit known e = contains_all vs ws (λ v. by_test v (nat_lt v n) refl)
    where
      by_test : (v : ℕ) (c : Bool) → nat_lt v n ≡ c → times v ws ≤ times v vs
      by_test v true p =
          let h : v < n = ltb-true v n p in
          omega (arith, t.each v h, get_or-le-sum_by below bs v 0 (omega arith))
      by_test v false p = omega (arith, t.others known v (ltb-false v n p))

  no_surplus : beyond ≡ false → sum_by above bs ≡ 0 → contains_each ws vs ≡ true
  no_surplus known e = contains_all ws vs (λ v. by_test v (nat_lt v n) refl)
    where
      by_test : (v : ℕ) (c : Bool) → nat_lt v n ≡ c → times v vs ≤ times v ws
      by_test v true p =
          let h : v < n = ltb-true v n p in
          omega (arith, t.each v h, get_or-le-sum_by above bs v 0 (omega arith))
      by_test v false p = omega (arith, t.others known v (ltb-false v n p))

  deficit_none : contains_each vs ws ≡ true → sum_by below bs ≡ 0
  deficit_none e = sum_none below bs (λ v h. omega (arith, t.each v (omega arith), contains_at vs ws e v))

  surplus_none : contains_each ws vs ≡ true → sum_by above bs ≡ 0
  surplus_none e = sum_none above bs (λ v h. omega (arith, t.each v (omega arith), contains_at ws vs e v))

  pub deficit_test : beyond ≡ false → (deficit : ℕ) → deficit ≡ sum_by below bs → (deficit == 0) ≡ contains_each vs ws
  deficit_test known deficit e =
      equally (deficit == 0) (contains_each vs ws)
      (λ h. no_deficit known (sym e ∙ eqb-true deficit 0 h))
      (λ h. eq-eqb deficit 0 (e ∙ deficit_none h))

  pub surplus_test : beyond ≡ false → (surplus : ℕ) → surplus ≡ sum_by above bs → (surplus == 0) ≡ contains_each ws vs
  surplus_test known surplus e =
      equally (surplus == 0) (contains_each ws vs)
      (λ h. no_surplus known (sym e ∙ eqb-true surplus 0 h))
      (λ h. eq-eqb surplus 0 (e ∙ surplus_none h))

-- ---- the weights

by_weights : (c d : Bool) (m n : ℕ) (o : Order) → (x y : Bool) → nat_lt n m ≡ x → nat_lt m n ≡ y → judged c d m n o ≡ (if x then (if c then Greater else Incomparable) else (if y then (if d then Less else Incomparable) else decided c d o))
by_weights c d m n o x y p q = λ i. if p i then (if c then Greater else Incomparable) else (if q i then (if d then Less else Incomparable) else decided c d o)

module _ (l r m n : ℕ) (weights : l + n ≡ r + m) (c d : Bool) (o : Order) where
  pub left_heavier : r < l → judged c d m n o ≡ (if c then Greater else Incomparable)
  left_heavier h = by_weights c d m n o true (nat_lt m n) (lt-ltb n m (omega arith)) refl

  pub right_heavier : l < r → judged c d m n o ≡ (if d then Less else Incomparable)
  right_heavier h = by_weights c d m n o false true (le-ltb n m (omega arith)) (lt-ltb m n (omega arith))

  pub as_heavy : l ≡ r → judged c d m n o ≡ decided c d o
  as_heavy h = by_weights c d m n o false false (le-ltb n m (omega arith)) (le-ltb m n (omega arith))

pub ruleset judging_laws = (left_heavier, right_heavier, as_heavy)

-- ---- tallies that aren't blind

pub never_blind : (beyond : Bool) → is_blind beyond true ≡ false
never_blind true = refl
never_blind false = refl

pub told_known : (beyond walks walked : Bool) (missing : ℕ) → is_blind beyond walks ≡ false → (beyond ≡ false → (missing == 0) ≡ walked) → told beyond walks missing walked ≡ walked
told_known true true walked missing known counted_all = refl
told_known true false walked missing known counted_all = absurd (cc)
told_known false true walked missing known counted_all = counted_all refl
told_known false false walked missing known counted_all = counted_all refl

-- what isn't blind after more was counted wasn't before
pub known_before : (n : ℕ) (walks : Bool) (x y z : Bool) (xs ys : List ℕ) → y ≡ fold (met_beyond n) x xs → z ≡ fold (met_beyond n) y ys → is_blind z walks ≡ false → is_blind x walks ≡ false
known_before n true x y z xs ys e h known = never_blind x
known_before n false x y z xs ys e h known =
    ap (λ b. b && true) (met_beyond-all n xs x (sym e ∙ (met_beyond-all n ys y (sym h ∙ and_true z known)).0)).0
  where
    and_true : (b : Bool) → (b && true) ≡ false → b ≡ false
    and_true true p = p
    and_true false p = refl
