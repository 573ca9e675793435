-- Tallies while two terms are walked side by side.
use Rattle.std.proofs.Common.{◌≡◌, ℕ, ◌+◌, ◌-◌, ◌≤◌, ◌<◌, Bool, List, [], ◌∷◌, ◌++◌, length, get_or, take, drop, fold, map, sum, sym, ap, subst, ◌∙◌, arith, zero-add}
use Rattle.std.specs.List.{flat_map}
use Rattle.std.proofs.Math.Seq.{take-length}
use Rattle.std.proofs.lemmas.List.Sums.{sum_by-cons}
use Rattle.spl_terms.specs.declared.term.Symbol.{Symbol}
use Rattle.spl_terms.specs.declared.term.Term.{Term, App}
use Rattle.spl_terms.specs.Terms.{term_symbols, term_variables}
use Rattle.spl_terms.specs.TermLaws.{term_symbols-App, term_variables-App}
use Rattle.kbo.specs.declared.side.Side.TheVariants.{Left, Right}
use Rattle.kbo.specs.Tallies.{rebalanced, met_beyond, on_left, on_right, IsEven, IsTally, TalliesTerms, TalliesLists}
use Rattle.kbo.proofs.TallyLemmas.{even_tally, left_counted, right_counted}

-- a tally after more was counted on the left and then on the right
pub more_counted : (n : ℕ) (bs : List ℕ) (z : Bool) (l r : ℕ) (vs ws : List ℕ) (a b : ℕ) → IsTally n bs z l r vs ws a b → length bs ≡ n
    → (xs ys : List ℕ) (x y : ℕ) → length xs ≤ x → length ys ≤ y → b + y ≤ 4294967295
    → (cs : List ℕ) (z1 : Bool) (l1 r1 : ℕ) → length cs ≡ n → cs ≡ fold (rebalanced Left) bs xs → z1 ≡ fold (met_beyond n) z xs → l1 ≡ l + on_left Left x → r1 ≡ r + on_right Left x
    → (ds : List ℕ) (z2 : Bool) (l2 r2 : ℕ) → ds ≡ fold (rebalanced Right) cs ys → z2 ≡ fold (met_beyond n) z1 ys → l2 ≡ l1 + on_left Right y → r2 ≡ r1 + on_right Right y
    → IsTally n ds z2 l2 r2 (vs ++ xs) (ws ++ ys) (a + x) (b + y)
more_counted n bs z l r vs ws a b t size xs ys x y few few' room cs z1 l1 r1 size' e1 e2 e3 e4 ds z2 l2 r2 d1 d2 d3 d4 =
    let p : IsTally n cs z1 l1 r1 (vs ++ xs) ws (a + x) b = transported n _ _ _ _ _ _ _ _ (left_counted n bs z l r vs ws a b t size xs x few) cs z1 l1 r1 e1 e2 e3 (omega arith) in
    transported n _ _ _ _ _ _ _ _ (right_counted n cs z1 l1 r1 (vs ++ xs) ws (a + x) b p size' ys y few' room) ds z2 l2 r2 d1 d2 (omega arith) d4
  where
    transported : (n : ℕ) (bs : List ℕ) (z : Bool) (l r : ℕ) (vs ws : List ℕ) (a b : ℕ) → IsTally n bs z l r vs ws a b → (cs : List ℕ) (y : Bool) (k q : ℕ) → cs ≡ bs → y ≡ z → k ≡ l → q ≡ r → IsTally n cs y k q vs ws a b
    transported n bs z l r vs ws a b t cs y k q e1 e2 e3 e4 = subst (λ (s : List ℕ × Bool × ℕ × ℕ). IsTally n s.0 s.1 s.2 s.3 vs ws a b) (λ i. (sym e1 i, sym e2 i, sym e3 i, sym e4 i)) t

-- a tally of nothing after both sides were counted
pub both_counted : (n : ℕ) (bs : List ℕ) (z : Bool) (l r : ℕ) → IsEven n bs z l r → length bs ≡ n
    → (xs ys : List ℕ) (x y : ℕ) → length xs ≤ x → length ys ≤ y → y ≤ 4294967295
    → (cs : List ℕ) (z1 : Bool) (l1 r1 : ℕ) → length cs ≡ n → cs ≡ fold (rebalanced Left) bs xs → z1 ≡ fold (met_beyond n) z xs → l1 ≡ l + on_left Left x → r1 ≡ r + on_right Left x
    → (ds : List ℕ) (z2 : Bool) (l2 r2 : ℕ) → ds ≡ fold (rebalanced Right) cs ys → z2 ≡ fold (met_beyond n) z1 ys → l2 ≡ l1 + on_left Right y → r2 ≡ r1 + on_right Right y
    → IsTally n ds z2 l2 r2 xs ys x y
both_counted n bs z l r even size xs ys x y few few' room cs z1 l1 r1 size' e1 e2 e3 e4 ds z2 l2 r2 d1 d2 d3 d4 =
    subst (λ (s : ℕ × ℕ). IsTally n ds z2 l2 r2 xs ys s.0 s.1) (λ i. (zero-add x i, zero-add y i))
    (more_counted n bs z l r [] [] 0 0 (even_tally n bs z l r even) size xs ys x y few few' (omega arith) cs z1 l1 r1 size' e1 e2 e3 e4 ds z2 l2 r2 d1 d2 d3 d4)

-- the tally of the arguments is that of the applications
pub tally_apps : (n : ℕ) (bs : List ℕ) (z : Bool) (l r : ℕ) (f g : Symbol) (ss ts : List Term) → TalliesLists n bs z l r ss ts → TalliesTerms n bs z l r (App f ss) (App g ts)
tally_apps n bs z l r f g ss ts t =
    subst (λ (s : List ℕ × List ℕ × ℕ × ℕ). IsTally n bs z l r s.0 s.1 s.2 s.3)
    (λ i. (sym (term_variables-App f ss) i, sym (term_variables-App g ts) i, sym (term_symbols-App f ss) i, sym (term_symbols-App g ts) i))
    (record {
      each = t.each;
      others = t.others;
      weights = omega (arith, t.weights);
      left_within = omega (arith, t.left_within);
      right_within = omega (arith, t.right_within);
      few_left = omega (arith, t.few_left);
      few_right = omega (arith, t.few_right);
    })

-- the weights of a list by its first term and the rest
pub tally_cons : (n : ℕ) (bs : List ℕ) (z : Bool) (l r : ℕ) (s t : Term) (ss ts : List Term) → IsTally n bs z l r (term_variables s ++ flat_map term_variables ss) (term_variables t ++ flat_map term_variables ts) (term_symbols s + sum (map term_symbols ss)) (term_symbols t + sum (map term_symbols ts)) → TalliesLists n bs z l r (s ∷ ss) (t ∷ ts)
tally_cons n bs z l r s t ss ts h =
    subst (λ (w : ℕ × ℕ). IsTally n bs z l r (flat_map term_variables (s ∷ ss)) (flat_map term_variables (t ∷ ts)) w.0 w.1)
    (λ i. (sym (sum_by-cons (λ n. n) (term_symbols s) (map term_symbols ss)) i, sym (sum_by-cons (λ n. n) (term_symbols t) (map term_symbols ts)) i))
    h

-- a list by its first item and the rest
pub opened : (ts : List Term) (x : Term) → 0 < length ts → x ≡ get_or ts 0 x → ts ≡ x ∷ take (length ts - 1) (drop 1 ts)
opened [] x h e = absurd (omega arith)
opened (t ∷ ts) x h e = λ i. sym e i ∷ (sym (take-length ts) ∙ ap (λ n. take n ts) (one_less ts)) i
  where
    one_less : (ts : List Term) → length ts ≡ length (t ∷ ts) - 1
    one_less ts = omega arith

-- the same of two lists
pub tally_lists : (n : ℕ) (bs : List ℕ) (z : Bool) (l r : ℕ) (ss ts : List Term) (s t : Term) (rest more : List Term) → ss ≡ s ∷ rest → ts ≡ t ∷ more → IsTally n bs z l r (term_variables s ++ flat_map term_variables rest) (term_variables t ++ flat_map term_variables more) (term_symbols s + sum (map term_symbols rest)) (term_symbols t + sum (map term_symbols more)) → TalliesLists n bs z l r ss ts
tally_lists n bs z l r ss ts s t rest more e h u = subst (λ (p : List Term × List Term). TalliesLists n bs z l r p.0 p.1) (λ i. (sym e i, sym h i)) (tally_cons n bs z l r s t rest more u)

pub room_in : (t : Term) (ts us : List Term) → us ≡ t ∷ ts → sum (map term_symbols us) ≤ 4294967295 → term_symbols t + sum (map term_symbols ts) ≤ 4294967295
room_in t ts us e h = omega (arith, sum_by-cons (λ n. n) (term_symbols t) (map term_symbols ts), ap (λ l. sum (map term_symbols l)) e)

-- what was counted of the arguments that are lent
pub tally_terms : (n : ℕ) (bs : List ℕ) (z : Bool) (l r : ℕ) (f g : Symbol) (ss ts us ws : List Term) (s t : Term) → s ≡ App f ss → t ≡ App g ts → us ≡ ss → ws ≡ ts → TalliesLists n bs z l r us ws → TalliesTerms n bs z l r s t
tally_terms n bs z l r f g ss ts us ws s t e h p q u =
    subst (λ (x : Term × Term). TalliesTerms n bs z l r x.0 x.1) (λ i. (sym e i, sym h i))
    (tally_apps n bs z l r f g ss ts (subst (λ (x : List Term × List Term). TalliesLists n bs z l r x.0 x.1) (λ i. (p i, q i)) u))
