-- What matching finds.
use Rattle.std.proofs.Common.{◌≡◌, ℕ, ◌+◌, ◌≤◌, ◌<◌, Bool, true, false, ◌||◌, ◌==◌, if◌then◌else◌, eq-eqb, List, [], ◌∷◌, ◌++◌, length, map, Some, None, unwrap_or, refl, sym, ap, subst, ◌∙◌, arith}
use Rattle.std.specs.Prelude.{◌*◌, sum, take}
use Rattle.std.proofs.Common.{get_or, zero, suc, add-one}
use Rattle.std.proofs.lemmas.List.{map-append, take-map}
use Rattle.std.proofs.lemmas.List.Folds.{list_any-append}
use Rattle.std.proofs.lemmas.List.Sums.{sum_by-cons}
use Rattle.std.specs.List.{list_any}
use Rattle.std.proofs.lemmas.Bool.{eqb-true, false≢true, or_left, or_right, or_parts}
use Rattle.spl_terms.specs.declared.term.Symbol.{Symbol}
use Rattle.spl_terms.specs.declared.term.Term.{Term, Var, App}
use Rattle.spl_terms.specs.Terms.{symbol_eq, term_eq, term_symbols, replace}
use Rattle.spl_terms.specs.TermLaws.{symbol_eq-refl, symbol_eq-true, term_symbols-App, term_symbols-positive, term_eq-true, term_eq-refl, replace-Var, replace-App}
use Rattle.spl_truth.specs.Truth.{entry}
use Rattle.spl_truth.specs.Unifiers.{occurs, entries_below, HasVariablesBelow, HaveVariablesBelow}
use Rattle.spl_truth.specs.Matching.{IsMatcher, HasNoMatcher}
use Rattle.spl_truth.specs.OccurrenceLaws.{same_arguments, occurs-Var, occurs-App}
use Rattle.spl_truth.specs.EntryLaws.{length-entries_below, entry-entries_below}
use Rattle.unify.specs.Below.{AllBelow}
use Rattle.unify.specs.Bindings.{bound_to, filled}
use Rattle.unify.specs.Matches.{Agrees, IsFound, FoundOrNot, IsExtended}
use Rattle.unify.proofs.BelowLemmas.{below_from, below_to, are_below_from, are_below_to, arguments_below}

-- ---- one variable

pub found_before : (made : List (ℕ × Term)) (v : ℕ) (x t : Term) (ok : Bool) → bound_to made v ≡ Some x → ok ≡ term_eq x t → FoundOrNot (λ g. g v ≡ t) (λ w. w == v) made made ok
found_before made v x t true e test =
    let same : x ≡ t = term_eq-true x t (sym test) in
    record { onward = λ g a _. a; old_kept = λ g a. a; done = λ g a. a v x e ∙ same; others = λ w other. refl }
found_before made v x t false e test = λ g a is. false≢true (test ∙ ap (λ y. term_eq y t) (sym (a v x e) ∙ is) ∙ term_eq-refl t)

module _ (made : List (ℕ × Term)) (v : ℕ) (t : Term) (e : bound_to made v ≡ None) where
  new_agrees : (g : ℕ → Term) → Agrees g made → g v ≡ t → Agrees g ((v, t) ∷ made)
  new_agrees g a is w x here = by_test (w == v) refl here
    where
      by_test : (b : Bool) → (w == v) ≡ b → (if b then Some t else bound_to made w) ≡ Some x → g w ≡ x
      by_test true same h = let r : t ≡ x = cc in ap g (eqb-true w v same) ∙ is ∙ r
      by_test false other h = a w x h

  old_agrees : (g : ℕ → Term) → Agrees g ((v, t) ∷ made) → Agrees g made
  old_agrees g a w x here = a w x (by_test (w == v) refl)
    where
      by_test : (b : Bool) → (w == v) ≡ b → (if b then Some t else bound_to made w) ≡ Some x
      by_test true same = let q : None ≡ Some x = sym e ∙ ap (bound_to made) (sym (eqb-true w v same)) ∙ here in absurd (cc)
      by_test false other = here

  pub found_now : IsFound (λ g. g v ≡ t) (λ w. w == v) made ((v, t) ∷ made)
  found_now = record {
    onward = new_agrees;
    old_kept = old_agrees;
    done = λ g a. a v t (ap (λ b. if b then Some t else bound_to made v) (eq-eqb v v refl));
    others = λ w other. ap (λ b. if b then Some t else bound_to made w) other;
  }

pub bound_now : (made made' : List (ℕ × Term)) (v : ℕ) (t : Term) → bound_to made v ≡ None → made' ≡ (v, t) ∷ made → IsFound (λ g. g v ≡ t) (λ w. w == v) made made'
bound_now made made' v t e is = subst (IsFound (λ g. g v ≡ t) (λ w. w == v) made) (sym is) (found_now made v t e)

-- ---- bindings that grow

pub extended_not : (b : ℕ × List (ℕ × Term)) → IsExtended b b
extended_not b = record { as_many = refl; more = []; made = refl }

pub extended_once : (b b' : ℕ × List (ℕ × Term)) (v : ℕ) (t : Term) → b' ≡ (b.0, (v, t) ∷ b.1) → IsExtended b b'
extended_once b b' v t is = record { as_many = ap (λ (x : ℕ × List (ℕ × Term)). x.0) is; more = (v, t) ∷ []; made = ap (λ (x : ℕ × List (ℕ × Term)). x.1) is }

pub extended_twice : (b b' b'' : ℕ × List (ℕ × Term)) → IsExtended b b' → IsExtended b' b'' → IsExtended b b''
extended_twice b b' b'' h k = record {
  as_many = k.as_many ∙ h.as_many;
  more = k.more ++ h.more;
  made = k.made ∙ ap (λ l. k.more ++ l) h.made ∙ sym (append_assoc k.more h.more b.1);
}
  where
    append_assoc : (xs ys zs : List (ℕ × Term)) → (xs ++ ys) ++ zs ≡ xs ++ (ys ++ zs)
    append_assoc [] ys zs = refl
    append_assoc (x ∷ xs) ys zs = ap (λ l. x ∷ l) (append_assoc xs ys zs)

-- ---- what is asked, in other words

pub found_as : (asked asked' : (ℕ → Term) → Type 0) (inside inside' : ℕ → Bool) (old new : List (ℕ × Term)) (ok : Bool) → ((g : ℕ → Term) → asked g → asked' g) → ((g : ℕ → Term) → asked' g → asked g) → ((v : ℕ) → inside' v ≡ inside v) → FoundOrNot asked inside old new ok → FoundOrNot asked' inside' old new ok
found_as asked asked' inside inside' old new true to from same h = record {
  onward = λ g a is. h.onward g a (from g is);
  old_kept = h.old_kept;
  done = λ g a. to g (h.done g a);
  others = λ v no. h.others v (sym (same v) ∙ no);
}
found_as asked asked' inside inside' old new false to from same h = λ g a is. h g a (from g is)

pub found_both : (one other : (ℕ → Term) → Type 0) (inside inside' : ℕ → Bool) (old mid new : List (ℕ × Term)) (ok : Bool) → IsFound one inside old mid → FoundOrNot other inside' mid new ok → FoundOrNot (λ g. one g × other g) (λ v. inside v || inside' v) old new ok
found_both one other inside inside' old mid new true h k = record {
  onward = λ g a is. k.onward g (h.onward g a is.0) is.1;
  old_kept = λ g a. h.old_kept g (k.old_kept g a);
  done = λ g a. (h.done g (k.old_kept g a), k.done g a);
  others = λ v no. let p = or_parts _ _ no in k.others v p.1 ∙ h.others v p.0;
}
found_both one other inside inside' old mid new false h k = λ g a is. k g (h.onward g a is.0) is.1

-- ---- terms

pub match_Var : (v : ℕ) (p t : Term) (old new : List (ℕ × Term)) (ok : Bool) → p ≡ Var v → FoundOrNot (λ g. g v ≡ t) (λ w. w == v) old new ok → FoundOrNot (λ g. replace g p ≡ t) (λ w. occurs w p) old new ok
match_Var v p t old new ok is = found_as _ _ _ _ old new ok (λ g e. ap (replace g) is ∙ replace-Var g v ∙ e) (λ g e. sym (ap (replace g) is ∙ replace-Var g v) ∙ e) (λ w. ap (occurs w) is ∙ occurs-Var w v)

pub match_App : (p t : Term) (f h : Symbol) (ss ts : List Term) (old new : List (ℕ × Term)) (ok : Bool) → p ≡ App f ss → t ≡ App h ts → symbol_eq f h ≡ true → FoundOrNot (λ g. map (replace g) ss ≡ ts) (λ w. list_any (occurs w) ss) old new ok → FoundOrNot (λ g. replace g p ≡ t) (λ w. occurs w p) old new ok
match_App p t f h ss ts old new ok is is' alike =
    let same : f ≡ h = symbol_eq-true f h alike in
    found_as _ _ _ _ old new ok
    (λ g e. ap (replace g) is ∙ replace-App g f ss ∙ (λ i. App (same i) (e i)) ∙ sym is')
    (λ g e. same_arguments _ _ _ _ (sym (replace-App g f ss) ∙ ap (replace g) (sym is) ∙ e ∙ is'))
    (λ w. ap (occurs w) is ∙ occurs-App w f ss)

-- ---- the whole

pub matched : (vars : ℕ) (p t : Term) (made : List (ℕ × Term)) (entries : List Term) → AllBelow vars (λ v. occurs v p) → entries ≡ entries_below vars (filled made) → IsFound (λ g. replace g p ≡ t) (λ w. occurs w p) [] made → IsMatcher vars p t entries
matched vars p t made entries below is h =
    let all : entry entries ≡ filled made = ap entry is ∙ entry-entries_below vars (filled made) (λ v ge. ap (λ o. unwrap_or o (Var v)) (h.others v (past v ge (occurs v p) refl))) in
    record {
      as_many = ap length is ∙ length-entries_below vars (filled made);
      makes = ap (λ g. replace g p) all ∙ h.done (filled made) (λ v x e. ap (λ o. unwrap_or o (Var v)) e);
      others = λ v other. (λ i. all i v) ∙ ap (λ o. unwrap_or o (Var v)) (h.others v other);
    }
  where
    past : (v : ℕ) → vars ≤ v → (b : Bool) → occurs v p ≡ b → occurs v p ≡ false
    past v ge true e = absurd (let lt = below v e in omega arith)
    past v ge false e = e

pub matched_with : (vars : ℕ) (p t : Term) (old new : ℕ × List (ℕ × Term)) (entries : List Term) (ok : Bool) → HasVariablesBelow vars p → old ≡ (vars, []) → entries ≡ entries_below vars (filled new.1) → ok ≡ true → FoundOrNot (λ g. replace g p ≡ t) (λ w. occurs w p) old.1 new.1 ok → IsMatcher vars p t entries
matched_with vars p t old new entries ok below begins is e h =
    matched vars p t new.1 entries (below_from vars p below) is
    (subst (λ (b : ℕ × List (ℕ × Term)). IsFound (λ g. replace g p ≡ t) (λ w. occurs w p) b.1 new.1) begins (subst (FoundOrNot (λ g. replace g p ≡ t) (λ w. occurs w p) old.1 new.1) e h))

pub not_matched_with : (vars : ℕ) (p t : Term) (old new : ℕ × List (ℕ × Term)) (ok : Bool) → old ≡ (vars, []) → ok ≡ false → FoundOrNot (λ g. replace g p ≡ t) (λ w. occurs w p) old.1 new.1 ok → HasNoMatcher p t
not_matched_with vars p t old new ok begins e h g is =
    (subst (FoundOrNot (λ g. replace g p ≡ t) (λ w. occurs w p) old.1 new.1) e h) g (subst (λ (b : ℕ × List (ℕ × Term)). Agrees g b.1) (sym begins) (λ v x here. absurd (nothing_there v x here))) is
  where
    nothing_there : (v : ℕ) (x : Term) → bound_to [] v ≡ Some x → ⊥
    nothing_there v x e = cc

-- the arguments of an application
pub at_head : (f : Symbol) (ps ts : List Term) (old new : List (ℕ × Term)) (ok : Bool) → FoundOrNot (λ g. map (replace g) ps ≡ ts) (λ w. list_any (occurs w) ps) old new ok → FoundOrNot (λ g. replace g (App f ps) ≡ App f ts) (λ w. occurs w (App f ps)) old new ok
at_head f ps ts old new ok h = match_App (App f ps) (App f ts) f f ps ts old new ok refl refl (symbol_eq-refl f) h

-- ---- the items of a slice, one after another

take_next : (xs : List Term) (i : ℕ) (x : Term) → i < length xs → x ≡ get_or xs i x → take (suc i) xs ≡ take i xs ++ x ∷ []
take_next [] i x h e = absurd (omega arith)
take_next (y ∷ xs) zero x h e = let q : y ≡ x = sym e in λ j. q j ∷ []
take_next (y ∷ xs) (suc i) x h e = ap (λ l. y ∷ l) (take_next xs i x (omega arith) e)

no_last : (xs : List Term) (x : Term) → [] ≡ xs ++ x ∷ [] → ⊥
no_last [] x e = cc
no_last (y ∷ xs) x e = cc

last_same : (xs ys : List Term) (x y : Term) → xs ++ x ∷ [] ≡ ys ++ y ∷ [] → (xs ≡ ys) × (x ≡ y)
last_same [] [] x y e = let q : x ≡ y = cc in (refl, q)
last_same [] (b ∷ ys) x y e = let q : [] ≡ ys ++ y ∷ [] = cc in absurd (no_last ys y q)
last_same (a ∷ xs) [] x y e = let q : xs ++ x ∷ [] ≡ [] = cc in absurd (no_last xs x (sym q))
last_same (a ∷ xs) (b ∷ ys) x y e =
    let q : a ≡ b = cc in
    let r : xs ++ x ∷ [] ≡ ys ++ y ∷ [] = cc in
    let k = last_same xs ys x y r in
    ((λ j. q j ∷ k.0 j), k.1)

any-last : (v : ℕ) (xs : List Term) (x : Term) → list_any (occurs v) (xs ++ x ∷ []) ≡ (list_any (occurs v) xs || occurs v x)
any-last v xs x = list_any-append (occurs v) xs (x ∷ []) ∙ ap (λ b. list_any (occurs v) xs || b) (or_nothing (occurs v x))
  where
    or_nothing : (b : Bool) → (b || false) ≡ b
    or_nothing true = refl
    or_nothing false = refl

-- the first so many patterns become the targets at their places
abbrev pub Become : List Term → List Term → ℕ → (ℕ → Term) → Type 0
Become ps ts i g = map (replace g) (take i ps) ≡ take i ts

module _ (ps ts : List Term) (i : ℕ) (p t : Term) (lp : i < length ps) (lt : i < length ts) (ep : p ≡ get_or ps i p) (et : t ≡ get_or ts i t) where
  next_becomes : (g : ℕ → Term) → Become ps ts i g → replace g p ≡ t → Become ps ts (i + 1) g
  next_becomes g a b =
      ap (λ k. map (replace g) (take k ps)) (add-one i)
      ∙ ap (map (replace g)) (take_next ps i p lp ep)
      ∙ map-append (replace g) (take i ps) (p ∷ [])
      ∙ (λ j. a j ++ b j ∷ [])
      ∙ sym (ap (λ k. take k ts) (add-one i) ∙ take_next ts i t lt et)

  next_became : (g : ℕ → Term) → Become ps ts (i + 1) g → Become ps ts i g × (replace g p ≡ t)
  next_became g e = last_same _ _ _ _ (
      sym (ap (λ k. map (replace g) (take k ps)) (add-one i) ∙ ap (map (replace g)) (take_next ps i p lp ep) ∙ map-append (replace g) (take i ps) (p ∷ []))
      ∙ e
      ∙ ap (λ k. take k ts) (add-one i)
      ∙ take_next ts i t lt et
      )

  pub found_next : (old mid new : List (ℕ × Term)) (ok : Bool) → ok ≡ true → IsFound (Become ps ts i) (λ v. list_any (occurs v) (take i ps)) old mid → FoundOrNot (λ g. replace g p ≡ t) (λ v. occurs v p) mid new ok → IsFound (Become ps ts (i + 1)) (λ v. list_any (occurs v) (take (i + 1) ps)) old new
  found_next old mid new ok yes' h k =
      found_as (λ g. Become ps ts i g × (replace g p ≡ t)) (Become ps ts (i + 1)) (λ v. list_any (occurs v) (take i ps) || occurs v p) (λ v. list_any (occurs v) (take (i + 1) ps)) old new true
      (λ g e. next_becomes g e.0 e.1)
      next_became
      (λ v. ap (λ n. list_any (occurs v) (take n ps)) (add-one i) ∙ ap (list_any (occurs v)) (take_next ps i p lp ep) ∙ any-last v (take i ps) p)
      (found_both _ _ _ _ old mid new true h (subst (FoundOrNot (λ g. replace g p ≡ t) (λ v. occurs v p) mid new) yes' k))

  pub found_no_more : (old mid new : List (ℕ × Term)) (ok : Bool) → ok ≡ false → IsFound (Become ps ts i) (λ v. list_any (occurs v) (take i ps)) old mid → FoundOrNot (λ g. replace g p ≡ t) (λ v. occurs v p) mid new ok → (g : ℕ → Term) → Agrees g old → map (replace g) ps ≡ ts → ⊥
  found_no_more old mid new ok no' h k g a e =
      let both = next_became g (sym (take-map (replace g) (i + 1) ps) ∙ ap (take (i + 1)) e) in
      (subst (FoundOrNot (λ g. replace g p ≡ t) (λ v. occurs v p) mid new) no' k) g (h.onward g a both.0) both.1

  pub item_smaller : 2 * term_symbols p < 2 * sum (map term_symbols ps) + 1
  item_smaller = let k = item_size ps i lp ep in omega (arith, k)
    where
      item_size : (xs : List Term) (n : ℕ) → n < length xs → p ≡ get_or xs n p → term_symbols p ≤ sum (map term_symbols xs)
      item_size [] n h e = absurd (omega arith)
      item_size (x ∷ xs) zero h e = let q = ap term_symbols e in omega (arith, q, sum_by-cons (λ m. m) (term_symbols x) (map term_symbols xs))
      item_size (x ∷ xs) (suc n) h e = let q = item_size xs n (omega arith) e in omega (arith, q, sum_by-cons (λ m. m) (term_symbols x) (map term_symbols xs))

  pub item_below : (n m : ℕ) → m ≡ n → HaveVariablesBelow n ps → HasVariablesBelow m p
  item_below n m same all = below_to m p (λ v o. let lt : v < n = are_below_from n ps all v (here ps i lp ep v o) in omega arith)
    where
      here : (xs : List Term) (n : ℕ) → n < length xs → p ≡ get_or xs n p → (v : ℕ) → occurs v p ≡ true → list_any (occurs v) xs ≡ true
      here [] n h e v o = absurd (omega arith)
      here (x ∷ xs) zero h e v o = or_left _ _ (ap (occurs v) (sym e) ∙ o)
      here (x ∷ xs) (suc n) h e v o = or_right (occurs v x) _ (here xs n (omega arith) e v o)

take_whole : (xs : List Term) (n : ℕ) → length xs ≤ n → take n xs ≡ xs
take_whole [] zero h = refl
take_whole [] (suc n) h = refl
take_whole (x ∷ xs) zero h = absurd (omega arith)
take_whole (x ∷ xs) (suc n) h = ap (λ l. x ∷ l) (take_whole xs n (omega arith))

pub found_whole : (ps ts : List Term) (i : ℕ) (old new : List (ℕ × Term)) → length ps ≡ length ts → length ps ≤ i → IsFound (Become ps ts i) (λ v. list_any (occurs v) (take i ps)) old new → IsFound (λ g. map (replace g) ps ≡ ts) (λ v. list_any (occurs v) ps) old new
found_whole ps ts i old new same all h =
    let p = take_whole ps i all in
    let q = take_whole ts i (omega arith) in
    found_as (Become ps ts i) _ (λ v. list_any (occurs v) (take i ps)) _ old new true
    (λ g e. ap (map (replace g)) (sym p) ∙ e ∙ q)
    (λ g e. ap (map (replace g)) p ∙ e ∙ sym q)
    (λ v. ap (list_any (occurs v)) (sym p))
    h

pub args_smaller : (p : Term) (f : Symbol) (ss sl : List Term) → p ≡ App f ss → sl ≡ ss → 2 * sum (map term_symbols sl) + 1 < 2 * term_symbols p
args_smaller p f ss sl is same = omega (arith, ap (λ l. sum (map term_symbols l)) same, ap term_symbols is, term_symbols-App f ss)

pub args_below : (n : ℕ) (p : Term) (f : Symbol) (ss sl : List Term) → p ≡ App f ss → sl ≡ ss → HasVariablesBelow n p → HaveVariablesBelow n sl
args_below n p f ss sl is same all = are_below_to n sl (arguments_below n p f sl (is ∙ ap (App f) (sym same)) (below_from n p all))

pub var_below : (n : ℕ) (p : Term) (v : ℕ) → p ≡ Var v → HasVariablesBelow n p → v < n
var_below n p v is all = below_from n p all v (ap (occurs v) is ∙ occurs-Var v v ∙ eq-eqb v v refl)

pub match_args : (p t : Term) (f h : Symbol) (ss ts sl sl' : List Term) (old new : List (ℕ × Term)) (same ok : Bool) → p ≡ App f ss → t ≡ App h ts → same ≡ symbol_eq f h → same ≡ true → sl ≡ ss → sl' ≡ ts → FoundOrNot (λ g. map (replace g) sl ≡ sl') (λ w. list_any (occurs w) sl) old new ok → FoundOrNot (λ g. replace g p ≡ t) (λ w. occurs w p) old new ok
match_args p t f h ss ts sl sl' old new same ok is is' s e a b k =
    match_App p t f h sl sl' old new ok (is ∙ ap (App f) (sym a)) (is' ∙ ap (App h) (sym b)) (sym s ∙ e) k

pub ruleset measures = (term_symbols-App, term_symbols-positive)
