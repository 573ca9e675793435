-- A passive clause that each other one is worse than is the one that the rule gives.
use Rattle.std.specs.Prelude.{fold}
use Rattle.std.proofs.Common.{◌≡◌, ◌∙◌, ℕ, zero, suc, ◌+◌, ◌⊎◌, inl, inr, Bool, true, false, cond, List, [], ◌∷◌, Option, Some, None, option_map, refl, sym, ap, subst, arith}
use Rattle.std.proofs.lemmas.Bool.{cond-true, cond-false}
use Rattle.std.proofs.lemmas.Bool.Decides.{nat_tests}
use Rattle.std.specs.List.{slice_get}
use Rattle.spl_truth.specs.declared.picking.Candidate.{Candidate}
use Rattle.spl_truth.specs.Picking.{better, preferred, is_older, is_lighter}
use Rattle.proof_steps.specs.declared.step.Line.{Line}
use Rattle.proof_steps.specs.Steps.{numbered}
use Rattle.case_journal.specs.declared.event.Entry.{Entry}
use Rattle.case_journal.specs.Journal.{Setting, ledger}
use Rattle.case_journal.specs.Picking.{is_passive, passing, weighed}
use Rattle.case_journal.specs.PickLaws.{IsOne}
use Rattle.case_queue.specs.Queues.{best_by}

-- ---- the better of two

abbrev pub beats : Bool → Candidate → Candidate → Bool
beats age a b = cond age (is_older a b) (is_lighter a b)

-- c is the other one, or better
abbrev pub IsFirstTo : Bool → Candidate → Candidate → Type 0
IsFirstTo age c x = (x ≡ c) ⊎ (beats age c x ≡ true)

not_itself : (age : Bool) (c : Candidate) → beats age c c ≡ false
not_itself true c = grind (arith, nat_tests)
not_itself false c = grind (arith, nat_tests)

not_both : (age : Bool) (c x : Candidate) → beats age c x ≡ true → beats age x c ≡ false
not_both true c x h = grind (arith, nat_tests)
not_both false c x h = grind (arith, nat_tests)

not_beaten : (age : Bool) (c x : Candidate) → IsFirstTo age c x → beats age x c ≡ false
not_beaten age c x (inl same) = subst (λ y. beats age y c ≡ false) (sym same) (not_itself age c)
not_beaten age c x (inr h) = not_both age c x h

-- the first of all is preferred to any other, from either side
stays : (age : Bool) (c x : Candidate) → IsFirstTo age c x → preferred age c x ≡ c
stays age c x h = cond-false (beats age x c) x c (not_beaten age c x h)

either : (b : Bool) (c : Candidate) → cond b c c ≡ c
either true c = refl
either false c = refl

wins : (age : Bool) (c a : Candidate) → IsFirstTo age c a → preferred age a c ≡ c
wins age c a (inl same) = subst (λ y. preferred age y c ≡ c) (sym same) (either (beats age c c) c)
wins age c a (inr h) = cond-true (beats age c a) c a h

one_of : (P : Candidate → Type 0) (b : Bool) (x y : Candidate) → P x → P y → P (cond b x y)
one_of P true x y p q = p
one_of P false x y p q = q

-- ---- the best of a list

abbrev AreBehind : Bool → Candidate → List Candidate → Type 0
AreBehind age c cs = (k : ℕ) (x : Candidate) → slice_get cs k ≡ Some x → IsFirstTo age c x

abbrev IsBehind : Bool → Candidate → Option Candidate → Type 0
IsBehind age c None = Unit {0}
IsBehind age c (Some a) = IsFirstTo age c a

best_stays : (age : Bool) (c : Candidate) (cs : List Candidate) → AreBehind age c cs → fold (better age) (Some c) cs ≡ Some c
best_stays age c [] all = refl
best_stays age c (x ∷ cs) all = ap (λ a. fold (better age) (Some a) cs) (stays age c x (all 0 x refl)) ∙ best_stays age c cs (λ k y h. all (suc k) y h)

better_behind : (age : Bool) (c : Candidate) (best : Option Candidate) (x : Candidate) → IsBehind age c best → IsFirstTo age c x → IsBehind age c (better age best x)
better_behind age c None x h g = g
better_behind age c (Some a) x h g = one_of (IsFirstTo age c) (beats age x a) x a g h

better_first : (age : Bool) (c : Candidate) (best : Option Candidate) → IsBehind age c best → better age best c ≡ Some c
better_first age c None h = refl
better_first age c (Some a) h = ap Some (wins age c a h)

best_first : (age : Bool) (c : Candidate) (best : Option Candidate) (cs : List Candidate) → IsBehind age c best → AreBehind age c cs → (k : ℕ) → slice_get cs k ≡ Some c → fold (better age) best cs ≡ Some c
best_first age c best [] h all k at = cc
best_first age c best (x ∷ cs) h all zero at =
    let q : x ≡ c = cc in
    ap (λ y. fold (better age) (better age best y) cs) q ∙ (ap (λ o. fold (better age) o cs) (better_first age c best h) ∙ best_stays age c cs (λ k y g. all (suc k) y g))
best_first age c best (x ∷ cs) h all (suc k) at = best_first age c (better age best x) cs (better_behind age c best x h (all 0 x refl)) (λ j y g. all (suc j) y g) k at

-- ---- those that pass

-- the candidate is line number n + j of these, and passes
record IsPassing (passes : ℕ → Bool) (n : ℕ) (lines : List Line) (c : Candidate) : Type 0 where
  place : ℕ
  line : Line
  found : slice_get lines place ≡ Some line
  passed : passes (n + place) ≡ true
  is : c ≡ weighed (n + place) line

passing_later : (passes : ℕ → Bool) (n : ℕ) (l : Line) (lines : List Line) (c : Candidate) → IsPassing passes (n + 1) lines c → IsPassing passes n (l ∷ lines) c
passing_later passes n l lines c h =
    let e : n + 1 + h.place ≡ n + suc h.place = omega arith in
    record { place = suc h.place; line = h.line; found = h.found; passed = ap passes (sym e) ∙ h.passed; is = h.is ∙ ap (λ i. weighed i h.line) e }

passing_here : (passes : ℕ → Bool) (n : ℕ) (l : Line) (lines : List Line) (c : Candidate) → passes n ≡ true → weighed n l ≡ c → IsPassing passes n (l ∷ lines) c
passing_here passes n l lines c h q =
    let e : n + 0 ≡ n = omega arith in
    record { place = 0; line = l; found = refl; passed = ap passes e ∙ h; is = sym q ∙ ap (λ i. weighed i l) (sym e) }

passing_step : (b : Bool) (passes : ℕ → Bool) (n : ℕ) (l : Line) (lines : List Line) (k : ℕ) (c : Candidate) → passes n ≡ b → ((j : ℕ) → slice_get (passing passes (n + 1) lines) j ≡ Some c → IsPassing passes (n + 1) lines c)
    → slice_get (cond b (weighed n l ∷ passing passes (n + 1) lines) (passing passes (n + 1) lines)) k ≡ Some c → IsPassing passes n (l ∷ lines) c
passing_step true passes n l lines zero c e more h = let q : weighed n l ≡ c = cc in passing_here passes n l lines c e q
passing_step true passes n l lines (suc k) c e more h = passing_later passes n l lines c (more k h)
passing_step false passes n l lines k c e more h = passing_later passes n l lines c (more k h)

passing_is : (passes : ℕ → Bool) (n : ℕ) (lines : List Line) (k : ℕ) (c : Candidate) → slice_get (passing passes n lines) k ≡ Some c → IsPassing passes n lines c
passing_is passes n [] k c h = cc
passing_is passes n (l ∷ lines) k c h = passing_step (passes n) passes n l lines k c refl (λ j g. passing_is passes (n + 1) lines j c g) h

one_later : (b : Bool) (x c : Candidate) (cs : List Candidate) → IsOne c cs → IsOne c (cond b (x ∷ cs) cs)
one_later true x c cs h = (suc h.0, h.1)
one_later false x c cs h = h

has_passing : (passes : ℕ → Bool) (n : ℕ) (lines : List Line) (j : ℕ) (l : Line) → slice_get lines j ≡ Some l → passes (n + j) ≡ true → IsOne (weighed (n + j) l) (passing passes n lines)
has_passing passes n [] j l h t = cc
has_passing passes n (x ∷ lines) zero l h t =
    let q : x ≡ l = cc in
    let e : n + 0 ≡ n = omega arith in
    subst (IsOne (weighed (n + 0) l)) (sym (cond-true (passes n) (weighed n x ∷ passing passes (n + 1) lines) (passing passes (n + 1) lines) (ap passes (sym e) ∙ t)))
    (0, ap (λ y. Some (weighed n y)) q ∙ ap (λ i. Some (weighed i l)) (sym e))
has_passing passes n (x ∷ lines) (suc j) l h t =
    let e : n + 1 + j ≡ n + suc j = omega arith in
    one_later (passes n) (weighed n x) (weighed (n + suc j) l) (passing passes (n + 1) lines)
    (subst (λ i. IsOne (weighed i l) (passing passes (n + 1) lines)) e (has_passing passes (n + 1) lines j l h (ap passes e ∙ t)))

-- ---- the pick

-- each passive clause with its line
abbrev pub EachPassive : Setting → List Entry → ℕ → (ℕ → Line → Type 0) → Type 0
EachPassive s past m P = (i : ℕ) (l : Line) → numbered (ledger s past) i ≡ Some l → is_passive s past m i ≡ true → P i l

as_numbered : (s : Setting) (past : List Entry) (m : ℕ) (P : ℕ → Line → Type 0) → EachPassive s past m P → (c : Candidate) → (p : IsPassing (is_passive s past m) 1 (ledger s past) c) → P (1 + p.place) p.line
as_numbered s past m P each c p =
    let e : suc p.place ≡ 1 + p.place = omega arith in
    subst (λ i. P i p.line) e (each (suc p.place) p.line p.found (ap (is_passive s past m) e ∙ p.passed))

-- a passive clause that is the first to each passive clause is the best
pub best_is : (age : Bool) (s : Setting) (past : List Entry) (m n : ℕ) (l : Line) → numbered (ledger s past) n ≡ Some l → is_passive s past m n ≡ true
    → EachPassive s past m (λ i k. IsFirstTo age (weighed n l) (weighed i k)) → best_by age s past m ≡ Some n
best_is age s past m zero l found passes each = cc
best_is age s past m (suc j) l found passes each =
    let e : 1 + j ≡ suc j = omega arith in
    let c = weighed (suc j) l in
    let one = subst (λ i. IsOne (weighed i l) (passing (is_passive s past m) 1 (ledger s past))) e (has_passing (is_passive s past m) 1 (ledger s past) j l found (ap (is_passive s past m) e ∙ passes)) in
    let all : AreBehind age c (passing (is_passive s past m) 1 (ledger s past)) = λ k x h. (
    let p = passing_is (is_passive s past m) 1 (ledger s past) k x h in
    subst (IsFirstTo age c) (sym p.is) (as_numbered s past m (λ i k. IsFirstTo age c (weighed i k)) each x p)) in
    ap (option_map (λ a. a.number)) (best_first age c None (passing (is_passive s past m) 1 (ledger s past)) tt all one.0 one.1)

fold_none : (age : Bool) (cs : List Candidate) → ((k : ℕ) (x : Candidate) → slice_get cs k ≡ Some x → ⊥) → option_map (λ a. a.number) (fold (better age) None cs) ≡ None
fold_none age [] none = refl
fold_none age (x ∷ cs) none = absurd (none 0 x refl)

-- where nothing is passive there is no best
pub best_none : (age : Bool) (s : Setting) (past : List Entry) (m : ℕ) → EachPassive s past m (λ i k. ⊥) → best_by age s past m ≡ None
best_none age s past m each = fold_none age (passing (is_passive s past m) 1 (ledger s past)) (λ k x h. as_numbered s past m (λ i k. ⊥) each x (passing_is (is_passive s past m) 1 (ledger s past) k x h))
