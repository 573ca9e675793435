-- Terms at the ends of paths: another one put there, also in an instance, and in an equation with its sides exchanged.
use Rattle.std.proofs.Common.{◌≡◌, ℕ, zero, suc, ◌<◌, ◌≤◌, List, [], ◌∷◌, ◌++◌, length, map, take, drop, get_or, Some, option_and_then, refl, sym, ap, ◌∙◌, arith}
use Rattle.std.specs.List.{slice_get, slice_set}
use Rattle.std.proofs.Math.Seq.{take-append_seam}
use Rattle.std.proofs.lemmas.Option.{none-some, same_Some}
use Rattle.std.proofs.lemmas.List.{length-set}
use Rattle.spl_terms.specs.declared.term.Symbol.{Symbol}
use Rattle.spl_terms.specs.declared.term.Term.{Term, Var, App}
use Rattle.spl_terms.specs.declared.term.Term.TheViews.{outs-Var, outs-App}
use Rattle.spl_terms.specs.declared.atom.Atom.{Atom}
use Rattle.spl_terms.specs.declared.atom.Atom.TheVariants.{Holds, Equal}
use Rattle.spl_terms.specs.Terms.{replace}
use Rattle.spl_terms.specs.TermLaws.{term_induction, replace-App}
use Rattle.spl_terms.specs.Clauses.{replace_in_atom}
use Rattle.spl_terms.specs.SameLaws.{flipped}
use Rattle.proof_steps.specs.Spots.{changed_at, arguments_step, with_arguments_step, subterm, with_subterm, term_under, with_term_under}
use Rattle.reductions.specs.Chains.{to_other_side}

-- ---- as the code puts it there

pub with_subterm-Var : (k : ℕ) (path : List ℕ) (new : Term) (v : ℕ) → with_subterm (k ∷ path) new (Var v) ≡ Var v
with_subterm-Var k path new v = ap (with_arguments_step (changed_at k (with_subterm path new))) (outs-Var v)

pub with_subterm-App : (k : ℕ) (path : List ℕ) (new : Term) (f : Symbol) (ts : List Term) → with_subterm (k ∷ path) new (App f ts) ≡ App f (changed_at k (with_subterm path new) ts)
with_subterm-App k path new f ts = ap (with_arguments_step (changed_at k (with_subterm path new))) (outs-App f ts)

pub ruleset with_subterm_laws = (with_subterm-Var, with_subterm-App)

module _ {A : Type 0} where
  changed_past : (k : ℕ) (f : A → A) (xs : List A) → length xs ≤ k → changed_at k f xs ≡ xs
  changed_past k f [] h = refl
  changed_past zero f (x ∷ xs) h = absurd (omega arith)
  changed_past (suc k) f (x ∷ xs) h = ap (λ l. x ∷ l) (changed_past k f xs (omega arith))

  changed_set : (k : ℕ) (f : A → A) (xs : List A) (x : A) → k < length xs → x ≡ get_or xs k x → changed_at k f xs ≡ slice_set xs k (f x)
  changed_set k f [] x h e = absurd (omega arith)
  changed_set zero f (y ∷ xs) x h e = ap (λ z. f z ∷ xs) (sym e)
  changed_set (suc k) f (y ∷ xs) x h e = ap (λ l. y ∷ l) (changed_set k f xs x (omega arith) e)

  -- a list that is lent, and in which one item is changed
  pub refilled_changed : (old now : List A) (k : ℕ) (f : A → A) (x y : A) → now ≡ old → k < length old → x ≡ get_or now k x → y ≡ f (get_or now k x) → take (length old) (slice_set now k y ++ drop (length (slice_set now k y)) old) ≡ changed_at k f old
  refilled_changed old now k f x y same below at made =
      let long : length (slice_set now k y) ≡ length old = length-set now k y ∙ ap length same in
      let within : k < length now = omega (arith, below, ap length same) in
      ap (λ n. take n (slice_set now k y ++ drop (length (slice_set now k y)) old)) (sym long)
      ∙ take-append_seam (slice_set now k y) (drop (length (slice_set now k y)) old)
      ∙ ap (slice_set now k) (made ∙ ap f (sym at))
      ∙ sym (changed_set k f now x within at)
      ∙ ap (changed_at k f) same

  pub refilled_same : (old now : List A) (k : ℕ) (f : A → A) → now ≡ old → length now ≤ k → take (length old) (now ++ drop (length now) old) ≡ changed_at k f old
  refilled_same old now k f same past =
      ap (λ n. take n (now ++ drop (length now) old)) (sym (ap length same))
      ∙ take-append_seam now (drop (length now) old)
      ∙ sym (changed_past k f now past)
      ∙ ap (changed_at k f) same

  -- what becomes of the item at a place is all that matters
  pub changed_as : (k : ℕ) (f h : A → A) (xs : List A) (x : A) → slice_get xs k ≡ Some x → f x ≡ h x → changed_at k f xs ≡ changed_at k h xs
  changed_as k f h [] x there e = refl
  changed_as zero f h (y ∷ xs) x there e = (let same : y ≡ x = same_Some y x there in ap (λ z. z ∷ xs) (ap f same ∙ e ∙ ap h (sym same)))
  changed_as (suc k) f h (y ∷ xs) x there e = ap (λ l. y ∷ l) (changed_as k f h xs x there e)

pub third_side : (s t : Term) (k : ℕ) (path : List ℕ) (new : Term) → (k ≡ 0 → ⊥) → (k ≡ 1 → ⊥) → Equal s t ≡ with_term_under (k ∷ path) new (Equal s t)
third_side s t zero path new h i = absurd (h refl)
third_side s t (suc zero) path new h i = absurd (i refl)
third_side s t (suc (suc k)) path new h i = refl

pub ruleset with_term_under_laws = (third_side)

-- ---- in an instance

module _ (h : ℕ → Term) where
  abbrev Leads : List ℕ → Type 0
  Leads path = (t u : Term) → subterm path t ≡ Some u → subterm path (replace h t) ≡ Some (replace h u)

  leads_in : (path : List ℕ) → Leads path → (ts : List Term) (k : ℕ) (u : Term) → option_and_then (subterm path) (slice_get ts k) ≡ Some u → option_and_then (subterm path) (slice_get (map (replace h) ts) k) ≡ Some (replace h u)
  leads_in path on [] k u e = absurd (none-some u e)
  leads_in path on (t ∷ ts) zero u e = on t u e
  leads_in path on (t ∷ ts) (suc k) u e = leads_in path on ts k u e

  leads : (path : List ℕ) → Leads path
  leads [] = λ t u e. ap (λ x. Some (replace h x)) (same_Some t u e)
  leads (k ∷ path) =
      term_induction (λ t. (u : Term) → subterm (k ∷ path) t ≡ Some u → subterm (k ∷ path) (replace h t) ≡ Some (replace h u))
      (λ v u e. absurd (none-some u (sym (ap (λ ts. option_and_then (subterm path) (slice_get ts k)) (ap arguments_step (outs-Var v))) ∙ e)))
      (λ f ts each u e.
      ap (subterm (k ∷ path)) (replace-App h f ts)
      ∙ ap (λ xs. option_and_then (subterm path) (slice_get xs k)) (ap arguments_step (outs-App f (map (replace h) ts)))
      ∙ leads_in path (leads path) ts k u (sym (ap (λ xs. option_and_then (subterm path) (slice_get xs k)) (ap arguments_step (outs-App f ts))) ∙ e))

  pub term_under-replace : (path : List ℕ) (a : Atom) (u : Term) → term_under path a ≡ Some u → term_under path (replace_in_atom h a) ≡ Some (replace h u)
  term_under-replace [] a u e = absurd (none-some u e)
  term_under-replace (k ∷ path) (Holds p ts) u e = leads_in path (leads path) ts k u e
  term_under-replace (k ∷ path) (Equal s t) u e = leads_in path (leads path) (s ∷ t ∷ []) k u e

  module _ (w : Term) where
    abbrev Commutes : List ℕ → Type 0
    Commutes path = (t u : Term) → subterm path t ≡ Some u → replace h (with_subterm path w t) ≡ with_subterm path (replace h w) (replace h t)

    commutes_in : (path : List ℕ) → Commutes path → (ts : List Term) (k : ℕ) (u : Term) → option_and_then (subterm path) (slice_get ts k) ≡ Some u → map (replace h) (changed_at k (with_subterm path w) ts) ≡ changed_at k (with_subterm path (replace h w)) (map (replace h) ts)
    commutes_in path on [] k u e = refl
    commutes_in path on (t ∷ ts) zero u e = ap (λ x. x ∷ map (replace h) ts) (on t u e)
    commutes_in path on (t ∷ ts) (suc k) u e = ap (λ l. replace h t ∷ l) (commutes_in path on ts k u e)

    commutes : (path : List ℕ) → Commutes path
    commutes [] = λ t u e. refl
    commutes (k ∷ path) =
        term_induction (λ t. (u : Term) → subterm (k ∷ path) t ≡ Some u → replace h (with_subterm (k ∷ path) w t) ≡ with_subterm (k ∷ path) (replace h w) (replace h t))
        (λ v u e. absurd (none-some u (sym (ap (λ ts. option_and_then (subterm path) (slice_get ts k)) (ap arguments_step (outs-Var v))) ∙ e)))
        (λ f ts each u e.
        ap (replace h) (with_subterm-App k path w f ts)
        ∙ replace-App h f (changed_at k (with_subterm path w) ts)
        ∙ ap (App f) (commutes_in path (commutes path) ts k u (sym (ap (λ xs. option_and_then (subterm path) (slice_get xs k)) (ap arguments_step (outs-App f ts))) ∙ e))
        ∙ sym (ap (with_subterm (k ∷ path) (replace h w)) (replace-App h f ts) ∙ with_subterm-App k path (replace h w) f (map (replace h) ts)))

    pub with_term_under-replace : (path : List ℕ) (a : Atom) (u : Term) → term_under path a ≡ Some u → replace_in_atom h (with_term_under path w a) ≡ with_term_under path (replace h w) (replace_in_atom h a)
    with_term_under-replace [] a u e = absurd (none-some u e)
    with_term_under-replace (k ∷ path) (Holds p ts) u e = ap (Holds p) (commutes_in path (commutes path) ts k u e)
    with_term_under-replace (zero ∷ path) (Equal s t) u e = ap (λ x. Equal x (replace h t)) (commutes path s u e)
    with_term_under-replace (suc zero ∷ path) (Equal s t) u e = ap (Equal (replace h s)) (commutes path t u e)
    with_term_under-replace (suc (suc k) ∷ path) (Equal s t) u e = absurd (none-some u e)

-- ---- with sides exchanged

pub other_side_under : (path : List ℕ) (s t u : Term) → term_under path (Equal s t) ≡ Some u → term_under (to_other_side path) (Equal t s) ≡ Some u
other_side_under [] s t u e = e
other_side_under (zero ∷ path) s t u e = e
other_side_under (suc zero ∷ path) s t u e = e
other_side_under (suc (suc k) ∷ path) s t u e = absurd (none-some u e)

pub other_side_with : (path : List ℕ) (w s t u : Term) → term_under path (Equal s t) ≡ Some u → with_term_under (to_other_side path) w (Equal t s) ≡ flipped (with_term_under path w (Equal s t))
other_side_with [] w s t u e = refl
other_side_with (zero ∷ path) w s t u e = refl
other_side_with (suc zero ∷ path) w s t u e = refl
other_side_with (suc (suc k) ∷ path) w s t u e = absurd (none-some u e)
