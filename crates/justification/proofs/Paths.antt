-- Subterms, and terms with another one in their place, case by case.
use Rattle.std.proofs.Common.{◌≡◌, ℕ, zero, suc, ◌<◌, ◌≤◌, List, [], ◌∷◌, ◌++◌, length, take, drop, get_or, None, option_and_then, refl, sym, ap, ◌∙◌, arith}
use Rattle.std.specs.List.{slice_get, slice_set}
use Rattle.std.proofs.Math.Seq.{take-append_seam}
use Rattle.std.proofs.lemmas.List.{length-set}
use Rattle.spl_terms.specs.declared.term.Symbol.{Symbol}
use Rattle.spl_terms.specs.declared.term.Term.{Term, Var, App}
use Rattle.spl_terms.specs.declared.term.Term.TheViews.{outs-Var, outs-App}
use Rattle.spl_terms.specs.declared.atom.Atom.TheVariants.{Equal}
use Rattle.spl_terms.specs.Clauses.{atom_terms}
use Rattle.proof_steps.specs.Spots.{changed_at, arguments_step, with_arguments_step, subterm, with_subterm, with_term_under}

pub subterm-Var : (k : ℕ) (path : List ℕ) (v : ℕ) → subterm (k ∷ path) (Var v) ≡ None
subterm-Var k path v = ap (λ l. option_and_then (subterm path) (slice_get l k)) (ap arguments_step (outs-Var v))

pub subterm-App : (k : ℕ) (path : List ℕ) (f : Symbol) (ts : List Term) → subterm (k ∷ path) (App f ts) ≡ option_and_then (subterm path) (slice_get ts k)
subterm-App k path f ts = ap (λ l. option_and_then (subterm path) (slice_get l k)) (ap arguments_step (outs-App f ts))

pub ruleset subterm_laws = (subterm-Var, subterm-App)

pub third_side : (s t : Term) (k : ℕ) → (k ≡ 0 → ⊥) → (k ≡ 1 → ⊥) → None ≡ slice_get (atom_terms (Equal s t)) k
third_side s t zero h i = absurd (h refl)
third_side s t (suc zero) h i = absurd (i refl)
third_side s t (suc (suc k)) h i = refl

pub ruleset argument_laws = (third_side)

pub with_subterm-Var : (k : ℕ) (path : List ℕ) (new : Term) (v : ℕ) → with_subterm (k ∷ path) new (Var v) ≡ Var v
with_subterm-Var k path new v = ap (with_arguments_step (changed_at k (with_subterm path new))) (outs-Var v)

pub with_subterm-App : (k : ℕ) (path : List ℕ) (new : Term) (f : Symbol) (ts : List Term) → with_subterm (k ∷ path) new (App f ts) ≡ App f (changed_at k (with_subterm path new) ts)
with_subterm-App k path new f ts = ap (with_arguments_step (changed_at k (with_subterm path new))) (outs-App f ts)

pub ruleset with_subterm_laws = (with_subterm-Var, with_subterm-App)

pub changed_past : {A : Type 0} (k : ℕ) (f : A → A) (xs : List A) → length xs ≤ k → changed_at k f xs ≡ xs
changed_past k f [] h = refl
changed_past zero f (x ∷ xs) h = absurd (omega arith)
changed_past (suc k) f (x ∷ xs) h = ap (λ l. x ∷ l) (changed_past k f xs (omega arith))

changed_set : {A : Type 0} (k : ℕ) (f : A → A) (xs : List A) (x : A) → k < length xs → x ≡ get_or xs k x → changed_at k f xs ≡ slice_set xs k (f x)
changed_set k f [] x h e = absurd (omega arith)
changed_set zero f (y ∷ xs) x h e = ap (λ z. f z ∷ xs) (sym e)
changed_set (suc k) f (y ∷ xs) x h e = ap (λ l. y ∷ l) (changed_set k f xs x (omega arith) e)

-- another item at this place
pub changed_here : {A : Type 0} (k : ℕ) (xs : List A) (y : A) → k < length xs → slice_set xs k y ≡ changed_at k (λ b. y) xs
changed_here k [] y h = absurd (omega arith)
changed_here zero (x ∷ xs) y h = refl
changed_here (suc k) (x ∷ xs) y h = ap (λ l. x ∷ l) (changed_here k xs y (omega arith))

-- a list that is lent, and in which one item is changed
pub refilled_changed : (old now : List Term) (k : ℕ) (f : Term → Term) (x y : Term) → now ≡ old → k < length old → x ≡ get_or now k x → y ≡ f (get_or now k x) → take (length old) (slice_set now k y ++ drop (length (slice_set now k y)) old) ≡ changed_at k f old
refilled_changed old now k f x y same below at made =
    let long : length (slice_set now k y) ≡ length old = length-set now k y ∙ ap length same in
    let within : k < length now = omega (arith, below, ap length same) in
    ap (λ n. take n (slice_set now k y ++ drop (length (slice_set now k y)) old)) (sym long)
    ∙ take-append_seam (slice_set now k y) (drop (length (slice_set now k y)) old)
    ∙ ap (slice_set now k) (made ∙ ap f (sym at))
    ∙ sym (changed_set k f now x within at)
    ∙ ap (changed_at k f) same

pub refilled_same : (old now : List Term) (k : ℕ) (f : Term → Term) → now ≡ old → length now ≤ k → take (length old) (now ++ drop (length now) old) ≡ changed_at k f old
refilled_same old now k f same past =
    ap (λ n. take n (now ++ drop (length now) old)) (sym (ap length same))
    ∙ take-append_seam now (drop (length now) old)
    ∙ sym (changed_past k f now past)
    ∙ ap (changed_at k f) same

pub other_side : (s t : Term) (k : ℕ) (path : List ℕ) (new : Term) → (k ≡ 0 → ⊥) → (k ≡ 1 → ⊥) → Equal s t ≡ with_term_under (k ∷ path) new (Equal s t)
other_side s t zero path new h i = absurd (h refl)
other_side s t (suc zero) path new h i = absurd (i refl)
other_side s t (suc (suc k)) path new h i = refl

pub ruleset with_term_under_laws = (other_side)
