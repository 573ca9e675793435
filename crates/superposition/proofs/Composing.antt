-- Loops that append the lists of one element after the other.
use Rattle.std.proofs.Common.{◌≡◌, ℕ, zero, suc, ◌+◌, ◌<◌, ◌≤◌, arith, List, [], ◌∷◌, ◌++◌, length, drop, get_or, refl, sym, ap, subst, append-nil}
use Rattle.std.specs.Prelude.{Result, Ok, Err}
use Rattle.std.specs.List.{flat_map}
use Rattle.proof_steps.specs.declared.step.Line.{Line}
use Rattle.superposition.proofs.Lists.{drop_at}
use Rattle.superposition.specs.declared.error.InferError.{InferError}
use Rattle.superposition.specs.declared.error.InferError.TheVariants.{Memory}
use Rattle.superposition.specs.Appending.{IsPrefixAppended, Appended}
use Rattle.superposition.specs.AppendingLaws.{nothing, then_more, then_none}

-- memory can fail before anything
pub no_memory : (xs old : List Line) → IsPrefixAppended xs old old Memory
no_memory xs old = record { done = []; left = xs; parts = refl; appended = sym (append-nil old); fit = tt; stopped = tt }

-- ---- loops

-- whatever comes of these lists from here on comes of the whole list
abbrev pub LeadsOn : (whole start rest now : List Line) → Type 0
LeadsOn whole start rest now = (new : List Line) (r : Result Unit InferError) → Appended rest now new r → Appended whole start new r

module _ {X : Type 0} (f : X → List Line) (xs : List X) (k : ℕ) (x : X) (whole start old : List Line) (within : k < length xs) (is : x ≡ get_or xs k x) (on : LeadsOn whole start (flat_map f (drop k xs)) old) where
  next_first : flat_map f (drop k xs) ≡ f x ++ flat_map f (drop (k + 1) xs)
  next_first = ap (flat_map f) (drop_at xs k x within is)

  pub loop_goes_on : (mid : List Line) → Appended (f x) old mid (Ok (tt {0})) → LeadsOn whole start (flat_map f (drop (k + 1) xs)) mid
  loop_goes_on mid h new r rest = on new r (subst (λ l. Appended l old new r) (sym next_first) (then_more (f x) (flat_map f (drop (k + 1) xs)) old mid new (tt {0}) r h rest))

  pub loop_stops : (new : List Line) (e : InferError) → IsPrefixAppended (f x) old new e → IsPrefixAppended whole start new e
  loop_stops new e h = on new (Err e) (subst (λ l. IsPrefixAppended l old new e) (sym next_first) (then_none (f x) (flat_map f (drop (k + 1) xs)) old new e h))

drop_all : {X : Type 0} (xs : List X) (k : ℕ) → length xs ≤ k → drop k xs ≡ []
drop_all [] zero h = refl
drop_all [] (suc k) h = refl
drop_all (x ∷ xs) zero h = absurd (omega arith)
drop_all (x ∷ xs) (suc k) h = drop_all xs k (omega arith)

pub loop_ends : {X : Type 0} (f : X → List Line) (xs : List X) (k : ℕ) (whole start old : List Line) → length xs ≤ k → LeadsOn whole start (flat_map f (drop k xs)) old → Appended whole start old (Ok (tt {0}))
loop_ends f xs k whole start old past on = on old (Ok (tt {0})) (subst (λ l. Appended (flat_map f l) old old (Ok (tt {0}))) (sym (drop_all xs k past)) (nothing old (tt {0})))
