-- What each reading step keeps, a list of them keeps.
use Rattle.std.proofs.Common.{◌≡◌, ℕ, zero, suc, ◌⊎◌, inl, inr, Bool, true, false, cond, List, [], ◌∷◌, ◌++◌, length, Result, Ok, Err, refl, subst}
use Rattle.std.specs.List.{AllByRecursion}
use Rattle.dfg_tokens.specs.declared.word.Word.{Word}
use Rattle.dfg_tokens.specs.declared.word.Word.TheVariants as words
use Rattle.dfg_tokens.specs.declared.token.Token.{Token}
use Rattle.dfg_tokens.specs.declared.piece.Mark.TheVariants.{Comma, Dot}
use Rattle.dfg_reader.specs.declared.fault.ReadFault.{ReadFault}
use Rattle.dfg_reader.specs.declared.fault.FaultKind.{FaultKind}
use Rattle.dfg_reader.specs.declared.fault.FaultKind.TheVariants.{Unexpected}
use Rattle.dfg_reader.specs.Reading.{◌>>=◌, Reader, tail, refuse, fault, next_mark, next_word, mark_at, commas, items, listed}

pub bind_ok : {A B : Type 0} (r : Result A ReadFault) (f : A → Result B ReadFault) (y : B) → (r >>= f) ≡ Ok y → (x : A) × (r ≡ Ok x) × (f x ≡ Ok y)
bind_ok (Ok x) f y e = (x, refl, e)
bind_ok (Err d) f y e = absurd cc

pub chosen : {A : Type 0} (b : Bool) (x y z : A) → cond b x y ≡ z → ((b ≡ true) × (x ≡ z)) ⊎ ((b ≡ false) × (y ≡ z))
chosen true x y z e = inl (refl, e)
chosen false x y z e = inr (refl, e)

abbrev pub done : {A : Type 0} → A → Result A ReadFault
done x = Ok x

pub ok_is : {A : Type 0} (x y : A) → done x ≡ done y → x ≡ y
ok_is x y e = cc

pub refused_not : {A : Type 0} (k : FaultKind) (ts : List Token) (x : A) → refuse {A = A} k ts ≡ Ok x → ⊥
refused_not k ts x e = cc

pub fault_not : {A : Type 0} (at : ℕ) (k : FaultKind) (x : A) → fault {A = A} at k ≡ Ok x → ⊥
fault_not at k x e = cc

module _ {S : Type 0} (I : S → Type 0) (read : Reader S) (keeps : (s : S) (ts : List Token) (x : S × List Token) → I s → read s ts ≡ Ok x → I x.0) where
  pub commas_keep : (k : ℕ) (s : S) (ts : List Token) (y : S × List Token) → I s → commas read k s ts ≡ Ok y → I y.0
  unfolding commas
  commas_keep zero s ts y i e = absurd (refused_not Unexpected ts y e)
  commas_keep (suc k) s ts y i e =
      let a = bind_ok (read s ts) (λ x. cond (next_mark Comma x.1) (commas read k x.0 (tail x.1)) (Ok x)) y e in
      let kept = keeps s ts a.0 i a.1 in
      elim (chosen (next_mark Comma a.0.1) (commas read k a.0.0 (tail a.0.1)) (Ok a.0) (Ok y) a.2) [
        | inl h ↦ commas_keep k a.0.0 (tail a.0.1) y kept h.1
        | inr h ↦ subst (λ (q : S × List Token). I q.0) (ok_is a.0 y h.1) kept
      ]

  pub items_keep : (end : Word) (k : ℕ) (s : S) (ts : List Token) (y : S × List Token) → I s → items end read k s ts ≡ Ok y → I y.0
  unfolding items
  items_keep end zero s ts y i e = absurd (refused_not Unexpected ts y e)
  items_keep end (suc k) s ts y i e =
      elim (chosen (next_word end ts) (Ok (s, ts)) (read s ts >>= λ x. items end read k x.0 x.1) (Ok y) e) [
        | inl h ↦ subst (λ (q : S × List Token). I q.0) (ok_is (s, ts) y h.1) i
        | inr h ↦ (let a = bind_ok (read s ts) (λ x. items end read k x.0 x.1) y h.1 in items_keep end k a.0.0 a.0.1 y (keeps s ts a.0 i a.1) a.2)
      ]

  pub listed_keep : (s : S) (ts : List Token) (y : S × List Token) → I s → listed read s ts ≡ Ok y → I y.0
  unfolding listed
  listed_keep s ts y i e =
      let a = bind_ok (items words.EndOfList read (length ts) s ts) (λ x. mark_at Dot (tail x.1) >>= λ rest. Ok (x.0, rest)) y e in
      let b = bind_ok (mark_at Dot (tail a.0.1)) (λ rest. Ok (a.0.0, rest)) y a.2 in
      subst (λ (q : S × List Token). I q.0) (ok_is (a.0.0, b.0) y b.2) (items_keep words.EndOfList (length ts) s ts a.0 i a.1)

pub all-append : {X : Type 0} (P : X → Type 0) (xs ys : List X) → AllByRecursion P xs → AllByRecursion P ys → AllByRecursion P (xs ++ ys)
all-append P [] ys all more = more
all-append P (x ∷ xs) ys all more = (all.0, all-append P xs ys all.1 more)

pub all-push : {X : Type 0} (P : X → Type 0) (xs : List X) (x : X) → AllByRecursion P xs → P x → AllByRecursion P (xs ++ x ∷ [])
all-push P [] x all p = (p, tt)
all-push P (y ∷ xs) x all p = (all.0, all-push P xs x all.1 p)
