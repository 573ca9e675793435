-- Laws with their proofs, not definitions that a reader must believe: lists of items up to `end_of_list.`, and lists that grow at the end.
use Rattle.std.proofs.Common.{◌≡◌, ℕ, zero, suc, ◌≤◌, inl, inr, false, cond, List, [], ◌∷◌, ◌++◌, length, fold, Ok, refl, sym, ap, subst, ◌∙◌, append_assoc}
use Rattle.std.proofs.lemmas.List.{append-nil}
use Rattle.dfg_tokens.specs.declared.word.Word.{Word}
use Rattle.dfg_tokens.specs.declared.word.Word.TheVariants as words
use Rattle.dfg_tokens.specs.declared.piece.Mark.TheVariants.{Comma, Dot}
use Rattle.dfg_tokens.specs.declared.token.Token.{Token}
use Rattle.dfg_tokens.specs.Cursors.{tail}
use Rattle.dfg_terms.specs.declared.fault.FaultKind.TheVariants.{Unexpected}
use Rattle.dfg_terms.specs.Reading.{◌>>=◌, Reader, next_mark, next_word, mark_at, commas, items}
use Rattle.dfg_terms.specs.Phrases.{Phrase, ◌⨾◌, mark, word, each}
use Rattle.dfg_terms.specs.ResultLaws.{bind_ok, chosen, ok_is, refused_not, then_ok}
use Rattle.dfg_terms.specs.StepLaws.{token_tail, mark_read, word_next}
use Rattle.dfg_terms.specs.StandLaws.{mark_stands, items_stand}
use Rattle.dfg_terms.specs.FrontLaws.{Takes, Keeps, then_takes, weaken, mark_takes, word_takes}
use Rattle.dfg_terms.specs.RowLaws.{grown, items_read}
use Rattle.dfg_lists.specs.Lists.{listed}
use Rattle.dfg_lists.specs.Grammar.{concatenated, list_end}

-- ---- lists up to their end

pub end_takes : Takes list_end
end_takes = then_takes (word words.EndOfList) (mark Dot) (word_takes _) (weaken (mark Dot) (mark_takes _))

pub end_keeps : Keeps list_end
end_keeps = weaken list_end end_takes

module _ {S X : Type 0} (P : X → Phrase) (step : S → X → S) (read : Reader S) where
  pub listed_stand : ((s : S) (ts : List Token) (y : S × List Token) → read s ts ≡ Ok y → (x : X) × (y.0 ≡ step s x) × P x ts y.1)
      → (count : ℕ) (s : S) (ts : List Token) (y : S × List Token) → listed read count s ts ≡ Ok y → (xs : List X) × (y.0 ≡ fold step s xs) × (each P xs ⨾ list_end) ts y.1
  unfolding listed
  listed_stand law count s ts y e =
      let a = bind_ok (items words.EndOfList read count s ts) (λ x. mark_at Dot (tail x.1) >>= λ rest. Ok (x.0, rest)) y e in
      let b = bind_ok (mark_at Dot (tail a.0.1)) (λ rest. Ok (a.0.0, rest)) y a.2 in
      let all = items_stand P step read law words.EndOfList count s ts a.0 a.1 in
      subst (λ (q : S × List Token). (xs : List X) × (q.0 ≡ fold step s xs) × (each P xs ⨾ list_end) ts q.1) (ok_is (a.0.0, b.0) y b.2)
      (all.0, all.1, (a.0.1, all.2, (tail a.0.1, all.3, mark_stands Dot (tail a.0.1) b.0 b.1)))

  pub listed_read : (Fits : S → Type 0) → ((s : S) (xs : List X) → Fits (fold step s xs) → Fits s) → ((x : X) → Takes (P x)) → (most : ℕ)
      → ((x : X) (ts rest : List Token) → P x ts rest → next_word words.EndOfList ts ≡ false)
      → ((s : S) (x : X) (ts rest : List Token) → Fits (step s x) → length ts ≤ most → P x ts rest → read s ts ≡ Ok (step s x, rest))
      → (xs : List X) (s : S) (ts rest : List Token) → Fits (fold step s xs) → length ts ≤ most → (each P xs ⨾ list_end) ts rest → listed read most s ts ≡ Ok (fold step s xs, rest)
  unfolding listed
  listed_read Fits earlier takes most others law xs s ts rest fits near p =
      let end = p.2 in
      then_ok _ _ _ _ (items_read P step Fits read earlier takes most words.EndOfList others law xs s most ts p.0 fits near near p.1 (word_next words.EndOfList p.0 end.0 end.1))
      (then_ok _ _ _ _ (ap (mark_at Dot) (token_tail _ p.0 end.0 end.1) ∙ mark_read Dot end.0 rest end.2) refl)

-- ---- what each reading step keeps, a list of them keeps

module _ {S : Type 0} (I : S → Type 0) (read : Reader S) (keeps : (s : S) (ts : List Token) (x : S × List Token) → I s → read s ts ≡ Ok x → I x.0) where
  pub commas_keep : (k : ℕ) (s : S) (ts : List Token) (y : S × List Token) → I s → commas read k s ts ≡ Ok y → I y.0
  unfolding commas
  commas_keep zero s ts y i e = absurd (refused_not Unexpected ts y e)
  commas_keep (suc k) s ts y i e =
      let a = bind_ok (read s ts) (λ x. cond (next_mark Comma x.1) (commas read k x.0 (tail x.1)) (Ok x)) y e in
      let kept = keeps s ts a.0 i a.1 in
      elim (chosen (next_mark Comma a.0.1) (commas read k a.0.0 (tail a.0.1)) (Ok a.0) (Ok y) a.2) [
        | inl h ↦ commas_keep k a.0.0 (tail a.0.1) y kept h.1
        | inr h ↦ subst (λ (q : S × List Token). I q.0) (ok_is a.0 y h.1) kept
      ]

  pub items_keep : (end : Word) (k : ℕ) (s : S) (ts : List Token) (y : S × List Token) → I s → items end read k s ts ≡ Ok y → I y.0
  unfolding items
  items_keep end zero s ts y i e = absurd (refused_not Unexpected ts y e)
  items_keep end (suc k) s ts y i e =
      elim (chosen (next_word end ts) (Ok (s, ts)) (read s ts >>= λ x. items end read k x.0 x.1) (Ok y) e) [
        | inl h ↦ subst (λ (q : S × List Token). I q.0) (ok_is (s, ts) y h.1) i
        | inr h ↦ (let a = bind_ok (read s ts) (λ x. items end read k x.0 x.1) y h.1 in items_keep end k a.0.0 a.0.1 y (keeps s ts a.0 i a.1) a.2)
      ]

  pub listed_keep : (count : ℕ) (s : S) (ts : List Token) (y : S × List Token) → I s → listed read count s ts ≡ Ok y → I y.0
  unfolding listed
  listed_keep count s ts y i e =
      let a = bind_ok (items words.EndOfList read count s ts) (λ x. mark_at Dot (tail x.1) >>= λ rest. Ok (x.0, rest)) y e in
      let b = bind_ok (mark_at Dot (tail a.0.1)) (λ rest. Ok (a.0.0, rest)) y a.2 in
      subst (λ (q : S × List Token). I q.0) (ok_is (a.0.0, b.0) y b.2) (items_keep words.EndOfList count s ts a.0 i a.1)

-- ---- lists that grow at the end

-- a list that begins so
abbrev pub Begins : {Y : Type 0} → List Y → List Y → Type 0
Begins {Y} all front = (more : List Y) × (all ≡ front ++ more)

pub begins_earlier : {X Y : Type 0} (app : X → List Y) (all : List Y) (s : List Y) (xs : List X) → Begins all (fold (grown app) s xs) → Begins all s
begins_earlier app all s [] b = b
begins_earlier app all s (x ∷ xs) b =
    let c = begins_earlier app all (s ++ app x) xs b in
    (app x ++ c.0, c.1 ∙ append_assoc s (app x) c.0)

abbrev pub whole : {Y : Type 0} → List Y → List Y
whole ys = ys

pub fold_whole : {Y : Type 0} (s : List Y) (groups : List (List Y)) → fold (grown whole) s groups ≡ s ++ concatenated groups
fold_whole s [] = sym (append-nil s)
fold_whole s (g ∷ groups) = fold_whole (s ++ g) groups ∙ append_assoc s g (concatenated groups)
