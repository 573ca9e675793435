-- Laws with their proofs, not definitions that a reader must believe: several phrases in a row are read, each onto the state that the one before left.
use Rattle.std.proofs.Common.{◌≡◌, ℕ, zero, suc, ◌≤◌, ◌<◌, true, false, List, [], ◌∷◌, ◌++◌, length, fold, Ok, refl, sym, ap, subst, ◌∙◌, append_assoc, arith}
use Rattle.std.proofs.lemmas.List.{append-nil}
use Rattle.dfg_tokens.specs.declared.word.Word.{Word}
use Rattle.dfg_tokens.specs.declared.piece.Mark.TheVariants.{OpenParenthesis, Comma}
use Rattle.dfg_tokens.specs.declared.token.Token.{Token}
use Rattle.dfg_terms.specs.Reading.{Reader, next_mark, next_word, commas, items}
use Rattle.dfg_terms.specs.Phrases.{Phrase, mark, each, each_behind_comma, comma_separated}
use Rattle.dfg_terms.specs.FrontLaws.{Takes, fewer}
use Rattle.dfg_terms.specs.ResultLaws.{then_ok, when_true, when_false}
use Rattle.dfg_terms.specs.StepLaws.{token_shorter, token_tail, mark_next, other_mark}

-- no argument and no further value follows
abbrev pub Ends : List Token → Type 0
Ends rest = (next_mark Comma rest ≡ false) × (next_mark OpenParenthesis rest ≡ false)

module _ {S X : Type 0} (P : X → Phrase) (step : S → X → S) (Fits : S → Type 0) (read : Reader S) (earlier : (s : S) (xs : List X) → Fits (fold step s xs) → Fits s) (takes : (x : X) → Takes (P x)) (most : ℕ) where
  module _ (law : (s : S) (x : X) (ts rest : List Token) → Fits (step s x) → length ts ≤ most → P x ts rest → next_mark OpenParenthesis rest ≡ false → read s ts ≡ Ok (step s x, rest)) where
    more_read : (xs : List X) (s : S) (x : X) (k : ℕ) (ts between rest : List Token) → Fits (fold step (step s x) xs) → length ts ≤ k → length ts ≤ most → P x ts between → each_behind_comma P xs between rest → Ends rest → commas read k s ts ≡ Ok (fold step (step s x) xs, rest)
    unfolding commas
    more_read [] s x zero ts between rest fits few near p q ends = absurd (omega (arith, fewer ts between (takes x ts between p)))
    more_read [] s x (suc k) ts between rest fits few near p q ends =
        then_ok _ _ _ _ (law s x ts rest fits near (subst (P x ts) q p) ends.1) (when_false _ _ _ _ ends.0 refl)
    more_read (z ∷ xs) s x zero ts between rest fits few near p q ends = absurd (omega (arith, fewer ts between (takes x ts between p)))
    more_read (z ∷ xs) s x (suc k) ts between rest fits few near p q ends =
        let comma : mark Comma between q.0 = q.1 in
        let z_stands = q.2.1 in
        let later = q.2.2 in
        then_ok _ _ _ _ (law s x ts between (earlier (step s x) (z ∷ xs) fits) near p (other_mark OpenParenthesis Comma between q.0 comma refl))
        (when_true _ _ _ _ (mark_next Comma between q.0 comma)
        (ap (commas read k (step s x)) (token_tail _ between q.0 comma)
        ∙ more_read xs (step s x) z k q.0 q.2.0 rest fits (omega (arith, fewer ts between (takes x ts between p), token_shorter _ between q.0 comma)) (omega (arith, fewer ts between (takes x ts between p), token_shorter _ between q.0 comma)) z_stands later ends))

    -- values with commas between them
    pub separated_read : (xs : List X) (s : S) (ts rest : List Token) → Fits (fold step s xs) → length ts ≤ most → comma_separated P xs ts rest → Ends rest → commas read most s ts ≡ Ok (fold step s xs, rest)
    separated_read [] s ts rest fits few p ends = absurd p
    separated_read (x ∷ xs) s ts rest fits few p ends = more_read xs s x most ts p.0 rest fits few few p.1 p.2 ends

  module _ (end : Word) (others : (x : X) (ts rest : List Token) → P x ts rest → next_word end ts ≡ false) (law : (s : S) (x : X) (ts rest : List Token) → Fits (step s x) → length ts ≤ most → P x ts rest → read s ts ≡ Ok (step s x, rest)) where
    some_next : (ts : List Token) → next_word end ts ≡ true → 0 < length ts
    unfolding next_word
    some_next [] e = absurd cc
    some_next (t ∷ ts) e = omega arith

    -- items up to the word that ends them
    pub items_read : (xs : List X) (s : S) (k : ℕ) (ts rest : List Token) → Fits (fold step s xs) → length ts ≤ k → length ts ≤ most → each P xs ts rest → next_word end rest ≡ true → items end read k s ts ≡ Ok (fold step s xs, rest)
    unfolding items
    items_read [] s zero ts rest fits few near p ends = absurd (omega (arith, ap length p, some_next rest ends))
    items_read [] s (suc k) ts rest fits few near p ends = when_true _ _ _ _ (ap (next_word end) p ∙ ends) (ap (λ us. Ok (s, us)) p)
    items_read (x ∷ xs) s zero ts rest fits few near p ends = absurd (omega (arith, fewer ts p.0 (takes x ts p.0 p.1)))
    items_read (x ∷ xs) s (suc k) ts rest fits few near p ends =
        when_false _ _ _ _ (others x ts p.0 p.1)
        (then_ok _ _ _ _ (law s x ts p.0 (earlier (step s x) xs fits) near p.1)
        (items_read xs (step s x) k p.0 rest fits (omega (arith, fewer ts p.0 (takes x ts p.0 p.1))) (omega (arith, fewer ts p.0 (takes x ts p.0 p.1))) p.2 ends))

-- ---- lists that grow at the end

abbrev pub grown : {X Y : Type 0} → (X → List Y) → List Y → X → List Y
grown app s x = s ++ app x

abbrev pub lone : {Y : Type 0} → Y → List Y
lone y = y ∷ []

pub fold_lone : {Y : Type 0} (s ys : List Y) → fold (grown lone) s ys ≡ s ++ ys
fold_lone s [] = sym (append-nil s)
fold_lone s (y ∷ ys) = fold_lone (s ++ y ∷ []) ys ∙ append_assoc s (y ∷ []) ys

-- always
abbrev pub Anything : {S : Type 0} → S → Type 0
Anything s = Unit {0}
