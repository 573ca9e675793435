-- Several phrases in a row are read, each onto the state that the one before left.
use Rattle.std.proofs.Common.{◌≡◌, ℕ, zero, suc, ◌≤◌, ◌<◌, true, false, List, [], ◌∷◌, ◌++◌, length, fold, Ok, refl, sym, ap, subst, ◌∙◌, append_assoc, arith}
use Rattle.std.proofs.lemmas.List.{append-nil}
use Rattle.dfg_tokens.specs.declared.word.Word.{Word}
use Rattle.dfg_tokens.specs.declared.word.Word.TheVariants as words
use Rattle.dfg_tokens.specs.declared.piece.Mark.TheVariants.{OpenParenthesis, Comma, Dot}
use Rattle.dfg_tokens.specs.declared.token.Token.{Token}
use Rattle.dfg_reader.specs.Reading.{Reader, next_mark, next_word, mark_at, commas, items, listed}
use Rattle.dfg_reader.specs.Grammar.{Phrase, ◌⨾◌, mark, each, each_behind_comma, comma_separated, list_end, concatenated}
use Rattle.dfg_reader.proofs.Fronts.{Takes, fewer}
use Rattle.dfg_reader.proofs.Steps.{then_ok, when_true, when_false, token_shorter, token_tail, mark_next, other_mark, mark_read, word_next}

-- no argument and no further value follows
abbrev pub Ends : List Token → Type 0
Ends rest = (next_mark Comma rest ≡ false) × (next_mark OpenParenthesis rest ≡ false)

module _ {S X : Type 0} (P : X → Phrase) (step : S → X → S) (Fits : S → Type 0) (read : Reader S) (earlier : (s : S) (xs : List X) → Fits (fold step s xs) → Fits s) (takes : (x : X) → Takes (P x)) where
  module _ (law : (s : S) (x : X) (ts rest : List Token) → Fits (step s x) → P x ts rest → next_mark OpenParenthesis rest ≡ false → read s ts ≡ Ok (step s x, rest)) where
    more_read : (xs : List X) (s : S) (x : X) (k : ℕ) (ts between rest : List Token) → Fits (fold step (step s x) xs) → length ts ≤ k → P x ts between → each_behind_comma P xs between rest → Ends rest → commas read k s ts ≡ Ok (fold step (step s x) xs, rest)
    unfolding commas
    more_read [] s x zero ts between rest fits few p q ends = absurd (omega (arith, fewer ts between (takes x ts between p)))
    more_read [] s x (suc k) ts between rest fits few p q ends =
        then_ok _ _ _ _ (law s x ts rest fits (subst (P x ts) q p) ends.1) (when_false _ _ _ _ ends.0 refl)
    more_read (z ∷ xs) s x zero ts between rest fits few p q ends = absurd (omega (arith, fewer ts between (takes x ts between p)))
    more_read (z ∷ xs) s x (suc k) ts between rest fits few p q ends =
        let comma : mark Comma between q.0 = q.1 in
        let z_stands = q.2.1 in
        let later = q.2.2 in
        then_ok _ _ _ _ (law s x ts between (earlier (step s x) (z ∷ xs) fits) p (other_mark OpenParenthesis Comma between q.0 comma refl))
        (when_true _ _ _ _ (mark_next Comma between q.0 comma)
        (ap (commas read k (step s x)) (token_tail _ between q.0 comma)
        ∙ more_read xs (step s x) z k q.0 q.2.0 rest fits (omega (arith, fewer ts between (takes x ts between p), token_shorter _ between q.0 comma)) z_stands later ends))

    -- values with commas between them
    pub separated_read : (xs : List X) (s : S) (ts rest : List Token) → Fits (fold step s xs) → comma_separated P xs ts rest → Ends rest → commas read (length ts) s ts ≡ Ok (fold step s xs, rest)
    separated_read [] s ts rest fits p ends = absurd p
    separated_read (x ∷ xs) s ts rest fits p ends = more_read xs s x (length ts) ts p.0 rest fits (omega arith) p.1 p.2 ends

  module _ (end : Word) (others : (x : X) (ts rest : List Token) → P x ts rest → next_word end ts ≡ false) (law : (s : S) (x : X) (ts rest : List Token) → Fits (step s x) → P x ts rest → read s ts ≡ Ok (step s x, rest)) where
    some_next : (ts : List Token) → next_word end ts ≡ true → 0 < length ts
    unfolding next_word
    some_next [] e = absurd cc
    some_next (t ∷ ts) e = omega arith

    -- items up to the word that ends them
    pub items_read : (xs : List X) (s : S) (k : ℕ) (ts rest : List Token) → Fits (fold step s xs) → length ts ≤ k → each P xs ts rest → next_word end rest ≡ true → items end read k s ts ≡ Ok (fold step s xs, rest)
    unfolding items
    items_read [] s zero ts rest fits few p ends = absurd (omega (arith, ap length p, some_next rest ends))
    items_read [] s (suc k) ts rest fits few p ends = when_true _ _ _ _ (ap (next_word end) p ∙ ends) (ap (λ us. Ok (s, us)) p)
    items_read (x ∷ xs) s zero ts rest fits few p ends = absurd (omega (arith, fewer ts p.0 (takes x ts p.0 p.1)))
    items_read (x ∷ xs) s (suc k) ts rest fits few p ends =
        when_false _ _ _ _ (others x ts p.0 p.1)
        (then_ok _ _ _ _ (law s x ts p.0 (earlier (step s x) xs fits) p.1)
        (items_read xs (step s x) k p.0 rest fits (omega (arith, fewer ts p.0 (takes x ts p.0 p.1))) p.2 ends))

-- the items of a list with `end_of_list.` behind them
pub listed_read : {S X : Type 0} (P : X → Phrase) (step : S → X → S) (Fits : S → Type 0) (read : Reader S) → ((s : S) (xs : List X) → Fits (fold step s xs) → Fits s) → ((x : X) → Takes (P x)) → ((x : X) (ts rest : List Token) → P x ts rest → next_word words.EndOfList ts ≡ false)
    → ((s : S) (x : X) (ts rest : List Token) → Fits (step s x) → P x ts rest → read s ts ≡ Ok (step s x, rest))
    → (xs : List X) (s : S) (ts rest : List Token) → Fits (fold step s xs) → (each P xs ⨾ list_end) ts rest → listed read s ts ≡ Ok (fold step s xs, rest)
unfolding listed
listed_read P step Fits read earlier takes others law xs s ts rest fits p =
    let end = p.2 in
    then_ok _ _ _ _ (items_read P step Fits read earlier takes words.EndOfList others law xs s (length ts) ts p.0 fits (omega arith) p.1 (word_next words.EndOfList p.0 end.0 end.1))
    (then_ok _ _ _ _ (ap (mark_at Dot) (token_tail _ p.0 end.0 end.1) ∙ mark_read Dot end.0 rest end.2) refl)

-- ---- lists that grow at the end

-- a list that begins so
abbrev pub Begins : {Y : Type 0} → List Y → List Y → Type 0
Begins {Y} all front = (more : List Y) × (all ≡ front ++ more)

abbrev pub grown : {X Y : Type 0} → (X → List Y) → List Y → X → List Y
grown app s x = s ++ app x

pub begins_earlier : {X Y : Type 0} (app : X → List Y) (all : List Y) (s : List Y) (xs : List X) → Begins all (fold (grown app) s xs) → Begins all s
begins_earlier app all s [] b = b
begins_earlier app all s (x ∷ xs) b =
    let c = begins_earlier app all (s ++ app x) xs b in
    (app x ++ c.0, c.1 ∙ append_assoc s (app x) c.0)

abbrev pub lone : {Y : Type 0} → Y → List Y
lone y = y ∷ []

abbrev pub whole : {Y : Type 0} → List Y → List Y
whole ys = ys

pub fold_lone : {Y : Type 0} (s ys : List Y) → fold (grown lone) s ys ≡ s ++ ys
fold_lone s [] = sym (append-nil s)
fold_lone s (y ∷ ys) = fold_lone (s ++ y ∷ []) ys ∙ append_assoc s (y ∷ []) ys

pub fold_whole : {Y : Type 0} (s : List Y) (groups : List (List Y)) → fold (grown whole) s groups ≡ s ++ concatenated groups
fold_whole s [] = sym (append-nil s)
fold_whole s (g ∷ groups) = fold_whole (s ++ g) groups ∙ append_assoc s g (concatenated groups)

-- always
abbrev pub Anything : {S : Type 0} → S → Type 0
Anything s = Unit {0}
