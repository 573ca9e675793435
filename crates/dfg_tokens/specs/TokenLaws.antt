-- Laws with their proofs, not definitions that a reader must believe: a token stands for its own bytes.
use Rattle.std.proofs.Common.{◌≡◌, ◌==◌, ℕ, zero, suc, ◌+◌, ◌-◌, Bool, true, false, not, cond, List, [], ◌∷◌, take, drop, Option, Some, None, refl, sym, ap, subst, ◌∙◌, arith}
use Rattle.std.proofs.lemmas.Bool.{eqb-true}
use Rattle.std.specs.Bool.{⊤}
use Rattle.std.specs.List.{position_or_len}
use Rattle.dfg_tokens.specs.declared.piece.Mark.{Mark}
use Rattle.dfg_tokens.specs.declared.piece.Mark.TheVariants as marks
use Rattle.dfg_tokens.specs.declared.piece.TokenKind.{TokenKind}
use Rattle.dfg_tokens.specs.declared.piece.Piece.{Piece}
use Rattle.dfg_tokens.specs.declared.token.Token.{Token}
use Rattle.dfg_tokens.specs.Tokens.{is_space, is_letter, byte_of, mark_of, text_length, closed_text, text_at, name_at, mark_or_stray, piece_at, token_if, tokens_from, tokens, ends_name, AreLetters, IsSpelled, AreTokensOf}

abbrev SpelledIf : Option TokenKind → List ℕ → Type 0
SpelledIf None text = ⊤
SpelledIf (Some k) text = IsSpelled k text

-- the piece at the front of the bytes stands for its own
abbrev OwnBytes : List ℕ → Piece → Type 0
OwnBytes bytes p = SpelledIf p.kind (take p.len bytes)

choose : (P : Piece → Type 0) (b : Bool) (x y : Piece) → P x → P y → P (cond b x y)
choose P true x y p q = p
choose P false x y p q = q

text_own : (bytes : List ℕ) (o : Option ℕ) → OwnBytes bytes (closed_text o)
text_own bytes None = tt
text_own bytes (Some n) = tt

at_brace_own : (bytes rest : List ℕ) → OwnBytes bytes (text_at rest)
unfolding text_at
at_brace_own bytes [] = tt
at_brace_own bytes (b ∷ rest) = choose (OwnBytes bytes) (b == 42) (closed_text (text_length rest)) _ (text_own bytes (text_length rest)) tt

take_one : (b : ℕ) (bs : List ℕ) → take 1 (b ∷ bs) ≡ b ∷ []
take_one b [] = refl
take_one b (c ∷ bs) = refl

next_mark : (b : ℕ) (bs : List ℕ) (test : Bool) (m : Mark) (o : Option Mark) → (test ≡ true → b ≡ byte_of m) → OwnBytes (b ∷ bs) (mark_or_stray b o) → OwnBytes (b ∷ bs) (mark_or_stray b (cond test (Some m) o))
next_mark b bs true m o is rest = take_one b bs ∙ ap (λ x. x ∷ []) (is refl)
next_mark b bs false m o is rest = rest

mark_own : (b : ℕ) (bs : List ℕ) → OwnBytes (b ∷ bs) (mark_or_stray b (mark_of b))
mark_own b bs =
    next_mark b bs (b == 40) marks.OpenParenthesis _ (eqb-true b 40)
    (next_mark b bs (b == 41) marks.CloseParenthesis _ (eqb-true b 41)
    (next_mark b bs (b == 91) marks.OpenBracket _ (eqb-true b 91)
    (next_mark b bs (b == 93) marks.CloseBracket _ (eqb-true b 93)
    (next_mark b bs (b == 44) marks.Comma _ (eqb-true b 44)
    (next_mark b bs (b == 46) marks.Dot None (eqb-true b 46) tt)))))

-- ---- identifiers

first_letter : (b : ℕ) (rest : List ℕ) → is_letter b ≡ true → AreLetters rest → AreLetters (b ∷ rest)
first_letter b rest l all = rw (l, all) refl

letters_before : (bs : List ℕ) → AreLetters (take (position_or_len ends_name bs) bs)
letters_before [] = refl
letters_before (b ∷ bs) = by_test (is_letter b) refl (letters_before bs)
  where
    n : ℕ
    n = position_or_len ends_name bs

    by_test : (l : Bool) → is_letter b ≡ l → AreLetters (take n bs) → AreLetters (take (cond (not (cond l false true)) (1 + n) 0) (b ∷ bs))
    by_test true e rest = let k : suc n ≡ 1 + n = omega arith in subst (λ m. AreLetters (take m (b ∷ bs))) k (first_letter b (take n bs) e rest)
    by_test false e rest = refl

name_own : (b : ℕ) (bs : List ℕ) → is_letter b ≡ true → OwnBytes (b ∷ bs) (name_at (b ∷ bs))
unfolding name_at
name_own b bs l =
    let n = position_or_len ends_name bs in
    let k : suc n ≡ n + 1 = omega arith in
    (refl, subst (λ m. AreLetters (take m (b ∷ bs))) k (first_letter b (take n bs) l (letters_before bs)))

choose_where : (P : Piece → Type 0) (b : Bool) (x y : Piece) → (b ≡ true → P x) → P y → P (cond b x y)
choose_where P true x y p q = p refl
choose_where P false x y p q = q

piece_own : (bytes : List ℕ) → OwnBytes bytes (piece_at bytes)
unfolding piece_at
piece_own [] = tt
piece_own (b ∷ bs) =
    choose (OwnBytes (b ∷ bs)) (is_space b) _ _ tt
    (choose (OwnBytes (b ∷ bs)) (b == 37) _ _ tt
    (choose_where (OwnBytes (b ∷ bs)) (is_letter b) (name_at (b ∷ bs)) _ (name_own b bs)
    (choose (OwnBytes (b ∷ bs)) (b == 123) (text_at bs) (mark_or_stray b (mark_of b)) (at_brace_own (b ∷ bs) bs) (mark_own b bs))))

drop_more : (n : ℕ) (all : List ℕ) (b : ℕ) (bs : List ℕ) → drop n all ≡ b ∷ bs → drop (n + 1) all ≡ bs
drop_more zero [] b bs e = absurd cc
drop_more zero (c ∷ all) b bs e = cc
drop_more (suc n) [] b bs e = absurd cc
drop_more (suc n) (c ∷ all) b bs e = let k : suc n + 1 ≡ suc (n + 1) = omega arith in ap (λ m. drop m (c ∷ all)) k ∙ drop_more n all b bs e

kept_if : (all : List ℕ) (k : Option TokenKind) (at n : ℕ) (ts : List Token) → SpelledIf k (take n (drop at all)) → AreTokensOf all ts → AreTokensOf all (token_if k at n ts)
kept_if all None at n ts own rest = rest
kept_if all (Some k) at n ts own rest = (own, rest)

own_from : (all : List ℕ) (at skip : ℕ) (bs : List ℕ) → drop at all ≡ bs → AreTokensOf all (tokens_from at skip bs)
unfolding tokens_from
own_from all at skip [] e = (tt, tt)
own_from all at zero (b ∷ bs) e =
    let p = piece_at (b ∷ bs) in
    kept_if all p.kind at p.len (tokens_from (at + 1) (p.len - 1) bs) (subst (λ (rest : List ℕ). SpelledIf p.kind (take p.len rest)) (sym e) (piece_own (b ∷ bs))) (own_from all (at + 1) (p.len - 1) bs (drop_more at all b bs e))
own_from all at (suc n) (b ∷ bs) e = own_from all (at + 1) n bs (drop_more at all b bs e)

pub own_tokens : (bytes : List ℕ) → AreTokensOf bytes (tokens bytes)
own_tokens bytes = own_from bytes 0 0 bytes refl

pub own_found : (bytes : List ℕ) (found : List Token) → found ≡ tokens bytes → AreTokensOf bytes found
own_found bytes found is = subst (AreTokensOf bytes) (sym is) (own_tokens bytes)
