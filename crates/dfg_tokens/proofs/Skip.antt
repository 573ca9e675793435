-- The bytes of a piece that was read are passed over.
use Rattle.std.proofs.Common.{◌≡◌, ℕ, zero, suc, ◌+◌, ◌-◌, ◌≤◌, ◌<◌, List, [], ◌∷◌, ◌++◌, length, drop, Option, Some, None, refl, sym, ap, ◌∙◌, subst, arith, append_assoc}
use Rattle.dfg_tokens.specs.declared.piece.TokenKind.{TokenKind}
use Rattle.dfg_tokens.specs.declared.token.Token.{Token}
use Rattle.dfg_tokens.specs.declared.piece.Piece.{Piece}
use Rattle.dfg_tokens.specs.Tokens.{tokens_from, token_if, piece_at, IsWithin}

pub skipped : (at n : ℕ) (bs : List ℕ) → n ≤ length bs → tokens_from at n bs ≡ tokens_from (at + n) 0 (drop n bs)
unfolding tokens_from
skipped at zero bs h = ap (λ k. tokens_from k 0 bs) (omega arith)
skipped at (suc n) [] h = absurd (omega arith)
skipped at (suc n) (b ∷ bs) h = skipped (at + 1) n bs (omega arith) ∙ ap (λ k. tokens_from k 0 (drop n bs)) (omega arith)

-- one piece, and what is left after it
pub one_piece : (at : ℕ) (bs : List ℕ) → 0 < length bs → IsWithin (piece_at bs) bs
    → tokens_from at 0 bs ≡ token_if (piece_at bs).kind at (piece_at bs).len (tokens_from (at + (piece_at bs).len) 0 (drop (piece_at bs).len bs))
unfolding tokens_from
one_piece at [] h w = absurd (omega arith)
one_piece at (b ∷ bs) h w =
    let n = (piece_at (b ∷ bs)).len in
    let pos : 0 < n = w.1 h in
    let e : n ≡ suc (n - 1) = omega arith in
    let step : tokens_from (at + 1) (n - 1) bs ≡ tokens_from (at + n) 0 (drop n (b ∷ bs)) =
    skipped (at + 1) (n - 1) bs (omega (arith, w.0)) ∙ ap (λ k. tokens_from k 0 (drop (n - 1) bs)) (omega arith) ∙ ap (λ k. tokens_from (at + n) 0 (drop k (b ∷ bs))) (sym e) in
    ap (token_if (piece_at (b ∷ bs)).kind at n) step

pub ended : (at : ℕ) (bs : List ℕ) → length bs ≡ 0 → tokens_from at 0 bs ≡ tokens_from at 0 []
ended at [] h = refl
ended at (b ∷ bs) h = absurd (omega arith)

token_if-append : (k : Option TokenKind) (at n : ℕ) (ts : List Token) → token_if k at n ts ≡ token_if k at n [] ++ ts
token_if-append None at n ts = refl
token_if-append (Some k) at n ts = refl

step_at : (found : List Token) (at : ℕ) (bs : List ℕ) (all : List Token) → 0 < length bs → IsWithin (piece_at bs) bs
    → found ++ tokens_from at 0 bs ≡ all → (found ++ token_if (piece_at bs).kind at (piece_at bs).len []) ++ tokens_from (at + (piece_at bs).len) 0 (drop (piece_at bs).len bs) ≡ all
step_at found at bs all h w so_far =
    append_assoc found (token_if (piece_at bs).kind at (piece_at bs).len []) (tokens_from (at + (piece_at bs).len) 0 (drop (piece_at bs).len bs))
    ∙ ap (λ ts. found ++ ts) (sym (token_if-append (piece_at bs).kind at (piece_at bs).len (tokens_from (at + (piece_at bs).len) 0 (drop (piece_at bs).len bs))))
    ∙ ap (λ ts. found ++ ts) (sym (one_piece at bs h w)) ∙ so_far

-- the loop's step
pub goes_on : (found found' : List Token) (at : ℕ) (bs bs' : List ℕ) (all : List Token) (p : Piece) → p ≡ piece_at bs → IsWithin p bs → 0 < length bs
    → found' ≡ found ++ token_if p.kind at p.len [] → bs' ≡ drop p.len bs
    → found ++ tokens_from at 0 bs ≡ all → found' ++ tokens_from (at + p.len) 0 bs' ≡ all
goes_on found found' at bs bs' all p is w h f b so_far =
    let w' : IsWithin (piece_at bs) bs = subst (λ (q : Piece). IsWithin q bs) is w in
    rw (f, b) (subst (λ (q : Piece). (found ++ token_if q.kind at q.len []) ++ tokens_from (at + q.len) 0 (drop q.len bs) ≡ all) (sym is) (step_at found at bs all h w' so_far))

pub whole : (found : List Token) (at : ℕ) (bs : List ℕ) (all : List Token) → length bs ≡ 0 → found ++ tokens_from at 0 bs ≡ all → found ++ tokens_from at 0 [] ≡ all
whole found at bs all h so_far = ap (λ ts. found ++ ts) (sym (ended at bs h)) ∙ so_far
