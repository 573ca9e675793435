-- The next token of the bytes, and what is behind it.
use Rattle.std.proofs.Common.{◌≡◌, ◌==◌, ℕ, ◌+◌, ◌<◌, Bool, true, false, cond, List, [], ◌∷◌, length, drop, Option, Some, None, refl, sym, ap, subst, ◌∙◌}
use Rattle.std.specs.Bool.{⊤}
use Rattle.dfg_tokens.specs.declared.piece.Mark.{Mark}
use Rattle.dfg_tokens.specs.declared.piece.TokenKind.{TokenKind}
use Rattle.dfg_tokens.specs.declared.piece.TokenKind.TheVariants as kinds
use Rattle.dfg_tokens.specs.declared.piece.Piece.{Piece}
use Rattle.dfg_tokens.specs.declared.token.Token.{Token}
use Rattle.dfg_tokens.specs.Tokens.{is_space, is_letter, mark_of, text_length, closed_text, text_at, name_at, mark_or_stray, piece_at, tokens_from, token_if, IsWithin}
use Rattle.dfg_tokens.specs.Cursors.{behind, left_of}
use Rattle.dfg_tokens.proofs.Skip.{one_piece}

-- no piece is the end
abbrev IsNoEnd : Option TokenKind → Type 0
IsNoEnd None = ⊤
IsNoEnd (Some kinds.End) = ⊥
IsNoEnd (Some _) = ⊤

either : (b : Bool) (x y : Piece) → IsNoEnd x.kind → IsNoEnd y.kind → IsNoEnd (cond b x y).kind
either true x y p q = p
either false x y p q = q

text_no_end : (o : Option ℕ) → IsNoEnd (closed_text o).kind
text_no_end None = tt
text_no_end (Some n) = tt

brace_no_end : (bytes : List ℕ) → IsNoEnd (text_at bytes).kind
unfolding text_at
brace_no_end [] = tt
brace_no_end (b ∷ bytes) = either (b == 42) (closed_text (text_length bytes)) _ (text_no_end (text_length bytes)) tt

mark_no_end : (b : ℕ) (o : Option Mark) → IsNoEnd (mark_or_stray b o).kind
mark_no_end b None = tt
mark_no_end b (Some m) = tt

name_no_end : (bytes : List ℕ) → IsNoEnd (name_at bytes).kind
unfolding name_at
name_no_end [] = tt
name_no_end (b ∷ bytes) = tt

piece_no_end : (bytes : List ℕ) → IsNoEnd (piece_at bytes).kind
unfolding piece_at
piece_no_end [] = tt
piece_no_end (b ∷ bytes) =
    either (is_space b) _ _ tt
    (either (b == 37) _ _ tt
    (either (is_letter b) (name_at (b ∷ bytes)) _ (name_no_end (b ∷ bytes))
    (either (b == 123) (text_at bytes) (mark_or_stray b (mark_of b)) (brace_no_end bytes) (mark_no_end b (mark_of b)))))

behind_is : (k : TokenKind) (at : ℕ) (bytes : List ℕ) → IsNoEnd (Some k) → behind k at bytes ≡ tokens_from at 0 bytes
behind_is (kinds.Word w) at bytes other = refl
behind_is (kinds.Mark m) at bytes other = refl
behind_is kinds.Text at bytes other = refl
behind_is (kinds.Stray b) at bytes other = refl
behind_is kinds.End at bytes other = absurd other

-- what stands at the front is a token
pub token_found : (at : ℕ) (bytes : List ℕ) (p : Piece) (k : TokenKind) → p ≡ piece_at bytes → IsWithin p bytes → 0 < length bytes → p.kind ≡ Some k
    → left_of (Some (record { at = at; len = p.len; kind = k })) (drop p.len bytes) ≡ tokens_from at 0 bytes
token_found at bytes p k is w some e =
    let here : token_if p.kind at p.len (tokens_from (at + p.len) 0 (drop p.len bytes)) ≡ tokens_from at 0 bytes =
    subst (λ (q : Piece). IsWithin q bytes → token_if q.kind at q.len (tokens_from (at + q.len) 0 (drop q.len bytes)) ≡ tokens_from at 0 bytes) (sym is) (λ w'. sym (one_piece at bytes some w')) w in
    let other : IsNoEnd (Some k) = subst IsNoEnd e (subst (λ (q : Piece). IsNoEnd q.kind) (sym is) (piece_no_end bytes)) in
    let t : Token = record { at = at; len = p.len; kind = k } in
    ap (λ (ts : List Token). t ∷ ts) (behind_is k (at + p.len) (drop p.len bytes) other)
    ∙ ap (λ (o : Option TokenKind). token_if o at p.len (tokens_from (at + p.len) 0 (drop p.len bytes))) (sym e) ∙ here

-- what stands at the front is white space or a comment
pub none_found : (at : ℕ) (bytes : List ℕ) (p : Piece) → p ≡ piece_at bytes → IsWithin p bytes → 0 < length bytes → p.kind ≡ None
    → tokens_from (at + p.len) 0 (drop p.len bytes) ≡ tokens_from at 0 bytes
none_found at bytes p is w some e =
    let here : token_if p.kind at p.len (tokens_from (at + p.len) 0 (drop p.len bytes)) ≡ tokens_from at 0 bytes =
    subst (λ (q : Piece). IsWithin q bytes → token_if q.kind at q.len (tokens_from (at + q.len) 0 (drop q.len bytes)) ≡ tokens_from at 0 bytes) (sym is) (λ w'. sym (one_piece at bytes some w')) w in
    ap (λ (o : Option TokenKind). token_if o at p.len (tokens_from (at + p.len) 0 (drop p.len bytes))) (sym e) ∙ here
