-- Bytes as tokens (SPASS Input Syntax 1.5).
use Rattle.std.specs.Prelude.{◌≡◌, ℕ, zero, suc, ◌+◌, ◌-◌, Bool, true, false, ◌&&◌, ◌||◌, ◌==◌, nat_le, ◌≤◌, ◌<◌, if◌then◌else◌, List, [], ◌∷◌, length, take, drop, Option, Some, None, option_map, ⊤}
use Rattle.std.specs.List.{position_or_len, list_all, AllByRecursion}
use Rattle.dfg_tokens.specs.declared.piece.Mark.{Mark}
use Rattle.dfg_tokens.specs.declared.piece.Mark.TheVariants as marks
use Rattle.dfg_tokens.specs.declared.piece.TokenKind.{TokenKind}
use Rattle.dfg_tokens.specs.declared.piece.TokenKind.TheVariants as kinds
use Rattle.dfg_tokens.specs.declared.piece.Piece.{Piece}
use Rattle.dfg_tokens.specs.declared.token.Token.{Token}
use Rattle.dfg_tokens.specs.Words.{word_of}

-- space, tab, CR and LF
abbrev pub is_space : ℕ → Bool
is_space b = (b == 32) || (b == 9) || (b == 13) || (b == 10)

-- ASCII letters, digits and `_`
abbrev pub is_letter : ℕ → Bool
is_letter b = (nat_le 97 b && nat_le b 122) || (nat_le 65 b && nat_le b 90) || (nat_le 48 b && nat_le b 57) || (b == 95)

-- the byte that spells a mark
abbrev pub byte_of : Mark → ℕ
byte_of marks.OpenParenthesis = 40
byte_of marks.CloseParenthesis = 41
byte_of marks.OpenBracket = 91
byte_of marks.CloseBracket = 93
byte_of marks.Comma = 44
byte_of marks.Dot = 46

-- the mark that a byte spells
abbrev pub mark_of : ℕ → Option Mark
mark_of b =
    if b == 40 then Some marks.OpenParenthesis
    else (if b == 41 then Some marks.CloseParenthesis
    else (if b == 91 then Some marks.OpenBracket
    else (if b == 93 then Some marks.CloseBracket
    else (if b == 44 then Some marks.Comma
    else (if b == 46 then Some marks.Dot
    else None)))))

abbrev pub ends_name : ℕ → Bool
ends_name b = if is_letter b then false else true

abbrev pub ends_line : ℕ → Bool
ends_line b = b == 10

-- whether `*}` stands here
abbrev pub ends_text : ℕ → List ℕ → Bool
ends_text b [] = false
ends_text b (c ∷ cs) = (b == 42) && (c == 125)

-- how many bytes stand before the first `*}`
abbrev pub text_length : List ℕ → Option ℕ
text_length [] = None
text_length (b ∷ bs) = if ends_text b bs then Some 0 else option_map (λ n. n + 1) (text_length bs)

-- the text at a `{`, with the bytes after it
abbrev pub closed_text : Option ℕ → Piece
closed_text None = record { kind = Some (kinds.Stray 123); len = 1 }
closed_text (Some n) = record { kind = Some kinds.Text; len = n + 4 }

unfoldable pub text_at : List ℕ → Piece
text_at [] = record { kind = Some (kinds.Stray 123); len = 1 }
text_at (b ∷ bs) = if b == 42 then closed_text (text_length bs) else record { kind = Some (kinds.Stray 123); len = 1 }

-- the identifier at a letter
unfoldable pub name_at : List ℕ → Piece
name_at [] = record { kind = None; len = 0 }
name_at (b ∷ bs) = let n = position_or_len ends_name bs + 1 in record { kind = Some (kinds.Word (word_of (take n (b ∷ bs)))); len = n }

abbrev pub mark_or_stray : ℕ → Option Mark → Piece
mark_or_stray b (Some m) = record { kind = Some (kinds.Mark m); len = 1 }
mark_or_stray b None = record { kind = Some (kinds.Stray b); len = 1 }

-- what stands at the front: white space and comments have no kind
unfoldable pub piece_at : List ℕ → Piece
piece_at [] = record { kind = None; len = 0 }
piece_at (b ∷ bs) =
    if is_space b then record { kind = None; len = 1 }
    else (if b == 37 then record { kind = None; len = position_or_len ends_line bs + 1 }
    else (if is_letter b then name_at (b ∷ bs)
    else (if b == 123 then text_at bs
    else mark_or_stray b (mark_of b))))

-- a piece takes a byte or more where there is one
abbrev pub IsWithin : Piece → List ℕ → Type 0
IsWithin p bytes = (p.len ≤ length bytes) × (0 < length bytes → 0 < p.len)

abbrev pub token_if : Option TokenKind → ℕ → ℕ → List Token → List Token
token_if None at n tokens = tokens
token_if (Some k) at n tokens = record { at = at; len = n; kind = k } ∷ tokens

-- the tokens of the bytes from a place on, after as many bytes as belong to a piece that was read
unfoldable pub tokens_from : ℕ → ℕ → List ℕ → List Token
tokens_from at skip [] = record { at = at; len = 0; kind = kinds.End } ∷ []
tokens_from at zero (b ∷ bs) = token_if (piece_at (b ∷ bs)).kind at (piece_at (b ∷ bs)).len (tokens_from (at + 1) ((piece_at (b ∷ bs)).len - 1) bs)
tokens_from at (suc n) (b ∷ bs) = tokens_from (at + 1) n bs

-- the tokens of the bytes, and at last their end
abbrev pub tokens : List ℕ → List Token
tokens = tokens_from 0 0

-- What is known to one who is told that no text can close any more: no `*}` follows the first byte.
abbrev pub IsWarned : Bool → List ℕ → Type 0
IsWarned may_close bytes = may_close ≡ false → text_length (drop 1 bytes) ≡ None

-- ---- what a token says of its bytes

-- the bytes of a token
abbrev pub token_bytes : List ℕ → Token → List ℕ
token_bytes bytes t = take t.len (drop t.at bytes)

-- letters, digits and `_` alone
abbrev pub AreLetters : List ℕ → Type 0
AreLetters text = list_all is_letter text ≡ true

-- an identifier has letters, digits and `_` alone and is the word that it spells, and a mark is its one byte
abbrev pub IsSpelled : TokenKind → List ℕ → Type 0
IsSpelled (kinds.Word w) text = (word_of text ≡ w) × AreLetters text
IsSpelled (kinds.Mark m) text = text ≡ byte_of m ∷ []
IsSpelled _ text = ⊤

abbrev pub IsTokenOf : List ℕ → Token → Type 0
IsTokenOf bytes t = IsSpelled t.kind (token_bytes bytes t)

abbrev pub AreTokensOf : List ℕ → List Token → Type 0
AreTokensOf bytes = AllByRecursion (IsTokenOf bytes)
