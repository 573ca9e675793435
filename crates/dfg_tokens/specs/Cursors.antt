-- What a cursor over the bytes stands for: the tokens that are left.
use Rattle.std.specs.Prelude.{ℕ, ◌+◌, ◌<◌, ◌^◌, List, [], ◌∷◌, length, Option, Some, None, ⊤}
use Rattle.dfg_tokens.specs.declared.piece.TokenKind.{TokenKind}
use Rattle.dfg_tokens.specs.declared.piece.TokenKind.TheVariants as kinds
use Rattle.dfg_tokens.specs.declared.token.Token.{Token}
use Rattle.dfg_tokens.specs.Tokens.{tokens_from}

-- the next token
abbrev pub first : List Token → Option Token
first [] = None
first (t ∷ ts) = Some t

-- the tokens behind the next one
abbrev pub tail : List Token → List Token
tail [] = []
tail (t ∷ ts) = ts

-- the tokens behind one of this kind, from a place on; none behind the end
abbrev pub behind : TokenKind → ℕ → List ℕ → List Token
behind kinds.End at bytes = []
behind (kinds.Word w) at bytes = tokens_from at 0 bytes
behind (kinds.Mark m) at bytes = tokens_from at 0 bytes
behind kinds.Text at bytes = tokens_from at 0 bytes
behind (kinds.Stray b) at bytes = tokens_from at 0 bytes

-- the next token, if there is one, and those of the bytes behind it
abbrev pub left_of : Option Token → List ℕ → List Token
left_of None bytes = []
left_of (Some t) bytes = t ∷ behind t.kind (t.at + t.len) bytes

-- the place where the bytes end is below 2 ^ 32
abbrev pub IsPlaced : Option Token → List ℕ → Type 0
IsPlaced None bytes = ⊤
IsPlaced (Some t) bytes = t.at + t.len + length bytes < 2 ^ 32
