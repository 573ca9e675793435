-- Reading tokens from left to right, with the first fault that is met.
use Rattle.std.specs.Prelude.{◌≡◌, ℕ, zero, suc, Bool, true, false, ◌==◌, if◌then◌else◌, List, [], ◌∷◌, ◌++◌, take, drop, Result, Ok, Err, ⊤}
use Rattle.std.specs.Str.{bytes_eq, is_utf8}
use Rattle.dfg_tokens.specs.declared.word.Word.{Word}
use Rattle.dfg_tokens.specs.declared.word.Word.TheVariants as words
use Rattle.dfg_tokens.specs.declared.piece.Mark.{Mark}
use Rattle.dfg_tokens.specs.declared.piece.Mark.TheVariants.{Comma}
use Rattle.dfg_tokens.specs.declared.piece.TokenKind.{TokenKind}
use Rattle.dfg_tokens.specs.declared.piece.TokenKind.TheVariants as kinds
use Rattle.dfg_tokens.specs.declared.token.Token.{Token}
use Rattle.dfg_tokens.specs.Words.{spelling}
use Rattle.dfg_tokens.specs.Tokens.{byte_of}
use Rattle.dfg_tokens.specs.Cursors.{tail}
use Rattle.dfg_terms.specs.declared.fault.ReadFault.{ReadFault}
use Rattle.dfg_terms.specs.declared.fault.FaultKind.{FaultKind}
use Rattle.dfg_terms.specs.declared.fault.FaultKind.TheVariants.{Unexpected}
use Rattle.dfg_terms.specs.declared.fault.InputError.{InputError}
use Rattle.dfg_terms.specs.declared.fault.InputError.TheVariants as errors

-- read on where the first step succeeds; its fault is the fault of the whole
infixl 10 ◌>>=◌
abbrev pub ◌>>=◌ : {A B : Type 0} → Result A ReadFault → (A → Result B ReadFault) → Result B ReadFault
(Ok x) >>= f = f x
(Err e) >>= f = Err e

abbrev pub Fails : {Y : Type 0} → InputError → Result Y ReadFault → Type 0
Fails errors.Memory read = ⊤
Fails (errors.Fault f) read = read ≡ Err f

-- What a function answered, seen by view, is exactly what reading gives: its value, or its first fault. Want of memory is free.
abbrev pub Gives : {X Y : Type 0} → (X → Y) → Result X InputError → Result Y ReadFault → Type 0
Gives view (Ok x) read = read ≡ Ok (view x)
Gives view (Err e) read = Fails e read

-- ---- one token

-- the place of the next token
abbrev pub place : List Token → ℕ
place [] = 0
place (t ∷ ts) = t.at

abbrev pub fault : {A : Type 0} → ℕ → FaultKind → Result A ReadFault
fault at k = Err (record { at = at; kind = k })

-- a fault at the next token
abbrev pub refuse : {A : Type 0} → FaultKind → List Token → Result A ReadFault
refuse k ts = Err (record { at = place ts; kind = k })

abbrev pub refusal : FaultKind → List Token → InputError
refusal k ts = errors.Fault (record { at = place ts; kind = k })

-- the words that are no names
abbrev pub is_reserved : Word → Bool
is_reserved words.Forall = true
is_reserved words.Exists = true
is_reserved words.Not = true
is_reserved words.And = true
is_reserved words.Or = true
is_reserved words.Implies = true
is_reserved words.Implied = true
is_reserved words.Equiv = true
is_reserved words.Equal = true
is_reserved words.True = true
is_reserved words.False = true
is_reserved _ = false

abbrev pub kind_is_mark : Mark → TokenKind → Bool
kind_is_mark m (kinds.Mark n) = byte_of n == byte_of m
kind_is_mark m _ = false

unfoldable pub kind_is_word : Word → TokenKind → Bool
kind_is_word w (kinds.Word v) = bytes_eq (spelling v) (spelling w)
kind_is_word w _ = false

-- an identifier that is no reserved word
abbrev pub kind_is_name : TokenKind → Bool
kind_is_name (kinds.Word v) = if is_reserved v then false else true
kind_is_name _ = false

-- any identifier
abbrev pub kind_is_identifier : TokenKind → Bool
kind_is_identifier (kinds.Word v) = true
kind_is_identifier _ = false

abbrev pub kind_is_text : TokenKind → Bool
kind_is_text kinds.Text = true
kind_is_text _ = false

-- a byte that begins no token of a problem
abbrev pub kind_is_stray : ℕ → TokenKind → Bool
kind_is_stray b (kinds.Stray c) = c == b
kind_is_stray b _ = false

abbrev pub next_is : (TokenKind → Bool) → List Token → Bool
next_is test [] = false
next_is test (t ∷ ts) = test t.kind

unfoldable pub next_mark : Mark → List Token → Bool
next_mark m = next_is (kind_is_mark m)

unfoldable pub next_word : Word → List Token → Bool
next_word w = next_is (kind_is_word w)

unfoldable pub next_name : List Token → Bool
next_name = next_is kind_is_name

unfoldable pub next_stray : ℕ → List Token → Bool
next_stray b = next_is (kind_is_stray b)

unfoldable pub mark_at : Mark → List Token → Result (List Token) ReadFault
mark_at m ts = if next_mark m ts then Ok (tail ts) else refuse Unexpected ts

unfoldable pub word_at : Word → List Token → Result (List Token) ReadFault
word_at w ts = if next_word w ts then Ok (tail ts) else refuse Unexpected ts

abbrev pub taken : (TokenKind → Bool) → List Token → Result (Token × List Token) ReadFault
taken test [] = refuse Unexpected []
taken test (t ∷ ts) = if test t.kind then Ok (t, ts) else refuse Unexpected (t ∷ ts)

unfoldable pub identifier_at : List Token → Result (Token × List Token) ReadFault
identifier_at = taken kind_is_identifier

unfoldable pub name_at : List Token → Result (Token × List Token) ReadFault
name_at = taken kind_is_name

unfoldable pub text_at : List Token → Result (List Token) ReadFault
text_at [] = refuse Unexpected []
text_at (t ∷ ts) = if kind_is_text t.kind then Ok ts else refuse Unexpected (t ∷ ts)

-- the bytes of a token
unfoldable pub bytes_of : List ℕ → Token → List ℕ
bytes_of bytes t = take t.len (drop t.at bytes)

-- The name that an identifier spells. An identifier's bytes are ASCII, so they are always text and nothing is refused here.
unfoldable pub spelled_at : List ℕ → Token → Result (List ℕ) ReadFault
spelled_at bytes t = if is_utf8 (bytes_of bytes t) then Ok (bytes_of bytes t) else fault t.at Unexpected

-- ---- several in a row: each reads on from a state and the tokens that are left

abbrev pub Reader : Type 0 → Type 0
Reader S = S → List Token → Result (S × List Token) ReadFault

-- a value at the end of a list of them
abbrev pub adding : {X : Type 0} → (List Token → Result (X × List Token) ReadFault) → Reader (List X)
adding read xs ts = read ts >>= λ x. Ok (xs ++ x.0 ∷ [], x.1)

-- one or more, with commas between them; as many as the count at the most
unfoldable pub commas : {S : Type 0} → Reader S → ℕ → S → List Token → Result (S × List Token) ReadFault
commas read zero s ts = refuse Unexpected ts
commas read (suc k) s ts = read s ts >>= λ x. if next_mark Comma x.1 then commas read k x.0 (tail x.1) else Ok x

-- any number of items up to the word that ends them, which is left; as many as the count at the most
unfoldable pub items : {S : Type 0} → Word → Reader S → ℕ → S → List Token → Result (S × List Token) ReadFault
items end read zero s ts = refuse Unexpected ts
items end read (suc k) s ts = if next_word end ts then Ok (s, ts) else (read s ts >>= λ x. items end read k x.0 x.1)
