-- Phrases: which tokens spell something. They know nothing of reading: there is no order of tests, no state and no fault.
use Rattle.std.specs.Prelude.{◌≡◌, ℕ, Bool, true, false, ◌⊎◌, List, [], ◌∷◌, Some}
use Rattle.dfg_tokens.specs.declared.word.Word.{Word}
use Rattle.dfg_tokens.specs.declared.piece.Mark.{Mark}
use Rattle.dfg_tokens.specs.declared.piece.Mark.TheVariants.{OpenParenthesis, CloseParenthesis, Comma}
use Rattle.dfg_tokens.specs.declared.piece.TokenKind.TheVariants as kinds
use Rattle.dfg_tokens.specs.declared.token.Token.{Token}
use Rattle.dfg_tokens.specs.Tokens.{token_bytes}
use Rattle.dfg_terms.specs.Reading.{is_reserved}
use Rattle.dfg_terms.specs.Numbers.{arity_of, numeral_of}

-- whether a phrase stands at the front of the first list of tokens, with the second list behind it
abbrev pub Phrase : Type 1
Phrase = List Token → List Token → Type 0

-- one phrase, and behind it another
infixr 20 ◌⨾◌
abbrev pub ◌⨾◌ : Phrase → Phrase → Phrase
◌⨾◌ P Q ts rest = (between : List Token) × P ts between × Q between rest

abbrev pub nothing : Phrase
nothing ts rest = ts ≡ rest

abbrev pub either : Phrase → Phrase → Phrase
either P Q ts rest = P ts rest ⊎ Q ts rest

-- one token of which this holds
abbrev pub token : (Token → Type 0) → Phrase
token P ts rest = (t : Token) × P t × (ts ≡ t ∷ rest)

abbrev pub mark : Mark → Phrase
mark m = token (λ t. t.kind ≡ kinds.Mark m)

abbrev pub word : Word → Phrase
word w = token (λ t. t.kind ≡ kinds.Word w)

-- a byte that begins no token of a problem
abbrev pub stray : ℕ → Phrase
stray b = token (λ t. t.kind ≡ kinds.Stray b)

-- one of the words that pass
abbrev pub any_word : (Word → Bool) → Phrase
any_word test = token (λ t. (w : Word) × (t.kind ≡ kinds.Word w) × (test w ≡ true))

-- any identifier, a reserved word too
abbrev pub identifier : Phrase
identifier = token (λ t. (w : Word) × (t.kind ≡ kinds.Word w))

abbrev pub text : Phrase
text = token (λ t. t.kind ≡ kinds.Text)

-- an identifier of these bytes that is no reserved word
abbrev pub IsNameOf : List ℕ → List ℕ → Token → Type 0
IsNameOf bytes name t = (w : Word) × (t.kind ≡ kinds.Word w) × (is_reserved w ≡ false) × (token_bytes bytes t ≡ name)

-- an identifier of one to three digits that spell the number
abbrev pub IsArityOf : List ℕ → ℕ → Token → Type 0
IsArityOf bytes n t = (w : Word) × (t.kind ≡ kinds.Word w) × (arity_of (token_bytes bytes t) ≡ Some n)

-- an identifier of digits without leading zeros that spell the number
abbrev pub IsNumeralOf : List ℕ → ℕ → Token → Type 0
IsNumeralOf bytes n t = (w : Word) × (t.kind ≡ kinds.Word w) × (numeral_of (token_bytes bytes t) ≡ Some n)

-- ---- several in a row

-- a phrase for each, one behind the other
abbrev pub each : {X : Type 0} → (X → Phrase) → List X → Phrase
each P [] = nothing
each P (x ∷ xs) = P x ⨾ each P xs

abbrev pub each_behind_comma : {X : Type 0} → (X → Phrase) → List X → Phrase
each_behind_comma P [] = nothing
each_behind_comma P (x ∷ xs) = mark Comma ⨾ P x ⨾ each_behind_comma P xs

-- one or more with commas between them
abbrev pub comma_separated : {X : Type 0} → (X → Phrase) → List X → Phrase
comma_separated P [] ts rest = ⊥
comma_separated P (x ∷ xs) ts rest = (P x ⨾ each_behind_comma P xs) ts rest

-- in parentheses
abbrev pub enclosed : Phrase → Phrase
enclosed P = mark OpenParenthesis ⨾ P ⨾ mark CloseParenthesis

-- `(x,..)`, or nothing where there are none
abbrev pub arguments : {X : Type 0} → (X → Phrase) → List X → Phrase
arguments P [] = nothing
arguments P (x ∷ xs) = enclosed (comma_separated P (x ∷ xs))
