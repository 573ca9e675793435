-- Words that begin items and may be names elsewhere.
use Rattle.std.specs.Prelude.{◌≡◌, ℕ, Bool, false, ◌&&◌, List, [], ◌∷◌, codes}
use Rattle.std.specs.Str.{bytes_eq}
use Rattle.dfg_tokens.specs.declared.word.Word.TheVariants as words
use Rattle.dfg_tokens.specs.declared.piece.TokenKind.TheVariants as kinds
use Rattle.dfg_tokens.specs.declared.token.Token.{Token}
use Rattle.dfg_tokens.specs.Tokens.{token_bytes}
use Rattle.dfg_terms.specs.Reading.{kind_is_word, bytes_of}
use Rattle.dfg_terms.specs.Phrases.{Phrase, token}
use Rattle.dfg_problem.specs.declared.keywords.Keyword.{Keyword}
use Rattle.dfg_problem.specs.declared.keywords.Keyword.TheVariants.{Formula, Subsort, Predicate, Sort}

abbrev pub keyword_text : Keyword → List ℕ
keyword_text Formula = codes "formula"
keyword_text Subsort = codes "subsort"
keyword_text Predicate = codes "predicate"
keyword_text Sort = codes "sort"

-- whether the next token is this word
unfoldable pub next_keyword : List ℕ → Keyword → List Token → Bool
next_keyword bytes k [] = false
next_keyword bytes k (t ∷ ts) = kind_is_word words.Plain t.kind && bytes_eq (bytes_of bytes t) (keyword_text k)

-- an identifier that is no other word of the grammar, and is spelled so
abbrev pub keyword : List ℕ → Keyword → Phrase
keyword bytes k = token (λ t. (t.kind ≡ kinds.Word words.Plain) × (token_bytes bytes t ≡ keyword_text k))
