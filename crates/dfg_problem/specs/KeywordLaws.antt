-- Laws with their proofs, not definitions that a reader must believe: words that begin items are read as they are written.
use Rattle.std.proofs.Common.{◌≡◌, ℕ, true, false, ◌&&◌, List, [], ◌∷◌, refl, sym, ap, ◌∙◌}
use Rattle.std.proofs.lemmas.Bool.{and_parts}
use Rattle.std.proofs.lemmas.Slice.Eq.{bytes_eq-Decides}
use Rattle.std.specs.Str.{bytes_eq}
use Rattle.dfg_tokens.specs.declared.word.Word.{Word}
use Rattle.dfg_tokens.specs.declared.word.Word.TheVariants as words
use Rattle.dfg_tokens.specs.declared.token.Token.{Token}
use Rattle.dfg_tokens.specs.Words.{spelling}
use Rattle.dfg_tokens.specs.Tokens.{token_bytes}
use Rattle.dfg_tokens.specs.Cursors.{tail}
use Rattle.dfg_terms.specs.Reading.{kind_is_word, next_word, bytes_of}
use Rattle.dfg_terms.specs.StepLaws.{other_word}
use Rattle.dfg_terms.specs.StandLaws.{next_word_stands}
use Rattle.dfg_problem.specs.declared.keywords.Keyword.{Keyword}
use Rattle.dfg_problem.specs.Keywords.{keyword_text, next_keyword, keyword}

first_same : (t u : Token) (ts us : List Token) → t ∷ ts ≡ u ∷ us → t ≡ u
first_same t u ts us e = cc

pub keyword_stands : (bytes : List ℕ) (k : Keyword) (ts : List Token) → next_keyword bytes k ts ≡ true → keyword bytes k ts (tail ts)
unfolding next_keyword bytes_of next_word
keyword_stands bytes k [] e = absurd cc
keyword_stands bytes k (t ∷ ts) e =
    let both = and_parts (kind_is_word words.Plain t.kind) (bytes_eq (token_bytes bytes t) (keyword_text k)) e in
    let p = next_word_stands words.Plain (t ∷ ts) both.0 in
    let same : t ≡ p.0 = first_same t p.0 ts ts p.2 in
    (p.0, (p.1, ap (token_bytes bytes) (sym same) ∙ (bytes_eq-Decides (token_bytes bytes t) (keyword_text k)).0 both.1), p.2)

pub next_keyword_is : (bytes : List ℕ) (k v : Keyword) (ts rest : List Token) → keyword bytes v ts rest → next_keyword bytes k ts ≡ bytes_eq (keyword_text v) (keyword_text k)
unfolding next_keyword bytes_of kind_is_word
next_keyword_is bytes k v ts rest p = ap (next_keyword bytes k) p.2 ∙ (λ i. kind_is_word words.Plain (p.1.0 i) && bytes_eq (p.1.1 i) (keyword_text k))

pub keyword_next : (bytes : List ℕ) (k : Keyword) (ts rest : List Token) → keyword bytes k ts rest → next_keyword bytes k ts ≡ true
keyword_next bytes k ts rest p = next_keyword_is bytes k k ts rest p ∙ (bytes_eq-Decides (keyword_text k) (keyword_text k)).1 refl

pub keyword_no_word : (bytes : List ℕ) (k : Keyword) (w : Word) (ts rest : List Token) → keyword bytes k ts rest → bytes_eq (spelling words.Plain) (spelling w) ≡ false → next_word w ts ≡ false
keyword_no_word bytes k w ts rest p e = other_word w words.Plain ts rest (p.0, p.1.0, p.2) e
