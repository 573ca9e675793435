-- Laws with their proofs, not definitions that a reader must believe: where a phrase of one token stands, it is read.
use Rattle.std.proofs.Common.{◌≡◌, ◌==◌, ℕ, eq-eqb, ◌<◌, inl, inr, Bool, true, false, cond, List, ◌∷◌, length, Ok, refl, sym, ap, ◌∙◌, arith}
use Rattle.std.proofs.lemmas.Bool.{cases_Bool}
use Rattle.std.specs.Str.{bytes_eq}
use Rattle.std.proofs.lemmas.Slice.Eq.{bytes_eq-Decides}
use Rattle.dfg_tokens.specs.declared.word.Word.{Word}
use Rattle.dfg_tokens.specs.declared.word.Word.TheVariants as words
use Rattle.dfg_tokens.specs.declared.piece.Mark.{Mark}
use Rattle.dfg_tokens.specs.declared.piece.TokenKind.{TokenKind}
use Rattle.dfg_tokens.specs.declared.piece.TokenKind.TheVariants as kinds
use Rattle.dfg_tokens.specs.declared.token.Token.{Token}
use Rattle.dfg_tokens.specs.Words.{spelling, word_of}
use Rattle.dfg_tokens.specs.Tokens.{byte_of}
use Rattle.dfg_tokens.specs.Cursors.{tail}
use Rattle.dfg_terms.specs.declared.fault.FaultKind.TheVariants.{Unexpected}
use Rattle.dfg_terms.specs.Reading.{refuse, is_reserved, kind_is_mark, kind_is_word, kind_is_name, kind_is_identifier, kind_is_text, kind_is_stray, next_is, next_mark, next_word, next_name, next_stray, mark_at, word_at, taken, identifier_at, name_at, text_at}
use Rattle.dfg_terms.specs.Phrases.{token, mark, word, stray, text}
use Rattle.dfg_terms.specs.ResultLaws.{done, when_true}

-- ---- a token stands there

pub token_shorter : (P : Token → Type 0) (ts rest : List Token) → token P ts rest → length rest < length ts
token_shorter P ts rest p = let e = ap length p.2 in omega arith

pub token_tail : (P : Token → Type 0) (ts rest : List Token) → token P ts rest → tail ts ≡ rest
token_tail P ts rest p = ap tail p.2

next_kind : (test : TokenKind → Bool) (k : TokenKind) (ts rest : List Token) → token (λ t. t.kind ≡ k) ts rest → next_is test ts ≡ test k
next_kind test k ts rest p = ap (next_is test) p.2 ∙ ap test p.1

-- ---- marks

pub mark_next : (m : Mark) (ts rest : List Token) → mark m ts rest → next_mark m ts ≡ true
unfolding next_mark
mark_next m ts rest p = next_kind (kind_is_mark m) (kinds.Mark m) ts rest p ∙ eq-eqb (byte_of m) (byte_of m) refl

pub other_mark : (m n : Mark) (ts rest : List Token) → mark n ts rest → (byte_of n == byte_of m) ≡ false → next_mark m ts ≡ false
unfolding next_mark
other_mark m n ts rest p e = next_kind (kind_is_mark m) (kinds.Mark n) ts rest p ∙ e

pub mark_read : (m : Mark) (ts rest : List Token) → mark m ts rest → mark_at m ts ≡ Ok rest
unfolding mark_at
mark_read m ts rest p = when_true (next_mark m ts) (Ok (tail ts)) (refuse Unexpected ts) (Ok rest) (mark_next m ts rest p) (ap done rest_is)
  where
    rest_is : tail ts ≡ rest
    rest_is = token_tail (λ t. t.kind ≡ kinds.Mark m) ts rest p

pub mark_no_name : (m : Mark) (ts rest : List Token) → mark m ts rest → next_name ts ≡ false
unfolding next_name
mark_no_name m ts rest p = next_kind kind_is_name (kinds.Mark m) ts rest p

-- ---- bytes that begin no token of a problem

pub stray_next : (b : ℕ) (ts rest : List Token) → stray b ts rest → next_stray b ts ≡ true
unfolding next_stray
stray_next b ts rest p = next_kind (kind_is_stray b) (kinds.Stray b) ts rest p ∙ eq-eqb b b refl

-- an identifier is none of them
pub word_no_stray : (b : ℕ) (w : Word) (t : Token) (ts : List Token) → t.kind ≡ kinds.Word w → next_stray b (t ∷ ts) ≡ false
unfolding next_stray
word_no_stray b w t ts k = ap (kind_is_stray b) k

-- ---- words

pub next_word_is : (w v : Word) (ts rest : List Token) → word v ts rest → next_word w ts ≡ bytes_eq (spelling v) (spelling w)
unfolding next_word kind_is_word
next_word_is w v ts rest p = next_kind (kind_is_word w) (kinds.Word v) ts rest p

pub other_word : (w v : Word) (ts rest : List Token) → word v ts rest → bytes_eq (spelling v) (spelling w) ≡ false → next_word w ts ≡ false
other_word w v ts rest p e = next_word_is w v ts rest p ∙ e

pub word_next : (w : Word) (ts rest : List Token) → word w ts rest → next_word w ts ≡ true
word_next w ts rest p = next_word_is w w ts rest p ∙ (bytes_eq-Decides (spelling w) (spelling w)).1 refl

pub word_read : (w : Word) (ts rest : List Token) → word w ts rest → word_at w ts ≡ Ok rest
unfolding word_at
word_read w ts rest p = when_true (next_word w ts) (Ok (tail ts)) (refuse Unexpected ts) (Ok rest) (word_next w ts rest p) (ap done (token_tail (λ t. t.kind ≡ kinds.Word w) ts rest p))

-- ---- identifiers and texts

taken_read : (test : TokenKind → Bool) (t : Token) (ts rest : List Token) → test t.kind ≡ true → ts ≡ t ∷ rest → taken test ts ≡ Ok (t, rest)
taken_read test t ts rest passes e = ap (taken test) e ∙ when_true (test t.kind) (Ok (t, rest)) (refuse Unexpected (t ∷ rest)) (Ok (t, rest)) passes refl

pub identifier_read : (w : Word) (t : Token) (ts rest : List Token) → t.kind ≡ kinds.Word w → ts ≡ t ∷ rest → identifier_at ts ≡ Ok (t, rest)
unfolding identifier_at
identifier_read w t ts rest k e = taken_read kind_is_identifier t ts rest (ap kind_is_identifier k) e

pub name_read : (w : Word) (t : Token) (ts rest : List Token) → t.kind ≡ kinds.Word w → is_reserved w ≡ false → ts ≡ t ∷ rest → name_at ts ≡ Ok (t, rest)
unfolding name_at
name_read w t ts rest k free e = taken_read kind_is_name t ts rest (ap kind_is_name k ∙ ap (λ b. cond b false true) free) e

pub text_read : (ts rest : List Token) → text ts rest → text_at ts ≡ Ok rest
unfolding text_at
text_read ts rest p = ap text_at p.2 ∙ when_true (kind_is_text p.0.kind) (Ok rest) (refuse Unexpected (p.0 ∷ rest)) (Ok rest) (ap kind_is_text p.1) refl

-- ---- no word is spelled as another

again : (w : Word) → word_of (spelling w) ≡ w
unfolding word_of
again words.BeginProblem = refl
again words.EndProblem = refl
again words.EndOfList = refl
again words.ListOfDescriptions = refl
again words.ListOfSymbols = refl
again words.ListOfClauses = refl
again words.ListOfDeclarations = refl
again words.ListOfFormulae = refl
again words.ListOfProof = refl
again words.ListOfSettings = refl
again words.ListOfTerms = refl
again words.ListOfSpecialFormulae = refl
again words.ListOfIncludes = refl
again words.Name = refl
again words.Author = refl
again words.Version = refl
again words.Logic = refl
again words.Description = refl
again words.Date = refl
again words.Status = refl
again words.Satisfiable = refl
again words.Unsatisfiable = refl
again words.Unknown = refl
again words.Functions = refl
again words.Predicates = refl
again words.Sorts = refl
again words.Operators = refl
again words.Quantifiers = refl
again words.Translpairs = refl
again words.Axioms = refl
again words.Conjectures = refl
again words.Cnf = refl
again words.Dnf = refl
again words.Clause = refl
again words.Forall = refl
again words.Exists = refl
again words.Not = refl
again words.And = refl
again words.Or = refl
again words.Implies = refl
again words.Implied = refl
again words.Equiv = refl
again words.Equal = refl
again words.True = refl
again words.False = refl
again words.Plain = refl

pub same_word : (v w : Word) → spelling v ≡ spelling w → v ≡ w
same_word v w e = sym (again v) ∙ ap word_of e ∙ again w

-- a name is none of the reserved words
pub name_no_word : (w v : Word) (t : Token) (ts rest : List Token) → is_reserved w ≡ true → t.kind ≡ kinds.Word v → is_reserved v ≡ false → ts ≡ t ∷ rest → next_word w ts ≡ false
name_no_word w v t ts rest r k free e =
    elim (cases_Bool (next_word w ts)) [
      | inl h ↦ (let is : bytes_eq (spelling v) (spelling w) ≡ true = sym (next_word_is w v ts rest (t, k, e)) ∙ h in
          let same : v ≡ w = same_word v w ((bytes_eq-Decides (spelling v) (spelling w)).0 is) in
          let no : true ≡ false = sym r ∙ ap is_reserved (sym same) ∙ free in
          absurd cc)
      | inr h ↦ h
    ]
