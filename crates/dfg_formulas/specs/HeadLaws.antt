-- Laws with their proofs, not definitions that a reader must believe: what a word begins.
use Rattle.std.proofs.Common.{◌≡◌, Bool, true, false, List, [], ◌∷◌, refl, ap, ◌∙◌, subst}
use Rattle.std.specs.Bool.{⊤}
use Rattle.dfg_tokens.specs.declared.piece.TokenKind.{TokenKind}
use Rattle.dfg_tokens.specs.declared.piece.TokenKind.TheVariants as kinds
use Rattle.dfg_tokens.specs.declared.word.Word.{Word}
use Rattle.dfg_tokens.specs.declared.word.Word.TheVariants as words
use Rattle.dfg_tokens.specs.declared.token.Token.{Token}
use Rattle.dfg_tokens.specs.Cursors.{tail}
use Rattle.dfg_terms.specs.Reading.{is_reserved}
use Rattle.dfg_terms.specs.Phrases.{word}
use Rattle.dfg_formulas.specs.declared.shape.Connective.{Connective}
use Rattle.dfg_formulas.specs.declared.shape.Connective.TheVariants as connectives
use Rattle.dfg_formulas.specs.declared.shape.Head.{Head}
use Rattle.dfg_formulas.specs.declared.shape.Head.TheVariants as heads
use Rattle.dfg_formulas.specs.Shapes.{word_head, head_of, next_head}
use Rattle.dfg_formulas.specs.Grammar.{connective_word}

abbrev pub constant_word : Bool → Word
constant_word true = words.True
constant_word false = words.False

-- the word of a head
abbrev IsHeadOf : Head → Word → Type 0
IsHeadOf (heads.Constant b) w = w ≡ constant_word b
IsHeadOf (heads.Connected c) w = w ≡ connective_word c
IsHeadOf heads.Atom w = ⊤
IsHeadOf heads.Nothing w = ⊤

own_word : (w : Word) → IsHeadOf (word_head w) w
own_word words.BeginProblem = tt
own_word words.EndProblem = tt
own_word words.EndOfList = tt
own_word words.ListOfDescriptions = tt
own_word words.ListOfSymbols = tt
own_word words.ListOfClauses = tt
own_word words.ListOfDeclarations = tt
own_word words.ListOfFormulae = tt
own_word words.ListOfProof = tt
own_word words.ListOfSettings = tt
own_word words.ListOfTerms = tt
own_word words.ListOfSpecialFormulae = tt
own_word words.ListOfIncludes = tt
own_word words.Name = tt
own_word words.Author = tt
own_word words.Version = tt
own_word words.Logic = tt
own_word words.Description = tt
own_word words.Date = tt
own_word words.Status = tt
own_word words.Satisfiable = tt
own_word words.Unsatisfiable = tt
own_word words.Unknown = tt
own_word words.Functions = tt
own_word words.Predicates = tt
own_word words.Sorts = tt
own_word words.Operators = tt
own_word words.Quantifiers = tt
own_word words.Translpairs = tt
own_word words.Axioms = tt
own_word words.Conjectures = tt
own_word words.Cnf = tt
own_word words.Dnf = tt
own_word words.Clause = tt
own_word words.Forall = refl
own_word words.Exists = refl
own_word words.Not = refl
own_word words.And = refl
own_word words.Or = refl
own_word words.Implies = refl
own_word words.Implied = refl
own_word words.Equiv = refl
own_word words.Equal = tt
own_word words.True = refl
own_word words.False = refl
own_word words.Plain = tt

-- the word stands there
abbrev Stands : Head → List Token → Type 0
Stands (heads.Constant b) ts = word (constant_word b) ts (tail ts)
Stands (heads.Connected c) ts = word (connective_word c) ts (tail ts)
Stands heads.Atom ts = ⊤
Stands heads.Nothing ts = ⊤

by_head : (h : Head) (w : Word) (t : Token) (ts : List Token) → t.kind ≡ kinds.Word w → IsHeadOf h w → Stands h (t ∷ ts)
by_head (heads.Constant b) w t ts k is = (t, k ∙ ap (λ v. kinds.Word v) is, refl)
by_head (heads.Connected c) w t ts k is = (t, k ∙ ap (λ v. kinds.Word v) is, refl)
by_head heads.Atom w t ts k is = tt
by_head heads.Nothing w t ts k is = tt

by_kind : (k : TokenKind) (t : Token) (ts : List Token) → t.kind ≡ k → Stands (head_of k) (t ∷ ts)
by_kind (kinds.Word w) t ts e = by_head (word_head w) w t ts e (own_word w)
by_kind (kinds.Mark m) t ts e = tt
by_kind kinds.Text t ts e = tt
by_kind (kinds.Stray b) t ts e = tt
by_kind kinds.End t ts e = tt

head_stands : (ts : List Token) → Stands (next_head ts) ts
unfolding next_head
head_stands [] = tt
head_stands (t ∷ ts) = by_kind t.kind t ts refl

pub constant_stands : (b : Bool) (ts : List Token) → next_head ts ≡ heads.Constant b → word (constant_word b) ts (tail ts)
constant_stands b ts e = subst (λ h. Stands h ts) e (head_stands ts)

pub connective_stands : (c : Connective) (ts : List Token) → next_head ts ≡ heads.Connected c → word (connective_word c) ts (tail ts)
connective_stands c ts e = subst (λ h. Stands h ts) e (head_stands ts)

-- ---- and back

pub head_is : (w : Word) (ts rest : List Token) → word w ts rest → next_head ts ≡ word_head w
unfolding next_head
head_is w ts rest p = ap next_head p.2 ∙ ap head_of p.1

pub connective_head : (c : Connective) → word_head (connective_word c) ≡ heads.Connected c
connective_head connectives.Not = refl
connective_head connectives.And = refl
connective_head connectives.Or = refl
connective_head connectives.Implies = refl
connective_head connectives.Implied = refl
connective_head connectives.Equiv = refl
connective_head connectives.Forall = refl
connective_head connectives.Exists = refl

-- a name begins an atom
pub free_head : (w : Word) → is_reserved w ≡ false → word_head w ≡ heads.Atom
free_head words.BeginProblem r = refl
free_head words.EndProblem r = refl
free_head words.EndOfList r = refl
free_head words.ListOfDescriptions r = refl
free_head words.ListOfSymbols r = refl
free_head words.ListOfClauses r = refl
free_head words.ListOfDeclarations r = refl
free_head words.ListOfFormulae r = refl
free_head words.ListOfProof r = refl
free_head words.ListOfSettings r = refl
free_head words.ListOfTerms r = refl
free_head words.ListOfSpecialFormulae r = refl
free_head words.ListOfIncludes r = refl
free_head words.Name r = refl
free_head words.Author r = refl
free_head words.Version r = refl
free_head words.Logic r = refl
free_head words.Description r = refl
free_head words.Date r = refl
free_head words.Status r = refl
free_head words.Satisfiable r = refl
free_head words.Unsatisfiable r = refl
free_head words.Unknown r = refl
free_head words.Functions r = refl
free_head words.Predicates r = refl
free_head words.Sorts r = refl
free_head words.Operators r = refl
free_head words.Quantifiers r = refl
free_head words.Translpairs r = refl
free_head words.Axioms r = refl
free_head words.Conjectures r = refl
free_head words.Cnf r = refl
free_head words.Dnf r = refl
free_head words.Clause r = refl
free_head words.Forall r = absurd cc
free_head words.Exists r = absurd cc
free_head words.Not r = absurd cc
free_head words.And r = absurd cc
free_head words.Or r = absurd cc
free_head words.Implies r = absurd cc
free_head words.Implied r = absurd cc
free_head words.Equiv r = absurd cc
free_head words.Equal r = absurd cc
free_head words.True r = absurd cc
free_head words.False r = absurd cc
free_head words.Plain r = refl
