-- Which words may stand in which shape of formula.
use Rattle.std.specs.Prelude.{Bool, true, false, List, [], ◌∷◌, Option, Some, None}
use Rattle.dfg_tokens.specs.declared.piece.TokenKind.{TokenKind}
use Rattle.dfg_tokens.specs.declared.piece.TokenKind.TheVariants as kinds
use Rattle.dfg_tokens.specs.declared.word.Word.{Word}
use Rattle.dfg_tokens.specs.declared.word.Word.TheVariants as words
use Rattle.dfg_tokens.specs.declared.token.Token.{Token}
use Rattle.dfg_formulas.specs.declared.shape.Shape.{Shape}
use Rattle.dfg_formulas.specs.declared.shape.Shape.TheVariants as shapes
use Rattle.dfg_formulas.specs.declared.shape.Connective.{Connective}
use Rattle.dfg_formulas.specs.declared.shape.Connective.TheVariants as connectives
use Rattle.dfg_formulas.specs.declared.shape.Head.{Head}
use Rattle.dfg_formulas.specs.declared.shape.Head.TheVariants as heads

-- In this shape this connective may stand, and its parts have that shape.
abbrev pub parts : Shape → Connective → Option Shape
parts shapes.Formula c = Some shapes.Formula
parts shapes.Clause connectives.Forall = Some shapes.Body
parts shapes.Clause connectives.Or = Some shapes.Literal
parts shapes.Clause connectives.Not = Some shapes.Unsigned
parts shapes.Clause _ = None
parts shapes.Body connectives.Or = Some shapes.Literal
parts shapes.Body connectives.Not = Some shapes.Unsigned
parts shapes.Body _ = None
parts shapes.Literal connectives.Not = Some shapes.Unsigned
parts shapes.Literal _ = None
parts shapes.Unsigned c = None

-- what an identifier begins
abbrev pub word_head : Word → Head
word_head words.True = heads.Constant true
word_head words.False = heads.Constant false
word_head words.Not = heads.Connected connectives.Not
word_head words.And = heads.Connected connectives.And
word_head words.Or = heads.Connected connectives.Or
word_head words.Implies = heads.Connected connectives.Implies
word_head words.Implied = heads.Connected connectives.Implied
word_head words.Equiv = heads.Connected connectives.Equiv
word_head words.Forall = heads.Connected connectives.Forall
word_head words.Exists = heads.Connected connectives.Exists
word_head _ = heads.Atom

abbrev pub head_of : TokenKind → Head
head_of (kinds.Word w) = word_head w
head_of _ = heads.Nothing

unfoldable pub next_head : List Token → Head
next_head [] = heads.Nothing
next_head (t ∷ ts) = head_of t.kind

abbrev pub is_shape : Option Shape → Bool
is_shape None = false
is_shape (Some s) = true

-- whether a formula of this shape may begin so
abbrev pub may_begin : Shape → Head → Bool
may_begin shape (heads.Constant b) = true
may_begin shape (heads.Connected c) = is_shape (parts shape c)
may_begin shape heads.Atom = true
may_begin shape heads.Nothing = false
