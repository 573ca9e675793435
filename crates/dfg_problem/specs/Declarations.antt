-- Declarations of sorts, or the first fault: what they say, and the tokens that are left.
use Rattle.std.specs.Prelude.{ℕ, zero, suc, if◌then◌else◌, List, [], ◌∷◌, ◌++◌, length, fold, Result, Ok}
use Rattle.spl_terms.specs.declared.term.Symbol.{Symbol}
use Rattle.spl_terms.specs.declared.term.Term.{Term, Var}
use Rattle.spl_terms.specs.declared.atom.Atom.TheVariants.{Holds}
use Rattle.spl_symbols.specs.Symbols.{Declared}
use Rattle.formulas.specs.declared.tree.Tree as tree
use Rattle.formulas.specs.declared.tree.Tree.{Tree}
use Rattle.formulas.specs.Trees.{foralls}
use Rattle.dfg_tokens.specs.declared.token.Token.{Token}
use Rattle.dfg_tokens.specs.declared.piece.Mark.TheVariants.{OpenParenthesis, CloseParenthesis, Comma}
use Rattle.dfg_tokens.specs.declared.word.Word.TheVariants as words
use Rattle.dfg_tokens.specs.Cursors.{tail}
use Rattle.dfg_terms.specs.declared.fault.ReadFault.{ReadFault}
use Rattle.dfg_terms.specs.declared.fault.FaultKind.TheVariants.{Unexpected, OutsideProfile}
use Rattle.dfg_terms.specs.declared.symbols.Place.TheVariants as places
use Rattle.dfg_terms.specs.Reading.{◌>>=◌, refuse, next_mark, next_word, mark_at, name_at, adding, commas}
use Rattle.dfg_terms.specs.Symbols.{symbol_named, checked_arity}
use Rattle.dfg_formulas.specs.Formulas.{sort_named, term_declaration_at}
use Rattle.dfg_problem.specs.declared.keywords.Keyword.TheVariants as keywords
use Rattle.dfg_problem.specs.Keywords.{next_keyword}

-- ---- what they say

-- that the variable of this number is of the sort
abbrev pub is_of : Symbol → ℕ → Tree
is_of sort number = tree.Atom (Holds sort (Var number ∷ []))

-- for all x: S(x) implies T(x)
abbrev pub inclusion : Symbol → Symbol → Tree
inclusion s t = foralls 0 1 (tree.Implies (is_of s 0) (is_of t 0))

-- the first so many variables
abbrev pub variables : ℕ → List Term
variables zero = []
variables (suc n) = variables n ++ Var n ∷ []

abbrev pub with_sort : List Tree → Symbol → List Tree
with_sort atoms sort = atoms ++ is_of sort (length atoms) ∷ []

-- that each variable is of the sort at its place
abbrev pub sort_atoms : List Symbol → List Tree
sort_atoms = fold with_sort []

-- For all x1, .., xn: P(x1,..,xn) implies S1(x1) and .. and Sn(xn). Its clauses are those of `P(x1,..,xn) implies Si(xi)` for each i in order; so written, the formula is no longer than the text.
abbrev pub argument_sorts : Symbol → List Symbol → Tree
argument_sorts p sorts = foralls 0 (length sorts) (tree.Implies (tree.Atom (Holds p (variables (length sorts)))) (tree.And (sort_atoms sorts)))

-- ---- how they are read

abbrev pub SortReader : Type 0
SortReader = List Token → Result (Symbol × List Token) ReadFault

-- a sort, or a predicate of one argument
unfoldable pub sort_name_at : List ℕ → List Declared → SortReader
sort_name_at bytes symbols ts = name_at ts >>= λ name. sort_named bytes symbols name.0 >>= λ sort. Ok (sort, name.1)

-- `(S,T)`
unfoldable pub inclusion_at : List ℕ → List Declared → List Token → Result (Tree × List Token) ReadFault
inclusion_at bytes symbols ts = do
  opened ← mark_at OpenParenthesis ts
  s ← sort_name_at bytes symbols opened
  second ← mark_at Comma s.1
  t ← sort_name_at bytes symbols second
  rest ← mark_at CloseParenthesis t.1
  Ok (inclusion s.0 t.0, rest)

-- `,S1,..,Sn`, or nothing
unfoldable pub sorts_behind : List ℕ → List Declared → List Token → Result (List Symbol × List Token) ReadFault
sorts_behind bytes symbols ts = if next_mark Comma ts then commas (adding (sort_name_at bytes symbols)) (length bytes) [] (tail ts) else Ok ([], ts)

-- `(P,S1,..,Sn)`
unfoldable pub argument_sorts_at : List ℕ → List Declared → List Token → Result (Tree × List Token) ReadFault
argument_sorts_at bytes symbols ts = do
  opened ← mark_at OpenParenthesis ts
  name ← name_at opened
  p ← symbol_named bytes symbols places.Atom name.0
  sorts ← sorts_behind bytes symbols name.1
  rest ← mark_at CloseParenthesis sorts.1
  counted ← checked_arity name.0.at p (length sorts.0)
  Ok (argument_sorts p.symbol sorts.0, rest)

-- `subsort(S,T)`, `predicate(P,S1,..,Sn)`, `T(t)` or `forall([..],T(t))`; the words win over symbols of their names
unfoldable pub declared_at : List ℕ → List Declared → List Token → Result (Tree × List Token) ReadFault
declared_at bytes symbols ts =
    if next_word words.EndOfList ts then refuse Unexpected ts
    else (if next_keyword bytes keywords.Sort ts then refuse OutsideProfile ts
    else (if next_keyword bytes keywords.Subsort ts then inclusion_at bytes symbols (tail ts)
    else (if next_keyword bytes keywords.Predicate ts then argument_sorts_at bytes symbols (tail ts)
    else (term_declaration_at bytes symbols 1000 [] 0 ts >>= λ x. Ok (x.0.0, x.1)))))
