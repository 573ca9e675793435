-- A proof list, or its first fault from left to right.
use Rattle.std.specs.Prelude.{ℕ, zero, suc, ◌+◌, ◌-◌, Bool, true, false, ◌==◌, min, if◌then◌else◌, List, [], ◌∷◌, ◌++◌, length, slice_get, drop, codes, Option, Some, None, Result, Ok, Err}
use Rattle.spl_terms.specs.declared.term.Term.{Term}
use Rattle.spl_terms.specs.declared.atom.Atom.{Atom}
use Rattle.spl_terms.specs.declared.clause.Clause.{Clause}
use Rattle.spl_terms.specs.declared.clause.Spot.{Spot}
use Rattle.spl_truth.specs.declared.replace.Subst.{Subst}
use Rattle.spl_symbols.specs.Symbols.{Declared}
use Rattle.dep_sets.specs.declared.deps.Assumption.{Assumption}
use Rattle.dep_sets.specs.Assumptions.{is_before}
use Rattle.proof_steps.specs.declared.step.Rule.{Rule}
use Rattle.proof_steps.specs.declared.step.Rule.TheVariants.{Input, Resolve, Factor, Paramodulate, Reflex, EqFactor, Assume, CaseLeft, CaseRight, CaseBoth}
use Rattle.proof_steps.specs.declared.step.Step.{Step}
use Rattle.proof_steps.specs.declared.step.Line.{Line}
use Rattle.dfg_tokens.specs.declared.token.Token.{Token}
use Rattle.dfg_tokens.specs.declared.piece.Mark.TheVariants.{OpenParenthesis, CloseParenthesis, OpenBracket, CloseBracket, Comma, Dot}
use Rattle.dfg_tokens.specs.declared.word.Word.TheVariants as words
use Rattle.dfg_tokens.specs.Tokens.{tokens}
use Rattle.dfg_tokens.specs.Cursors.{tail}
use Rattle.dfg_terms.specs.declared.fault.ReadFault.{ReadFault}
use Rattle.dfg_terms.specs.declared.fault.FaultKind.TheVariants.{Unexpected}
use Rattle.dfg_terms.specs.declared.fault.InputError.{InputError}
use Rattle.dfg_terms.specs.declared.fault.InputError.TheVariants as errors
use Rattle.dfg_terms.specs.declared.symbols.Place.{Place}
use Rattle.dfg_terms.specs.declared.symbols.Place.TheVariants as places
use Rattle.dfg_terms.specs.Reading.{◌>>=◌, Reader, refuse, next_mark, mark_at, word_at, adding, commas, items}
use Rattle.dfg_terms.specs.Numbers.{numeral_at}
use Rattle.dfg_terms.specs.Terms.{numbered_leaf, term_at, atom_with}
use Rattle.proof_reader.specs.declared.pairs.RuleName.{RuleName}
use Rattle.proof_reader.specs.declared.pairs.RuleName.TheVariants as rules
use Rattle.proof_reader.specs.Spellings.{spelled_at, stray_at, label_at, something_at, rule_of, number_pair, part_pair, direction_pair, side_pair, negated_pair}

-- ---- lists in brackets

-- items in brackets, with commas between them, or nothing in brackets; as many as the count at the most
unfoldable pub bracketed : {X : Type 0} → (List Token → Result (X × List Token) ReadFault) → ℕ → List Token → Result (List X × List Token) ReadFault
bracketed read count ts = mark_at OpenBracket ts >>= λ inner.
    if next_mark CloseBracket inner then Ok ([], tail inner)
    else (commas (adding read) count [] inner >>= λ x. mark_at CloseBracket x.1 >>= λ rest. Ok (x.0, rest))

-- a term nests no deeper than 1,000
abbrev pub term_of : List ℕ → List Declared → List Token → Result (Term × List Token) ReadFault
term_of bytes symbols = term_at bytes symbols (numbered_leaf bytes) 1000

-- an atom nests no deeper than 1,000, so its terms no deeper than 999
abbrev pub atom_of : List ℕ → List Declared → Place → List Token → Result (Atom × List Token) ReadFault
atom_of bytes symbols place = atom_with bytes symbols place (term_at bytes symbols (numbered_leaf bytes) 999)

abbrev pub terms_at : List ℕ → List Declared → List Token → Result (List Term × List Token) ReadFault
terms_at bytes symbols = bracketed (term_of bytes symbols) (length bytes)

abbrev pub atoms_at : List ℕ → List Declared → Place → List Token → Result (List Atom × List Token) ReadFault
atoms_at bytes symbols place = bracketed (atom_of bytes symbols place) (length bytes)

abbrev pub numbers_at : List ℕ → List Token → Result (List ℕ × List Token) ReadFault
numbers_at bytes = bracketed (numeral_at bytes) (length bytes)

-- ---- clauses

-- `cl([..],[..],[..])`: constraint, antecedent, succedent, each atom as it stands
unfoldable pub clause_at : List ℕ → List Declared → List Token → Result (Clause × List Token) ReadFault
clause_at bytes symbols ts = do
  opened ← spelled_at bytes (codes "cl") ts
  first ← mark_at OpenParenthesis opened
  constraint ← atoms_at bytes symbols places.Constraint first
  second ← mark_at Comma constraint.1
  antecedent ← atoms_at bytes symbols places.Antecedent second
  third ← mark_at Comma antecedent.1
  succedent ← atoms_at bytes symbols places.Atom third
  rest ← mark_at CloseParenthesis succedent.1
  Ok (record { constraint = constraint.0; antecedent = antecedent.0; succedent = succedent.0 }, rest)

-- ---- the pairs of a rule

unfoldable pub subst_pair : List ℕ → List Declared → List ℕ → List Token → Result (Subst × List Token) ReadFault
subst_pair bytes symbols label ts = label_at bytes label ts >>= λ n. terms_at bytes symbols n >>= λ x. mark_at Comma x.1 >>= λ rest. Ok (record { terms = x.0 }, rest)

unfoldable pub path_pair : List ℕ → List Token → Result (List ℕ × List Token) ReadFault
path_pair bytes ts = label_at bytes (codes "pos") ts >>= λ n. numbers_at bytes n >>= λ x. mark_at Comma x.1 >>= λ rest. Ok (x.0, rest)

unfoldable pub input_at : List ℕ → List Token → Result (Rule × List Token) ReadFault
input_at bytes ts = number_pair bytes (codes "no") ts >>= λ n. Ok (Input n.0, n.1)

unfoldable pub resolve_at : List ℕ → List Declared → List Token → Result (Rule × List Token) ReadFault
resolve_at bytes symbols ts = do
  i ← number_pair bytes (codes "i") ts
  part ← part_pair bytes false i.1
  j ← number_pair bytes (codes "j") part.1
  s ← subst_pair bytes symbols (codes "s") j.1
  t ← subst_pair bytes symbols (codes "t") s.1
  Ok (Resolve i.0 part.0 j.0 s.0 t.0, t.1)

unfoldable pub factor_at : List ℕ → List Declared → List Token → Result (Rule × List Token) ReadFault
factor_at bytes symbols ts = subst_pair bytes symbols (codes "s") ts >>= λ s. Ok (Factor s.0, s.1)

-- where a term is replaced
unfoldable pub spot_at : List ℕ → List Token → Result (Spot × List Token) ReadFault
spot_at bytes ts = do
  part ← part_pair bytes true ts
  j ← number_pair bytes (codes "j") part.1
  path ← path_pair bytes j.1
  Ok (record { part = part.0; place = j.0; path = path.0 }, path.1)

unfoldable pub paramodulate_at : List ℕ → List Declared → List Token → Result (Rule × List Token) ReadFault
paramodulate_at bytes symbols ts = do
  i ← number_pair bytes (codes "i") ts
  right ← direction_pair bytes (codes "dir") i.1
  spot ← spot_at bytes right.1
  s ← subst_pair bytes symbols (codes "s") spot.1
  t ← subst_pair bytes symbols (codes "t") s.1
  Ok (Paramodulate i.0 right.0 spot.0 s.0 t.0, t.1)

unfoldable pub reflex_at : List ℕ → List Declared → List Token → Result (Rule × List Token) ReadFault
reflex_at bytes symbols ts = do
  j ← number_pair bytes (codes "j") ts
  s ← subst_pair bytes symbols (codes "s") j.1
  Ok (Reflex j.0 s.0, s.1)

unfoldable pub eq_factor_at : List ℕ → List Declared → List Token → Result (Rule × List Token) ReadFault
eq_factor_at bytes symbols ts = do
  i ← number_pair bytes (codes "i") ts
  i_right ← direction_pair bytes (codes "idir") i.1
  j ← number_pair bytes (codes "j") i_right.1
  j_right ← direction_pair bytes (codes "jdir") j.1
  s ← subst_pair bytes symbols (codes "s") j_right.1
  Ok (EqFactor i.0 i_right.0 j.0 j_right.0 s.0, s.1)

unfoldable pub assume_at : List ℕ → List Token → Result (Rule × List Token) ReadFault
assume_at bytes ts = do
  side ← side_pair bytes ts
  negated ← negated_pair bytes side.1
  Ok (Assume side.0 negated.0, negated.1)

-- the rule with this name, from the pairs that it has; each has a comma behind it
unfoldable pub pairs_at : List ℕ → List Declared → RuleName → List Token → Result (Rule × List Token) ReadFault
pairs_at bytes symbols rules.Input ts = input_at bytes ts
pairs_at bytes symbols rules.Resolve ts = resolve_at bytes symbols ts
pairs_at bytes symbols rules.Factor ts = factor_at bytes symbols ts
pairs_at bytes symbols rules.Paramodulate ts = paramodulate_at bytes symbols ts
pairs_at bytes symbols rules.Reflex ts = reflex_at bytes symbols ts
pairs_at bytes symbols rules.EqFactor ts = eq_factor_at bytes symbols ts
pairs_at bytes symbols rules.Assume ts = assume_at bytes ts
pairs_at bytes symbols rules.CaseLeft ts = Ok (CaseLeft, ts)
pairs_at bytes symbols rules.CaseRight ts = Ok (CaseRight, ts)
pairs_at bytes symbols rules.CaseBoth ts = Ok (CaseBoth, ts)

-- ---- parents

-- how many parents a rule has
abbrev pub parent_count : RuleName → ℕ
parent_count rules.Input = 0
parent_count rules.Resolve = 2
parent_count rules.Factor = 1
parent_count rules.Paramodulate = 2
parent_count rules.Reflex = 1
parent_count rules.EqFactor = 1
parent_count rules.Assume = 1
parent_count rules.CaseLeft = 2
parent_count rules.CaseRight = 2
parent_count rules.CaseBoth = 3

-- so many more numbers, each with a comma before it
unfoldable pub more_numbers : List ℕ → ℕ → List ℕ → List Token → Result (List ℕ × List Token) ReadFault
more_numbers bytes zero ns ts = Ok (ns, ts)
more_numbers bytes (suc k) ns ts = mark_at Comma ts >>= λ rest. numeral_at bytes rest >>= λ n. more_numbers bytes k (ns ++ n.0 ∷ []) n.1

-- so many numbers with commas between them
abbrev pub some_numbers : List ℕ → ℕ → List Token → Result (List ℕ × List Token) ReadFault
some_numbers bytes zero ts = Ok ([], ts)
some_numbers bytes (suc k) ts = numeral_at bytes ts >>= λ n. more_numbers bytes k (n.0 ∷ []) n.1

unfoldable pub parents_at : List ℕ → ℕ → List Token → Result (List ℕ × List Token) ReadFault
parents_at bytes count ts = mark_at OpenBracket ts >>= λ inner. some_numbers bytes count inner >>= λ ns. mark_at CloseBracket ns.1 >>= λ rest. Ok (ns.0, rest)

-- ---- dependencies

-- whether the assumption is greater than that one, if there is one
abbrev pub is_behind : Option Assumption → Assumption → Bool
is_behind None a = true
is_behind (Some b) a = is_before b a

-- whether the assumption may stand behind these: it is greater than the last
abbrev pub may_follow : List Assumption → Assumption → Bool
may_follow deps a = is_behind (slice_get deps (length deps - 1)) a

-- `r-i`: the number of the clause that was split, and the side
unfoldable pub assumption_at : List ℕ → List Token → Result (Assumption × List Token) ReadFault
assumption_at bytes ts = do
  split ← numeral_at bytes ts
  second ← stray_at 45 split.1
  side ← numeral_at bytes second
  Ok (record { split = split.0; side = side.0 }, side.1)

-- one more assumption, which must be greater than the last
unfoldable pub adding_assumption : List ℕ → Reader (List Assumption)
adding_assumption bytes deps ts = assumption_at bytes ts >>= λ a. if may_follow deps a.0 then Ok (deps ++ a.0 ∷ [], a.1) else refuse Unexpected ts

-- `dep:[..]`, in ascending order
unfoldable pub deps_at : List ℕ → List Token → Result (List Assumption × List Token) ReadFault
deps_at bytes ts = do
  labelled ← label_at bytes (codes "dep") ts
  inner ← mark_at OpenBracket labelled
  if next_mark CloseBracket inner then Ok ([], tail inner)
      else (commas (adding_assumption bytes) (length bytes) [] inner >>= λ x. mark_at CloseBracket x.1 >>= λ rest. Ok (x.0, rest))

-- ---- lines

-- the number itself; another one is refused at its place
unfoldable pub this_number : List ℕ → ℕ → List Token → Result (List Token) ReadFault
this_number bytes n ts = numeral_at bytes ts >>= λ x. if x.0 == n then Ok x.1 else refuse Unexpected ts

-- the rule with its parents
unfoldable pub step_at : List ℕ → List Declared → List Token → Result (Step × List Token) ReadFault
step_at bytes symbols ts = do
  name ← something_at rule_of bytes ts
  before ← mark_at Comma name.1
  parents ← parents_at bytes (parent_count name.0) before
  behind ← mark_at Comma parents.1
  inner ← mark_at OpenBracket behind
  rule ← pairs_at bytes symbols name.0 inner
  Ok (record { rule = rule.0; parents = parents.0 }, rule.1)

-- `step(N,`
unfoldable pub number_at : List ℕ → ℕ → List Token → Result (List Token) ReadFault
number_at bytes n ts = do
  opened ← spelled_at bytes (codes "step") ts
  number ← mark_at OpenParenthesis opened
  comma ← this_number bytes n number
  mark_at Comma comma

-- `]).`
unfoldable pub closing_at : List Token → Result (List Token) ReadFault
closing_at ts = mark_at CloseBracket ts >>= λ a. mark_at CloseParenthesis a >>= λ b. mark_at Dot b

-- `step(N,clause,rule,[parents],[pairs]).`, where N is the next number, from 1
unfoldable pub line_at : List ℕ → List Declared → Reader (List Line)
line_at bytes symbols lines ts = do
  first ← number_at bytes (length lines + 1) ts
  clause ← clause_at bytes symbols first
  second ← mark_at Comma clause.1
  step ← step_at bytes symbols second
  deps ← deps_at bytes step.1
  rest ← closing_at deps.1
  Ok (lines ++ record { step = step.0; stated = record { clause = clause.0; deps = deps.0 } } ∷ [], rest)

-- `list_of_proof(spl).`
unfoldable pub head_at : List ℕ → List Token → Result (List Token) ReadFault
head_at bytes ts = do
  opened ← word_at words.ListOfProof ts
  kind ← mark_at OpenParenthesis opened
  closed ← spelled_at bytes (codes "spl") kind
  dot ← mark_at CloseParenthesis closed
  mark_at Dot dot

-- The lines up to `end_of_list.`; what stands behind is not looked at. No list of a text has more lines than the text has bytes.
unfoldable pub proof_at : List ℕ → List Declared → List Token → Result (List Line) ReadFault
proof_at bytes symbols ts = do
  first ← head_at bytes ts
  lines ← items words.EndOfList (line_at bytes symbols) (length bytes) [] first
  rest ← mark_at Dot (tail lines.1)
  Ok lines.0

-- the places of faults count from so much further; a place is at most 2 ^ 64 - 1
abbrev pub moved : {X : Type 0} → ℕ → Result X ReadFault → Result X ReadFault
moved at (Ok x) = Ok x
moved at (Err f) = Err (record { at = min (at + f.at) 18446744073709551615; kind = f.kind })

abbrev pub moved_error : ℕ → InputError → InputError
moved_error at errors.Memory = errors.Memory
moved_error at (errors.Fault f) = errors.Fault (record { at = min (at + f.at) 18446744073709551615; kind = f.kind })

-- the proof list at this offset of the bytes
unfoldable pub proof : List ℕ → ℕ → List Declared → Result (List Line) ReadFault
proof bytes at symbols = moved at (proof_at (drop at bytes) symbols (tokens (drop at bytes)))
