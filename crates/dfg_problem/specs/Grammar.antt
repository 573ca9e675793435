-- The grammar of problems (SPASS Input Syntax 1.5, in the profile of docs/input.md): which tokens spell what. It knows nothing of reading: there is no order of tests, no state and no fault.
use Rattle.std.specs.Prelude.{◌≡◌, ℕ, ◌+◌, ◌≤◌, Bool, true, false, ◌||◌, ◌⊎◌, List, [], ◌∷◌, length, map}
use Rattle.spl_terms.specs.declared.term.Symbol.{Symbol}
use Rattle.spl_symbols.specs.Symbols.{Declared}
use Rattle.formulas.specs.declared.tree.Tree.{Tree}
use Rattle.formulas.specs.declared.entry.Role.{Role}
use Rattle.formulas.specs.declared.entry.Role.TheVariants.{Axiom, Conjecture, Clause}
use Rattle.formulas.specs.declared.entry.Entry.{Entry}
use Rattle.dfg_tokens.specs.declared.piece.Mark.TheVariants.{Comma, Dot}
use Rattle.dfg_tokens.specs.declared.token.Token.{Token}
use Rattle.dfg_tokens.specs.declared.word.Word.TheVariants as words
use Rattle.dfg_tokens.specs.Tokens.{tokens}
use Rattle.dfg_terms.specs.declared.symbols.Place.TheVariants as places
use Rattle.dfg_terms.specs.Reading.{place, next_word}
use Rattle.dfg_terms.specs.Phrases.{Phrase, ◌⨾◌, nothing, either, mark, word, identifier, each, each_behind_comma, enclosed}
use Rattle.dfg_terms.specs.Grammar.{symbol}
use Rattle.dfg_formulas.specs.declared.shape.Shape.{Shape}
use Rattle.dfg_formulas.specs.declared.shape.Shape.TheVariants as shapes
use Rattle.dfg_formulas.specs.Grammar.{sort_name, formula, term_declaration}
use Rattle.dfg_lists.specs.Grammar.{concatenated, list_end, head, descriptions, signature, IsSignature, passed}
use Rattle.dfg_problem.specs.declared.keywords.Keyword.TheVariants as keywords
use Rattle.dfg_problem.specs.declared.problem.Problem.{Problem}
use Rattle.dfg_problem.specs.Keywords.{keyword, next_keyword}
use Rattle.dfg_problem.specs.Declarations.{inclusion, argument_sorts}
use Rattle.dfg_problem.specs.Lists.{is_conjecture}

-- ---- declarations

-- `subsort(S,T)`
abbrev pub subsort : List ℕ → List Declared → Tree → Phrase
subsort bytes symbols f ts rest =
    (s : Symbol) × (t : Symbol) × (f ≡ inclusion s t)
    × (keyword bytes keywords.Subsort ⨾ enclosed (sort_name bytes symbols s ⨾ mark Comma ⨾ sort_name bytes symbols t)) ts rest

-- `predicate(P,S1,..,Sn)`, with a sort for each argument of P
abbrev pub predicate : List ℕ → List Declared → Tree → Phrase
predicate bytes symbols f ts rest =
    (p : Symbol) × (sorts : List Symbol) × (f ≡ argument_sorts p sorts)
    × (keyword bytes keywords.Predicate ⨾ enclosed (symbol bytes symbols places.Atom (λ t. Unit {0}) p (length sorts) ⨾ each_behind_comma (sort_name bytes symbols) sorts)) ts rest

-- these words win over symbols of their names
abbrev pub begins_otherwise : List ℕ → List Token → Bool
begins_otherwise bytes ts = next_word words.EndOfList ts || next_keyword bytes keywords.Sort ts || next_keyword bytes keywords.Subsort ts || next_keyword bytes keywords.Predicate ts

-- `T(t)` or `forall([..],T(t))`, nesting at most 1,000 deep
abbrev pub membership : List ℕ → List Declared → Tree → Phrase
membership bytes symbols f ts rest = (begins_otherwise bytes ts ≡ false) × term_declaration bytes symbols 1000 [] 0 f ts rest

abbrev pub sort_declaration : List ℕ → List Declared → Tree → Phrase
sort_declaration bytes symbols f = either (subsort bytes symbols f) (either (predicate bytes symbols f) (membership bytes symbols f))

-- ---- entries, each at the place of its first token

abbrev pub declaration_item : List ℕ → List Declared → Entry → Phrase
declaration_item bytes symbols e ts rest = (e.role ≡ Axiom) × (e.at ≡ place ts) × (sort_declaration bytes symbols e.formula ⨾ mark Dot) ts rest

abbrev pub label : Phrase
label = either nothing (mark Comma ⨾ identifier)

-- `(F).` or `(F,label).`; formulas and terms nest at most 1,000 deep
abbrev pub labelled : List ℕ → List Declared → Shape → Tree → Phrase
labelled bytes symbols shape f = enclosed (formula bytes symbols 1000 shape [] 0 f ⨾ label) ⨾ mark Dot

abbrev pub formula_item : List ℕ → List Declared → Role → Entry → Phrase
formula_item bytes symbols role e ts rest = (e.role ≡ role) × (e.at ≡ place ts) × (keyword bytes keywords.Formula ⨾ labelled bytes symbols shapes.Formula e.formula) ts rest

abbrev pub clause_item : List ℕ → List Declared → Entry → Phrase
clause_item bytes symbols e ts rest = (e.role ≡ Clause) × (e.at ≡ place ts) × (word words.Clause ⨾ labelled bytes symbols shapes.Clause e.formula) ts rest

-- ---- lists

abbrev pub declaration_list : List ℕ → List Declared → List Entry → Phrase
declaration_list bytes symbols es = word words.ListOfDeclarations ⨾ mark Dot ⨾ each (declaration_item bytes symbols) es ⨾ list_end

-- the word of the role
abbrev pub role_word : Role → Phrase
role_word Axiom ts rest = word words.Axioms ts rest
role_word Conjecture ts rest = word words.Conjectures ts rest
role_word Clause ts rest = ⊥

abbrev pub formula_list : List ℕ → List Declared → List Entry → Phrase
formula_list bytes symbols es ts rest =
    (role : Role) × (word words.ListOfFormulae ⨾ enclosed (role_word role) ⨾ mark Dot ⨾ each (formula_item bytes symbols role) es ⨾ list_end) ts rest

-- clauses of both origins are taken as they stand
abbrev pub clause_list : List ℕ → List Declared → List Entry → Phrase
clause_list bytes symbols es ts rest =
    (role : Role) × (word words.ListOfClauses ⨾ enclosed (role_word role ⨾ mark Comma ⨾ word words.Cnf) ⨾ mark Dot ⨾ each (clause_item bytes symbols) es ⨾ list_end) ts rest

abbrev pub entry_list : List ℕ → List Declared → List Entry → Phrase
entry_list bytes symbols es = either (declaration_list bytes symbols es) (either (formula_list bytes symbols es) (clause_list bytes symbols es))

-- what a list adds: entries, and the place of a proof list
pub record ListParts : Type 0 where
  pub entries : List Entry
  pub proofs : List ℕ

-- a list with entries, or a proof list or settings, which are passed over
abbrev pub problem_list : List ℕ → List Declared → ListParts → Phrase
problem_list bytes symbols g ts rest =
    ((g.proofs ≡ []) × entry_list bytes symbols g.entries ts rest)
    ⊎ (((g.entries ≡ []) × (g.proofs ≡ place ts ∷ []) × (word words.ListOfProof ⨾ passed) ts rest)
    ⊎ ((g.entries ≡ []) × (g.proofs ≡ []) × (word words.ListOfSettings ⨾ passed) ts rest))

-- ---- problems

abbrev pub one_if : Bool → ℕ
one_if true = 1
one_if false = 0

-- how many of the entries are conjectures
abbrev pub conjecture_count : List Entry → ℕ
conjecture_count [] = 0
conjecture_count (e ∷ es) = one_if (is_conjecture e.role) + conjecture_count es

-- lists in any order and number
abbrev pub lists : List ℕ → List Declared → List Entry → List ℕ → Phrase
lists bytes symbols entries proofs ts rest =
    (groups : List ListParts) × (entries ≡ concatenated (map (λ g. g.entries) groups)) × (proofs ≡ concatenated (map (λ g. g.proofs) groups))
    × each (problem_list bytes symbols) groups ts rest

abbrev pub ending : ℕ → Phrase
ending at ts rest = (at ≡ place ts) × (word words.EndProblem ⨾ mark Dot) ts rest

-- The bytes spell the problem. What follows `end_problem.` may be anything.
abbrev pub IsProblem : List ℕ → Problem → Type 0
IsProblem bytes p =
    (rest : List Token) × IsSignature p.signature × (conjecture_count p.entries ≤ 1)
    × (head ⨾ descriptions ⨾ signature bytes p.signature ⨾ lists bytes p.signature p.entries p.proofs ⨾ ending p.end_at) (tokens bytes) rest
