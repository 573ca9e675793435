-- The text of a proof list. Names are those of the symbols, by number, and numbers are decimal.
use Rattle.std.specs.Prelude.{ℕ, ◌+◌, Bool, true, false, if◌then◌else◌, List, [], ◌∷◌, ◌++◌, map, codes, Option, Some, None}
use Rattle.std.specs.List.{flat_map}
use Rattle.std.specs.Fmt.{decimal}
use Rattle.spl_terms.specs.declared.term.Term.{Term, Term-F, fold-Term}
use Rattle.spl_terms.specs.declared.term.Term.TheOpen as layer
use Rattle.spl_terms.specs.declared.atom.Atom.{Atom}
use Rattle.spl_terms.specs.declared.atom.Atom.TheVariants.{Holds, Equal}
use Rattle.spl_terms.specs.declared.clause.Part.{Part}
use Rattle.spl_terms.specs.declared.clause.Part.TheVariants.{Constraint, Antecedent, Succedent}
use Rattle.spl_terms.specs.declared.clause.Clause.{Clause}
use Rattle.spl_terms.specs.declared.clause.Spot.{Spot}
use Rattle.spl_truth.specs.declared.replace.Subst.{Subst}
use Rattle.spl_symbols.specs.Symbols.{Declared, name_of}
use Rattle.dep_sets.specs.declared.deps.Assumption.{Assumption}
use Rattle.proof_steps.specs.declared.step.Rule.{Rule}
use Rattle.proof_steps.specs.declared.step.Rule.TheVariants.{Input, Resolve, Factor, Paramodulate, Reflex, EqFactor, Assume, CaseLeft, CaseRight, CaseBoth}
use Rattle.proof_steps.specs.declared.step.Line.{Line}

-- ---- lists

-- the texts, with a comma before each one but the first
abbrev pub commas : {A : Type 0} → (A → List ℕ) → List A → List ℕ
commas text [] = []
commas text (x ∷ xs) = text x ++ flat_map (λ y. 44 ∷ text y) xs

-- the texts in brackets, with commas between them
abbrev pub bracketed : {A : Type 0} → (A → List ℕ) → List A → List ℕ
bracketed text xs = codes "[" ++ commas text xs ++ codes "]"

abbrev pub separator : Bool → List ℕ
separator first = if first then codes "(" else codes ","

-- the texts, each after a comma, but the first after a parenthesis
abbrev pub separated : Bool → List (List ℕ) → List ℕ
separated first [] = []
separated first (t ∷ ts) = separator first ++ t ++ separated false ts

-- ---- clauses

abbrev pub closing : {A : Type 0} → List A → List ℕ
closing [] = []
closing (t ∷ ts) = codes ")"

-- a name, and its arguments in parentheses, if there are any
abbrev pub applied_text : List ℕ → List (List ℕ) → List ℕ
applied_text name texts = name ++ separated true texts ++ closing texts

abbrev pub text_step : List Declared → Term-F (List ℕ) → List ℕ
text_step signature (layer.Var v) = codes "?" ++ decimal v
text_step signature (layer.App f texts) = applied_text (name_of signature f.number) texts

abbrev pub term_text : List Declared → Term → List ℕ
term_text signature = fold-Term (List ℕ) (text_step signature)

abbrev pub atom_text : List Declared → Atom → List ℕ
atom_text signature (Holds p ts) = applied_text (name_of signature p.number) (map (term_text signature) ts)
atom_text signature (Equal s t) = codes "equal(" ++ term_text signature s ++ codes "," ++ term_text signature t ++ codes ")"

-- constraint, antecedent and succedent
abbrev pub clause_text : List Declared → Clause → List ℕ
clause_text signature c =
    codes "cl(" ++ bracketed (atom_text signature) c.constraint ++ codes ","
    ++ bracketed (atom_text signature) c.antecedent ++ codes ","
    ++ bracketed (atom_text signature) c.succedent ++ codes ")"

-- ---- steps

abbrev pub part_text : Part → List ℕ
part_text Constraint = codes "con"
part_text Antecedent = codes "ant"
part_text Succedent = codes "suc"

-- how an equation is read
abbrev pub direction_text : Bool → List ℕ
direction_text right_to_left = if right_to_left then codes "rl" else codes "lr"

abbrev pub negated_text : Option ℕ → List ℕ
negated_text None = codes "no"
negated_text (Some k) = decimal k

abbrev pub rule_text : Rule → List ℕ
rule_text (Input number) = codes "inp"
rule_text (Resolve i part j s t) = codes "res"
rule_text (Factor s) = codes "fac"
rule_text (Paramodulate i right spot s t) = codes "par"
rule_text (Reflex j s) = codes "ref"
rule_text (EqFactor i i_right j j_right s) = codes "eqf"
rule_text (Assume side negated) = codes "asm"
rule_text CaseLeft = codes "cal"
rule_text CaseRight = codes "car"
rule_text CaseBoth = codes "cab"

-- a label and a number
abbrev pub place_text : List ℕ → ℕ → List ℕ
place_text label number = label ++ decimal number

-- a label and terms
abbrev pub terms_text : List Declared → List ℕ → List Term → List ℕ
terms_text signature label terms = label ++ bracketed (term_text signature) terms

-- the same, and a comma
abbrev pub last_terms_text : List Declared → List ℕ → List Term → List ℕ
last_terms_text signature label terms = terms_text signature label terms ++ codes ","

-- the places of two atoms that are resolved, with the second one's part
abbrev pub resolved_text : ℕ → Part → ℕ → List ℕ
resolved_text i part j = place_text (codes "i:") i ++ codes ",part:" ++ part_text part ++ place_text (codes ",j:") j

-- where a term is replaced
abbrev pub spot_text : Spot → List ℕ
spot_text spot = codes ",part:" ++ part_text spot.part ++ place_text (codes ",j:") spot.place ++ codes ",pos:" ++ bracketed decimal spot.path

-- the place of the equation, how it is read, and where a term is replaced by it
abbrev pub replaced_text : ℕ → Bool → Spot → List ℕ
replaced_text i right spot = place_text (codes "i:") i ++ codes ",dir:" ++ direction_text right ++ spot_text spot

-- the places of two equations that are factored, and how each is read
abbrev pub factored_text : ℕ → Bool → ℕ → Bool → List ℕ
factored_text i i_right j j_right =
    place_text (codes "i:") i ++ codes ",idir:" ++ direction_text i_right ++ place_text (codes ",j:") j ++ codes ",jdir:" ++ direction_text j_right

-- the substitutions of two parents, and a comma
abbrev pub substitutions_text : List Declared → Subst → Subst → List ℕ
substitutions_text signature s t = terms_text signature (codes ",s:") s.terms ++ last_terms_text signature (codes ",t:") t.terms

-- the side that is assumed, the place of the negated atom where it is one, and a comma
abbrev pub assumed_text : ℕ → Option ℕ → List ℕ
assumed_text side negated = place_text (codes "side:") side ++ codes ",neg:" ++ negated_text negated ++ codes ","

-- the pairs of the rule, each with a comma after it
abbrev pub pairs_text : List Declared → Rule → List ℕ
pairs_text signature (Input number) = place_text (codes "no:") number ++ codes ","
pairs_text signature (Resolve i part j s t) = resolved_text i part j ++ substitutions_text signature s t
pairs_text signature (Factor s) = last_terms_text signature (codes "s:") s.terms
pairs_text signature (Paramodulate i right spot s t) = replaced_text i right spot ++ substitutions_text signature s t
pairs_text signature (Reflex j s) = place_text (codes "j:") j ++ last_terms_text signature (codes ",s:") s.terms
pairs_text signature (EqFactor i i_right j j_right s) = factored_text i i_right j j_right ++ last_terms_text signature (codes ",s:") s.terms
pairs_text signature (Assume side negated) = assumed_text side negated
pairs_text signature CaseLeft = []
pairs_text signature CaseRight = []
pairs_text signature CaseBoth = []

abbrev pub assumption_text : Assumption → List ℕ
assumption_text a = decimal a.split ++ codes "-" ++ decimal a.side

-- ---- lines

abbrev pub line_text : List Declared → ℕ → Line → List ℕ
line_text signature number l =
    codes "step(" ++ decimal number ++ codes "," ++ clause_text signature l.stated.clause ++ codes ","
    ++ rule_text l.step.rule ++ codes "," ++ bracketed decimal l.step.parents
    ++ codes ",[" ++ pairs_text signature l.step.rule ++ codes "dep:" ++ bracketed assumption_text l.stated.deps ++ codes "]).\n"

-- the lines, the first with this number
abbrev pub lines_text : List Declared → ℕ → List Line → List ℕ
lines_text signature number [] = []
lines_text signature number (l ∷ ls) = line_text signature number l ++ lines_text signature (number + 1) ls

abbrev pub proof_text : List Declared → List Line → List ℕ
proof_text signature lines = codes "list_of_proof(spl).\n" ++ lines_text signature 1 lines ++ codes "end_of_list.\n"
