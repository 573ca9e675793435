-- Which symbols stand where. A test is asked of a symbol with whether it stands in a term and with how many arguments.
use Rattle.std.specs.Prelude.{ℕ, Bool, true, false, ◌&&◌, List, [], ◌++◌, length}
use Rattle.std.specs.List.{list_all}
use Rattle.spl_terms.specs.declared.term.Symbol.{Symbol}
use Rattle.spl_terms.specs.declared.term.Term.{Term, Term-F, fold-Term}
use Rattle.spl_terms.specs.declared.term.Term.TheOpen as layer
use Rattle.spl_terms.specs.declared.atom.Atom.{Atom}
use Rattle.spl_terms.specs.declared.atom.Atom.TheVariants.{Holds, Equal}
use Rattle.spl_terms.specs.declared.clause.Clause.{Clause}
use Rattle.spl_terms.specs.Clauses.{atoms_of}
use Rattle.proof_steps.specs.declared.step.Rule.{Rule}
use Rattle.proof_steps.specs.declared.step.Rule.TheVariants.{Resolve, Factor, Paramodulate, Reflex, EqFactor}
use Rattle.proof_steps.specs.declared.step.Line.{Line}

-- asked as `test in_term symbol arguments`
abbrev pub SymbolTest : Type 0
SymbolTest = Bool → Symbol → ℕ → Bool

abbrev pub passes_step : SymbolTest → Term-F Bool → Bool
passes_step test (layer.Var v) = true
passes_step test (layer.App f all) = test true f (length all) && list_all (λ b. b) all

-- each symbol of the term passes
abbrev pub term_passes : SymbolTest → Term → Bool
term_passes test = fold-Term Bool (passes_step test)

abbrev pub atom_passes : SymbolTest → Atom → Bool
atom_passes test (Holds p ts) = test false p (length ts) && list_all (term_passes test) ts
atom_passes test (Equal s t) = term_passes test s && term_passes test t

-- each symbol of the clause passes
abbrev pub clause_passes : SymbolTest → Clause → Bool
clause_passes test c = list_all (atom_passes test) (atoms_of c)

-- the entries of the substitutions of a rule
abbrev pub rule_terms : Rule → List Term
rule_terms (Resolve i part j s t) = s.terms ++ t.terms
rule_terms (Factor s) = s.terms
rule_terms (Paramodulate i right spot s t) = s.terms ++ t.terms
rule_terms (Reflex j s) = s.terms
rule_terms (EqFactor i i_right j j_right s) = s.terms
rule_terms _ = []

-- each symbol of the line's clause and of its substitutions passes
abbrev pub line_passes : SymbolTest → Line → Bool
line_passes test l = clause_passes test l.stated.clause && list_all (term_passes test) (rule_terms l.step.rule)
