-- The clauses of a problem whose formulas are clauses without variables.
use Rattle.std.specs.Prelude.{◌≡◌, ℕ, ◌<◌, ◌≤◌, Bool, true, false, nat_le, if◌then◌else◌, List, [], ◌∷◌, fold, length, slice_get, Option, Some, None}
use Rattle.std.specs.List.{flat_map, list_any, list_all}
use Rattle.spl_terms.specs.declared.atom.Atom.{Atom}
use Rattle.spl_terms.specs.declared.clause.Part.{Part}
use Rattle.spl_terms.specs.declared.clause.Part.TheVariants.{Constraint, Antecedent, Succedent}
use Rattle.spl_terms.specs.declared.clause.Clause.{Clause}
use Rattle.spl_terms.specs.Clauses.{is_of_sort, with_atom, clause_symbols, in_order}
use Rattle.dfg_reader.specs.declared.formula.Formula.{Formula, Formula-F, out-Formula}
use Rattle.dfg_reader.specs.declared.formula.Formula.TheOpen as layer
use Rattle.dfg_reader.specs.declared.problem.Role.{Role}
use Rattle.dfg_reader.specs.declared.problem.Role.TheVariants as roles
use Rattle.dfg_reader.specs.declared.problem.Entry.{Entry}

-- ---- literals

abbrev pub is_false_layer : Formula-F Formula → Bool
is_false_layer layer.False = true
is_false_layer _ = false

-- `true` and `not(false)`: a clause with such a literal is always true
abbrev pub is_true_layer : Formula-F Formula → Bool
is_true_layer layer.True = true
is_true_layer (layer.Not f) = is_false_layer (out-Formula f)
is_true_layer _ = false

abbrev pub is_true_literal : Formula → Bool
is_true_literal f = is_true_layer (out-Formula f)

-- a negated atom of a sort stands in the constraint, any other in the antecedent
abbrev pub negated_part : Atom → Part
negated_part a = if is_of_sort a then Constraint else Antecedent

abbrev pub with_negated : Clause → Formula-F Formula → Clause
with_negated c (layer.Atom a) = with_atom c (negated_part a) a
with_negated c _ = c

abbrev pub with_layer : Clause → Formula-F Formula → Clause
with_layer c (layer.Atom a) = with_atom c Succedent a
with_layer c (layer.Not f) = with_negated c (out-Formula f)
with_layer c _ = c

-- The clause with one more literal: its atom goes to the end of its part, unless one that is the same stands there. `false` and `not(true)` add nothing.
abbrev pub with_literal : Clause → Formula → Clause
with_literal c f = with_layer c (out-Formula f)

-- ---- clauses

abbrev pub no_literals : Clause
no_literals = record { constraint = []; antecedent = []; succedent = [] }

abbrev pub literals_in : Formula → Formula-F Formula → List Formula
literals_in f (layer.Or fs) = fs
literals_in f _ = f ∷ []

-- the parts of an `or`, or the one literal
abbrev pub literals : Formula → List Formula
literals f = literals_in f (out-Formula f)

abbrev pub clause_of_literals : List Formula → List Clause
clause_of_literals fs = if list_any is_true_literal fs then [] else fold with_literal no_literals fs ∷ []

-- none where a literal is always true, else the clause of the literals in order
abbrev pub formula_clauses : Formula → List Clause
formula_clauses f = clause_of_literals (literals f)

abbrev pub role_clauses : Role → Formula → List Clause
role_clauses roles.Clause f = formula_clauses f
role_clauses _ f = []

abbrev pub entry_clauses : Entry → List Clause
entry_clauses e = role_clauses e.role e.formula

-- the clauses of the entries, in order
unfoldable pub clauses : List Entry → List Clause
clauses = flat_map entry_clauses

-- ---- limits

abbrev pub is_small : Clause → Bool
is_small c = nat_le (clause_symbols c) 4096

-- at most 65,536 clauses, and none of more than 4,096 symbols
unfoldable pub are_within_limits : List Clause → Bool
are_within_limits cs = if nat_le (length cs) 65536 then list_all is_small cs else false

abbrev pub HasLimits : List Entry → Type 0
HasLimits entries = are_within_limits (clauses entries) ≡ true

-- the clause itself, or none where it has more than 4,096 symbols
abbrev pub IsWithinLimit : Option Clause → Clause → Type 0
IsWithinLimit None c = 4096 < clause_symbols c
IsWithinLimit (Some found) c = (found ≡ c) × (clause_symbols c ≤ 4096)

-- each clause is in order: no part has two atoms that are the same, and the variables are numbered by first occurrence
abbrev pub AreInOrder : List Clause → Type 0
AreInOrder cs = (k : ℕ) (c : Clause) → slice_get cs k ≡ Some c → in_order c ≡ c
