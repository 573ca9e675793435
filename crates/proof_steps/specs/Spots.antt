-- Subterms and the places where they stand.
use Rattle.std.specs.Prelude.{ℕ, zero, suc, List, [], ◌∷◌, Option, Some, None, option_and_then, slice_get}
use Rattle.spl_terms.specs.declared.term.Term.{Term, Var, App, out-Term, Term-F}
use Rattle.spl_terms.specs.declared.term.Term.TheOpen as layer
use Rattle.spl_terms.specs.declared.atom.Atom.{Atom}
use Rattle.spl_terms.specs.declared.atom.Atom.TheVariants.{Holds, Equal}
use Rattle.spl_terms.specs.declared.clause.Part.{Part}
use Rattle.spl_terms.specs.declared.clause.Part.TheVariants.{Constraint, Antecedent, Succedent}
use Rattle.spl_terms.specs.declared.clause.Spot.{Spot}
use Rattle.spl_terms.specs.declared.clause.Clause.{Clause}
use Rattle.spl_terms.specs.Clauses.{atom_terms, part_of}

-- the list with what f makes of the item at this place
abbrev pub changed_at : {A : Type 0} → ℕ → (A → A) → List A → List A
changed_at k f [] = []
changed_at zero f (x ∷ xs) = f x ∷ xs
changed_at (suc k) f (x ∷ xs) = x ∷ changed_at k f xs

abbrev pub arguments_step : Term-F Term → List Term
arguments_step (layer.Var v) = []
arguments_step (layer.App f ts) = ts

-- the arguments of an application
abbrev pub arguments_of : Term → List Term
arguments_of t = arguments_step (out-Term t)

abbrev pub with_arguments_step : (List Term → List Term) → Term-F Term → Term
with_arguments_step f (layer.Var v) = Var v
with_arguments_step f (layer.App g ts) = App g (f ts)

-- an application with what f makes of its arguments
abbrev pub with_arguments : (List Term → List Term) → Term → Term
with_arguments f t = with_arguments_step f (out-Term t)

-- the subterm at the end of the path
abbrev pub subterm : List ℕ → Term → Option Term
subterm [] t = Some t
subterm (k ∷ path) t = option_and_then (subterm path) (slice_get (arguments_of t) k)

-- the term with another one at the end of the path
abbrev pub with_subterm : List ℕ → Term → Term → Term
with_subterm [] new t = new
with_subterm (k ∷ path) new t = with_arguments (changed_at k (with_subterm path new)) t

-- the subterm of an atom; 0 and 1 are the sides of an equation, and the atom itself is no term
abbrev pub term_under : List ℕ → Atom → Option Term
term_under [] a = None
term_under (k ∷ path) a = option_and_then (subterm path) (slice_get (atom_terms a) k)

abbrev pub with_term_under : List ℕ → Term → Atom → Atom
with_term_under [] new a = a
with_term_under (k ∷ path) new (Holds p ts) = Holds p (changed_at k (with_subterm path new) ts)
with_term_under (zero ∷ path) new (Equal s t) = Equal (with_subterm path new s) t
with_term_under (suc zero ∷ path) new (Equal s t) = Equal s (with_subterm path new t)
with_term_under (suc (suc k) ∷ path) new (Equal s t) = Equal s t

abbrev pub atom_at : Part → ℕ → Clause → Option Atom
atom_at part place c = slice_get (part_of c part) place

-- the clause with what f makes of one part
abbrev pub with_part : (List Atom → List Atom) → Part → Clause → Clause
with_part f Constraint c = record c { constraint = f c.constraint }
with_part f Antecedent c = record c { antecedent = f c.antecedent }
with_part f Succedent c = record c { succedent = f c.succedent }

-- the clause with another term at the spot
abbrev pub with_term_at : Spot → Term → Clause → Clause
with_term_at spot new = with_part (changed_at spot.place (with_term_under spot.path new)) spot.part
