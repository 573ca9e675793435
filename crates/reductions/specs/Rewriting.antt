-- An equation that rewrites terms in one direction, and where it does.
use Rattle.std.specs.Prelude.{◌≡◌, ℕ, ◌++◌, Bool, true, false, List, ◌∷◌, length, None, Some, IsSomeAnd, is_some, option_and_then, slice_get}
use Rattle.std.specs.List.{list_all}
use Rattle.spl_terms.specs.declared.term.Term.{Term}
use Rattle.spl_terms.specs.declared.atom.Atom.{Atom}
use Rattle.spl_terms.specs.declared.clause.Clause.{Clause}
use Rattle.spl_terms.specs.declared.clause.Part.{Part}
use Rattle.spl_terms.specs.declared.clause.Spot.{Spot}
use Rattle.spl_terms.specs.Terms.{replace, term_variables}
use Rattle.spl_terms.specs.Clauses.{part_of}
use Rattle.spl_terms.specs.InOrder.{variables}
use Rattle.spl_truth.specs.Truth.{entry, unit_clause}
use Rattle.spl_truth.specs.Orders.{is_greater}
use Rattle.spl_truth.specs.Unifiers.{occurs, HasVariablesBelow}
use Rattle.proof_steps.specs.Spots.{subterm, term_under}
use Rattle.proof_steps.specs.Steps.{sides_of, paramodulation}
use Rattle.calculus.specs.Reductions.{unchanged}
use Rattle.unify.specs.Bindings.{bound_to}
use Rattle.reductions.specs.declared.judging.Rewrite.{Rewrite}
use Rattle.reductions.specs.declared.walking.Rewritten.{Rewritten}

-- ---- the direction

-- each variable of the second term occurs in the first one
abbrev pub Covers : Term → Term → Type 0
Covers l r = (v : ℕ) → occurs v r ≡ true → occurs v l ≡ true

abbrev pub all_bound : List (ℕ × Term) → Term → Bool
all_bound made t = list_all (λ v. is_some (bound_to made v)) (term_variables t)

-- no instance of the first term is greater than that of the second one
abbrev pub NeverFalls : Term → Term → Type 0
NeverFalls l r = (g : ℕ → Term) → is_greater (replace g l) (replace g r) ≡ false

-- the second side has no further variables; where it is marked so, each instance of the first side is greater
pub record IsJudged (r : Rewrite) : Type 0 where
  pub below : HasVariablesBelow r.vars r.left.now
  pub bound : Covers r.left.now r.right.now
  pub always : r.always ≡ true → (g : ℕ → Term) → is_greater (replace g r.left.now) (replace g r.right.now) ≡ true

-- the clause is an equation and nothing else, of these sides, so read
pub record IsEquation (right : Bool) (d : Clause) (l r : Term) : Type 0 where
  pub equation : Atom
  pub alone : d ≡ unit_clause equation
  pub sides : sides_of right equation ≡ Some (l, r)

-- the sides are those of the clause, so read, and the second one has no further variables
pub record IsReadingOf (right : Bool) (d : Clause) (r : Rewrite) : Type 0 where
  pub is : IsEquation right d r.left.now r.right.now
  pub as_many : r.vars ≡ variables d
  pub bound : Covers r.left.now r.right.now

-- ---- at one term

-- these entries, one for each variable, make the term of the first side, and it is greater than what they make of the other
pub record Rewrites (r : Rewrite) (u : Term) (entries : List Term) : Type 0 where
  pub as_many : length entries ≡ r.vars
  pub makes : replace (entry entries) r.left.now ≡ u
  pub falls : is_greater u (replace (entry entries) r.right.now) ≡ true

-- the term isn't rewritten
abbrev pub IsNotRewritten : Rewrite → Term → Type 0
IsNotRewritten r u = (g : ℕ → Term) → replace g r.left.now ≡ u → is_greater u (replace g r.right.now) ≡ true → ⊥

-- ---- at all subterms

-- no subterm is rewritten
abbrev pub IsIrreducible : Rewrite → Term → Type 0
IsIrreducible r t = (path : List ℕ) (u : Term) → subterm path t ≡ Some u → IsNotRewritten r u

-- the path leads from the terms to one that is rewritten, further than before
pub record IsReached (r : Rewrite) (terms : List Term) (old new : List ℕ) (entries : List Term) : Type 0 where
  pub place : ℕ
  pub rest : List ℕ
  pub term : Term
  pub path : new ≡ old ++ place ∷ rest
  pub stands : option_and_then (subterm rest) (slice_get terms place) ≡ Some term
  pub rewrites : Rewrites r term entries

-- the same from one term
pub record IsReachedFrom (r : Rewrite) (t : Term) (old new : List ℕ) (entries : List Term) : Type 0 where
  pub rest : List ℕ
  pub term : Term
  pub path : new ≡ old ++ rest
  pub stands : subterm rest t ≡ Some term
  pub rewrites : Rewrites r term entries

-- no subterm of any of the terms is rewritten
abbrev pub AreIrreducible : Rewrite → List Term → Type 0
AreIrreducible r terms = (k : ℕ) (t : Term) → slice_get terms k ≡ Some t → IsIrreducible r t

-- ---- at all atoms

abbrev pub IsIrreducibleAtom : Rewrite → Atom → Type 0
IsIrreducibleAtom r a = (path : List ℕ) (u : Term) → term_under path a ≡ Some u → IsNotRewritten r u

-- the path leads in the atom to a term that is rewritten
pub record IsRewrittenAt (r : Rewrite) (a : Atom) (path : List ℕ) (entries : List Term) : Type 0 where
  pub term : Term
  pub stands : term_under path a ≡ Some term
  pub rewrites : Rewrites r term entries

abbrev pub AreIrreducibleAtoms : Rewrite → List Atom → Type 0
AreIrreducibleAtoms r atoms = (k : ℕ) (a : Atom) → slice_get atoms k ≡ Some a → IsIrreducibleAtom r a

-- no term of the clause is rewritten
abbrev pub IsIrreducibleClause : Rewrite → Clause → Type 0
IsIrreducibleClause r e = (part : Part) → AreIrreducibleAtoms r (part_of e part)

-- the term that was found stands in the clause, and is rewritten by the entries
abbrev pub IsRewrittenIn : Rewrite → Clause → Rewritten → Type 0
IsRewrittenIn r e f = IsSomeAnd (slice_get (part_of e f.part) f.place) (λ a. IsRewrittenAt r a f.path.items f.s.terms)

-- ---- of the clause

-- no step of rewriting in this direction concludes anything
abbrev pub NothingIsRewrittenAs : Bool → Clause → Clause → Type 0
NothingIsRewrittenAs right e d =
    (a : Atom) → d ≡ unit_clause a → (l r : Term) → sides_of right a ≡ Some (l, r) → Covers l r → (s : List Term) → is_greater (replace (entry s) l) (replace (entry s) r) ≡ true → (spot : Spot) → paramodulation 0 right spot s (unchanged e).terms d e ≡ None

abbrev pub NothingIsRewritten : Clause → Clause → Type 0
NothingIsRewritten e d = (right : Bool) → NothingIsRewrittenAs right e d
