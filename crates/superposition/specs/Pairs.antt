-- Two premises as the code holds them, and the unifiers of their places.
use Rattle.std.specs.Prelude.{◌≡◌, ℕ, ◌+◌, List, Option, Some, None, take, drop}
use Rattle.spl_terms.specs.declared.term.Term.{Term, Var}
use Rattle.spl_terms.specs.Terms.{replace}
use Rattle.spl_terms.specs.InOrder.{IsInOrder, variables}
use Rattle.spl_truth.specs.declared.replace.Subst.{Subst}
use Rattle.calculus.specs.Inferences.{clause_of, variables_of_both}
use Rattle.superposition.specs.declared.pairs.Pair.{Pair}

-- both clauses are in order, and the numbers are those of their variables
pub record IsPair (pair : Pair) : Type 0 where
  pub first : pair.first ≡ variables (clause_of pair.p.now)
  pub both : pair.both ≡ variables_of_both pair.p.now pair.q.now
  pub p_in_order : IsInOrder (clause_of pair.p.now)
  pub q_in_order : IsInOrder (clause_of pair.q.now)

-- the term with each variable raised by a number
abbrev pub raised : ℕ → Term → Term
raised lift = replace (λ v. Var (lift + v))

-- the first entries of the unifier, and the others, where there is one
abbrev pub AreRestrictions : ℕ → Option (List Term) → Option (Subst × Subst) → Type 0
AreRestrictions first o None = o ≡ None
AreRestrictions first o (Some both) = (u : List Term) × (o ≡ Some u) × (both.0.terms ≡ take first u) × (both.1.terms ≡ drop first u)
