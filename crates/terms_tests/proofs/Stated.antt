-- Statements in order, one behind the other.
use Rattle.std.proofs.Common.{◌≡◌, ℕ, zero, suc, List, [], ◌∷◌, ◌++◌, Some, None, refl, sym, subst, slice_get}
use Rattle.std.proofs.lemmas.Option.{none-some, same_Some}
use Rattle.spl_terms.specs.InOrder.{IsInOrder}
use Rattle.proof_steps.specs.declared.step.Statement.{Statement}
use Rattle.justification.specs.Hiding.{AreStatedInOrder}

pub one_more : (xs : List Statement) (x : Statement) → AreStatedInOrder xs → IsInOrder x.clause → AreStatedInOrder (xs ++ x ∷ [])
one_more [] x h o zero s e = subst (λ y. IsInOrder y.clause) (same_Some x s e) o
one_more [] x h o (suc k) s e = absurd (none-some s e)
one_more (y ∷ xs) x h o zero s e = h zero s e
one_more (y ∷ xs) x h o (suc k) s e = one_more xs x (λ j t. h (suc j) t) o k s e
