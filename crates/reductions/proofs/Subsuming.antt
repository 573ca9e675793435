-- Notes by subsumption.
use Rattle.std.proofs.Common.{◌≡◌, ◌↔◌, ℕ, zero, suc, ◌<◌, ◌≤◌, nat_lt, Bool, true, false, [], ◌∷◌, refl, sym, ap, ◌∙◌, arith}
use Rattle.std.specs.Prelude.{Contains}
use Rattle.std.proofs.lemmas.Bool.{eq-eqb, ltb-true, ltb-false, false≢true}
use Rattle.spl_terms.specs.declared.clause.Clause.{Clause}
use Rattle.spl_terms.specs.Clauses.{renumbered}
use Rattle.spl_terms.specs.InOrder.{IsInOrder}
use Rattle.spl_truth.specs.declared.replace.Subst.{Subst}
use Rattle.subsume.specs.Subsuming.{SubsumesBy}
use Rattle.proof_steps.specs.Covering.{IsVariant}
use Rattle.calculus.specs.declared.kept.Kept.{Kept}
use Rattle.calculus.specs.declared.note.Why.TheVariants.{Subsumed}
use Rattle.calculus.specs.Inferences.{clause_of}
use Rattle.reductions.specs.Hidden.{IsHiddenBy}

-- variants that are in order are equal
pub variants_equal : (c d : Clause) → IsInOrder c → IsInOrder d → IsVariant c d → c ≡ d
variants_equal c d o p e = sym o.numbered ∙ e ∙ p.numbered

one_reason : (n k : ℕ) → (n ≡ k → ⊥) → Contains {X = ℕ} (n ∷ []) k → ⊥
one_reason n k apart (zero, h, e) = apart e
one_reason n k apart (suc i, h, e) = omega (arith, h)

pub hidden_by : (given other : Kept) (s : Subst) → (given.number ≡ other.number → ⊥) → SubsumesBy (clause_of given) (clause_of other) s.terms → (IsVariant (clause_of given) (clause_of other) → given.number < other.number) → IsHiddenBy given other (record { hidden = other.number; why = Subsumed given.number s })
hidden_by given other s apart h older = record {
  hides = refl;
  reason = refl;
  justified = λ earlier here there. record {
    hidden = other.statement;
    found = there;
    others = one_reason given.number other.number apart;
    reasoned = record { reason = given.statement; found = here; entries = eq-eqb _ _ h.as_many; maps = h.maps; older = older };
  };
}

-- what isn't a newer variant is an older one, if it is one
pub otherwise_older : (given other : Kept) (t : Bool) → (given.number ≡ other.number → ⊥) → (t ≡ true) ↔ (IsVariant (clause_of given) (clause_of other) × (other.number < given.number)) → t ≡ false → IsVariant (clause_of given) (clause_of other) → given.number < other.number
otherwise_older given other t apart exact e variant = by_test (nat_lt given.number other.number) refl
  where
    by_test : (b : Bool) → nat_lt given.number other.number ≡ b → given.number < other.number
    by_test true less = ltb-true _ _ less
    by_test false less = (
        let past = ltb-false given.number other.number less in
        let newer : other.number < given.number = by_equal (nat_lt other.number given.number) refl past in
        absurd (false≢true (sym e ∙ exact.1 (variant, newer)))
        )
      where
        by_equal : (b : Bool) → nat_lt other.number given.number ≡ b → other.number ≤ given.number → other.number < given.number
        by_equal true less past = ltb-true _ _ less
        by_equal false less past = (let le = ltb-false other.number given.number less in absurd (apart (omega (arith, le, past))))

pub newer_variant : (given other : Kept) (t : Bool) → IsInOrder (clause_of given) → IsInOrder (clause_of other) → other.number < given.number → (t ≡ true) ↔ (clause_of given ≡ clause_of other) → (t ≡ true) ↔ (IsVariant (clause_of given) (clause_of other) × (other.number < given.number))
newer_variant given other t o p less exact = ((λ e. (ap renumbered (exact.0 e), less)), (λ h. exact.1 (variants_equal (clause_of given) (clause_of other) o p h.0)))
