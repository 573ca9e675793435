-- A step that concludes something has earlier lines as parents.
use Rattle.std.proofs.Common.{◌≡◌, ℕ, zero, suc, ◌≤◌, List, [], ◌∷◌, length, Option, Some, None, refl, arith}
use Rattle.std.specs.List.{All}
use Rattle.std.proofs.lemmas.Option.{slice_get_within}
use Rattle.std.proofs.lemmas.List.Elements.{All-nil, All-cons}
use Rattle.spl_terms.specs.declared.clause.Clause.{Clause}
use Rattle.proof_steps.specs.declared.step.Statement.{Statement}
use Rattle.proof_steps.specs.declared.step.Rule.{Rule}
use Rattle.proof_steps.specs.declared.step.Rule.TheVariants.{Input, Resolve, Factor, Paramodulate, Reflex, EqFactor, Assume, CaseLeft, CaseRight, CaseBoth}
use Rattle.proof_steps.specs.Steps.{numbered, resolution, factored, paramodulation, reflection, equality_factoring, of_one, of_two, of_three, from_one, from_two, assumption_of, side_closed, both_closed, concluded}

module _ (earlier : List Statement) where
  abbrev pub IsThere : ℕ → Type 0
  IsThere n = (1 ≤ n) × (n ≤ length earlier)

  there : (n : ℕ) (s : Statement) → numbered earlier n ≡ Some s → IsThere n
  there zero s e = absurd (cc)
  there (suc k) s e = let h = slice_get_within earlier k s e in (omega arith, omega (arith, h))

  one : (f : Statement → Option Statement) (n : ℕ) (d : Statement) → of_one f (numbered earlier n) ≡ Some d → All IsThere (n ∷ [])
  one f n d e = looked (numbered earlier n) refl e
    where
      looked : (o : Option Statement) → numbered earlier n ≡ o → of_one f o ≡ Some d → All IsThere (n ∷ [])
      looked None is h = absurd (cc)
      looked (Some s) is h = All-cons IsThere n [] (there n s is) (All-nil IsThere)

  two : (f : Statement → Statement → Option Statement) (m n : ℕ) (d : Statement) → of_two f (numbered earlier m) (numbered earlier n) ≡ Some d → All IsThere (m ∷ n ∷ [])
  two f m n d e = looked (numbered earlier m) (numbered earlier n) refl refl e
    where
      looked : (o r : Option Statement) → numbered earlier m ≡ o → numbered earlier n ≡ r → of_two f o r ≡ Some d → All IsThere (m ∷ n ∷ [])
      looked None r is at h = absurd (cc)
      looked (Some s) None is at h = absurd (cc)
      looked (Some s) (Some t) is at h = All-cons IsThere m (n ∷ []) (there m s is) (All-cons IsThere n [] (there n t at) (All-nil IsThere))

  three : (f : Statement → Statement → Statement → Option Statement) (m n o : ℕ) (d : Statement) → of_three f (numbered earlier m) (numbered earlier n) (numbered earlier o) ≡ Some d → All IsThere (m ∷ n ∷ o ∷ [])
  three f m n o d e = looked (numbered earlier m) refl e
    where
      looked : (p : Option Statement) → numbered earlier m ≡ p → of_three f p (numbered earlier n) (numbered earlier o) ≡ Some d → All IsThere (m ∷ n ∷ o ∷ [])
      looked None is h = absurd (cc)
      looked (Some s) is h = All-cons IsThere m (n ∷ o ∷ []) (there m s is) (two (f s) n o d h)

  pub parents_there : (input : List Clause) (rule : Rule) (parents : List ℕ) (d : Statement) → concluded input earlier rule parents ≡ Some d → All (λ n. (1 ≤ n) × (n ≤ length earlier)) parents
  parents_there input (Input n) [] d e = All-nil IsThere
  parents_there input (Input n) (m ∷ ms) d e = absurd (cc)
  parents_there input (Resolve i part j s t) [] d e = absurd (cc)
  parents_there input (Resolve i part j s t) (m ∷ []) d e = absurd (cc)
  parents_there input (Resolve i part j s t) (m ∷ n ∷ []) d e = two (from_two (resolution i part j s.terms t.terms)) m n d e
  parents_there input (Resolve i part j s t) (m ∷ n ∷ o ∷ ms) d e = absurd (cc)
  parents_there input (Factor s) [] d e = absurd (cc)
  parents_there input (Factor s) (m ∷ []) d e = one (from_one (factored s.terms)) m d e
  parents_there input (Factor s) (m ∷ n ∷ ms) d e = absurd (cc)
  parents_there input (Paramodulate i right spot s t) [] d e = absurd (cc)
  parents_there input (Paramodulate i right spot s t) (m ∷ []) d e = absurd (cc)
  parents_there input (Paramodulate i right spot s t) (m ∷ n ∷ []) d e = two (from_two (paramodulation i right spot s.terms t.terms)) m n d e
  parents_there input (Paramodulate i right spot s t) (m ∷ n ∷ o ∷ ms) d e = absurd (cc)
  parents_there input (Reflex j s) [] d e = absurd (cc)
  parents_there input (Reflex j s) (m ∷ []) d e = one (from_one (reflection j s.terms)) m d e
  parents_there input (Reflex j s) (m ∷ n ∷ ms) d e = absurd (cc)
  parents_there input (EqFactor i i_right j j_right s) [] d e = absurd (cc)
  parents_there input (EqFactor i i_right j j_right s) (m ∷ []) d e = one (from_one (equality_factoring i i_right j j_right s.terms)) m d e
  parents_there input (EqFactor i i_right j j_right s) (m ∷ n ∷ ms) d e = absurd (cc)
  parents_there input (Assume side negated) [] d e = absurd (cc)
  parents_there input (Assume side negated) (m ∷ []) d e = one (assumption_of m side negated) m d e
  parents_there input (Assume side negated) (m ∷ n ∷ ms) d e = absurd (cc)
  parents_there input CaseLeft [] d e = absurd (cc)
  parents_there input CaseLeft (m ∷ []) d e = absurd (cc)
  parents_there input CaseLeft (m ∷ n ∷ []) d e = two (side_closed m 1) m n d e
  parents_there input CaseLeft (m ∷ n ∷ o ∷ ms) d e = absurd (cc)
  parents_there input CaseRight [] d e = absurd (cc)
  parents_there input CaseRight (m ∷ []) d e = absurd (cc)
  parents_there input CaseRight (m ∷ n ∷ []) d e = two (side_closed m 2) m n d e
  parents_there input CaseRight (m ∷ n ∷ o ∷ ms) d e = absurd (cc)
  parents_there input CaseBoth [] d e = absurd (cc)
  parents_there input CaseBoth (m ∷ []) d e = absurd (cc)
  parents_there input CaseBoth (m ∷ n ∷ []) d e = absurd (cc)
  parents_there input CaseBoth (m ∷ n ∷ o ∷ []) d e = three (both_closed m) m n o d e
  parents_there input CaseBoth (m ∷ n ∷ o ∷ p ∷ ms) d e = absurd (cc)
