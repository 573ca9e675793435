-- What a step concludes, it concludes from a longer ledger too.
use Rattle.std.proofs.Common.{◌≡◌, ℕ, List, [], ◌∷◌, ◌++◌, Option, Some, None, refl, ◌∙◌, ap}
use Rattle.spl_terms.specs.declared.clause.Clause.{Clause}
use Rattle.proof_steps.specs.declared.step.Rule.{Rule}
use Rattle.proof_steps.specs.declared.step.Rule.TheVariants.{Input, Resolve, Factor, Paramodulate, Reflex, EqFactor, Assume, CaseLeft, CaseRight, CaseBoth}
use Rattle.proof_steps.specs.declared.step.Statement.{Statement}
use Rattle.proof_steps.specs.declared.step.Line.{Line}
use Rattle.spl_terms.specs.Lists.{numbered}
use Rattle.proof_steps.specs.Steps.{of_one, of_two, of_three, from_one, from_two, resolution, factored, paramodulation, reflection, equality_factoring, assumption_of, side_closed, both_closed, concluded}
use Rattle.proof_steps.specs.Checked.{IsConclusion, stated}
use Rattle.case_journal.specs.LedgerLaws.{numbered_more}

one_more : (f : Statement → Option Statement) (earlier more : List Statement) (m : ℕ) (st : Statement) (o : Option Statement) → numbered earlier m ≡ o → of_one f o ≡ Some st → of_one f (numbered (earlier ++ more) m) ≡ Some st
one_more f earlier more m st None e h = absurd (cc)
one_more f earlier more m st (Some p) e h = ap (of_one f) (numbered_more earlier more m p e) ∙ h

two_more : (f : Statement → Statement → Option Statement) (earlier more : List Statement) (m n : ℕ) (st : Statement) (o r : Option Statement) → numbered earlier m ≡ o → numbered earlier n ≡ r → of_two f o r ≡ Some st → of_two f (numbered (earlier ++ more) m) (numbered (earlier ++ more) n) ≡ Some st
two_more f earlier more m n st None r e g h = absurd (cc)
two_more f earlier more m n st (Some p) None e g h = absurd (cc)
two_more f earlier more m n st (Some p) (Some q) e g h =
    ap (λ o. of_two f o (numbered (earlier ++ more) n)) (numbered_more earlier more m p e)
    ∙ (ap (of_two f (Some p)) (numbered_more earlier more n q g) ∙ h)

three_more : (f : Statement → Statement → Statement → Option Statement) (earlier more : List Statement) (m n k : ℕ) (st : Statement) (o : Option Statement) → numbered earlier m ≡ o → of_three f o (numbered earlier n) (numbered earlier k) ≡ Some st
    → of_three f (numbered (earlier ++ more) m) (numbered (earlier ++ more) n) (numbered (earlier ++ more) k) ≡ Some st
three_more f earlier more m n k st None e h = absurd (cc)
three_more f earlier more m n k st (Some p) e h =
    ap (λ o. of_three f o (numbered (earlier ++ more) n) (numbered (earlier ++ more) k)) (numbered_more earlier more m p e)
    ∙ two_more (f p) earlier more n k st (numbered earlier n) (numbered earlier k) refl refl h

pub concluded_more : (input : List Clause) (earlier more : List Statement) (rule : Rule) (parents : List ℕ) (st : Statement) → concluded input earlier rule parents ≡ Some st → concluded input (earlier ++ more) rule parents ≡ Some st
concluded_more input earlier more (Input number) [] st h = h
concluded_more input earlier more (Resolve i part j s t) (m ∷ n ∷ []) st h = two_more (from_two (resolution i part j s.terms t.terms)) earlier more m n st (numbered earlier m) (numbered earlier n) refl refl h
concluded_more input earlier more (Factor s) (m ∷ []) st h = one_more (from_one (factored s.terms)) earlier more m st (numbered earlier m) refl h
concluded_more input earlier more (Paramodulate i right spot s t) (m ∷ n ∷ []) st h = two_more (from_two (paramodulation i right spot s.terms t.terms)) earlier more m n st (numbered earlier m) (numbered earlier n) refl refl h
concluded_more input earlier more (Reflex j s) (m ∷ []) st h = one_more (from_one (reflection j s.terms)) earlier more m st (numbered earlier m) refl h
concluded_more input earlier more (EqFactor i i_right j j_right s) (m ∷ []) st h = one_more (from_one (equality_factoring i i_right j j_right s.terms)) earlier more m st (numbered earlier m) refl h
concluded_more input earlier more (Assume side negated) (m ∷ []) st h = one_more (assumption_of m side negated) earlier more m st (numbered earlier m) refl h
concluded_more input earlier more CaseLeft (m ∷ n ∷ []) st h = two_more (side_closed m 1) earlier more m n st (numbered earlier m) (numbered earlier n) refl refl h
concluded_more input earlier more CaseRight (m ∷ n ∷ []) st h = two_more (side_closed m 2) earlier more m n st (numbered earlier m) (numbered earlier n) refl refl h
concluded_more input earlier more CaseBoth (m ∷ n ∷ k ∷ []) st h = three_more (both_closed m) earlier more m n k st (numbered earlier m) refl h
concluded_more input earlier more _ _ st h = absurd (cc)

pub stated_append : (xs ys : List Line) → stated (xs ++ ys) ≡ stated xs ++ stated ys
stated_append [] ys = refl
stated_append (x ∷ xs) ys = ap (λ r. x.stated ∷ r) (stated_append xs ys)

-- what a line concludes from a ledger it concludes from one that goes on
pub conclusion_more : (input : List Clause) (old new more : List Line) (l : Line) → new ≡ old ++ more → IsConclusion input (stated old) l → IsConclusion input (stated new) l
conclusion_more input old new more l e h = (
  ap (λ xs. concluded input xs l.step.rule l.step.parents) (ap stated e ∙ stated_append old more) ∙ concluded_more input (stated old) (stated more) l.step.rule l.step.parents l.stated h.0,
  h.1,
)
