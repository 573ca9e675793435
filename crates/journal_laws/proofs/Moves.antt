-- A step that was computed over a ledger concludes the same where it stands once others have appended steps in between.
use Rattle.std.proofs.Common.{◌≡◌, ℕ, zero, suc, ◌+◌, ◌-◌, ◌<◌, ◌≤◌, inl, inr, false, cond, leb, List, [], ◌∷◌, ◌++◌, length, map, take, refl, sym, ◌∙◌, ap, subst, arith, append_assoc}
use Rattle.std.specs.List.{slice_get}
use Rattle.std.proofs.lemmas.Bool.{cases_lt}
use Rattle.std.proofs.lemmas.Bool.Decides.{nat_tests}
use Rattle.spl_terms.specs.declared.clause.Clause.{Clause}
use Rattle.proof_steps.specs.declared.step.Rule.{Rule}
use Rattle.proof_steps.specs.declared.step.Rule.TheVariants.{Input, Resolve, Factor, Paramodulate, Reflex, EqFactor, Assume, CaseLeft, CaseRight, CaseBoth}
use Rattle.proof_steps.specs.declared.step.Statement.{Statement}
use Rattle.proof_steps.specs.declared.step.Line.{Line}
use Rattle.spl_terms.specs.Lists.{numbered}
use Rattle.proof_steps.specs.Steps.{of_one, of_two, from_one, from_two, resolution, factored, paramodulation, reflection, equality_factoring, concluded}
use Rattle.proof_steps.specs.Checked.{IsConclusion, stated}
use Rattle.case_journal.specs.ListLaws.{get_left, get_right}
use Rattle.journal_laws.specs.Shifts.{shifted_number, shifted_line, shifted, is_split_rule}
use Rattle.journal_laws.proofs.Conclusions.{stated_append}

shift_low : (base by n : ℕ) → n ≤ base → cond (leb n base) n (n + by) ≡ n
shift_low base by n h = grind (arith, nat_tests)

shift_high : (base by n : ℕ) → base < n → cond (leb n base) n (n + by) ≡ n + by
shift_high base by n h = grind (arith, nat_tests)

pub numbered_shifted : (first more chain : List Statement) (n : ℕ) → numbered (first ++ (more ++ chain)) (shifted_number (length first) (length more) n) ≡ numbered (first ++ chain) n
numbered_shifted first more chain zero = ap (numbered (first ++ (more ++ chain))) (shift_low (length first) (length more) 0 (omega arith))
numbered_shifted first more chain (suc k) = elim (cases_lt k (length first)) [
  | inl low ↦
      ap (numbered (first ++ (more ++ chain))) (shift_low (length first) (length more) (suc k) (omega (arith, low)))
      ∙ (get_left first (more ++ chain) k low ∙ sym (get_left first chain k low))
  | inr high ↦
      let j = k - length first in
      let at : k ≡ length first + j = omega (arith, high) in
      let far : suc k + length more ≡ suc (length first + (length more + j)) = omega (arith, at) in
      ap (numbered (first ++ (more ++ chain))) (shift_high (length first) (length more) (suc k) (omega (arith, high)) ∙ far)
      ∙ (get_right first (more ++ chain) (length more + j)
      ∙ (get_right more chain j
      ∙ sym (ap (slice_get (first ++ chain)) at ∙ get_right first chain j)))
]

-- but for the steps of splits, whose assumptions name a clause by its number
pub concluded_shifted : (input : List Clause) (first more chain : List Statement) (rule : Rule) (parents : List ℕ) → is_split_rule rule ≡ false
    → concluded input (first ++ (more ++ chain)) rule (map (shifted_number (length first) (length more)) parents) ≡ concluded input (first ++ chain) rule parents
concluded_shifted input first more chain (Input number) [] h = refl
concluded_shifted input first more chain (Input number) (m ∷ parents) h = refl
concluded_shifted input first more chain (Resolve i part j s t) (m ∷ n ∷ []) h =
    let f = from_two (resolution i part j s.terms t.terms) in
    ap (λ o. of_two f o (numbered (first ++ (more ++ chain)) (shifted_number (length first) (length more) n))) (numbered_shifted first more chain m)
    ∙ ap (of_two f (numbered (first ++ chain) m)) (numbered_shifted first more chain n)
concluded_shifted input first more chain (Factor s) (m ∷ []) h = ap (of_one (from_one (factored s.terms))) (numbered_shifted first more chain m)
concluded_shifted input first more chain (Paramodulate i right spot s t) (m ∷ n ∷ []) h =
    let f = from_two (paramodulation i right spot s.terms t.terms) in
    ap (λ o. of_two f o (numbered (first ++ (more ++ chain)) (shifted_number (length first) (length more) n))) (numbered_shifted first more chain m)
    ∙ ap (of_two f (numbered (first ++ chain) m)) (numbered_shifted first more chain n)
concluded_shifted input first more chain (Reflex j s) (m ∷ []) h = ap (of_one (from_one (reflection j s.terms))) (numbered_shifted first more chain m)
concluded_shifted input first more chain (EqFactor i i_right j j_right s) (m ∷ []) h = ap (of_one (from_one (equality_factoring i i_right j j_right s.terms))) (numbered_shifted first more chain m)
concluded_shifted input first more chain (Assume side negated) parents h = absurd (cc)
concluded_shifted input first more chain CaseLeft parents h = absurd (cc)
concluded_shifted input first more chain CaseRight parents h = absurd (cc)
concluded_shifted input first more chain CaseBoth parents h = absurd (cc)
concluded_shifted input first more chain _ _ h = refl

stated_shifted : (base by : ℕ) (chain : List Line) → stated (shifted base by chain) ≡ stated chain
stated_shifted base by [] = refl
stated_shifted base by (x ∷ xs) = ap (λ r. x.stated ∷ r) (stated_shifted base by xs)

take_map : {A B : Type 0} (f : A → B) (k : ℕ) (xs : List A) → take k (map f xs) ≡ map f (take k xs)
take_map f zero [] = refl
take_map f zero (x ∷ xs) = refl
take_map f (suc k) [] = refl
take_map f (suc k) (x ∷ xs) = ap (λ r. f x ∷ r) (take_map f k xs)

length_stated : (xs : List Line) → length (stated xs) ≡ length xs
length_stated [] = refl
length_stated (x ∷ xs) = omega (arith, length_stated xs)

-- a line of a chain, moved behind more lines of the ledger, still states what its step concludes from what is before it
pub line_shifted : (input : List Clause) (old more chain : List Line) (k : ℕ) (l : Line) → is_split_rule l.step.rule ≡ false → IsConclusion input (stated (old ++ take k chain)) l
    → IsConclusion input (stated ((old ++ more) ++ take k (shifted (length old) (length more) chain))) (shifted_line (length old) (length more) l)
line_shifted input old more chain k l plain h =
    let base = length old in
    let by = length more in
    let part = take k chain in
    let moved : stated ((old ++ more) ++ take k (shifted base by chain)) ≡ stated old ++ (stated more ++ stated part) =
    ap (λ xs. stated ((old ++ more) ++ xs)) (take_map (shifted_line base by) k chain)
    ∙ (stated_append (old ++ more) (shifted base by part)
    ∙ (ap (λ xs. xs ++ stated (shifted base by part)) (stated_append old more)
    ∙ (ap (λ xs. (stated old ++ stated more) ++ xs) (stated_shifted base by part)
    ∙ append_assoc (stated old) (stated more) (stated part)))) in
    let same : concluded input (stated old ++ (stated more ++ stated part)) l.step.rule (map (shifted_number base by) l.step.parents) ≡ concluded input (stated old ++ stated part) l.step.rule l.step.parents =
    subst (λ b. concluded input (stated old ++ (stated more ++ stated part)) l.step.rule (map (shifted_number b by) l.step.parents) ≡ concluded input (stated old ++ stated part) l.step.rule l.step.parents) (length_stated old)
    (subst (λ b. concluded input (stated old ++ (stated more ++ stated part)) l.step.rule (map (shifted_number (length (stated old)) b) l.step.parents) ≡ concluded input (stated old ++ stated part) l.step.rule l.step.parents) (length_stated more)
    (concluded_shifted input (stated old) (stated more) (stated part) l.step.rule l.step.parents plain)) in
    (ap (λ xs. concluded input xs l.step.rule (map (shifted_number base by) l.step.parents)) moved ∙ (same ∙ (ap (λ xs. concluded input xs l.step.rule l.step.parents) (sym (stated_append old part)) ∙ h.0)), h.1)
