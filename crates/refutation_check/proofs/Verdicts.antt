-- A list of lines is a proof, or has one fault.
use Rattle.std.proofs.Common.{◌≡◌, ◌≢◌, ◌⊎◌, inl, inr, ℕ, zero, suc, ◌+◌, ◌-◌, ◌<◌, ◌≤◌, List, [], ◌∷◌, length, take, Option, Some, None, Result, Ok, Err, MatchResult, refl, sym, ap, subst, ◌∙◌, arith}
use Rattle.std.specs.Prelude.{IsSomeAnd}
use Rattle.std.specs.List.{slice_get, All}
use Rattle.std.proofs.lemmas.Option.{slice_get_within, none-some, same_Some}
use Rattle.std.proofs.lemmas.List.{length-map, length-take-le, take-take}
use Rattle.spl_terms.specs.declared.clause.Clause.{Clause}
use Rattle.spl_terms.specs.Lists.{numbered}
use Rattle.proof_steps.specs.declared.step.Statement.{Statement}
use Rattle.proof_steps.specs.declared.step.Line.{Line}
use Rattle.proof_steps.specs.Steps.{conclude}
use Rattle.proof_steps.specs.Checked.{stated, IsConclusion, AreConclusions, Checked}
use Rattle.proof_steps.specs.StepLaws.{conclusion_is, conclusion_found, some_and}
use Rattle.refutation_check.specs.declared.fault.CheckKind.{CheckKind}
use Rattle.refutation_check.specs.declared.fault.CheckKind.TheVariants as kinds
use Rattle.refutation_check.specs.declared.fault.CheckFault.{CheckFault}
use Rattle.refutation_check.specs.declared.fault.CheckError.{CheckError}
use Rattle.refutation_check.specs.declared.fault.CheckError.TheVariants as errors
use Rattle.refutation_check.specs.declared.fault.Refutation.{Refutation}
use Rattle.refutation_check.specs.Faults.{HasParents, conclusion, TellsNeither, TellsBoth, IsParentFault, IsShapeFault, IsClauseFault, IsDependenciesFault, IsWrongBy, IsFirstFault, IsLastFault, IsFault, OnFault, ComesUnlessMemory, IsErrorOf, Differ, IsMismatch}
use Rattle.refutation_check.proofs.ParentLemmas.{parents_there}

-- ---- one line

some_is : (P : Statement → Type 0) (o : Option Statement) (s : Statement) → o ≡ Some s → P s → IsSomeAnd o P
some_is P None s e h = absurd (none-some s e)
some_is P (Some t) s e h = subst P (sym (same_Some t s e)) h

-- where something is known of each fault, more is known of it
error_maps : (P Q : CheckFault → Type 0) → ((f : CheckFault) → P f → Q f) → (e : CheckError) → IsErrorOf P e → IsErrorOf Q e
error_maps P Q g (errors.Fault f) h = g f h
error_maps P Q g errors.Memory h = h

module _ (input : List Clause) (earlier : List Statement) (l : Line) where
  -- a conclusion is what is looked for
  pub is_concluded : IsConclusion input earlier l → conclusion input earlier l ≡ Some l.stated
  is_concluded h = conclusion_found (conclude input earlier l.step) (conclusion input earlier l) l.stated refl h

  pub concludes : conclusion input earlier l ≡ Some l.stated → IsConclusion input earlier l
  concludes e = conclusion_is (conclude input earlier l.step) (conclusion input earlier l) l.stated refl e

  has_parents : (s : Statement) → conclusion input earlier l ≡ Some s → HasParents earlier l
  has_parents s e = parents_there earlier input l.step.rule l.step.parents s (conclusion_is (conclude input earlier l.step) (conclusion input earlier l) s refl e).0

  -- a line that is wrong is no conclusion
  wrong_by : (k : CheckKind) (f : CheckFault) → IsWrongBy k input earlier l f → conclusion input earlier l ≡ Some l.stated → ⊥
  wrong_by kinds.Parent f w e = w.missing (has_parents l.stated e)
  wrong_by kinds.Shape f w e = none-some l.stated (sym w.nothing ∙ e)
  wrong_by kinds.Clause f w e = let s = some_and (conclusion input earlier l) (λ s. s.clause ≢ l.stated.clause) w.differs in s.2 (ap (λ t. t.clause) (same_Some s.0 l.stated (sym s.1 ∙ e)))
  wrong_by kinds.Dependencies f w e = let s = some_and (conclusion input earlier l) (λ s. (s.clause ≡ l.stated.clause) × (s.deps ≢ l.stated.deps)) w.differs in s.2.1 (ap (λ t. t.deps) (same_Some s.0 l.stated (sym s.1 ∙ e)))
  wrong_by kinds.Last f w e = w

  pub not_concluded : (f : CheckFault) → IsWrongBy f.kind input earlier l f → IsConclusion input earlier l → ⊥
  not_concluded f w h = wrong_by f.kind f w (is_concluded h)

  -- a line is wrong in one way
  abbrev Agree : CheckKind → CheckKind → CheckFault → CheckFault → Type 0
  Agree k m f g = (k ≡ m) × (f.found ≡ g.found) × (f.wanted ≡ g.wanted)

  tell_neither : (f g : CheckFault) → TellsNeither f → TellsNeither g → (f.found ≡ g.found) × (f.wanted ≡ g.wanted)
  tell_neither f g p q = (p.0 ∙ sym q.0, p.1 ∙ sym q.1)

  tell_both : (f g : CheckFault) → TellsBoth input earlier l f → TellsBoth input earlier l g → (f.found ≡ g.found) × (f.wanted ≡ g.wanted)
  tell_both f g p q = (p.0 ∙ sym q.0, p.1 ∙ sym q.1)

  abbrev ClauseDiffers : Statement → Type 0
  ClauseDiffers s = s.clause ≢ l.stated.clause

  abbrev DepsDiffer : Statement → Type 0
  DepsDiffer s = (s.clause ≡ l.stated.clause) × (s.deps ≢ l.stated.deps)

  no_parents : (P : Statement → Type 0) → ¬ HasParents earlier l → IsSomeAnd (conclusion input earlier l) P → ⊥
  no_parents P missing h = let s = some_and (conclusion input earlier l) P h in missing (has_parents s.0 s.1)

  no_shape : (P : Statement → Type 0) → conclusion input earlier l ≡ None → IsSomeAnd (conclusion input earlier l) P → ⊥
  no_shape P none h = let s = some_and (conclusion input earlier l) P h in none-some s.0 (sym none ∙ s.1)

  both_ways : IsSomeAnd (conclusion input earlier l) ClauseDiffers → IsSomeAnd (conclusion input earlier l) DepsDiffer → ⊥
  both_ways h k =
      let s = some_and (conclusion input earlier l) ClauseDiffers h in
      let t = some_and (conclusion input earlier l) DepsDiffer k in
      s.2 (ap (λ x. x.clause) (same_Some s.0 t.0 (sym s.1 ∙ t.1)) ∙ t.2.0)

  one_way : (k m : CheckKind) (f g : CheckFault) → IsWrongBy k input earlier l f → IsWrongBy m input earlier l g → Agree k m f g
  one_way kinds.Parent kinds.Parent f g v w = (refl, (tell_neither f g v.tells w.tells).0, (tell_neither f g v.tells w.tells).1)
  one_way kinds.Parent kinds.Shape f g v w = absurd (v.missing w.parents)
  one_way kinds.Parent kinds.Clause f g v w = absurd (no_parents ClauseDiffers v.missing w.differs)
  one_way kinds.Parent kinds.Dependencies f g v w = absurd (no_parents DepsDiffer v.missing w.differs)
  one_way kinds.Parent kinds.Last f g v w = absurd w
  one_way kinds.Shape kinds.Parent f g v w = absurd (w.missing v.parents)
  one_way kinds.Shape kinds.Shape f g v w = (refl, (tell_neither f g v.tells w.tells).0, (tell_neither f g v.tells w.tells).1)
  one_way kinds.Shape kinds.Clause f g v w = absurd (no_shape ClauseDiffers v.nothing w.differs)
  one_way kinds.Shape kinds.Dependencies f g v w = absurd (no_shape DepsDiffer v.nothing w.differs)
  one_way kinds.Shape kinds.Last f g v w = absurd w
  one_way kinds.Clause kinds.Parent f g v w = absurd (no_parents ClauseDiffers w.missing v.differs)
  one_way kinds.Clause kinds.Shape f g v w = absurd (no_shape ClauseDiffers w.nothing v.differs)
  one_way kinds.Clause kinds.Clause f g v w = (refl, (tell_both f g v.tells w.tells).0, (tell_both f g v.tells w.tells).1)
  one_way kinds.Clause kinds.Dependencies f g v w = absurd (both_ways v.differs w.differs)
  one_way kinds.Clause kinds.Last f g v w = absurd w
  one_way kinds.Dependencies kinds.Parent f g v w = absurd (no_parents DepsDiffer w.missing v.differs)
  one_way kinds.Dependencies kinds.Shape f g v w = absurd (no_shape DepsDiffer w.nothing v.differs)
  one_way kinds.Dependencies kinds.Clause f g v w = absurd (both_ways w.differs v.differs)
  one_way kinds.Dependencies kinds.Dependencies f g v w = (refl, (tell_both f g v.tells w.tells).0, (tell_both f g v.tells w.tells).1)
  one_way kinds.Dependencies kinds.Last f g v w = absurd w
  one_way kinds.Last m f g v w = absurd v

  -- where what is stated differs from what is wanted
  mismatched_by : (k : CheckKind) (wanted : Statement) (f : CheckFault) → conclusion input earlier l ≡ Some wanted → Differ k l.stated wanted → TellsBoth input earlier l f → IsWrongBy k input earlier l f
  mismatched_by kinds.Parent wanted f e d t = absurd d
  mismatched_by kinds.Shape wanted f e d t = absurd d
  mismatched_by kinds.Clause wanted f e d t = record { differs = some_is ClauseDiffers (conclusion input earlier l) wanted e d; tells = t }
  mismatched_by kinds.Dependencies wanted f e d t = record { differs = some_is DepsDiffer (conclusion input earlier l) wanted e d; tells = t }
  mismatched_by kinds.Last wanted f e d t = absurd d

  pub mismatched : (number : ℕ) (wanted : Statement) (f : CheckFault) → conclusion input earlier l ≡ Some wanted → IsMismatch number l.stated wanted f → (f.step ≡ number) × IsWrongBy f.kind input earlier l f
  mismatched number wanted f e m = (m.step, mismatched_by f.kind wanted f e m.differ (m.found_told, m.wanted_told ∙ sym e))

  -- what the steps of the check of one line tell

  -- a fault of this line
  abbrev pub IsFaultOfLine : ℕ → CheckFault → Type 0
  IsFaultOfLine number f = (f.step ≡ number) × IsWrongBy f.kind input earlier l f

  pub parent_fault : (number : ℕ) (e : CheckError) → ¬ HasParents earlier l → IsErrorOf (λ f. f ≡ record { step = number; kind = kinds.Parent; found = None; wanted = None }) e → IsErrorOf (IsFaultOfLine number) e
  parent_fault number e missing =
      let plain : CheckFault = record { step = number; kind = kinds.Parent; found = None; wanted = None } in
      error_maps (λ f. f ≡ plain) (IsFaultOfLine number) (λ f is. subst (IsFaultOfLine number) (sym is) (refl, record { missing = missing; tells = (refl, refl) })) e

  pub shape_fault : (number : ℕ) (e : CheckError) → HasParents earlier l → conclusion input earlier l ≡ None → IsErrorOf (λ f. f ≡ record { step = number; kind = kinds.Shape; found = None; wanted = None }) e → IsErrorOf (IsFaultOfLine number) e
  shape_fault number e parents none =
      let plain : CheckFault = record { step = number; kind = kinds.Shape; found = None; wanted = None } in
      error_maps (λ f. f ≡ plain) (IsFaultOfLine number) (λ f is. subst (IsFaultOfLine number) (sym is) (refl, record { parents = parents; nothing = none; tells = (refl, refl) })) e

  pub compared : {A : Type 0} (number : ℕ) (wanted : Statement) (r : Result A CheckError) → conclusion input earlier l ≡ Some wanted → MatchResult r (λ u. l.stated ≡ wanted) (IsErrorOf (IsMismatch number l.stated wanted)) → MatchResult r (λ u. IsConclusion input earlier l) (IsErrorOf (IsFaultOfLine number))
  compared number wanted (Ok u) e h = concludes (e ∙ ap Some (sym h))
  compared number wanted (Err x) e h = error_maps (IsMismatch number l.stated wanted) (IsFaultOfLine number) (λ f m. mismatched number wanted f e m) x h

-- the parents' numbers, where the statements are those of lines

stated_all : (ls : List Line) (xs : List ℕ) (l : Line) → xs ≡ l.step.parents → All (λ n. (1 ≤ n) × (n ≤ length ls)) xs ≡ HasParents (stated ls) l
stated_all ls xs l e = (λ i. All (λ n. (1 ≤ n) × (n ≤ sym (length-map ls (λ (m : Line). m.stated)) i)) (e i))

pub all_there : (ls : List Line) (xs : List ℕ) (l : Line) → xs ≡ l.step.parents → All (λ n. (1 ≤ n) × (n ≤ length ls)) xs → HasParents (stated ls) l
all_there ls xs l e h = subst (λ X. X) (stated_all ls xs l e) h

pub there_all : (ls : List Line) (xs : List ℕ) (l : Line) → xs ≡ l.step.parents → HasParents (stated ls) l → All (λ n. (1 ≤ n) × (n ≤ length ls)) xs
there_all ls xs l e h = subst (λ X. X) (sym (stated_all ls xs l e)) h

-- ---- the list

from_take : (k j : ℕ) (lines : List Line) (m : Line) → slice_get (take k lines) j ≡ Some m → (j < k) × (slice_get lines j ≡ Some m)
from_take zero j [] m e = absurd (cc)
from_take zero j (l ∷ ls) m e = absurd (cc)
from_take (suc k) j [] m e = absurd (cc)
from_take (suc k) zero (l ∷ ls) m e = (omega arith, e)
from_take (suc k) (suc j) (l ∷ ls) m e = let r = from_take k j ls m e in (omega (arith, r.0), r.1)

to_take : (k j : ℕ) (lines : List Line) (m : Line) → j < k → slice_get lines j ≡ Some m → slice_get (take k lines) j ≡ Some m
to_take zero j lines m h e = absurd (omega (arith, h))
to_take (suc k) j [] m h e = absurd (cc)
to_take (suc k) zero (l ∷ ls) m h e = e
to_take (suc k) (suc j) (l ∷ ls) m h e = to_take k j ls m (omega (arith, h)) e

-- the lines before this place are conclusions
abbrev pub AreBefore : List Clause → List Line → ℕ → Type 0
AreBefore input lines k = (j : ℕ) (m : Line) → j < k → slice_get lines j ≡ Some m → IsConclusion input (stated (take j lines)) m

module _ (input : List Clause) (lines : List Line) where
  pub before_taken : (k : ℕ) → AreBefore input lines k → AreConclusions input (take k lines)
  before_taken k h j m e =
      let r = from_take k j lines m e in
      subst (λ ls. IsConclusion input (stated ls) m) (sym (take-take j k lines (omega (arith, r.0)))) (h j m r.0 r.1)

  taken_before : (k : ℕ) → AreConclusions input (take k lines) → AreBefore input lines k
  taken_before k h j m b e = subst (λ ls. IsConclusion input (stated ls) m) (take-take j k lines (omega (arith, b))) (h j m (to_take k j lines m b e))

  -- a line of the list that is wrong is where its number says
  first_at : (f : CheckFault) (k n : ℕ) (line : Line) → n ≡ suc k → slice_get lines k ≡ Some line → AreBefore input lines k → IsWrongBy f.kind input (stated (take k lines)) line f → f.step ≡ n → IsFirstFault (IsWrongBy f.kind) input lines f
  first_at f k n line is there before wrong step =
      let here : f.step ≡ suc k = step ∙ is in
      let less : f.step - 1 ≡ k = omega (arith, here) in
      record {
        line = line;
        there = ap (numbered lines) here ∙ there;
        before = subst (λ m. AreConclusions input (take m lines)) (sym less) (before_taken k before);
        wrong = subst (λ m. IsWrongBy f.kind input (stated (take m lines)) line f) (sym less) wrong;
      }

  -- the fault of a line behind conclusions is the first one
  pub first_found : (k : ℕ) (line : Line) (e : CheckError) → slice_get lines k ≡ Some line → AreBefore input lines k → IsErrorOf (IsFaultOfLine input (stated (take k lines)) line (length (take k lines) + 1)) e → IsErrorOf (λ f. IsFirstFault (IsWrongBy f.kind) input lines f) e
  first_found k line e there before =
      let number : length (take k lines) + 1 ≡ suc k = omega (arith, length-take-le k lines (omega (arith, slice_get_within lines k line there))) in
      error_maps
      (IsFaultOfLine input (stated (take k lines)) line (length (take k lines) + 1))
      (λ f. IsFirstFault (IsWrongBy f.kind) input lines f)
      (λ f h. first_at f k (length (take k lines) + 1) line number there before h.1 h.0)
      e

  -- what a first fault says, at its place
  pub record IsWrongAt (k : ℕ) (kind : CheckKind) (f : CheckFault) : Type 0 where
    pub line : Line
    pub step : f.step ≡ suc k
    pub there : slice_get lines k ≡ Some line
    pub before : AreBefore input lines k
    pub wrong : IsWrongBy kind input (stated (take k lines)) line f

  located : (n : ℕ) (f : CheckFault) (line : Line) → f.step ≡ n → numbered lines n ≡ Some line → AreConclusions input (take (n - 1) lines) → IsWrongBy f.kind input (stated (take (n - 1) lines)) line f → (k : ℕ) × IsWrongAt k f.kind f
  located zero f line is there before wrong = absurd (cc)
  located (suc k) f line is there before wrong =
      let less : suc k - 1 ≡ k = omega arith in (
        k,
        record {
          line = line;
          step = is;
          there = there;
          before = taken_before k (subst (λ m. AreConclusions input (take m lines)) less before);
          wrong = subst (λ m. IsWrongBy f.kind input (stated (take m lines)) line f) less wrong;
        },
      )

  located_fault : (f : CheckFault) → IsFirstFault (IsWrongBy f.kind) input lines f → (k : ℕ) × IsWrongAt k f.kind f
  located_fault f h = located f.step f h.line refl h.there h.before h.wrong

  not_all : (f : CheckFault) → IsFirstFault (IsWrongBy f.kind) input lines f → AreConclusions input lines → ⊥
  not_all f h all = let r = located_fault f h in not_concluded input (stated (take r.0 lines)) r.1.line f r.1.wrong (all r.0 r.1.line r.1.there)

  pub not_checked : (f : CheckFault) → IsFault input lines f → Checked input lines → ⊥
  not_checked f (inl h) c = not_all f h c.each
  not_checked f (inr h) c = h.1.ends c.ends

  same_fault : (f g : CheckFault) → f.step ≡ g.step → f.kind ≡ g.kind → f.found ≡ g.found → f.wanted ≡ g.wanted → f ≡ g
  same_fault f g p q r s = λ i. record { step = p i; kind = q i; found = r i; wanted = s i }

  same_place : (f g : CheckFault) (j k : ℕ) → IsWrongAt j f.kind f → IsWrongAt k g.kind g → j ≡ k
  same_place f g j k v w = by_order (nat_order j k)
    where
      nat_order : (j k : ℕ) → (j < k) ⊎ ((j ≡ k) ⊎ (k < j))
      nat_order zero zero = inr (inl refl)
      nat_order zero (suc k) = inl (omega arith)
      nat_order (suc j) zero = inr (inr (omega arith))
      nat_order (suc j) (suc k) = step (nat_order j k)
        where
          step : (j < k) ⊎ ((j ≡ k) ⊎ (k < j)) → (suc j < suc k) ⊎ ((suc j ≡ suc k) ⊎ (suc k < suc j))
          step (inl h) = inl (omega (arith, h))
          step (inr (inl h)) = inr (inl (ap suc h))
          step (inr (inr h)) = inr (inr (omega (arith, h)))

      by_order : (j < k) ⊎ ((j ≡ k) ⊎ (k < j)) → j ≡ k
      by_order (inl h) = absurd (not_concluded input (stated (take j lines)) v.line f v.wrong (w.before j v.line h v.there))
      by_order (inr (inl h)) = h
      by_order (inr (inr h)) = absurd (not_concluded input (stated (take k lines)) w.line g w.wrong (v.before k w.line h w.there))

  same_here : (f g : CheckFault) (k : ℕ) → IsWrongAt k f.kind f → IsWrongAt k g.kind g → f ≡ g
  same_here f g k v w =
      let line : v.line ≡ w.line = same_Some v.line w.line (sym v.there ∙ w.there) in
      let earlier = stated (take k lines) in
      let r = one_way input earlier w.line f.kind g.kind f g (subst (λ l. IsWrongBy f.kind input earlier l f) line v.wrong) w.wrong in
      same_fault f g (v.step ∙ sym w.step) r.0 r.1 r.2

  pub one_fault : (f g : CheckFault) → IsFault input lines f → IsFault input lines g → f ≡ g
  one_fault f g (inl v) (inl w) =
      let p = located_fault f v in
      let q = located_fault g w in
      same_here f g q.0 (subst (λ k. IsWrongAt k f.kind f) (same_place f g p.0 q.0 p.1 q.1) p.1) q.1
  one_fault f g (inl v) (inr w) = absurd (not_all f v w.1.each)
  one_fault f g (inr v) (inl w) = absurd (not_all g w v.1.each)
  one_fault f g (inr v) (inr w) = same_fault f g (v.1.last ∙ sym w.1.last) (v.0 ∙ sym w.0) (v.1.tells.0 ∙ sym w.1.tells.0) (v.1.tells.1 ∙ sym w.1.tells.1)

  -- ---- what the answer tells

  -- the answer is right
  abbrev pub IsRight : Result Refutation CheckError → Type 0
  IsRight answer = MatchResult answer (λ r. Checked input lines × (r.steps ≡ length lines)) (IsErrorOf (IsFault input lines))

  pub accepted : (answer : Result Refutation CheckError) → IsRight answer → Checked input lines → ComesUnlessMemory (Ok (record { steps = length lines })) answer
  accepted (Ok r) right c = inl (ap Ok (let e = right.1 in λ i. record { steps = e i }))
  accepted (Err (errors.Fault f)) right c = absurd (not_checked f right c)
  accepted (Err errors.Memory) right c = inr refl

  pub refused : (answer : Result Refutation CheckError) → IsRight answer → (f : CheckFault) → IsFault input lines f → ComesUnlessMemory (Err (errors.Fault f)) answer
  refused (Ok r) right f h = absurd (not_checked f h right.0)
  refused (Err (errors.Fault g)) right f h = inl (ap (λ x. Err (errors.Fault x)) (one_fault g f right h))
  refused (Err errors.Memory) right f h = inr refl

  told : (answer : Result Refutation CheckError) → IsRight answer → (f : CheckFault) → answer ≡ Err (errors.Fault f) → IsFault input lines f
  told answer right f e = subst IsRight e right

  first_told : (k : CheckKind) → k ≢ kinds.Last → (f : CheckFault) → IsFault input lines f → f.kind ≡ k → IsFirstFault (IsWrongBy k) input lines f
  first_told k other f (inl v) h = subst (λ m. IsFirstFault (IsWrongBy m) input lines f) h v
  first_told k other f (inr w) h = absurd (other (sym h ∙ w.0))

  pub parent_told : (answer : Result Refutation CheckError) → IsRight answer → OnFault kinds.Parent answer (IsFirstFault IsParentFault input lines)
  parent_told answer right f e h = first_told kinds.Parent (λ x. absurd (cc)) f (told answer right f e) h

  pub shape_told : (answer : Result Refutation CheckError) → IsRight answer → OnFault kinds.Shape answer (IsFirstFault IsShapeFault input lines)
  shape_told answer right f e h = first_told kinds.Shape (λ x. absurd (cc)) f (told answer right f e) h

  pub clause_told : (answer : Result Refutation CheckError) → IsRight answer → OnFault kinds.Clause answer (IsFirstFault IsClauseFault input lines)
  clause_told answer right f e h = first_told kinds.Clause (λ x. absurd (cc)) f (told answer right f e) h

  pub dependencies_told : (answer : Result Refutation CheckError) → IsRight answer → OnFault kinds.Dependencies answer (IsFirstFault IsDependenciesFault input lines)
  dependencies_told answer right f e h = first_told kinds.Dependencies (λ x. absurd (cc)) f (told answer right f e) h

  pub last_told : (answer : Result Refutation CheckError) → IsRight answer → OnFault kinds.Last answer (IsLastFault input lines)
  last_told answer right f e h = by_fault (told answer right f e)
    where
      by_fault : IsFault input lines f → IsLastFault input lines f
      by_fault (inl v) = absurd ((subst (λ m. IsFirstFault (IsWrongBy m) input lines f) h v).wrong)
      by_fault (inr w) = w.1
