-- The parents of a line come before it, and the clauses of its splits are marked where its ancestors are.
use Rattle.std.proofs.Common.{◌≡◌, ℕ, zero, suc, ◌<◌, ◌≤◌, Bool, List, [], ◌∷◌, take, Some, refl, subst, arith}
use Rattle.std.specs.List.{slice_get}
use Rattle.spl_terms.specs.declared.clause.Clause.{Clause}
use Rattle.proof_steps.specs.declared.step.Statement.{Statement}
use Rattle.proof_steps.specs.declared.step.Line.{Line}
use Rattle.proof_steps.specs.Steps.{numbered}
use Rattle.proof_steps.specs.Checked.{AreConclusions, stated}
use Rattle.proof_extract.specs.Extracting.{HasParent, IsMarked, AreSplitsMarked}
use Rattle.proof_extract.specs.Marking.{ParentsComeBefore}
use Rattle.proof_extract.proofs.Renumbered.{AreOver}
use Rattle.proof_extract.proofs.Moved.{outcome}

-- x is what an earlier line states
pub record IsStatedBefore (lines : List Line) (k i : ℕ) (x : Statement) : Type 0 where
  pub earlier : i < k
  pub line : Line
  pub found : slice_get lines i ≡ Some line
  pub is : line.stated ≡ x

pub stated_before : (k : ℕ) (ls : List Line) (i : ℕ) (x : Statement) → slice_get (stated (take k ls)) i ≡ Some x → IsStatedBefore ls k i x
stated_before zero [] i x e = absurd (cc)
stated_before zero (l ∷ ls) i x e = absurd (cc)
stated_before (suc k) [] i x e = absurd (cc)
stated_before (suc k) (l ∷ ls) zero x e = record { earlier = omega arith; line = l; found = refl; is = cc }
stated_before (suc k) (l ∷ ls) (suc i) x e = let r = stated_before k ls i x e in record { earlier = omega (arith, r.earlier); line = r.line; found = r.found; is = r.is }

-- x is what the line with the number m states, before the line n
pub record IsStatedAt (lines : List Line) (n m : ℕ) (x : Statement) : Type 0 where
  pub some : 0 < m
  pub earlier : m < n
  pub line : Line
  pub found : numbered lines m ≡ Some line
  pub is : line.stated ≡ x

pub stated_at : (k : ℕ) (ls : List Line) (m : ℕ) (x : Statement) → numbered (stated (take k ls)) m ≡ Some x → IsStatedAt ls (suc k) m x
stated_at k ls zero x e = absurd (cc)
stated_at k ls (suc i) x e = let r = stated_before k ls i x e in record { some = omega arith; earlier = omega (arith, r.earlier); line = r.line; found = r.found; is = r.is }

module _ (input : List Clause) (lines : List Line) (each : AreConclusions input lines) where
  pub parents_before : ParentsComeBefore lines
  parents_before zero m h = absurd (let e : numbered lines 0 ≡ Some h.0 = h.1 in cc)
  parents_before (suc k) m h =
      let l = h.0 in
      let o = outcome (λ _. Unit {0}) (λ n. n) (λ a b p q r. r) (stated (take k lines)) [] input l.step.rule l.step.parents l.stated (each k l h.1).0 in
      let x = o.there m h.2 in
      let r = stated_at k lines m x.0 x.1 in
      (r.some, r.earlier)

  module _ (marks : List Bool) (closed : (n m : ℕ) → IsMarked marks n → HasParent lines n m → IsMarked marks m) where
    splits_to : (b : ℕ) (n : ℕ) (l : Line) → n ≤ b → IsMarked marks n → numbered lines n ≡ Some l → AreOver (IsMarked marks) l.stated.deps
    splits_to b zero l h marked found = absurd (cc)
    splits_to zero (suc k) l h marked found = absurd (omega arith)
    splits_to (suc b) (suc k) l h marked found =
        let o = outcome (IsMarked marks) (λ n. n) (λ a c p q r. r) (stated (take k lines)) [] input l.step.rule l.step.parents l.stated (each k l found).0 in
        o.over (λ m x parent at.
        let here = closed (suc k) m marked (l, found, parent) in
        let r = stated_at k lines m x at in
        (here, subst (λ s. AreOver (IsMarked marks) s.deps) r.is (splits_to b m r.line (omega (arith, r.earlier, h)) here r.found)))

    pub splits_marked : AreSplitsMarked lines marks
    splits_marked n l marked found = splits_to n n l (omega arith) marked found
