-- How the nodes hang is what the journal says, and a path goes on at the parent.
use Rattle.std.proofs.Common.{◌≡◌, ℕ, zero, suc, ◌+◌, ◌-◌, ◌<◌, ◌≤◌, inl, inr, cond, eqb, List, [], ◌∷◌, ◌++◌, length, Option, Some, refl, sym, ◌∙◌, ap, arith, eq-eqb}
use Rattle.std.proofs.lemmas.Bool.{ne_eqb, cases_lt, cond-true, cond-false}
use Rattle.std.specs.List.{slice_get}
use Rattle.case_journal.specs.declared.event.Entry.{Entry}
use Rattle.case_journal.specs.declared.event.Event.{Event}
use Rattle.case_journal.specs.declared.event.Event.TheVariants.{Split}
use Rattle.case_journal.specs.declared.branch.Branch.{Branch}
use Rattle.case_journal.specs.Journal.{nodes, nodes_of}
use Rattle.case_journal.specs.Paths.{branch, branch_by, branch_to, subject}
use Rattle.case_journal.specs.BranchLaws.{branch_old}
use Rattle.split_tree.specs.Caches.{branches, branches_by}
use Rattle.case_journal.specs.ListLaws.{get_left, get_right}
use Rattle.split_tree.proofs.Past.{length-branches}

branch_new : (ev : Event) (count m : ℕ) (o : Option Branch) → count ≤ m → m < count + nodes_of ev → slice_get (branches_by ev) (m - count) ≡ Some (branch_by ev count m o)
branch_new (Split node lines put_off) count m o high there =
    let one = Some (branch_to node (subject lines) 1) in
    let two = Some (branch_to node (subject lines) 2) in
    elim (cases_lt m (count + 1)) [
      | inl low ↦
          let q : m ≡ count = omega arith in
          let k : m - count ≡ 0 = omega arith in
          ap (slice_get (one ∷ two ∷ [])) k ∙ ap Some (sym (cond-true (eqb m count) one (cond (eqb m (count + 1)) two o) (eq-eqb m count q)))
      | inr more ↦
          let q : m ≡ count + 1 = omega arith in
          let k : m - count ≡ 1 = omega arith in
          ap (slice_get (one ∷ two ∷ [])) k ∙ ap Some (sym (cond-false (eqb m count) one (cond (eqb m (count + 1)) two o) (ne_eqb m count (λ r. omega arith)) ∙ cond-true (eqb m (count + 1)) two o (eq-eqb m (count + 1) q)))
    ]
branch_new _ count m o high there = absurd (omega arith)

-- what is kept of how a node hangs
pub branch_at : (past : List Entry) (m : ℕ) → m < nodes past → slice_get (branches past) m ≡ Some (branch past m)
unfolding branches
branch_at [] zero there = refl
branch_at [] (suc m) there = absurd (omega arith)
branch_at (e ∷ past) m there =
    let long = length-branches past in
    elim (cases_lt m (nodes past)) [
      | inl low ↦ get_left (branches past) (branches_by e.event) m (omega arith) ∙ (branch_at past m low ∙ ap Some (sym (branch_old e.event (nodes past) m (branch past m) low)))
      | inr high ↦
          let at : m ≡ length (branches past) + (m - nodes past) = omega arith in
          ap (slice_get (branches past ++ branches_by e.event)) at ∙ (get_right (branches past) (branches_by e.event) (m - nodes past) ∙ branch_new e.event (nodes past) m (branch past m) high there)
    ]
