-- A live node that has a live child keeps it where an empty clause is published elsewhere.
use Rattle.std.proofs.Common.{◌≡◌, ℕ, ◌+◌, ◌<◌, inl, inr, true, false, eqb, List, [], ◌∷◌, Some, refl, sym, ◌∙◌, ap, arith}
use Rattle.std.proofs.lemmas.Bool.{or_cases, eqb-true, cases_Bool}
use Rattle.spl_terms.specs.Clauses.{is_empty}
use Rattle.proof_steps.specs.declared.step.Line.{Line}
use Rattle.case_journal.specs.declared.branch.Branch.{Branch}
use Rattle.case_journal.specs.declared.event.Entry.{Entry}
use Rattle.case_journal.specs.declared.event.Event.TheVariants.{Publish}
use Rattle.case_journal.specs.Journal.{Setting, nodes, steps}
use Rattle.case_journal.specs.Paths.{on_path, branch, branch_to}
use Rattle.case_journal.specs.Legal.{IsLegalJournal}
use Rattle.case_journal.specs.BranchLaws.{climbs}
use Rattle.case_journal.specs.DependenceLaws.{child_some}
use Rattle.backjump.specs.Cases.{IsSettledAt}
use Rattle.case_journal.specs.DeathLaws.{with_line, dead_after, new_empty, dead_before}

-- a settled node stays so, but for the parent of the node where an empty clause is published
pub settled_after : (s : Setting) (past : List Entry) → IsLegalJournal s past → (w n : ℕ) (l : Line) (m : ℕ) → m < nodes past → is_empty l.stated.clause ≡ true → ((b : Branch) → branch past n ≡ Some b → b.parent ≡ m → ⊥) → IsSettledAt s past m → IsSettledAt s (with_line w n l past) m
settled_after s past legal w n l m there empty other settled live =
    let e : Entry = record { by = w; event = Publish n (l ∷ []) false } in
    let c = settled (λ dead. live (dead_after s past e m there dead)) in
    let k = climbs s past legal c.child (child_some past m c.clause c.side c.child c.is) c.is.there in
    let same : Some k.up ≡ Some (branch_to m c.clause c.side) = sym k.hangs ∙ c.is.hangs in
    let q : k.up ≡ branch_to m c.clause c.side = cc in
    record {
      clause = c.clause;
      side = c.side;
      child = c.child;
      is = record { there = (let t = c.is.there in omega arith); hangs = c.is.hangs };
      live = λ dead. elim (cases_Bool (on_path past c.child n)) [
        | inl on ↦ elim (or_cases (eqb n c.child) (on_path past k.up.parent n) (sym (k.goes n) ∙ on)) [
          | inl here ↦
              let z = eqb-true n c.child here in
              other (branch_to m c.clause c.side) (ap (branch past) z ∙ c.is.hangs) refl
          | inr up ↦ live (steps s past + 1, new_empty s past w n l m empty (ap (λ x. on_path past x.parent n) (sym q) ∙ up))
        ]
        | inr off ↦ c.live (dead_before s past legal w n l c.child off dead)
      ];
    }
