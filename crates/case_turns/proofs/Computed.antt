-- A batch that was computed from the journal as it is: it is neither dropped nor to be computed anew.
use Rattle.std.proofs.Common.{◌≡◌, ◌⊎◌, inl, inr, ℕ, ◌≤◌, Bool, false, if◌then◌else◌, List, ◌++◌, map, Option, Some, None, refl, ◌∙◌, ap, subst, arith}
use Rattle.std.specs.Prelude.{IsSome}
use Rattle.proof_steps.specs.declared.step.Line.{Line}
use Rattle.case_journal.specs.declared.event.Entry.{Entry}
use Rattle.case_journal.specs.declared.event.Event.{Event}
use Rattle.case_journal.specs.declared.event.Event.TheVariants.{Split, Activate, Big}
use Rattle.case_journal.specs.declared.event.End.TheVariants as ends
use Rattle.case_journal.specs.Journal.{Setting, splits}
use Rattle.case_journal.specs.Facts.{Holds, IsDead}
use Rattle.case_journal.specs.Ending.{first_end, has_empty, reason}
use Rattle.split_tree.specs.State.{State}
use Rattle.case_view.specs.declared.kept.Case.{Case}
use Rattle.case_view.specs.Views.{IsIn}
use Rattle.case_rounds.specs.declared.round.Batch.{Batch}
use Rattle.case_rounds.specs.declared.round.Finish.{Finish}
use Rattle.case_rounds.specs.declared.round.Finish.TheVariants as finishes
use Rattle.case_rounds.specs.Rounds.{IsFinishOf}
use Rattle.case_rounds.specs.Events.{publication_of, AreLastOf, IsBatchOf}
use Rattle.case_rounds.specs.InLaws.{in_either, in_one, in_none, in_mapped}
use Rattle.case_turns.specs.Turns.{CanNotSplit}

none_is : {A : Type 0} (o : Option A) → o ≡ None → IsSome o → ⊥
none_is (Some x) e h = absurd (cc)
none_is None e h = absurd (cc)

not_ended : (s : Setting) (past : List Entry) → has_empty s.input ≡ false → first_end past ≡ None → reason s past ≡ None
not_ended s past full none = ap (λ b. if b then Some ends.Proved else first_end past) full ∙ none

-- it is not dropped
pub not_dropped : (t : State) (w m : ℕ) → has_empty t.setting.input ≡ false → first_end t.past ≡ None → Holds t.setting t.past w m → IsSome (reason t.setting t.past) ⊎ IsDead t.setting t.past m → ⊥
not_dropped t w m full none holds (inl some) = absurd (none_is (reason t.setting t.past) (not_ended t.setting t.past full none) some)
not_dropped t w m full none holds (inr dead) = holds.live dead

no_split_last : (most : ℕ) (v : Case) (lines : List Line) (finish : Finish) (last : List Event) (node : ℕ) (steps : List Line) (put_off : List Bool) → IsFinishOf most v lines finish → AreLastOf v finish last → IsIn last (Split node steps put_off) → most ≤ v.splits → ⊥
no_split_last most v lines finishes.Closed last node steps put_off ends is at spent = in_none (Split node steps put_off) (subst (λ xs. IsIn xs (Split node steps put_off)) is at)
no_split_last most v lines (finishes.Big partner symbols) last node steps put_off ends is at spent = let q = in_one (Big v.node partner symbols) (Split node steps put_off) (subst (λ xs. IsIn xs (Split node steps put_off)) is at) in absurd (cc)
no_split_last most v lines (finishes.Split parts) last node steps put_off ends is at spent = omega (arith, ends.free, spent)
no_split_last most v lines finishes.Activate last node steps put_off ends is at spent = let q = in_one (Activate v.node) (Split node steps put_off) (subst (λ xs. IsIn xs (Split node steps put_off)) is at) in absurd (cc)

-- nor is it to be computed anew
pub not_again : (t : State) (v : Case) (b : Batch) → IsBatchOf t.setting.limits.splits v b → v.splits ≡ splits t.past → CanNotSplit t b.events → ⊥
not_again t v b h same c =
    let split = c.2 in
    let there : IsIn (map (publication_of v) h.lines ++ h.events.last) (Split split.node split.lines split.put_off) = subst (λ xs. IsIn xs (Split split.node split.lines split.put_off)) h.events.are (subst (IsIn b.events) split.is c.1) in
    elim (in_either (map (publication_of v) h.lines) h.events.last (Split split.node split.lines split.put_off) there) [
      | inl published ↦ (let r = in_mapped (publication_of v) h.lines (Split split.node split.lines split.put_off) published in let q = r.2 in absurd (cc))
      | inr last ↦ no_split_last t.setting.limits.splits v h.lines h.finish h.events.last split.node split.lines split.put_off h.ends h.events.finishes last (omega (arith, split.spent, same))
    ]

-- ---- a clause is given

pub some_given : {A B : Type 0} (given : Option A) (at : Option B) → (given ≡ None → at ≡ None) → IsSome at → IsSome given
some_given (Some k) at none h = refl
some_given None at none h = absurd (none_is at (none refl) h)
