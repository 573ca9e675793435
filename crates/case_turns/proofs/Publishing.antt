-- One publication.
use Rattle.std.proofs.Common.{◌≡◌, ℕ, ◌+◌, ◌≤◌, Bool, true, false, List, [], ◌∷◌, Option, Some, None, sym, ◌∙◌, ap, subst}
use Rattle.std.specs.Prelude.{IsSomeAnd}
use Rattle.spl_terms.specs.Clauses.{is_empty}
use Rattle.proof_steps.specs.declared.step.Line.{Line}
use Rattle.case_journal.specs.declared.event.Event.TheVariants.{Publish}
use Rattle.case_journal.specs.Journal.{last_line}
use Rattle.case_journal.specs.Paths.{owner}
use Rattle.journal_laws.specs.Batches.{publication}
use Rattle.split_tree.specs.State.{State}
use Rattle.case_turns.specs.Turns.{IsNextLine, HasPublished}

told_empty : (o : Option Line) (b : Bool) → b ≡ true → IsSomeAnd o (λ l. b ≡ is_empty l.stated.clause) → IsSomeAnd o (λ l. is_empty l.stated.clause ≡ true)
told_empty (Some l) b on h = sym h ∙ on
told_empty None b on h = h

pub last_empty : (chain seen : List Line) (b : Bool) → seen ≡ chain → IsSomeAnd (last_line seen) (λ l. b ≡ is_empty l.stated.clause) → b ≡ true → IsSomeAnd (last_line chain) (λ l. is_empty l.stated.clause ≡ true)
last_empty chain seen b same h on = told_empty (last_line chain) b on (subst (λ ls. IsSomeAnd (last_line ls) (λ l. b ≡ is_empty l.stated.clause)) same h)

-- the one line of a chain
told_line : (chain : List Line) (l : Line) (seen : List Line) (b : Bool) → chain ≡ l ∷ [] → seen ≡ chain → IsSomeAnd (last_line seen) (λ x. b ≡ is_empty x.stated.clause) → b ≡ is_empty l.stated.clause
told_line chain l seen b is same h = subst (λ ls. IsSomeAnd (last_line ls) (λ x. b ≡ is_empty x.stated.clause)) (same ∙ is) h

pub first_empty : (chain : List Line) (l : Line) (seen : List Line) (b : Bool) → chain ≡ l ∷ [] → seen ≡ chain → IsSomeAnd (last_line seen) (λ x. b ≡ is_empty x.stated.clause) → b ≡ true → is_empty l.stated.clause ≡ true
first_empty chain l seen b is same h on = sym (told_line chain l seen b is same h) ∙ on

pub chain_line : (chain : List Line) (l : Line) (seen : List Line) (b : Bool) → chain ≡ l ∷ [] → seen ≡ chain → IsSomeAnd (last_line seen) (λ x. b ≡ is_empty x.stated.clause) → b ≡ false → is_empty l.stated.clause ≡ false
chain_line chain l seen b is same h off = sym (told_line chain l seen b is same h) ∙ off

pub is_published : (old new : State) (w m at : ℕ) (chain : List Line) (l : Line) → IsNextLine old.setting old.past w m at chain → chain ≡ l ∷ [] → new.past ≡ record { by = w; event = Publish at chain false } ∷ old.past → is_empty l.stated.clause ≡ false → old.spare_events ≤ new.spare_events + 1 → old.spare_steps ≤ new.spare_steps + 1 → HasPublished old new w m l
is_published old new w m at chain l n is past full events steps =
    let both : n.line ∷ [] ≡ l ∷ [] = sym n.is ∙ is in
    let same : n.line ≡ l = cc in
    record {
      past = past ∙ ((λ i. record { by = w; event = Publish (n.owns i) (is i) false } ∷ old.past) ∙ ap (λ (x : Line). publication w (owner old.past x.stated.deps m) l ∷ old.past) same);
      full = full;
      events = events;
      steps = steps;
    }
