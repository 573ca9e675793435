-- The events of a batch, one after another.
use Rattle.std.proofs.Common.{◌≡◌, ◌⊎◌, inl, inr, ℕ, suc, ◌+◌, ◌<◌, ◌≤◌, true, false, Bool, List, [], ◌∷◌, ◌++◌, length, map, Option, Some, None, option_map, refl, sym, ◌∙◌, ap, subst, arith, length-append}
use Rattle.std.specs.Prelude.{IsSomeAnd}
use Rattle.std.specs.List.{slice_get}
use Rattle.std.proofs.lemmas.Bool.{cases_lt}
use Rattle.std.proofs.lemmas.List.{length-map, take_all}
use Rattle.std.proofs.lemmas.Option.{slice_get-map, slice_get_within}
use Rattle.spl_terms.specs.Clauses.{is_empty}
use Rattle.spl_terms.specs.declared.clause.Clause.{Clause}
use Rattle.spl_terms.specs.Lists.{numbered}
use Rattle.proof_steps.specs.declared.step.Line.{Line}
use Rattle.case_journal.specs.declared.event.Entry.{Entry}
use Rattle.case_journal.specs.declared.event.Event.{Event}
use Rattle.case_journal.specs.declared.event.Event.TheVariants.{Publish, Activate, Big}
use Rattle.case_journal.specs.Journal.{Setting, ledger, last_line, nodes}
use Rattle.case_journal.specs.Paths.{owner}
use Rattle.case_journal.specs.Ending.{first_end}
use Rattle.case_journal.specs.Legal.{IsLegal, IsLegalJournal, IsLegalBig}
use Rattle.case_journal.specs.ListLaws.{get_left, get_right}
use Rattle.case_journal.specs.PlaceLaws.{claimed_within}
use Rattle.case_journal.specs.LedgerLaws.{numbered_more}
use Rattle.case_journal.specs.DependenceLaws.{chosen_listed}
use Rattle.journal_laws.specs.Frame.{StillHolds}
use Rattle.journal_laws.specs.Batches.{publication, newest_first, CanGoOn, IsUnderWay, IsWorkedOff}
use Rattle.split_tree.specs.State.{State}
use Rattle.case_rounds.specs.declared.round.Finish.{Finish}
use Rattle.case_rounds.specs.declared.round.Finish.TheVariants as finishes
use Rattle.case_rounds.specs.declared.round.Batch.{Batch}
use Rattle.case_rounds.specs.Appending.{IsFinishAt, publication_at, AreLastAt, IsBatchReady}
use Rattle.case_turns.specs.Turns.{IsNextLine, IsLastNow, HasPublished}
use Rattle.case_turns.proofs.Turns.{item_at}

-- w has appended the first events of a batch that was made over the journal `start`: so many of its lines are published, and none of these is empty
pub record IsSoFar (s : Setting) (start past : List Entry) (w m : ℕ) (lines : List Line) (done : List Event) : Type 0 where
  pub few : length done ≤ length lines
  pub way : IsUnderWay s start past w m lines (length done)
  pub full : (k : ℕ) (l : Line) → k < length done → slice_get lines k ≡ Some l → is_empty l.stated.clause ≡ false

-- the event is the publication of this line, which is the next one
pub record IsPublicationOf (start : List Entry) (m : ℕ) (lines : List Line) (n : ℕ) (ev : Event) : Type 0 where
  pub line : Line
  pub found : slice_get lines n ≡ Some line
  pub is : publication_at start m line ≡ ev

-- ---- where the next event stands

-- it publishes the next line, or it is the first one after all publications
pub stands : (start : List Entry) (m : ℕ) (lines : List Line) (events last done rest : List Event) (ev : Event) → events ≡ map (publication_at start m) lines ++ last → events ≡ done ++ ev ∷ rest → length done ≤ length lines
    → IsPublicationOf start m lines (length done) ev ⊎ ((length done ≡ length lines) × (slice_get last 0 ≡ Some ev))
stands start m lines events last done rest ev are joined few =
    let f = publication_at start m in
    let at : slice_get (map f lines ++ last) (length done) ≡ Some ev = ap (λ xs. slice_get xs (length done)) (sym are) ∙ item_at events done rest ev joined in
    elim (cases_lt (length done) (length lines)) [
      | inl low ↦
          let here : option_map f (slice_get lines (length done)) ≡ Some ev =
          sym (slice_get-map f lines (length done)) ∙ (sym (get_left (map f lines) last (length done) (omega (arith, low, length-map lines f))) ∙ at) in
          inl (by_line (slice_get lines (length done)) refl here)
      | inr high ↦
          let n : length done ≡ length lines = omega (arith, high, few) in
          let place : length done ≡ length (map f lines) + 0 = omega (arith, n, length-map lines f) in
          inr (n, sym (get_right (map f lines) last 0) ∙ (ap (slice_get (map f lines ++ last)) (sym place) ∙ at))
    ]
  where
    by_line : (o : Option Line) → slice_get lines (length done) ≡ o → option_map (publication_at start m) o ≡ Some ev → IsPublicationOf start m lines (length done) ev
    by_line None found e = absurd (cc)
    by_line (Some l) found e = let same : publication_at start m l ≡ ev = cc in record { line = l; found = found; is = same }

-- ---- a publication

no_publication : (start : List Entry) (m : ℕ) (finish : Finish) (last : List Event) (node : ℕ) (chain : List Line) (put_off : Bool) → AreLastAt start m finish last → slice_get last 0 ≡ Some (Publish node chain put_off) → ⊥
no_publication start m finishes.Closed last node chain put_off h at = let bad : None ≡ Some (Publish node chain put_off) = ap (λ xs. slice_get xs 0) (sym h) ∙ at in absurd (cc)
no_publication start m (finishes.Big partner symbols) last node chain put_off h at = let bad : Some (Big m partner symbols) ≡ Some (Publish node chain put_off) = ap (λ xs. slice_get xs 0) (sym h) ∙ at in absurd (cc)
no_publication start m (finishes.Split parts) last node chain put_off h at =
    (let a : Some h.event ≡ Some (Publish node chain put_off) = ap (λ xs. slice_get xs 0) (sym h.is) ∙ at in
    let b : h.event ≡ Publish node chain put_off = cc in
    let bad = sym h.splits.is ∙ b in absurd (cc))
no_publication start m finishes.Activate last node chain put_off h at = let bad : Some (Activate m) ≡ Some (Publish node chain put_off) = ap (λ xs. slice_get xs 0) (sym h) ∙ at in absurd (cc)

-- which line is published
pub published_line : (start : List Entry) (m : ℕ) (lines : List Line) (finish : Finish) (events last done rest : List Event) (ev : Event) (node : ℕ) (chain : List Line) (put_off : Bool) → AreLastAt start m finish last → events ≡ map (publication_at start m) lines ++ last → events ≡ done ++ ev ∷ rest → length done ≤ length lines
    → ev ≡ Publish node chain put_off → IsPublicationOf start m lines (length done) (Publish node chain put_off)
published_line start m lines finish events last done rest ev node chain put_off ends are joined few is =
    elim (stands start m lines events last done rest ev are joined few) [
      | inl p ↦ subst (IsPublicationOf start m lines (length done)) is p
      | inr e ↦ absurd (no_publication start m finish last node chain put_off ends (e.1 ∙ ap Some is))
    ]

pub one_line : (start : List Entry) (m : ℕ) (lines : List Line) (n node : ℕ) (chain : List Line) (put_off : Bool) (p : IsPublicationOf start m lines n (Publish node chain put_off)) → chain ≡ p.line ∷ []
one_line start m lines n node chain put_off p = let e = p.is in let q : p.line ∷ [] ≡ chain = cc in sym q

pub is_next : (s : Setting) (start past : List Entry) (w m : ℕ) (lines : List Line) (done : List Event) (node : ℕ) (chain : List Line) (put_off : Bool) → IsSoFar s start past w m lines done → (p : IsPublicationOf start m lines (length done) (Publish node chain put_off)) → CanGoOn s past w m p.line → IsNextLine s past w m node chain
is_next s start past w m lines done node chain put_off h p go =
    let e = p.is in
    let at : owner start p.line.stated.deps m ≡ node = cc in
    record {
      line = p.line;
      is = one_line start m lines (length done) node chain put_off p;
      owns = sym at ∙ sym (h.way.still.owners p.line.stated.deps);
      go = go;
    }

-- once the line is published, the rest is under way
pub one_more : (s : Setting) (start : List Entry) (old new : State) (w m : ℕ) (lines : List Line) (done : List Event) (ev : Event) (l : Line) → slice_get lines (length done) ≡ Some l → IsSoFar s start old.past w m lines done → HasPublished old new w m l
    → IsUnderWay s start (publication w (owner old.past l.stated.deps m) l ∷ old.past) w m lines (suc (length done)) → IsSoFar s start new.past w m lines (done ++ ev ∷ [])
one_more s start old new w m lines done ev l found h p way =
    let n : suc (length done) ≡ length (done ++ ev ∷ []) = omega (arith, length-append done (ev ∷ [])) in
    record {
      few = omega (arith, n, slice_get_within lines (length done) l found);
      way = subst (IsUnderWay s start new.past w m lines) n (subst (λ past. IsUnderWay s start past w m lines (suc (length done))) (sym p.past) way);
      full = λ k x low at. elim (cases_lt k (length done)) [
        | inl before ↦ h.full k x before at
        | inr now ↦
            let here : length done ≡ k = omega (arith, n, low, now) in
            let both : Some l ≡ Some x = sym found ∙ (ap (slice_get lines) here ∙ at) in
            let same : l ≡ x = cc in
            subst (λ (y : Line). is_empty y.stated.clause ≡ false) same p.full
      ];
    }

pub none_so_far : (s : Setting) (start past : List Entry) (w m : ℕ) (lines : List Line) → IsUnderWay s start past w m lines 0 → IsSoFar s start past w m lines []
none_so_far s start past w m lines way = record { few = omega arith; way = way; full = λ k l low at. absurd (omega (arith, low)) }

-- ---- once all lines are published

still_all : (s : Setting) (start past : List Entry) (w m : ℕ) (lines : List Line) (done : List Event) → IsSoFar s start past w m lines done → length done ≡ length lines → StillHolds s start past w m (newest_first lines [])
still_all s start past w m lines done h all = subst (λ ls. StillHolds s start past w m (newest_first ls [])) (take_all (length done) lines (omega (arith, all))) h.way.still

abbrev BigLaw : Setting → List Entry → List Entry → ℕ → ℕ → Type 0
BigLaw s start past w m = (partner symbols : ℕ) (own : List Clause) → IsLegalJournal s start → IsLegalBig s start w m partner symbols → first_end past ≡ None → IsLegalJournal s past → StillHolds s start past w m own → IsLegal s past w (Big m partner symbols)

abbrev ActivateLaw : Setting → List Entry → List Entry → ℕ → ℕ → List Line → Type 0
ActivateLaw s start past w m lines = IsLegalJournal s start → m < nodes start → IsWorkedOff s start w m lines → first_end past ≡ None → IsLegalJournal s past → StillHolds s start past w m (newest_first lines []) → IsLegal s past w (Activate m)

-- the event that finishes the round may be appended then
pub last_now : (s : Setting) (start past : List Entry) (w m : ℕ) (lines : List Line) (done : List Event) (finish : Finish) (last : List Event) (ev : Event) → BigLaw s start past w m → ActivateLaw s start past w m lines → IsLegalJournal s start → IsLegalJournal s past → first_end past ≡ None
    → IsSoFar s start past w m lines done → length done ≡ length lines → IsFinishAt s start w m lines finish → AreLastAt start m finish last → slice_get last 0 ≡ Some ev → IsLastNow s past w m ev
last_now s start past w m lines done finishes.Closed last ev big activate begun legal unended h all ends is at = let bad : None ≡ Some ev = ap (λ xs. slice_get xs 0) (sym is) ∙ at in absurd (cc)
last_now s start past w m lines done (finishes.Big partner symbols) last ev big activate begun legal unended h all ends is at =
    (let e : Some (Big m partner symbols) ≡ Some ev = ap (λ xs. slice_get xs 0) (sym is) ∙ at in
    let same : Big m partner symbols ≡ ev = cc in
    subst (IsLastNow s past w m) same (big partner symbols (newest_first lines []) begun ends unended legal (still_all s start past w m lines done h all)))
last_now s start past w m lines done (finishes.Split parts) last ev big activate begun legal unended h all ends is at =
    (let e : Some is.event ≡ Some ev = ap (λ xs. slice_get xs 0) (sym is.is) ∙ at in
    let same : is.event ≡ ev = cc in
    let still = still_all s start past w m lines done h all in
    let chosen = still.chosen ∙ is.chosen in
    let both : Some ends.number ≡ Some is.clause = sym ends.is ∙ is.chosen in
    let number : ends.number ≡ is.clause = cc in
    subst (IsLastNow s past w m) (sym is.splits.is ∙ same) (record {
      clause = is.clause;
      chosen = chosen;
      kept = (chosen_listed s past legal m is.clause chosen).1;
      line = ends.line;
      found = ap (λ ls. numbered ls is.clause) still.ledger ∙ numbered_more (ledger s start) still.lines is.clause ends.line (ap (numbered (ledger s start)) (sym number) ∙ ends.found);
      parts = parts;
      parted = ends.parted;
      are = is.splits.are;
      typed = is.splits.typed;
    }))
last_now s start past w m lines done finishes.Activate last ev big activate begun legal unended h all ends is at =
    (let e : Some (Activate m) ≡ Some ev = ap (λ xs. slice_get xs 0) (sym is) ∙ at in
    let same : Activate m ≡ ev = cc in
    let there = claimed_within s start begun w m h.way.batch.holds.claims in
    subst (IsLastNow s past w m) same (activate begun there ends unended legal (still_all s start past w m lines done h all)))

-- an event that publishes nothing is the last one
pub last_stands : (start : List Entry) (m : ℕ) (lines : List Line) (events last done rest : List Event) (ev : Event) → events ≡ map (publication_at start m) lines ++ last → events ≡ done ++ ev ∷ rest → length done ≤ length lines
    → ((node : ℕ) (chain : List Line) (put_off : Bool) → ev ≡ Publish node chain put_off → ⊥) → (length done ≡ length lines) × (slice_get last 0 ≡ Some ev)
last_stands start m lines events last done rest ev are joined few other =
    elim (stands start m lines events last done rest ev are joined few) [
      | inl p ↦ absurd (other (owner start p.line.stated.deps m) (p.line ∷ []) false (sym p.is))
      | inr e ↦ e
    ]

-- ---- a batch has a last event

-- the last line is none that states the empty clause
not_closed : (lines : List Line) → ((k : ℕ) (l : Line) → slice_get lines k ≡ Some l → is_empty l.stated.clause ≡ false) → IsSomeAnd (last_line lines) (λ l. is_empty l.stated.clause ≡ true) → ⊥
not_closed lines full last = go (last_line lines) refl last
  where
    go : (o : Option Line) → last_line lines ≡ o → IsSomeAnd o (λ l. is_empty l.stated.clause ≡ true) → ⊥
    go None e h = h
    go (Some l) e h = (let x : true ≡ false = sym h ∙ full _ l e in absurd (cc))

one_last : (s : Setting) (start : List Entry) (w m : ℕ) (lines : List Line) (finish : Finish) (last : List Event) → ((k : ℕ) (l : Line) → slice_get lines k ≡ Some l → is_empty l.stated.clause ≡ false) → IsFinishAt s start w m lines finish → AreLastAt start m finish last → length last ≡ 1
one_last s start w m lines finishes.Closed last full ends is = absurd (not_closed lines full ends)
one_last s start w m lines (finishes.Big partner symbols) last full ends is = ap length is
one_last s start w m lines (finishes.Split parts) last full ends is = ap length is.is
one_last s start w m lines finishes.Activate last full ends is = ap length is

-- so not all its events are publications of clauses with atoms
pub not_done : (s : Setting) (start past : List Entry) (w m : ℕ) (lines : List Line) (done : List Event) (finish : Finish) (last : List Event) → IsSoFar s start past w m lines done → IsFinishAt s start w m lines finish → AreLastAt start m finish last → done ≡ map (publication_at start m) lines ++ last → ⊥
not_done s start past w m lines done finish last h ends is are =
    let count : length done ≡ length lines + length last = ap length are ∙ (length-append (map (publication_at start m) lines) last ∙ ap (λ n. n + length last) (length-map lines (publication_at start m))) in
    let full = λ (k : ℕ) (l : Line) (at : slice_get lines k ≡ Some l). h.full k l (omega (arith, count, slice_get_within lines k l at)) at in
    omega (arith, h.few, count, one_last s start w m lines finish last full ends is)

-- ---- the next event of a batch that is ready

module _ (s : Setting) (past0 now : List Entry) (w m : ℕ) (events done rest : List Event) (ev : Event) (b : Batch) (r : IsBatchReady s past0 w m b) (are : events ≡ b.events) (far : IsSoFar s r.can.start now w m r.lines done) (joined : events ≡ done ++ ev ∷ rest) where
  listed_as : events ≡ map (publication_at r.can.start m) r.lines ++ r.last
  listed_as = are ∙ r.events

  pub publishes : (node : ℕ) (chain : List Line) (put_off : Bool) → ev ≡ Publish node chain put_off → IsPublicationOf r.can.start m r.lines (length done) (Publish node chain put_off)
  publishes node chain put_off is = published_line r.can.start m r.lines r.finish events r.last done rest ev node chain put_off r.finishes listed_as joined far.few is

  pub finishes_now : BigLaw s r.can.start now w m → ActivateLaw s r.can.start now w m r.lines → IsLegalJournal s now → first_end now ≡ None → ((node : ℕ) (chain : List Line) (put_off : Bool) → ev ≡ Publish node chain put_off → ⊥) → IsLastNow s now w m ev
  finishes_now big activate legal unended other =
      let e = last_stands r.can.start m r.lines events r.last done rest ev listed_as joined far.few other in
      last_now s r.can.start now w m r.lines done r.finish r.last ev big activate r.can.legal legal unended far e.0 r.can.ends r.finishes e.1
