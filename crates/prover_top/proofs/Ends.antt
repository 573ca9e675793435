-- The first event that ends a legal journal, and what it says of the table.
use Rattle.std.proofs.Common.{◌≡◌, inl, inr, ℕ, zero, suc, ◌+◌, ◌<◌, ◌≤◌, Bool, true, false, List, [], ◌∷◌, ◌++◌, length, Option, Some, None, refl, sym, ap, ◌∙◌, subst, arith, append-nil}
use Rattle.std.specs.Prelude.{IsSome, ⊤, if◌then◌else◌}
use Rattle.std.specs.List.{AllByRecursion}
use Rattle.std.proofs.lemmas.Bool.{false≢true}
use Rattle.proof_steps.specs.declared.step.Line.{Line}
use Rattle.case_journal.specs.declared.event.Entry.{Entry}
use Rattle.case_journal.specs.declared.event.Event.{Event}
use Rattle.case_journal.specs.declared.event.Event.TheVariants.{Claim, Choose, Publish, Split, Activate, Saturated, Spent, Big, Full, Stop}
use Rattle.case_journal.specs.declared.event.End.{End}
use Rattle.case_journal.specs.declared.event.End.TheVariants as ends
use Rattle.case_journal.specs.Journal.{Setting, ledger, nodes, steps}
use Rattle.split_tree.specs.State.{State}
use Rattle.case_journal.specs.Facts.{is_stop, kept}
use Rattle.case_journal.specs.Ending.{end_by, or_else, first_end, has_empty, ends_contradictory, reason}
use Rattle.case_journal.specs.Legal.{IsLegal, IsLegalJournal}
use Rattle.case_journal.specs.PlaceLaws.{claimed_within}
use Rattle.prover_top.specs.declared.answers.Answer.{Answer}
use Rattle.prover_top.specs.declared.answers.Answer.TheVariants as answers
use Rattle.prover_top.specs.Endings.{EndsBy, IsContradicted, kept_among, kept_count, IsComplete, IsSpent, IsFull, IsOversized}
use Rattle.prover_top.specs.Outcomes.{answer_for, answer_of}
use Rattle.prover_top.proofs.Closed.{closed}

-- ---- which events end the journal

abbrev pub IsEnding : Event → End → Type 0
IsEnding ev ends.Proved = (node : ℕ) × (chain : List Line) × (put_off : Bool) × (ev ≡ Publish node chain put_off) × (ends_contradictory chain ≡ true)
IsEnding ev (ends.Completed node) = ev ≡ Saturated node
IsEnding ev ends.Rounds = (node : ℕ) × (ev ≡ Spent node)
IsEnding ev ends.Steps = (node : ℕ) × (chain : List Line) × (ev ≡ Full node chain)
IsEnding ev (ends.Size symbols) = (node : ℕ) × (partner : ℕ) × (ev ≡ Big node partner symbols)
IsEnding ev ends.Memory = ev ≡ Stop

moved_to : (a b : End) (P : End → Type 0) → Some a ≡ Some b → P a → P b
moved_to a b P e p = let h : a ≡ b = cc in subst P h p

not_none : (x : End) → None ≡ Some x → ⊥
not_none x e = absurd (cc)

ending_publish : (node : ℕ) (chain : List Line) (put_off b : Bool) (x : End) → ends_contradictory chain ≡ b → (if b then Some ends.Proved else None) ≡ Some x → IsEnding (Publish node chain put_off) x
ending_publish node chain put_off true x t e = moved_to ends.Proved x (IsEnding (Publish node chain put_off)) e (node, chain, put_off, refl, t)
ending_publish node chain put_off false x t e = absurd (not_none x e)

ending_of : (ev : Event) (x : End) → end_by ev ≡ Some x → IsEnding ev x
ending_of (Claim node) x e = absurd (not_none x e)
ending_of (Choose node clause selected) x e = absurd (not_none x e)
ending_of (Publish node chain put_off) x e = ending_publish node chain put_off (ends_contradictory chain) x refl e
ending_of (Split node lines put_off) x e = absurd (not_none x e)
ending_of (Activate node) x e = absurd (not_none x e)
ending_of (Saturated node) x e = moved_to (ends.Completed node) x (IsEnding (Saturated node)) e refl
ending_of (Spent node) x e = moved_to ends.Rounds x (IsEnding (Spent node)) e (node, refl)
ending_of (Big node partner symbols) x e = moved_to (ends.Size symbols) x (IsEnding (Big node partner symbols)) e (node, partner, refl)
ending_of (Full node chain) x e = moved_to ends.Steps x (IsEnding (Full node chain)) e (node, chain, refl)
ending_of Stop x e = moved_to ends.Memory x (IsEnding Stop) e refl

-- ---- the first event that ends a legal journal

-- the event, with what came before it; only Stop came later
pub record Ended (s : Setting) (past : List Entry) (x : End) : Type 0 where
  pub by : ℕ
  pub event : Event
  pub before : List Entry
  pub later : List Entry
  pub is : past ≡ later ++ record { by = by; event = event } ∷ before
  pub unended : first_end before ≡ None
  pub why : end_by event ≡ Some x
  pub legal : IsLegal s before by event
  pub before_legal : IsLegalJournal s before
  pub stops : AllByRecursion (λ e. is_stop e.event ≡ true) later

-- an event that is legal after the end is a Stop
stop_after : (ev : Event) (past : List Entry) (b : Bool) (x : End) → is_stop ev ≡ b → first_end past ≡ Some x → (is_stop ev ≡ false → first_end past ≡ None) → is_stop ev ≡ true
stop_after ev past true x t e h = t
stop_after ev past false x t e h = let n : first_end past ≡ None = h t in absurd (cc)

pub ended : (s : Setting) (past : List Entry) (x : End) → IsLegalJournal s past → first_end past ≡ Some x → Ended s past x
ended s [] x legal e = absurd (not_none x e)
ended s (entry ∷ past) x legal e = by_first (λ q. ended s past x legal.1 q) (first_end past) refl e
  where
    by_first : (first_end past ≡ Some x → Ended s past x) → (r : Option End) → first_end past ≡ r → or_else r (end_by entry.event) ≡ Some x → Ended s (entry ∷ past) x
    by_first earlier None q h = record {
      by = entry.by;
      event = entry.event;
      before = past;
      later = [];
      is = refl;
      unended = q;
      why = h;
      legal = legal.0;
      before_legal = legal.1;
      stops = tt;
    }
    by_first earlier (Some y) q h =
        let f = earlier (q ∙ h) in
        record {
          by = f.by;
          event = f.event;
          before = f.before;
          later = entry ∷ f.later;
          is = ap (λ p. entry ∷ p) f.is;
          unended = f.unended;
          why = f.why;
          legal = f.legal;
          before_legal = f.before_legal;
          stops = (stop_after entry.event past (is_stop entry.event) y refl q legal.0.unended, f.stops);
        }

some_end : (o : Option End) (x : End) → o ≡ Some x → IsSome o
some_end None x e = absurd (not_none x e)
some_end (Some y) x e = refl

-- the end of a table is by this event
abbrev ends_by : (t : State) (x : End) (f : Ended t.setting t.past x) (ev : Event) → f.event ≡ ev → EndsBy t ev
ends_by t x f ev e = record {
  by = f.by;
  before = f.before;
  first = record {
    later = f.later;
    is = subst (λ v. t.past ≡ f.later ++ record { by = f.by; event = v } ∷ f.before) e f.is;
    unended = f.unended;
    ends = some_end (end_by ev) x (ap end_by (sym e) ∙ f.why);
  };
  legal = subst (IsLegal t.setting f.before f.by) e f.legal;
}

-- ---- the reason, from the event

first_end_later : (past later : List Entry) (x : End) → first_end past ≡ Some x → first_end (later ++ past) ≡ Some x
first_end_later past [] x h = h
first_end_later past (e ∷ later) x h = ap (λ o. or_else o (end_by e.event)) (first_end_later past later x h)

-- a table with a contradiction is proved
pub proved_of : (t : State) → IsContradicted t → reason t.setting t.past ≡ Some ends.Proved
proved_of t (inl h) = ap (λ b. if b then Some ends.Proved else first_end t.past) h
proved_of t (inr p) = by_test (has_empty t.setting.input)
  where
    end_is : first_end t.past ≡ Some ends.Proved
    end_is =
        let event = Publish p.node p.chain p.put_off in
        let entry : Entry = record { by = p.ends.by; event = event } in
        let here : first_end (entry ∷ p.ends.before) ≡ Some ends.Proved =
        ap (λ o. or_else o (end_by event)) p.ends.first.unended
        ∙ ap (λ b. if b then Some ends.Proved else None) p.empty in
        ap first_end p.ends.first.is ∙ first_end_later (entry ∷ p.ends.before) p.ends.first.later ends.Proved here

    by_test : (b : Bool) → (if b then Some ends.Proved else first_end t.past) ≡ Some ends.Proved
    by_test true = refl
    by_test false = end_is

-- ---- what a Stop leaves

stop_is : (ev : Event) → is_stop ev ≡ true → ev ≡ Stop
stop_is Stop e = refl
stop_is (Claim node) e = absurd (false≢true e)
stop_is (Choose node clause selected) e = absurd (false≢true e)
stop_is (Publish node chain put_off) e = absurd (false≢true e)
stop_is (Split node lines put_off) e = absurd (false≢true e)
stop_is (Activate node) e = absurd (false≢true e)
stop_is (Saturated node) e = absurd (false≢true e)
stop_is (Spent node) e = absurd (false≢true e)
stop_is (Big node partner symbols) e = absurd (false≢true e)
stop_is (Full node chain) e = absurd (false≢true e)

abbrev stopped : ℕ → Entry
stopped by = record { by = by; event = Stop }

kept_among_stop : (s : Setting) (past : List Entry) (by m n : ℕ) → kept_among s (stopped by ∷ past) m n ≡ kept_among s past m n
kept_among_stop s past by m zero = refl
kept_among_stop s past by m (suc n) = ap (λ c. c + (if kept s past m (suc n) then 1 else 0)) (kept_among_stop s past by m n)

kept_count_stop : (s : Setting) (past : List Entry) (by m : ℕ) → kept_count s (stopped by ∷ past) m ≡ kept_count s past m
kept_count_stop s past by m = kept_among_stop s past by m (steps s (stopped by ∷ past)) ∙ ap (λ ls. kept_among s past m (length ls)) (append-nil (ledger s past))

kept_count_entry : (s : Setting) (past : List Entry) (m by : ℕ) (ev : Event) → is_stop ev ≡ true → kept_count s (record { by = by; event = ev } ∷ past) m ≡ kept_count s past m
kept_count_entry s past m by ev h = subst (λ v. kept_count s (record { by = by; event = v } ∷ past) m ≡ kept_count s past m) (sym (stop_is ev h)) (kept_count_stop s past by m)

kept_count_later : (s : Setting) (past : List Entry) (m : ℕ) (later : List Entry) → AllByRecursion (λ e. is_stop e.event ≡ true) later → kept_count s (later ++ past) m ≡ kept_count s past m
kept_count_later s past m [] h = refl
kept_count_later s past m (e ∷ later) h = kept_count_entry s (later ++ past) m e.by e.event h.0 ∙ kept_count_later s past m later h.1

-- ---- a complete case

-- the event that ends it leaves everything that is kept at a node
kept_count_saturated : (s : Setting) (past : List Entry) (by node m : ℕ) → kept_count s (record { by = by; event = Saturated node } ∷ past) m ≡ kept_count s past m
kept_count_saturated s past by node m = kept_among_saturated (steps s (record { by = by; event = Saturated node } ∷ past)) ∙ ap (λ ls. kept_among s past m (length ls)) (append-nil (ledger s past))
  where
    kept_among_saturated : (n : ℕ) → kept_among s (record { by = by; event = Saturated node } ∷ past) m n ≡ kept_among s past m n
    kept_among_saturated zero = refl
    kept_among_saturated (suc n) = ap (λ c. c + (if kept s past m (suc n) then 1 else 0)) (kept_among_saturated n)

nodes_later : (past later : List Entry) → nodes past ≤ nodes (later ++ past)
nodes_later past [] = omega arith
nodes_later past (e ∷ later) = let h = nodes_later past later in omega (arith, h)

complete : (t : State) (node : ℕ) → Ended t.setting t.past (ends.Completed node) → IsComplete node (kept_count t.setting t.past node) 0 t
complete t node f =
    let is : f.event ≡ Saturated node = ending_of f.event (ends.Completed node) f.why in
    let e = ends_by t (ends.Completed node) f (Saturated node) is in
    let there = claimed_within t.setting f.before f.before_legal f.by node e.legal.asked.holds.claims in
    record {
      ends = e;
      closed = closed t.setting f.before f.before_legal node there e.legal.asked.none;
      kept_there =
          ap (λ p. kept_count t.setting p node) e.first.is
          ∙ kept_count_later t.setting (record { by = f.by; event = Saturated node } ∷ f.before) node f.later f.stops
          ∙ kept_count_saturated t.setting f.before f.by node node;
      none_put_off = refl;
    }

-- ---- the reason

by_first_end : (b : Bool) (o : Option End) (x : End) → (if b then Some ends.Proved else o) ≡ Some x → (x ≡ ends.Proved → ⊥) → o ≡ Some x
by_first_end true o x e differs = absurd (differs (moved_to ends.Proved x (λ y. y ≡ ends.Proved) e refl))
by_first_end false o x e differs = e

abbrev pub IsCaused : State → Answer → Type 0
IsCaused t answers.ProofFound = IsContradicted t
IsCaused t (answers.Completion node kept put_off) = IsComplete node kept put_off t
IsCaused t (answers.Rounds count) = IsSpent count t
IsCaused t (answers.Steps limit) = IsFull limit t
IsCaused t (answers.Size symbols) = IsOversized symbols t
IsCaused t _ = ⊤

module _ (t : State) (legal : IsLegalJournal t.setting t.past) where
  ended_by : (x : End) → reason t.setting t.past ≡ Some x → (x ≡ ends.Proved → ⊥) → Ended t.setting t.past x
  ended_by x e differs = ended t.setting t.past x legal (by_first_end (has_empty t.setting.input) (first_end t.past) x e differs)

  -- a table is complete at one of its nodes
  pub completed_there : (node : ℕ) → reason t.setting t.past ≡ Some (ends.Completed node) → node < nodes t.past
  completed_there node e =
      let f = ended_by (ends.Completed node) e (λ d. absurd (cc)) in
      let is : f.event ≡ Saturated node = ending_of f.event (ends.Completed node) f.why in
      let legal_there : IsLegal t.setting f.before f.by (Saturated node) = subst (IsLegal t.setting f.before f.by) is f.legal in
      let there = claimed_within t.setting f.before f.before_legal f.by node legal_there.asked.holds.claims in
      let entry : Entry = record { by = f.by; event = f.event } in
      let more : nodes (entry ∷ f.before) ≤ nodes (f.later ++ entry ∷ f.before) = nodes_later (entry ∷ f.before) f.later in
      let all : nodes t.past ≡ nodes (f.later ++ entry ∷ f.before) = ap nodes f.is in
      omega (arith, there, more, all)

  contradicted : (b : Bool) → has_empty t.setting.input ≡ b → (if b then Some ends.Proved else first_end t.past) ≡ Some ends.Proved → IsContradicted t
  contradicted true h e = inl h
  contradicted false h e =
      let f = ended t.setting t.past ends.Proved legal e in
      let w = ending_of f.event ends.Proved f.why in
      inr (record { node = w.0; chain = w.1; put_off = w.2; ends = ends_by t ends.Proved f (Publish w.0 w.1 w.2) w.3; empty = w.4 })

  spent : Ended t.setting t.past ends.Rounds → IsSpent t.setting.limits.rounds t
  spent f =
      let w = ending_of f.event ends.Rounds f.why in
      let e = ends_by t ends.Rounds f (Spent w.0) w.1 in
      record { node = w.0; ends = e; chosen = sym e.legal.asked.spent; limit = refl }

  full : Ended t.setting t.past ends.Steps → IsFull t.setting.limits.steps t
  full f =
      let w = ending_of f.event ends.Steps f.why in
      record { node = w.0; chain = w.1; ends = ends_by t ends.Steps f (Full w.0 w.1) w.2; limit_is = refl }

  large : (symbols : ℕ) → Ended t.setting t.past (ends.Size symbols) → IsOversized symbols t
  large symbols f =
      let w = ending_of f.event (ends.Size symbols) f.why in
      record { node = w.0; partner = w.1; ends = ends_by t (ends.Size symbols) f (Big w.0 w.1 symbols) w.2 }

  pub proved_by : reason t.setting t.past ≡ Some ends.Proved → IsContradicted t
  proved_by e = contradicted (has_empty t.setting.input) refl e

  caused_for : (r : Option End) → reason t.setting t.past ≡ r → IsCaused t (answer_for t r)
  caused_for None e = tt
  caused_for (Some ends.Proved) e = proved_by e
  caused_for (Some (ends.Completed node)) e = complete t node (ended_by (ends.Completed node) e (λ d. absurd (cc)))
  caused_for (Some ends.Rounds) e = spent (ended_by ends.Rounds e (λ d. absurd (cc)))
  caused_for (Some ends.Steps) e = full (ended_by ends.Steps e (λ d. absurd (cc)))
  caused_for (Some (ends.Size symbols)) e = large symbols (ended_by (ends.Size symbols) e (λ d. absurd (cc)))
  caused_for (Some ends.Memory) e = tt

  -- what the table's answer says of it
  pub caused : IsCaused t (answer_of t)
  caused = caused_for (reason t.setting t.past) refl
