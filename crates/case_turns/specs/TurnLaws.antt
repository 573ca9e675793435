-- Laws with their proofs, not definitions that a reader must believe: journals that go on by events of one worker.
use Rattle.std.proofs.Common.{◌≡◌, ℕ, suc, ◌<◌, List, [], ◌∷◌, ◌++◌, Some, refl, sym, ◌∙◌, ap, subst, arith, append_assoc}
use Rattle.std.specs.List.{slice_get}
use Rattle.case_journal.specs.declared.event.Entry.{Entry}
use Rattle.case_journal.specs.Journal.{Setting, nodes}
use Rattle.case_journal.specs.Facts.{Holds}
use Rattle.case_journal.specs.Legal.{IsLegalJournal}
use Rattle.case_journal.specs.PlaceLaws.{claimed_within}
use Rattle.split_tree.specs.State.{State}
use Rattle.backjump.specs.Cases.{OnlyCloses, IsCaseEntry}
use Rattle.journal_laws.specs.Frame.{NoneBy}
use Rattle.case_view.specs.declared.kept.Case.{Case}
use Rattle.case_rounds.specs.declared.round.Batch.{Batch}
use Rattle.case_rounds.specs.Appending.{IsBatchReady}
use Rattle.case_turns.specs.Turns.{AreBy, Continues, IsWaiting}

-- ---- more events

are_by_both : (w : ℕ) (xs ys : List Entry) → AreBy w xs → AreBy w ys → AreBy w (xs ++ ys)
are_by_both w [] ys g h = h
are_by_both w (x ∷ xs) ys g h = (g.0, are_by_both w xs ys g.1 h)

cases_are_by : (w : ℕ) (es : List Entry) → ((k : ℕ) (e : Entry) → slice_get es k ≡ Some e → IsCaseEntry w e) → AreBy w es
cases_are_by w [] h = tt
cases_are_by w (e ∷ es) h = (ap (λ (x : Entry). x.by) (h 0 e refl).is, cases_are_by w es (λ k x at. h (suc k) x at))

pub continues_one : (old new : List Entry) (e : Entry) → new ≡ e ∷ old → Continues e.by old new
continues_one old new e is = record { added = e ∷ []; each = (refl, tt); is = is }

pub continues_more : {w : ℕ} (a b c : List Entry) → Continues w a b → Continues w b c → Continues w a c
continues_more {w = w} a b c f g = record { added = g.added ++ f.added; each = are_by_both w g.added f.added g.each f.each; is = g.is ∙ (ap (λ p. g.added ++ p) f.is ∙ sym (append_assoc g.added f.added a)) }

pub continues_closing : (w : ℕ) (old new : List Entry) → OnlyCloses w old new → Continues w old new
continues_closing w old new c = record { added = c.added; each = cases_are_by w c.added c.each; is = c.is }

pub closes_more : (old new : List Entry) (e : Entry) → OnlyCloses e.by (e ∷ old) new → Continues e.by old new
closes_more old new e c = continues_more old (e ∷ old) new (continues_one old (e ∷ old) e refl) (continues_closing e.by (e ∷ old) new c)

-- ---- a batch waits

-- one that was computed from the journal as it is waits for its turn
pub waits_now : (t : State) (w m : ℕ) (v : Case) (b : Batch) → IsLegalJournal t.setting t.past → v.node ≡ m → v.worker ≡ w → Holds t.setting t.past w m → IsBatchReady t.setting t.past v.worker v.node b → IsWaiting t.setting t.past w m b
waits_now t w m v b legal node worker holds ready = record {
  start = t.past;
  later = [];
  more = refl;
  none = tt;
  there = claimed_within t.setting t.past legal w m holds.claims;
  ready = subst (λ n. IsBatchReady t.setting t.past w n b) node (subst (λ x. IsBatchReady t.setting t.past x v.node b) worker ready);
}

-- ---- while another worker goes on

none_by_other : (v w : ℕ) (es : List Entry) → (v ≡ w → ⊥) → AreBy v es → NoneBy w es
none_by_other v w [] other h = tt
none_by_other v w (e ∷ es) other h = (λ same. other (sym h.0 ∙ same), none_by_other v w es other h.1)

none_by_both : (w : ℕ) (xs ys : List Entry) → NoneBy w xs → NoneBy w ys → NoneBy w (xs ++ ys)
none_by_both w [] ys g h = h
none_by_both w (x ∷ xs) ys g h = (g.0, none_by_both w xs ys g.1 h)

still_there : (m : ℕ) (added past : List Entry) → m < nodes past → m < nodes (added ++ past)
still_there m [] past h = h
still_there m (e ∷ added) past h = omega (arith, still_there m added past h)

-- a batch of one worker waits on while another one goes on
pub waits_on : (s : Setting) (old new : List Entry) (v w m : ℕ) (b : Batch) → (v ≡ w → ⊥) → Continues v old new → IsWaiting s old w m b → IsWaiting s new w m b
waits_on s old new v w m b other c h = record {
  start = h.start;
  later = c.added ++ h.later;
  more = c.is ∙ (ap (λ p. c.added ++ p) h.more ∙ sym (append_assoc c.added h.later h.start));
  none = none_by_both w c.added h.later (none_by_other v w c.added other c.each) h.none;
  there = subst (λ p. m < nodes p) (sym c.is) (still_there m c.added old h.there);
  ready = h.ready;
}
