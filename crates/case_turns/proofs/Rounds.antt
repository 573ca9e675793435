-- The events of a worker that is alone, and what holds after each.
use Rattle.std.proofs.Common.{◌≡◌, ℕ, ◌<◌, ◌≤◌, Bool, true, false, not, ◌&&◌, ◌==◌, if◌then◌else◌, eqb, eq-eqb, List, [], ◌∷◌, ◌++◌, Option, Some, None, refl, sym, ◌∙◌, ap, subst, arith}
use Rattle.std.specs.Prelude.{IsSome, is_some}
use Rattle.std.proofs.lemmas.Bool.{cond-true, or_from}
use Rattle.std.proofs.lemmas.List.{append-nil}
use Rattle.spl_terms.specs.Lists.{numbered}
use Rattle.case_journal.specs.declared.event.Entry.{Entry}
use Rattle.case_journal.specs.declared.event.Event.{Event}
use Rattle.case_journal.specs.declared.event.Event.TheVariants.{Claim, Choose, Spent, Stop}
use Rattle.case_journal.specs.declared.event.End.{End}
use Rattle.split_tree.specs.State.{State}
use Rattle.case_journal.specs.Journal.{Setting, ledger, nodes, rounds}
use Rattle.case_journal.specs.Paths.{is_leaf}
use Rattle.case_journal.specs.Facts.{chosen, Holds, IsLive, cost_of, has_stopped, is_stop}
use Rattle.case_journal.specs.Picking.{pick_at}
use Rattle.case_journal.specs.Ending.{first_end, has_empty, or_else, end_by, reason}
use Rattle.case_journal.specs.declared.event.End.TheVariants as ends
use Rattle.case_journal.specs.Legal.{IsLegal, IsLegalJournal, IsClaimable, IsSettled}
use Rattle.case_journal.specs.LeafLaws.{claimer_within}
use Rattle.case_journal.specs.BoundLaws.{rounds_bound}
use Rattle.case_turns.specs.Turns.{Continues, HoldsUnchosen}
use Rattle.case_turns.specs.Working.{IsBetween, IsBusy}
use Rattle.case_turns.proofs.Turns.{StaysDead}

-- ---- more rounds

grown : (added past : List Entry) → rounds past ≤ rounds (added ++ past)
grown [] past = omega arith
grown (e ∷ added) past = omega (arith, grown added past)

pub rounds_grow : {w : ℕ} (old new : List Entry) → Continues w old new → rounds old ≤ rounds new
rounds_grow {w = w} old new c = omega (arith, grown c.added old, ap rounds c.is)

-- ---- between two cases

some_none : {A : Type 0} (o : Option A) (x : A) → o ≡ Some x → o ≡ None → ⊥
some_none o x a b = let e : Some x ≡ None = sym a ∙ b in absurd (cc)

pub not_some : {A : Type 0} (o : Option A) → is_some o ≡ false → o ≡ None
not_some None h = refl
not_some (Some x) h = absurd (cc)

-- ---- room changes nothing

pub free_moved : (old new : State) (w m : ℕ) → new.setting ≡ old.setting → new.past ≡ old.past → HoldsUnchosen old w m → HoldsUnchosen new w m
free_moved old new w m e f h = record {
  holds = subst (λ s. Holds s new.past w m) (sym e) (subst (λ p. Holds old.setting p w m) (sym f) h.holds);
  free = ap (λ p. chosen p m) f ∙ h.free;
  settled = subst (λ s. IsSettled s new.past) (sym e) (subst (IsSettled old.setting) (sym f) h.settled);
  unended = ap first_end f ∙ h.unended;
}

pub between_moved : (old new : State) (w : ℕ) → new.setting ≡ old.setting → new.past ≡ old.past → IsBetween old w → IsBetween new w
between_moved old new w e f h = record {
  idle = λ none. subst (λ s. (n : ℕ) → ¬ Holds s new.past w n) (sym e) (subst (λ p. (n : ℕ) → ¬ Holds old.setting p w n) (sym f) (h.idle (sym (ap first_end f) ∙ none)));
  settled = λ none. subst (λ s. IsSettled s new.past) (sym e) (subst (IsSettled old.setting) (sym f) (h.settled (sym (ap first_end f) ∙ none)));
}

pub moved_open : (old new : State) → new.setting ≡ old.setting → new.past ≡ old.past → reason old.setting old.past ≡ None → reason new.setting new.past ≡ None
moved_open old new e f h = ap (λ s. reason s new.past) e ∙ (ap (reason old.setting) f ∙ h)

-- ---- events that leave the tree as it is

abbrev pub LeavesTree : Event → Type 0
LeavesTree (Claim node) = Unit {0}
LeavesTree (Choose node clause selected) = Unit {0}
LeavesTree _ = ⊥

live_still : (s : Setting) (past : List Entry) (by n : ℕ) (ev : Event) → LeavesTree ev → IsLive s past n → IsLive s (record { by = by; event = ev } ∷ past) n
live_still s past by n (Claim node) k live = λ d. live (d.0, record { lists = d.1.lists; line = d.1.line; found = ap (λ ls. numbered ls d.0) (sym (append-nil (ledger s past))) ∙ d.1.found; empty = d.1.empty })
live_still s past by n (Choose node clause selected) k live = λ d. live (d.0, record { lists = d.1.lists; line = d.1.line; found = ap (λ ls. numbered ls d.0) (sym (append-nil (ledger s past))) ∙ d.1.found; empty = d.1.empty })
live_still s past by n _ k live = absurd k

settled_still : StaysDead → (s : Setting) (past : List Entry) (by : ℕ) (ev : Event) → LeavesTree ev → IsSettled s past → IsSettled s (record { by = by; event = ev } ∷ past)
settled_still stays s past by (Claim node) k settled = λ n there inner live.
    let low : n < nodes past = omega (arith, there) in
    let c = settled n low inner (λ d. live (stays s past (record { by = by; event = Claim node }) n low d)) in
    record { clause = c.clause; side = c.side; child = c.child; is = record { there = (let t = c.is.there in omega arith); hangs = c.is.hangs }; live = live_still s past by c.child (Claim node) k c.live }
settled_still stays s past by (Choose node clause selected) k settled = λ n there inner live.
    let low : n < nodes past = omega (arith, there) in
    let c = settled n low inner (λ d. live (stays s past (record { by = by; event = Choose node clause selected }) n low d)) in
    record { clause = c.clause; side = c.side; child = c.child; is = record { there = (let t = c.is.there in omega arith); hangs = c.is.hangs }; live = live_still s past by c.child (Choose node clause selected) k c.live }
settled_still stays s past by _ k settled = absurd k

-- ---- choosing

abbrev pub choice : ℕ → ℕ → ℕ → Entry
choice w m clause = record { by = w; event = Choose m clause None }

some_is : {A : Type 0} (o : Option A) (x : A) → o ≡ Some x → IsSome o
some_is o x e = subst IsSome (sym e) refl

pub choice_busy : StaysDead → (old new : State) (m clause : ℕ) → new.setting ≡ old.setting → new.past ≡ choice 1 m clause ∷ old.past → HoldsUnchosen old 1 m → IsBusy new 1 m
choice_busy stays old new m clause e f h =
    let s = old.setting in
    let past = old.past in
    let ev = Choose m clause None in
    let holds : Holds s (choice 1 m clause ∷ past) 1 m = record { claims = h.holds.claims; leaf = h.holds.leaf; live = live_still s past 1 m ev tt h.holds.live } in
    let unended : first_end (choice 1 m clause ∷ past) ≡ None = ap (λ o. or_else o None) h.unended in
    let is : chosen (choice 1 m clause ∷ past) m ≡ Some clause = cond-true (eqb m m) (Some clause) (chosen past m) (eq-eqb m m refl) in
    record {
      holds = subst (λ x. Holds x new.past 1 m) (sym e) (subst (λ p. Holds s p 1 m) (sym f) holds);
      busy = some_is (chosen new.past m) clause (ap (λ p. chosen p m) f ∙ is);
      settled = subst (λ x. IsSettled x new.past) (sym e) (subst (IsSettled s) (sym f) (settled_still stays s past 1 ev tt h.settled));
      unended = ap first_end f ∙ unended;
    }

-- ---- claiming

-- a leaf where a clause is chosen is held
abbrev pub AreHeld : Type 0
AreHeld = (s : Setting) (past : List Entry) → IsLegalJournal s past → (m c : ℕ) → chosen past m ≡ Some c → is_leaf past m ≡ true → IsLive s past m → (w : ℕ) × Holds s past w m

none_unless : {A : Type 0} (o : Option A) → ((x : A) → o ≡ Some x → ⊥) → o ≡ None
none_unless None h = refl
none_unless (Some x) h = absurd (h x refl)

pub claim_free : StaysDead → AreHeld → (old new : State) (m : ℕ) → IsLegalJournal old.setting old.past → new.setting ≡ old.setting → new.past ≡ record { by = 1; event = Claim m } ∷ old.past → first_end old.past ≡ None → IsBetween old 1 → IsClaimable old.setting old.past m → HoldsUnchosen new 1 m
claim_free stays held old new m legal e f none h c =
    let s = old.setting in
    let past = old.past in
    let ev = Claim m in
    let entry : Entry = record { by = 1; event = ev } in
    let holds : Holds s (entry ∷ past) 1 m = record { claims = refl; leaf = c.leaf; live = live_still s past 1 m ev tt c.live } in
    let free : chosen past m ≡ None = none_unless (chosen past m) (λ x is. let r = held s past legal m x is c.leaf c.live in c.free r.0 r.1) in
    let unended : first_end (entry ∷ past) ≡ None = ap (λ o. or_else o None) none in
    record {
      holds = subst (λ x. Holds x new.past 1 m) (sym e) (subst (λ p. Holds s p 1 m) (sym f) holds);
      free = ap (λ p. chosen p m) f ∙ free;
      settled = subst (λ x. IsSettled x new.past) (sym e) (subst (IsSettled s) (sym f) (settled_still stays s past 1 ev tt (h.settled none)));
      unended = ap first_end f ∙ unended;
    }

-- ---- ending

same_held : (s : Setting) (past : List Entry) (v w m n : ℕ) → v ≡ w → Holds s past v n → Holds s past w m → n ≡ m
same_held s past v w m n e a b = let q : Some n ≡ Some m = sym (subst (λ x. Holds s past x n) e a).claims ∙ b.claims in cc

none_chosen : AreHeld → (t : State) (m : ℕ) → IsLegalJournal t.setting t.past → t.setting.workers ≡ 1 → HoldsUnchosen t 1 m → (n c : ℕ) → is_leaf t.past n ≡ true → IsLive t.setting t.past n → chosen t.past n ≡ Some c → ⊥
none_chosen held t m legal one h n c leaf live is =
    let r = held t.setting t.past legal n c is leaf live in
    let within = claimer_within t.setting t.past legal r.0 n r.1.claims in
    let q = same_held t.setting t.past r.0 1 m n (omega (arith, within.0, within.1, one)) r.1 h.holds in
    some_none (chosen t.past m) c (ap (chosen t.past) (sym q) ∙ is) h.free

pub legal_spent : AreHeld → (t : State) (m clause : ℕ) → IsLegalJournal t.setting t.past → t.setting.workers ≡ 1 → HoldsUnchosen t 1 m → pick_at t.setting t.past m ≡ Some clause → t.setting.limits.rounds ≤ rounds t.past → IsLegal t.setting t.past 1 (Spent m)
legal_spent held t m clause legal one h picked spent = record {
  some = omega arith;
  worker = omega (arith, one);
  unended = λ e. h.unended;
  asked = record {
    holds = h.holds;
    free = λ n there leaf live. none_unless (chosen t.past n) (λ c is. none_chosen held t m legal one h n c leaf live is);
    settled = h.settled;
    more = some_is (pick_at t.setting t.past m) clause picked;
    spent = omega (arith, spent, rounds_bound t.setting t.past legal);
  };
}

-- ---- stopping

none_first : (o r : Option End) → or_else o r ≡ None → (o ≡ None) × (r ≡ None)
none_first None r e = (refl, e)
none_first (Some x) r e = absurd (cc)

no_stop : (ev : Event) → end_by ev ≡ None → is_stop ev ≡ false
no_stop Stop e = absurd (cc)
no_stop _ e = refl

not_stopped : (past : List Entry) (w : ℕ) → first_end past ≡ None → has_stopped past w ≡ false
not_stopped [] w e = refl
not_stopped (x ∷ past) w e =
    let p = none_first (first_end past) (end_by x.event) e in
    or_from ((x.by == w) && is_stop x.event) (has_stopped past w)
    (ap (λ b. (x.by == w) && b) (no_stop x.event p.1) ∙ and_off (x.by == w))
    (not_stopped past w p.0)
  where
    and_off : (b : Bool) → (b && false) ≡ false
    and_off true = refl
    and_off false = refl

pub stop_cost : (past : List Entry) (w spare : ℕ) → first_end past ≡ None → cost_of past w Stop ≤ spare
stop_cost past w spare e = let free : cost_of past w Stop ≡ 0 = ap (λ b. if not b then 0 else 1) (not_stopped past w e) in omega (arith, free)

-- ---- the input

-- while proving goes on, the input has no empty clause
pub open_input : (s : Setting) (past : List Entry) → reason s past ≡ None → has_empty s.input ≡ false
open_input s past e = by_test (has_empty s.input) e
  where
    by_test : (b : Bool) → (if b then Some ends.Proved else first_end past) ≡ None → b ≡ false
    by_test true h = absurd (cc)
    by_test false h = refl
