-- One line of a batch after another.
use Rattle.std.proofs.Common.{◌≡◌, inl, inr, ℕ, suc, ◌+◌, ◌<◌, true, false, not, ◌&&◌, eqb, eq-eqb, Bool, List, [], ◌∷◌, ◌++◌, length, Option, Some, None, refl, sym, ◌∙◌, ap, subst, arith}
use Rattle.std.specs.Prelude.{OnOk, IfOk, Result, Ok, Err}
use Rattle.std.specs.List.{slice_get}
use Rattle.std.proofs.lemmas.Bool.{cases_Bool, cond-true, cond-false}
use Rattle.std.proofs.lemmas.List.{append-nil}
use Rattle.spl_terms.specs.Clauses.{is_empty, no_atoms, IsEmpty}
use Rattle.spl_terms.specs.declared.clause.Clause.{Clause}
use Rattle.proof_steps.specs.declared.step.Line.{Line}
use Rattle.spl_terms.specs.Lists.{numbered}
use Rattle.case_journal.specs.declared.event.Entry.{Entry}
use Rattle.case_journal.specs.declared.event.Event.TheVariants.{Split, Activate}
use Rattle.split_tree.specs.State.{State}
use Rattle.case_journal.specs.Journal.{Setting, ledger, nodes}
use Rattle.case_journal.specs.Paths.{owner, is_leaf}
use Rattle.case_journal.specs.Facts.{chosen, claimed, claimed_by, Holds, IsDead, IsLive}
use Rattle.case_journal.specs.Ending.{first_end, or_else}
use Rattle.case_journal.specs.Legal.{IsLegalJournal, IsListed, IsSettled}
use Rattle.case_journal.specs.ListLaws.{get_right}
use Rattle.case_journal.specs.PlaceLaws.{claimed_within}
use Rattle.backjump.specs.Cases.{OnlyCloses, IsCaseEntry}
use Rattle.journal_laws.specs.Batches.{publication}
use Rattle.case_turns.specs.Turns.{HoldsUnchosen}

pub item_at : {A : Type 0} (items before rest : List A) (x : A) → items ≡ before ++ x ∷ rest → slice_get items (length before) ≡ Some x
item_at items before rest x e =
    let z : length before ≡ length before + 0 = omega arith in
    ap (λ xs. slice_get xs (length before)) e ∙ (ap (slice_get (before ++ x ∷ rest)) z ∙ get_right before (x ∷ rest) 0)

-- ---- where the worker has left its leaf

claims_kept : (past : List Entry) (w : ℕ) (e : Entry) → ((o : Option ℕ) → claimed_by e.event o ≡ o) → claimed (e ∷ past) w ≡ claimed past w
claims_kept past w e quiet = elim (cases_Bool (eqb e.by w)) [
  | inl own ↦ cond-true (eqb e.by w) (claimed_by e.event (claimed past w)) (claimed past w) own ∙ quiet (claimed past w)
  | inr other ↦ cond-false (eqb e.by w) (claimed_by e.event (claimed past w)) (claimed past w) other
]

-- a dead node stays dead
abbrev pub StaysDead : Type 0
StaysDead = (s : Setting) (past : List Entry) (e : Entry) (m : ℕ) → m < nodes past → IsDead s past m → IsDead s (e ∷ past) m

-- what w claimed last is a dead node
record IsStuck (s : Setting) (past : List Entry) (w m : ℕ) : Type 0 where
  pub claims : claimed past w ≡ Some m
  pub there : m < nodes past
  pub dead : IsDead s past m

stuck_more : StaysDead → (s : Setting) (past : List Entry) (w m by node : ℕ) (l : Line) → IsStuck s past w m → IsStuck s (publication by node l ∷ past) w m
stuck_more stays s past w m by node l h = record {
  claims = claims_kept past w (publication by node l) (λ o. refl) ∙ h.claims;
  there = omega (arith, h.there);
  dead = stays s past (publication by node l) m h.there h.dead;
}

stuck_all : StaysDead → (s : Setting) (past added : List Entry) (w m by : ℕ) → ((k : ℕ) (e : Entry) → slice_get added k ≡ Some e → IsCaseEntry by e) → IsStuck s past w m → IsStuck s (added ++ past) w m
stuck_all stays s past [] w m by each h = h
stuck_all stays s past (e ∷ added) w m by each h =
    let c = each 0 e refl in
    subst (λ x. IsStuck s (x ∷ added ++ past) w m) (sym c.is) (stuck_more stays s (added ++ past) w m by c.node c.line (stuck_all stays s past added w m by (λ k x at. each (suc k) x at) h))

stuck_idle : (s : Setting) (past : List Entry) (w m : ℕ) → IsStuck s past w m → (n : ℕ) → ¬ Holds s past w n
stuck_idle s past w m h n holds =
    let e : Some m ≡ Some n = sym h.claims ∙ holds.claims in
    let q : m ≡ n = cc in
    holds.live (subst (IsDead s past) q h.dead)

pub closed_idle : StaysDead → (s : Setting) (old new : List Entry) (w m : ℕ) (l : Line) → IsLegalJournal s old → Holds s old w m → is_empty l.stated.clause ≡ true → IsListed s (publication w (owner old l.stated.deps m) l ∷ old) m l.stated.clause → OnlyCloses w (publication w (owner old l.stated.deps m) l ∷ old) new → (n : ℕ) → ¬ Holds s new w n
closed_idle stays s old new w m l legal h empty at c =
    let node = owner old l.stated.deps m in
    let first = publication w node l ∷ old in
    let there = claimed_within s old legal w m h.claims in
    let stuck : IsStuck s first w m = record {
      claims = claims_kept old w (publication w node l) (λ o. refl) ∙ h.claims;
      there = omega (arith, there);
      dead = (at.0, record { lists = at.1.lists; line = at.1.line; found = at.1.found; empty = ap is_empty at.1.is ∙ empty });
    } in
    stuck_idle s new w m (subst (λ p. IsStuck s p w m) (sym c.is) (stuck_all stays s first c.added w m w c.each stuck))

no_leaf : (b x : Bool) → b ≡ true → (not b && x) ≡ true → ⊥
no_leaf true x e h = absurd (cc)
no_leaf false x e h = absurd (cc)

pub split_idle : (s : Setting) (old new : List Entry) (w m : ℕ) (lines : List Line) (put_off : List Bool) → Holds s old w m → new ≡ record { by = w; event = Split m lines put_off } ∷ old → (n : ℕ) → ¬ Holds s new w n
split_idle s old new w m lines put_off h is n g =
    let e : Entry = record { by = w; event = Split m lines put_off } in
    let k = subst (λ p. Holds s p w n) is g in
    let x : Some m ≡ Some n = sym (claims_kept old w e (λ o. refl) ∙ h.claims) ∙ k.claims in
    let q : m ≡ n = cc in
    no_leaf (eqb m n) (is_leaf old n) (eq-eqb m n q) k.leaf

-- ---- after the activation

live_quiet : (s : Setting) (past : List Entry) (w m n : ℕ) → IsLive s past n → IsLive s (record { by = w; event = Activate m } ∷ past) n
live_quiet s past w m n live = λ d. live (d.0, record { lists = d.1.lists; line = d.1.line; found = ap (λ ls. numbered ls d.0) (sym (append-nil (ledger s past))) ∙ d.1.found; empty = d.1.empty })

pub activated : StaysDead → (s : Setting) (past : List Entry) (w m spare more : ℕ) → IsLegalJournal s past → Holds s past w m → IsSettled s past → first_end past ≡ None
    → HoldsUnchosen (record { setting = s; past = record { by = w; event = Activate m } ∷ past; spare_events = spare; spare_steps = more }) w m
activated stays s past w m spare more legal h settled unended =
    let e : Entry = record { by = w; event = Activate m } in
    record {
      holds = record { claims = claims_kept past w e (λ o. refl) ∙ h.claims; leaf = h.leaf; live = live_quiet s past w m m h.live };
      free = cond-true (eqb m m) None (chosen past m) (eq-eqb m m refl);
      settled = λ n there inner live.
          let low : n < nodes past = omega (arith, there) in
          let c = settled n low inner (λ d. live (stays s past e n low d)) in
          record { clause = c.clause; side = c.side; child = c.child; is = record { there = (let t = c.is.there in omega arith); hangs = c.is.hangs }; live = live_quiet s past w m c.child c.live };
      unended = ap (λ o. or_else o None) unended;
    }

pub activated_now : StaysDead → (old new : State) (w m : ℕ) → IsLegalJournal old.setting old.past → Holds old.setting old.past w m → IsSettled old.setting old.past → first_end old.past ≡ None → new.setting ≡ old.setting → new.past ≡ record { by = w; event = Activate m } ∷ old.past → HoldsUnchosen new w m
activated_now stays old new w m legal h settled unended e f =
    let a = activated stays old.setting old.past w m new.spare_events new.spare_steps legal h settled unended in
    let p : record { by = w; event = Activate m } ∷ old.past ≡ new.past = sym f in
    subst (λ x. HoldsUnchosen (record { setting = x; past = new.past; spare_events = new.spare_events; spare_steps = new.spare_steps }) w m) (sym e)
    (subst (λ x. HoldsUnchosen (record { setting = old.setting; past = x; spare_events = new.spare_events; spare_steps = new.spare_steps }) w m) p a)

-- ---- empty clauses

pub empty_clause : (c : Clause) → IsEmpty c → is_empty c ≡ true
empty_clause c h = ap (λ xs. (no_atoms xs && no_atoms c.antecedent) && no_atoms c.succedent) h.0 ∙ (ap (λ xs. no_atoms xs && no_atoms c.succedent) h.1 ∙ ap no_atoms h.2)

-- ---- answers that are Ok

pub on_ok : {A E : Type 0} {P Q : Type 0} (r : Result A E) → (P → Q) → OnOk r P → OnOk r Q
on_ok (Ok x) f h = f h
on_ok (Err e) f h = h

pub if_ok : {A E : Type 0} {P Q : A → Type 0} (r : Result A E) → ((x : A) → P x → Q x) → IfOk r P → IfOk r Q
if_ok (Ok x) f h = f x h
if_ok (Err e) f h = h
