-- What a step keeps that closes the node above a pair of children, and when the tree is settled.
use Rattle.std.specs.Prelude.{IfOk, Result, Ok, Err}
use Rattle.std.proofs.Common.{◌≡◌, ℕ, zero, suc, ◌+◌, ◌*◌, ◌<◌, ◌≤◌, inl, inr, true, false, not, List, [], ◌∷◌, ◌++◌, Some, None, refl, sym, ◌∙◌, ap, subst, arith, eq-eqb, append_assoc}
use Rattle.std.proofs.lemmas.Bool.{and_left, and_right, cases_lt, eqb-true, false≢true}
use Rattle.std.specs.List.{slice_get}
use Rattle.spl_terms.specs.Clauses.{is_empty}
use Rattle.proof_steps.specs.declared.step.Line.{Line}
use Rattle.proof_steps.specs.Steps.{numbered}
use Rattle.proof_steps.specs.declared.step.Rule.TheVariants.{CaseBoth}
use Rattle.case_journal.specs.declared.branch.Branch.{Branch}
use Rattle.case_journal.specs.declared.event.Entry.{Entry}
use Rattle.case_journal.specs.declared.event.Event.{Event}
use Rattle.case_journal.specs.declared.event.Event.TheVariants.{Publish, Split}
use Rattle.case_journal.specs.Journal.{Setting, nodes, nodes_of, steps, ledger}
use Rattle.case_journal.specs.Paths.{on_path, branch, branch_by, branch_to, is_leaf, splits_node, owner, subject}
use Rattle.case_journal.specs.Facts.{IsLive}
use Rattle.case_journal.specs.Ending.{first_end}
use Rattle.case_journal.specs.Legal.{IsAsked, IsLegal, IsLegalJournal, IsSettled, IsChild, IsFirstEmpty}
use Rattle.case_journal.specs.BranchLaws.{branch_old}
use Rattle.case_journal.specs.ListedLaws.{listed_within}
use Rattle.case_journal.specs.DependenceLaws.{split_listed}
use Rattle.case_journal.specs.PathLaws.{nodes_some, on_path-self}
use Rattle.case_journal.specs.StandingLaws.{new_branch, parent_below}
use Rattle.backjump.specs.Cases.{IsCaseEntry, OnlyCloses, IsSettledAt, IsSettledAbove, CanClose, IsPairStep, IsClosingEvent, case_line}
use Rattle.case_journal.specs.DeathLaws.{owner_on, on_path_le, with_line, new_empty}
use Rattle.backjump.proofs.Deaths.{settled_after}
use Rattle.backjump.proofs.Pairs.{HasPair, pairs, inner_pair}
use Rattle.backjump.proofs.Cases.{closing_legal, open_or_proved, still_open}

-- ---- a node is split once

parent_new : (s : Setting) (past : List Entry) (w : ℕ) (ev : Event) (n : ℕ) (b : Branch) → nodes past ≤ n → n < nodes past + nodes_of ev → branch_by ev (nodes past) n (branch past n) ≡ Some b → splits_node ev b.parent ≡ true
parent_new s past w (Split node lines put_off) n b high there h = elim (new_branch node (subject lines) (nodes past) n (branch past n) b high there h) [
  | inl r ↦ eq-eqb node b.parent (sym (ap (λ x. x.parent) r.1))
  | inr r ↦ eq-eqb node b.parent (sym (ap (λ x. x.parent) r.1))
]
parent_new s past w _ n b high there h = absurd (omega arith)

-- a parent was split
parent_inner : (s : Setting) (past : List Entry) (n : ℕ) (b : Branch) → n < nodes past → branch past n ≡ Some b → is_leaf past b.parent ≡ false
parent_inner s [] n b there h = cc
parent_inner s (e ∷ past) n b there h = elim (cases_lt n (nodes past)) [
  | inl low ↦ and_right (not (splits_node e.event b.parent)) (is_leaf past b.parent) (parent_inner s past n b low (sym (branch_old e.event (nodes past) n (branch past n) low) ∙ h))
  | inr high ↦ and_left (not (splits_node e.event b.parent)) (is_leaf past b.parent) (ap not (parent_new s past e.by e.event n b high there h))
]

split_leaf : (s : Setting) (past : List Entry) (w : ℕ) (ev : Event) (m : ℕ) → IsAsked s past w ev → splits_node ev m ≡ true → is_leaf past m ≡ true
split_leaf s past w (Split node lines put_off) m p h = ap (is_leaf past) (sym (eqb-true node m h)) ∙ p.asked.holds.leaf
split_leaf s past w _ m p h = absurd (false≢true h)

few_nodes : (ev : Event) → nodes_of ev ≤ 2
few_nodes (Split node lines put_off) = omega arith
few_nodes _ = omega arith

-- an earlier node hangs elsewhere than a pair of children
earlier_apart : (s : Setting) (past : List Entry) → IsLegalJournal s past → (j n : ℕ) (b c : Branch) → 2 * j + 1 < nodes past → n < 2 * j + 1 → branch past n ≡ Some b → branch past (2 * j + 1) ≡ Some c → b.parent ≡ c.parent → ⊥
earlier_apart s [] legal j n b c there low hn hj q = cc
earlier_apart s (e ∷ past) legal j n b c there low hn hj q =
    let k = pairs past in
    let f = few_nodes e.event in
    elim (cases_lt (2 * j + 1) (nodes past)) [
      | inl old ↦
          earlier_apart s past legal.1 j n b c old low
          (sym (branch_old e.event (nodes past) n (branch past n) (omega arith)) ∙ hn)
          (sym (branch_old e.event (nodes past) (2 * j + 1) (branch past (2 * j + 1)) old) ∙ hj) q
      | inr new ↦
          let n_low : n < nodes past = omega (arith, k.1) in
          let split = parent_new s past e.by e.event (2 * j + 1) c new there hj in
          let leaf = split_leaf s past e.by e.event c.parent legal.0.asked split in
          let inner = parent_inner s past n b n_low (sym (branch_old e.event (nodes past) n (branch past n) n_low) ∙ hn) in
          false≢true (sym inner ∙ (ap (is_leaf past) q ∙ leaf))
    ]

-- ---- a step

pub none_added : (s : Setting) (w place : ℕ) (past : List Entry) → IsPairStep s w place past past
none_added s w place past = record {
  closes = record { added = []; each = λ k e h. (cc); is = refl };
  count = refl;
  goes_on = λ f live. f live;
  ended = λ h. h;
  kept = λ j low there h. h;
}

pub one_entry : (w node : ℕ) (l : Line) → l.step.rule ≡ CaseBoth → (k : ℕ) (e : Entry) → slice_get (record { by = w; event = Publish node (l ∷ []) false } ∷ []) k ≡ Some e → IsCaseEntry w e
one_entry w node l rule zero e h = record { node = node; line = l; rule = rule; is = cc }
one_entry w node l rule (suc k) e h = cc

-- the node to which a step belongs is not after the node that it closes
closed_low : (s : Setting) (past : List Entry) → IsLegalJournal s past → (place inner clause i j node : ℕ) (l : Line) → CanClose s past inner clause (2 * place + 1) (2 * place + 2) i j → node ≡ owner past l.stated.deps inner → (node < 2 * place + 1) × (on_path past inner node ≡ true)
closed_low s past legal place inner clause i j node l c is =
    let on = ap (on_path past inner) is ∙ owner_on s past legal l.stated.deps inner c.there in
    let le = on_path_le s past legal inner node c.there on in
    let below = parent_below s past legal (2 * place + 1) (branch_to inner clause 1) c.left_child.there c.left_child.hangs in
    (omega arith, on)

pub one_added : (s : Setting) (past : List Entry) → IsLegalJournal s past → (w place inner clause i j node : ℕ) (l : Line) → CanClose s past inner clause (2 * place + 1) (2 * place + 2) i j → IsLegal s past w (Publish node (l ∷ []) false)
    → l.step.rule ≡ CaseBoth → is_empty l.stated.clause ≡ true → node ≡ owner past l.stated.deps inner → IsPairStep s w place past (with_line w node l past)
one_added s past legal w place inner clause i j node l c now rule empty is =
    let v = with_line w node l past in
    let low = closed_low s past legal place inner clause i j node l c is in
    let e : Entry = record { by = w; event = Publish node (l ∷ []) false } in
    let unended = now.unended refl in
    let root_there : 0 < nodes past = (let b = nodes_some past in omega arith) in
    let node_there : node < nodes past = (let t = c.left_child.there in omega (arith, low.0)) in
    record {
      closes = record { added = e ∷ []; each = one_entry w node l rule; is = refl };
      count = omega arith;
      goes_on = λ f live. elim (cases_lt 0 node) [
        | inl some ↦ still_open s past w node l (now, legal) some node_there unended
        | inr root ↦
            let z : node ≡ 0 = omega arith in
            absurd (live (steps s past + 1, new_empty s past w node l 0 empty (ap (on_path past 0) z ∙ on_root past)))
      ];
      ended = λ h. open_or_proved w node l past unended;
      kept = λ k more there settled b hangs.
          let up = parent_below s past legal (2 * k + 1) b there hangs in
          settled_after s past legal w node l b.parent (omega arith) empty (λ d hd q. earlier_apart s past legal k node d b there (omega (arith, low.0)) hd hangs q) (settled b hangs);
    }
  where
    on_root : (past : List Entry) → on_path past 0 0 ≡ true
    on_root past = on_path-self past 0

pub one_here : (s : Setting) (past : List Entry) → IsLegalJournal s past → (w place inner clause i j node : ℕ) (l : Line) → CanClose s past inner clause (2 * place + 1) (2 * place + 2) i j → is_empty l.stated.clause ≡ true → node ≡ owner past l.stated.deps inner
    → IsSettledAbove s (with_line w node l past) (2 * place + 1)
one_here s past legal w place inner clause i j node l c empty is b hangs live =
    let low = closed_low s past legal place inner clause i j node l c is in
    let same : Some b ≡ Some (branch_to inner clause 1) = sym hangs ∙ c.left_child.hangs in
    let q : b ≡ branch_to inner clause 1 = cc in
    absurd (live (steps s past + 1, new_empty s past w node l b.parent empty (ap (λ x. on_path past x.parent node) q ∙ low.1)))

-- ---- the whole

pub all_settled : (s : Setting) (past : List Entry) → IsLegalJournal s past → ((j : ℕ) → 2 * j + 1 < nodes past → IsSettledAbove s past (2 * j + 1)) → IsSettled s past
all_settled s past legal each m there inner live =
    let r = inner_pair s past legal m there inner in
    let p = r.2.0 in
    let at = each r.0 r.1 (branch_to p.inner p.clause 1) p.left.hangs in
    subst (λ x. IsSettledAt s past x) r.2.1 at live

append_each : (w : ℕ) (xs ys : List Entry) → ((k : ℕ) (e : Entry) → slice_get xs k ≡ Some e → IsCaseEntry w e) → ((k : ℕ) (e : Entry) → slice_get ys k ≡ Some e → IsCaseEntry w e) → (k : ℕ) (e : Entry) → slice_get (xs ++ ys) k ≡ Some e → IsCaseEntry w e
append_each w [] ys f g k e h = g k e h
append_each w (x ∷ xs) ys f g zero e h = f zero e h
append_each w (x ∷ xs) ys f g (suc k) e h = append_each w xs ys (λ j d t. f (suc j) d t) g k e h

pub closes_trans : (w : ℕ) (a b c : List Entry) → OnlyCloses w a b → OnlyCloses w b c → OnlyCloses w a c
closes_trans w a b c p q = record {
  added = q.added ++ p.added;
  each = append_each w q.added p.added q.each p.each;
  is = q.is ∙ (ap (λ x. q.added ++ x) p.is ∙ sym (append_assoc q.added p.added a));
}

-- ---- the tests

same_branch : (past : List Entry) (j : ℕ) (p : HasPair past j) (b : Branch) → branch past (2 * j + 1) ≡ Some b → p.inner ≡ b.parent
same_branch past j p b h =
    let same : Some (branch_to p.inner p.clause 1) ≡ Some b = sym p.left.hangs ∙ h in
    let q : branch_to p.inner p.clause 1 ≡ b = cc in
    ap (λ x. x.parent) q

pub settled_left : (s : Setting) (past : List Entry) (j : ℕ) → HasPair past j → IsLive s past (2 * j + 1) → IsSettledAbove s past (2 * j + 1)
settled_left s past j p live b h = subst (λ m. IsSettledAt s past m) (same_branch past j p b h) (λ above. record { clause = p.clause; side = 1; child = 2 * j + 1; is = p.left; live = live })

pub settled_right : (s : Setting) (past : List Entry) (j : ℕ) → HasPair past j → IsLive s past (2 * j + 2) → IsSettledAbove s past (2 * j + 1)
settled_right s past j p live b h = subst (λ m. IsSettledAt s past m) (same_branch past j p b h) (λ above. record { clause = p.clause; side = 2; child = 2 * j + 2; is = p.right; live = live })

pub closing_event : (s : Setting) (past : List Entry) → IsLegalJournal s past → (w : ℕ) → 1 ≤ w → w ≤ s.workers → first_end past ≡ None → (inner clause left right i j : ℕ) → CanClose s past inner clause left right i j → (r e f : Line)
    → numbered (ledger s past) clause ≡ Some r → numbered (ledger s past) i ≡ Some e → numbered (ledger s past) j ≡ Some f
    → (l : Line) → l ≡ case_line clause r.stated.deps i e.stated.deps j f.stated.deps → (ev : Event) → ev ≡ Publish (owner past l.stated.deps inner) (l ∷ []) false → IsClosingEvent s past w inner ev
closing_event s past legal w some worker unended inner clause left right i j c r e f is_r is_e is_f l is ev q =
    let node = owner past l.stated.deps inner in
    record {
      legal = subst (λ x. IsLegal s past w x) (sym q) (closing_legal s past legal w some worker unended inner clause left right i j c r e f is_r is_e is_f l is node refl);
      node = node;
      line = l;
      is = q;
      rule = ap (λ x. x.step.rule) is;
      empty = ap (λ x. is_empty x.stated.clause) is;
      belongs = refl;
    }

-- the split clause is one of the ledger
pub split_within : (s : Setting) (past : List Entry) → IsLegalJournal s past → (inner clause left right i j : ℕ) → CanClose s past inner clause left right i j → (1 ≤ clause) × (clause ≤ steps s past)
split_within s past legal inner clause left right i j c =
    let r = split_listed s past legal left (branch_to inner clause 1) c.left_child.there c.left_child.hangs in
    listed_within s past legal inner clause r.1

pub if_ok : {A E : Type 0} {P Q : A → Type 0} → (r : Result A E) → IfOk r P → ((a : A) → P a → Q a) → IfOk r Q
if_ok (Ok a) h f = f a h
if_ok (Err e) h f = h

-- ---- the step of a table

-- the same event, where the setting and the journal are the same
moved_event : (s t : Setting) (past q : List Entry) (w inner : ℕ) (ev : Event) → t ≡ s → q ≡ past → IsClosingEvent t q w inner ev → IsClosingEvent s past w inner ev
moved_event s t past q w inner ev es ep h = subst (λ x. IsClosingEvent x past w inner ev) es (subst (λ x. IsClosingEvent t x w inner ev) ep h)

event_line : (w : ℕ) (past later : List Entry) (ev : Event) (node : ℕ) (l : Line) → ev ≡ Publish node (l ∷ []) false → later ≡ record { by = w; event = ev } ∷ past → later ≡ with_line w node l past
event_line w past later ev node l is e = e ∙ ap (λ x. (let y : Entry = record { by = w; event = x } in y) ∷ past) is

pub closed_by : (s t : Setting) (past q : List Entry) → IsLegalJournal s past → (w place inner clause i j : ℕ) → CanClose s past inner clause (2 * place + 1) (2 * place + 2) i j → (ev : Event) → t ≡ s → q ≡ past → IsClosingEvent t q w inner ev
    → (later : List Entry) → later ≡ record { by = w; event = ev } ∷ q → IsPairStep s w place past later × IsSettledAbove s later (2 * place + 1)
closed_by s t past q legal w place inner clause i j c ev es ep h later e =
    let m = moved_event s t past q w inner ev es ep h in
    let at = event_line w past later ev m.node m.line m.is (e ∙ ap (λ x. (let y : Entry = record { by = w; event = ev } in y) ∷ x) ep) in
    let now = subst (λ x. IsLegal s past w x) m.is m.legal in (
      subst (λ x. IsPairStep s w place past x) (sym at) (one_added s past legal w place inner clause i j m.node m.line c now m.rule m.empty m.belongs),
      subst (λ x. IsSettledAbove s x (2 * place + 1)) (sym at) (one_here s past legal w place inner clause i j m.node m.line c m.empty m.belongs),
    )

pub can_close : (s : Setting) (past : List Entry) (j : ℕ) → HasPair past j → (inner clause left_empty right_empty : ℕ) → ((b : Branch) → branch past (2 * j + 1) ≡ Some b → (b.parent ≡ inner) × (b.assumed.split ≡ clause)) → IsLive s past inner
    → IsFirstEmpty s past (2 * j + 1) left_empty → IsFirstEmpty s past (2 * j + 1 + 1) right_empty → CanClose s past inner clause (2 * j + 1) (2 * j + 2) left_empty right_empty
can_close s past j p inner clause i k above live first second =
    let q = above (branch_to p.inner p.clause 1) p.left.hangs in
    let z : 2 * j + 1 + 1 ≡ 2 * j + 2 = omega arith in
    let low = p.below in
    let there = p.left.there in
    record {
      there = omega (arith, q.0);
      live = live;
      left_child = subst (λ c. IsChild past inner c 1 (2 * j + 1)) q.1 (subst (λ m. IsChild past m p.clause 1 (2 * j + 1)) q.0 p.left);
      right_child = subst (λ c. IsChild past inner c 2 (2 * j + 2)) q.1 (subst (λ m. IsChild past m p.clause 2 (2 * j + 2)) q.0 p.right);
      first_left = first;
      first_right = subst (λ m. IsFirstEmpty s past m k) z second;
    }

-- the pairs from this one on are settled after its step
pub settled_from : (s t : Setting) (w place : ℕ) (earlier later : List Entry) → t ≡ s → IsPairStep s w place earlier later → IsSettledAbove t later (2 * place + 1) → ((j : ℕ) → place + 1 ≤ j → 2 * j + 1 < nodes earlier → IsSettledAbove s earlier (2 * j + 1))
    → (j : ℕ) → place ≤ j → 2 * j + 1 < nodes later → IsSettledAbove t later (2 * j + 1)
settled_from s t w place earlier later es step here more j high there = elim (cases_lt place j) [
  | inl above ↦
      let count = step.count in
      let low : 2 * j + 1 < nodes earlier = omega arith in
      subst (λ x. IsSettledAbove x later (2 * j + 1)) (sym es) (step.kept j above low (more j (omega arith) low))
  | inr same ↦ let z : place ≡ j = omega arith in subst (λ k. IsSettledAbove t later (2 * k + 1)) z here
]
