-- The journal that is planned: the chain that closes a node, and the case steps that follow on its path.
use Rattle.std.specs.Prelude.{◌%◌, ◌==◌, MatchOption, IsSomeAnd}
use Rattle.std.proofs.Common.{◌≡◌, ℕ, zero, suc, ◌+◌, ◌*◌, ◌-◌, ◌/◌, ◌<◌, ◌≤◌, ◌⊎◌, inl, inr, true, false, eqb, List, [], ◌∷◌, ◌++◌, length, Option, Some, None, refl, sym, ◌∙◌, ap, subst, arith, length-append}
use Rattle.std.proofs.lemmas.Bool.{or_cases, or_right, eqb-true, cases_Bool, cond-true, cond-false, false≢true, false_from_ne_true, eqb-false}
use Rattle.std.specs.List.{slice_get}
use Rattle.spl_terms.specs.ListLaws.{get-there}
use Rattle.spl_terms.specs.Clauses.{is_empty}
use Rattle.dep_sets.specs.declared.deps.Assumption.{Assumption}
use Rattle.proof_steps.specs.declared.step.Line.{Line}
use Rattle.proof_steps.specs.declared.step.Rule.TheVariants.{CaseBoth}
use Rattle.proof_steps.specs.Steps.{numbered}
use Rattle.case_journal.specs.declared.branch.Branch.{Branch}
use Rattle.case_journal.specs.declared.event.Entry.{Entry}
use Rattle.case_journal.specs.declared.event.Event.{Event}
use Rattle.case_journal.specs.declared.event.Event.TheVariants.{Publish}
use Rattle.case_journal.specs.Journal.{Setting, nodes, ledger, steps, lines_of, last_line}
use Rattle.case_journal.specs.Paths.{on_path, branch, branch_to, owner, is_leaf}
use Rattle.case_journal.specs.Facts.{listed, IsEmptyAt, IsDead, IsLive, cost_of}
use Rattle.case_journal.specs.Ending.{first_end}
use Rattle.case_journal.specs.Legal.{IsLegal, IsLegalJournal, IsSettled, IsChild, IsFirstEmpty}
use Rattle.case_journal.specs.PathLaws.{on_path-self}
use Rattle.case_journal.specs.PlaceLaws.{publish_there}
use Rattle.case_journal.specs.BranchLaws.{branch_root, climbs}
use Rattle.case_journal.specs.ListedLaws.{listed_within}
use Rattle.case_journal.specs.LedgerLaws.{numbered_more}
use Rattle.case_journal.specs.ListLaws.{numbered_get}
use Rattle.case_journal.specs.StandingLaws.{on_path_trans, parent_below}
use Rattle.case_journal.specs.DependenceLaws.{numbered_new, split_listed}
use Rattle.backjump.specs.Cases.{case_line, OnlyCloses, IsOpenOrProved, IsSettledAt, CanClose}
use Rattle.backjump.specs.declared.closing.Next.{Next}
use Rattle.backjump.specs.Plans.{appended, twin_of, sided_line, IsNext, IsNextEvent, IsOneLine, IsPlan}
use Rattle.case_journal.specs.DeathLaws.{with_line, on_path_le, owner_on, dead_below, dead_before, new_empty, empty_before, listed_apart}
use Rattle.backjump.proofs.Deaths.{settled_after}
use Rattle.backjump.proofs.Pairs.{pair_at}
use Rattle.backjump.proofs.Cases.{closing_legal, open_or_proved, still_open}
use Rattle.backjump.proofs.Steps.{closes_trans, one_entry}

-- the journal v, which goes on from the past by publications; the last one, of an empty clause with the number, is at the node, and but for its parent all is settled
pub record IsOnTheWay (s : Setting) (past v : List Entry) (w at number : ℕ) (deps : List Assumption) : Type 0 where
  pub legal : IsLegalJournal s v
  pub line : Line
  pub before : List Entry
  pub is : v ≡ with_line w at line before
  pub last : number ≡ steps s v
  pub empty : is_empty line.stated.clause ≡ true
  pub depends : deps ≡ line.stated.deps
  pub there : at < nodes v
  pub count : nodes v ≡ nodes past
  pub hangs : (m : ℕ) → branch v m ≡ branch past m
  pub owners : (d : List Assumption) (m : ℕ) → owner v d m ≡ owner past d m
  pub found : (i : ℕ) (l : Line) → numbered (ledger s past) i ≡ Some l → numbered (ledger s v) i ≡ Some l
  pub outside : (k i : ℕ) → k < nodes past → on_path v k at ≡ false → listed s v k i ≡ listed s past k i
  pub settled : (m : ℕ) → m < nodes v → ((b : Branch) → branch v at ≡ Some b → b.parent ≡ m → ⊥) → is_leaf v m ≡ false → IsSettledAt s v m
  pub unended : 0 < at → first_end v ≡ None
  pub ended : IsOpenOrProved v

-- ---- the first event

pub on_the_way : (s : Setting) (past : List Entry) (w at : ℕ) (l : Line) → IsLegalJournal s past → IsLegal s past w (Publish at (l ∷ []) false) → at < nodes past → is_empty l.stated.clause ≡ true → IsSettled s past
    → IsOnTheWay s past (with_line w at l past) w at (steps s past + 1) l.stated.deps
on_the_way s past w at l legal now there empty settled =
    let v = with_line w at l past in
    let unended = now.unended refl in
    record {
      legal = (now, legal);
      line = l;
      before = past;
      is = refl;
      last = sym (length-append (ledger s past) (l ∷ []));
      empty = empty;
      depends = refl;
      there = omega arith;
      count = omega arith;
      hangs = λ m. refl;
      owners = λ d m. refl;
      found = λ i k h. numbered_more (ledger s past) (l ∷ []) i k h;
      outside = λ k i low off. listed_apart s past w at l k i (false_from_ne_true (on_path past k at) (λ t. false≢true (sym off ∙ or_right (eqb at k) (on_path past k at) t)));
      settled = λ m low other inner. settled_after s past legal w at l m (omega arith) empty other (settled m (omega arith) inner);
      unended = λ some. still_open s past w at l (now, legal) some there unended;
      ended = open_or_proved w at l past unended;
    }

-- ---- what is known on the way

live_before : (s : Setting) (past v : List Entry) (w at number : ℕ) (deps : List Assumption) → (y : IsOnTheWay s past v w at number deps) → (IsLegalJournal s y.before) × (IsLive s y.before at) × (at < nodes y.before)
live_before s past v w at number deps y =
    let legal = subst (IsLegalJournal s) y.is y.legal in
    let low : at < nodes (with_line w at y.line y.before) = subst (λ x. at < nodes x) y.is y.there in
    (legal.1, legal.0.asked.asked.live, omega arith)

-- the empty clause with the number is the first one at the node
first_on_the_way : (s : Setting) (past v : List Entry) (w at number : ℕ) (deps : List Assumption) → IsOnTheWay s past v w at number deps → IsFirstEmpty s v at number
first_on_the_way s past v w at number deps y =
    let b = live_before s past v w at number deps y in
    let long = length-append (ledger s y.before) (y.line ∷ []) in
    let n : number ≡ steps s y.before + 1 = y.last ∙ (ap (steps s) y.is ∙ long) in
    let made : IsFirstEmpty s (with_line w at y.line y.before) at (steps s y.before + 1) = record {
      empty = new_empty s y.before w at y.line at y.empty (on_path-self y.before at);
      first = λ k low dead. b.1 (k, empty_before s y.before b.0 w at y.line at k (omega arith) dead);
    } in
    subst (λ x. IsFirstEmpty s x at number) (sym y.is) (subst (λ k. IsFirstEmpty s (with_line w at y.line y.before) at k) (sym n) made)

-- the parent is live
parent_live : (s : Setting) (past v : List Entry) (w at number : ℕ) (deps : List Assumption) → IsOnTheWay s past v w at number deps → (b : Branch) → branch v at ≡ Some b → IsLive s v b.parent
parent_live s past v w at number deps y b h dead =
    let q = live_before s past v w at number deps y in
    let e = y.before in
    let hb : branch e at ≡ Some b = ap (λ x. branch x at) (sym y.is) ∙ h in
    let low = parent_below s e q.0 at b q.2 hb in
    let p_there : b.parent < nodes e = (let t = q.2 in omega arith) in
    let off : on_path e b.parent at ≡ false = false_from_ne_true (on_path e b.parent at) (λ t. let le = on_path_le s e q.0 b.parent at p_there t in absurd (omega arith)) in
    let old = dead_before s e q.0 w at y.line b.parent off (subst (λ x. IsDead s x b.parent) y.is dead) in
    let k = climbs s e q.0 at (let z = low in omega arith) q.2 in
    let same : Some k.up ≡ Some b = sym k.hangs ∙ hb in
    let r : k.up ≡ b = cc in
    let on : on_path e at b.parent ≡ true = k.goes b.parent ∙ or_right (eqb b.parent at) (on_path e k.up.parent b.parent) (ap (λ x. on_path e x.parent b.parent) r ∙ on_path-self e b.parent) in
    q.1 (dead_below s e q.0 at b.parent q.2 on old)

-- an empty clause of a node that is not below is the same one before
empty_outside : (s : Setting) (past v : List Entry) (w at number : ℕ) (deps : List Assumption) → IsLegalJournal s past → IsOnTheWay s past v w at number deps → (k i : ℕ) → k < nodes past → on_path v k at ≡ false → IsEmptyAt s v k i → IsEmptyAt s past k i
empty_outside s past v w at number deps legal y k i low off d =
    let lists = sym (y.outside k i low off) ∙ d.lists in
    let r = listed_within s past legal k i lists in
    let l = get-there (ledger s past) (i - 1) (omega (arith, r.0, r.1)) in
    let old = numbered_get (ledger s past) i r.0 ∙ l.1 in
    let same : Some l.0 ≡ Some d.line = sym (y.found i l.0 old) ∙ d.found in
    let q : l.0 ≡ d.line = cc in
    record { lists = lists; line = l.0; found = old; empty = ap (λ x. is_empty x.stated.clause) q ∙ d.empty }

first_outside : (s : Setting) (past v : List Entry) (w at number : ℕ) (deps : List Assumption) → IsLegalJournal s past → IsOnTheWay s past v w at number deps → (k i : ℕ) → k < nodes past → on_path v k at ≡ false → IsFirstEmpty s past k i → IsFirstEmpty s v k i
first_outside s past v w at number deps legal y k i low off f = record {
  empty = record { lists = y.outside k i low off ∙ f.empty.lists; line = f.empty.line; found = y.found i f.empty.line f.empty.found; empty = f.empty.empty };
  first = λ j less dead. f.first j less (empty_outside s past v w at number deps legal y k j low off dead);
}

-- another child of the same parent is not below
twin_off : (s : Setting) (v : List Entry) → IsLegalJournal s v → (inner c d side other at twin : ℕ) → IsChild v inner c side at → IsChild v inner d other twin → (twin ≡ at → ⊥) → 0 < twin → on_path v twin at ≡ false
twin_off s v legal inner c d side other at twin a b apart some = false_from_ne_true (on_path v twin at) (λ t.
    let k = climbs s v legal twin some b.there in
    let same : Some k.up ≡ Some (branch_to inner d other) = sym k.hangs ∙ b.hangs in
    let q : k.up ≡ branch_to inner d other = cc in
    let low = parent_below s v legal at (branch_to inner c side) a.there a.hangs in
    let there = a.there in
    elim (or_cases (eqb at twin) (on_path v k.up.parent at) (sym (k.goes at) ∙ t)) [
      | inl here ↦ apart (sym (eqb-true at twin here))
      | inr up ↦
          let le = on_path_le s v legal inner at (omega arith) (ap (λ x. on_path v x.parent at) (sym q) ∙ up) in
          omega arith
    ])

-- ---- the two children

-- the child at, and its twin, of a live node
pub record IsTwin (v : List Entry) (at : ℕ) : Type 0 where
  pub inner : ℕ
  pub clause : ℕ
  pub side : ℕ
  pub other : ℕ
  pub here : IsChild v inner clause side at
  pub there : IsChild v inner clause other (twin_of at)
  pub apart : twin_of at ≡ at → ⊥
  pub some : 0 < twin_of at
  pub order : ((side ≡ 1) × (other ≡ 2) × ((at % 2 == 1) ≡ true)) ⊎ ((side ≡ 2) × (other ≡ 1) × ((at % 2 == 1) ≡ false))

odd_at : (at : ℕ) → 0 < at → (at % 2 == 1) ≡ true → (at ≡ 2 * ((at - 1) / 2) + 1) × (twin_of at ≡ 2 * ((at - 1) / 2) + 2)
odd_at at some odd =
    let q = eqb-true (at % 2) 1 odd in
    let e : at ≡ 2 * ((at - 1) / 2) + 1 = omega arith in
    (e, cond-true (at % 2 == 1) (at + 1) (at - 1) odd ∙ (let z : at + 1 ≡ 2 * ((at - 1) / 2) + 2 = omega arith in z))

even_at : (at : ℕ) → 0 < at → (at % 2 == 1) ≡ false → (at ≡ 2 * ((at - 1) / 2) + 2) × (twin_of at ≡ 2 * ((at - 1) / 2) + 1)
even_at at some even =
    let q = eqb-false (at % 2) 1 even in
    let e : at ≡ 2 * ((at - 1) / 2) + 2 = omega arith in
    (e, cond-false (at % 2 == 1) (at + 1) (at - 1) even ∙ (let z : at - 1 ≡ 2 * ((at - 1) / 2) + 1 = omega arith in z))

pub twin_at : (s : Setting) (v : List Entry) → IsLegalJournal s v → (at : ℕ) → 0 < at → at < nodes v → IsTwin v at
twin_at s v legal at some there =
    let j = (at - 1) / 2 in
    elim (cases_Bool (at % 2 == 1)) [
      | inl odd ↦
          let q = odd_at at some odd in
          let x = q.0 in
          let z = q.1 in
          let p = pair_at s v legal j (omega arith) in
          record {
            inner = p.inner;
            clause = p.clause;
            side = 1;
            other = 2;
            here = subst (λ c. IsChild v p.inner p.clause 1 c) (sym x) p.left;
            there = subst (λ c. IsChild v p.inner p.clause 2 c) (sym z) p.right;
            apart = λ e. omega arith;
            some = omega arith;
            order = inl (refl, refl, odd);
          }
      | inr even ↦
          let q = even_at at some even in
          let x = q.0 in
          let z = q.1 in
          let p = pair_at s v legal j (omega arith) in
          record {
            inner = p.inner;
            clause = p.clause;
            side = 2;
            other = 1;
            here = subst (λ c. IsChild v p.inner p.clause 2 c) (sym x) p.right;
            there = subst (λ c. IsChild v p.inner p.clause 1 c) (sym z) p.left;
            apart = λ e. omega arith;
            some = omega arith;
            order = inr (refl, refl, even);
          }
    ]

number_found : (s : Setting) (past v : List Entry) (w at number : ℕ) (deps : List Assumption) → (y : IsOnTheWay s past v w at number deps) → numbered (ledger s v) number ≡ Some y.line
number_found s past v w at number deps y =
    let long = length-append (ledger s y.before) (y.line ∷ []) in
    let n : number ≡ steps s y.before + 1 = y.last ∙ (ap (steps s) y.is ∙ long) in
    ap (λ x. numbered (ledger s x) number) y.is ∙ numbered_new (ledger s y.before) (y.line ∷ []) number 0 (omega arith)

-- ---- the next step

-- the step may be appended, and closes the split by an empty line
pub record IsDue (s : Setting) (v : List Entry) (w at node : ℕ) (line : Line) (inner : ℕ) : Type 0 where
  pub legal : IsLegal s v w (Publish node (line ∷ []) false)
  pub rule : line.step.rule ≡ CaseBoth
  pub empty : is_empty line.stated.clause ≡ true
  pub inner_there : inner < nodes v
  pub on : on_path v inner node ≡ true
  pub low : node < at
  pub above : (b : Branch) → branch v at ≡ Some b → b.parent ≡ inner

due_from : (s : Setting) (v : List Entry) → IsLegalJournal s v → (w at : ℕ) → 1 ≤ w → w ≤ s.workers → first_end v ≡ None → (inner clause left right i j : ℕ) → CanClose s v inner clause left right i j → (r e f : Line)
    → numbered (ledger s v) clause ≡ Some r → numbered (ledger s v) i ≡ Some e → numbered (ledger s v) j ≡ Some f
    → (l : Line) → l ≡ case_line clause r.stated.deps i e.stated.deps j f.stated.deps → (node : ℕ) → node ≡ owner v l.stated.deps inner → inner < at → ((b : Branch) → branch v at ≡ Some b → b.parent ≡ inner) → IsDue s v w at node l inner
due_from s v legal w at some worker unended inner clause left right i j c r e f is_r is_e is_f l is node owner_is below above =
    let on = ap (on_path v inner) owner_is ∙ owner_on s v legal l.stated.deps inner c.there in
    let le = on_path_le s v legal inner node c.there on in
    record {
      legal = closing_legal s v legal w some worker unended inner clause left right i j c r e f is_r is_e is_f l is node owner_is;
      rule = ap (λ x. x.step.rule) is;
      empty = ap (λ x. is_empty x.stated.clause) is;
      inner_there = c.there;
      on = on;
      low = omega arith;
      above = above;
    }

pub next_due : (s : Setting) (past v : List Entry) (w at number : ℕ) (deps : List Assumption) → IsLegalJournal s past → 1 ≤ w → w ≤ s.workers → IsOnTheWay s past v w at number deps → 0 < at → (node : ℕ) (line : Line) → IsNext s past at number deps node line
    → (inner : ℕ) × IsDue s v w at node line inner
next_due s past v w at number deps legal some worker y at_some node line n =
    let t = twin_at s v y.legal at at_some y.there in
    let inner = t.inner in
    let clause = t.clause in
    let twin = twin_of at in
    let hangs = sym (y.hangs at) ∙ t.here.hangs in
    let q = n.above (branch_to inner clause t.side) hangs in
    let low = parent_below s v y.legal at (branch_to inner clause t.side) y.there t.here.hangs in
    let at_there = y.there in
    let live = parent_live s past v w at number deps y (branch_to inner clause t.side) t.here.hangs in
    let off = twin_off s v y.legal inner clause clause t.side t.other at twin t.here t.there t.apart t.some in
    let twin_there : twin < nodes past = (let z = t.there.there in let c = y.count in omega arith) in
    let first = first_on_the_way s past v w at number deps y in
    let second = first_outside s past v w at number deps legal y twin n.twin_empty twin_there off n.first in
    let e = number_found s past v w at number deps y in
    let f = y.found n.twin_empty n.other n.is_other in
    let r : numbered (ledger s v) clause ≡ Some n.whole = ap (numbered (ledger s v)) q.1 ∙ y.found n.clause n.whole n.is_whole in
    let belongs : node ≡ owner v line.stated.deps inner = n.belongs ∙ (ap (owner past line.stated.deps) (sym q.0) ∙ sym (y.owners line.stated.deps inner)) in
    let above = λ (b : Branch) (h : branch v at ≡ Some b). (let same : Some b ≡ Some (branch_to inner clause t.side) = sym h ∙ t.here.hangs in let z : b ≡ branch_to inner clause t.side = cc in ap (λ x. x.parent) z) in
    let unended = y.unended at_some in (
      inner,
      elim t.order [
        | inl o ↦
            let is : line ≡ case_line clause n.whole.stated.deps number y.line.stated.deps n.twin_empty n.other.stated.deps =
            n.is_line ∙ (cond-true (at % 2 == 1) (case_line n.clause n.whole.stated.deps number deps n.twin_empty n.other.stated.deps) (case_line n.clause n.whole.stated.deps n.twin_empty n.other.stated.deps number deps) o.2
            ∙ (ap (λ c. case_line c n.whole.stated.deps number deps n.twin_empty n.other.stated.deps) (sym q.1) ∙ ap (λ d. case_line clause n.whole.stated.deps number d n.twin_empty n.other.stated.deps) y.depends)) in
            due_from s v y.legal w at some worker unended inner clause at twin number n.twin_empty
            (record {
              there = omega arith;
              live = live;
              left_child = subst (λ k. IsChild v inner clause k at) o.0 t.here;
              right_child = subst (λ k. IsChild v inner clause k twin) o.1 t.there;
              first_left = first;
              first_right = second;
            }) n.whole y.line n.other r e f line is node belongs low above
        | inr o ↦
            let is : line ≡ case_line clause n.whole.stated.deps n.twin_empty n.other.stated.deps number y.line.stated.deps =
            n.is_line ∙ (cond-false (at % 2 == 1) (case_line n.clause n.whole.stated.deps number deps n.twin_empty n.other.stated.deps) (case_line n.clause n.whole.stated.deps n.twin_empty n.other.stated.deps number deps) o.2
            ∙ (ap (λ c. case_line c n.whole.stated.deps n.twin_empty n.other.stated.deps number deps) (sym q.1) ∙ ap (λ d. case_line clause n.whole.stated.deps n.twin_empty n.other.stated.deps number d) y.depends)) in
            due_from s v y.legal w at some worker unended inner clause twin at n.twin_empty number
            (record {
              there = omega arith;
              live = live;
              left_child = subst (λ k. IsChild v inner clause k twin) o.1 t.there;
              right_child = subst (λ k. IsChild v inner clause k at) o.0 t.here;
              first_left = second;
              first_right = first;
            }) n.whole n.other y.line r f e line is node belongs low above
      ],
    )

pub next_on_the_way : (s : Setting) (past v : List Entry) (w at number : ℕ) (deps : List Assumption) → IsOnTheWay s past v w at number deps → 0 < at → (node : ℕ) (line : Line) (inner : ℕ) → IsDue s v w at node line inner
    → IsOnTheWay s past (with_line w node line v) w node (number + 1) line.stated.deps
next_on_the_way s past v w at number deps y at_some node line inner d =
    let u = with_line w node line v in
    let unended = y.unended at_some in
    let at_there = y.there in
    let count = y.count in
    let low = d.low in
    let node_there : node < nodes v = omega arith in
    let k = climbs s v y.legal at at_some y.there in
    let up : k.up.parent ≡ inner = d.above k.up k.hangs in
    let at_node : on_path v at node ≡ true = k.goes node ∙ or_right (eqb node at) (on_path v k.up.parent node) (ap (λ x. on_path v x node) up ∙ d.on) in
    record {
      legal = (d.legal, y.legal);
      line = line;
      before = v;
      is = refl;
      last = ap (λ x. x + 1) y.last ∙ sym (length-append (ledger s v) (line ∷ []));
      empty = d.empty;
      depends = refl;
      there = omega arith;
      count = omega arith;
      hangs = y.hangs;
      owners = y.owners;
      found = λ i l h. numbered_more (ledger s v) (line ∷ []) i l (y.found i l h);
      outside = λ m i there off.
          let m_there : m < nodes v = omega arith in
          let not_node : on_path v m node ≡ false = false_from_ne_true (on_path v m node) (λ t. false≢true (sym off ∙ or_right (eqb node m) (on_path v m node) t)) in
          let not_at : on_path v m at ≡ false = false_from_ne_true (on_path v m at) (λ t. false≢true (sym not_node ∙ on_path_trans s v y.legal m at node m_there t at_node)) in
          listed_apart s v w node line m i not_node ∙ y.outside m i there not_at;
      settled = λ m there other leaf. elim (cases_Bool (eqb inner m)) [
        | inl same ↦ λ live. absurd (live (steps s v + 1, new_empty s v w node line m d.empty (ap (λ x. on_path v x node) (sym (eqb-true inner m same)) ∙ d.on)))
        | inr apart ↦ settled_after s v y.legal w node line m (omega arith) d.empty other
            (y.settled m (omega arith) (λ b h q. eqb-false inner m apart (sym (d.above b h) ∙ q)) leaf)
      ];
      unended = λ some. still_open s v w node line (d.legal, y.legal) some node_there unended;
      ended = open_or_proved w node line v unended;
    }

-- ---- the end of the way

pub root_settled : (s : Setting) (past v : List Entry) (w at number : ℕ) (deps : List Assumption) → IsOnTheWay s past v w at number deps → at ≡ 0 → IsSettled s v
root_settled s past v w at number deps y z m there inner live =
    y.settled m there (λ b h q. (let bad : None ≡ Some b = sym (branch_root v) ∙ (ap (branch v) (sym z) ∙ h) in cc)) inner live

pub twin_settled : (s : Setting) (past v : List Entry) (w at number : ℕ) (deps : List Assumption) → IsLegalJournal s past → IsOnTheWay s past v w at number deps → 0 < at → IsLive s past (twin_of at) → IsSettled s v
twin_settled s past v w at number deps legal y some alive m there inner live =
    let t = twin_at s v y.legal at some y.there in
    let twin = twin_of at in
    let off = twin_off s v y.legal t.inner t.clause t.clause t.side t.other at twin t.here t.there t.apart t.some in
    let twin_there : twin < nodes past = (let z = t.there.there in let c = y.count in omega arith) in
    elim (cases_Bool (eqb t.inner m)) [
      | inl same ↦ record {
        clause = t.clause;
        side = t.other;
        child = twin;
        is = subst (λ x. IsChild v x t.clause t.other twin) (eqb-true t.inner m same) t.there;
        live = λ dead. alive (dead.0, empty_outside s past v w at number deps legal y twin dead.0 twin_there off dead.1);
      }
      | inr apart ↦ y.settled m there
          (λ b h q. (let e : Some b ≡ Some (branch_to t.inner t.clause t.side) = sym h ∙ t.here.hangs in let z : b ≡ branch_to t.inner t.clause t.side = cc in eqb-false t.inner m apart (ap (λ x. x.parent) (sym z) ∙ q)))
          inner live
    ]

-- ---- the events

pub appended_more : (w : ℕ) (evs : List Event) (ev : Event) (past : List Entry) → appended w (evs ++ ev ∷ []) past ≡ record { by = w; event = ev } ∷ appended w evs past
appended_more w [] ev past = refl
appended_more w (x ∷ evs) ev past = appended_more w evs ev (record { by = w; event = x } ∷ past)

-- what was legal before all of these events were appended
pub appended_legal : (s : Setting) (w : ℕ) (evs : List Event) (past : List Entry) → IsLegalJournal s (appended w evs past) → IsLegalJournal s past
appended_legal s w [] past h = h
appended_legal s w (ev ∷ evs) past h = (appended_legal s w evs (record { by = w; event = ev } ∷ past) h).1

-- ---- what the table reads

pub twin_there : (s : Setting) (past : List Entry) → IsLegalJournal s past → (at : ℕ) → 0 < at → at < nodes past → twin_of at < nodes past
twin_there s past legal at some there = (twin_at s past legal at some there).there.there

pub parent_read : (s : Setting) (past : List Entry) → IsLegalJournal s past → (at inner clause : ℕ) → 0 < at → at < nodes past → ((b : Branch) → branch past at ≡ Some b → (b.parent ≡ inner) × (b.assumed.split ≡ clause)) → (inner < nodes past) × ((1 ≤ clause) × (clause ≤ steps s past))
parent_read s past legal at inner clause some there above =
    let k = climbs s past legal at some there in
    let q = above k.up k.hangs in
    let r = split_listed s past legal at k.up there k.hangs in
    let w = listed_within s past legal k.up.parent k.up.assumed.split r.1 in
    (omega (arith, q.0, r.0), (omega (arith, q.1, w.0), omega (arith, q.1, w.1)))

pub line_there : (s : Setting) (past : List Entry) (n : ℕ) → (1 ≤ n) × (n ≤ steps s past) → (l : Line) × (numbered (ledger s past) n ≡ Some l)
line_there s past n h = let l = get-there (ledger s past) (n - 1) (omega (arith, h.0, h.1)) in (l.0, numbered_get (ledger s past) n h.0 ∙ l.1)

pub next_event : (s : Setting) (past : List Entry) → IsLegalJournal s past → (at number inner clause twin twin_empty node : ℕ) (deps more : List Assumption) (line : Line) (ev : Event) → 0 < at → at < nodes past
    → ((b : Branch) → branch past at ≡ Some b → (b.parent ≡ inner) × (b.assumed.split ≡ clause)) → twin ≡ twin_of at → IsFirstEmpty s past twin twin_empty
    → ((whole other : Line) → numbered (ledger s past) clause ≡ Some whole → numbered (ledger s past) twin_empty ≡ Some other → line ≡ sided_line at clause whole.stated.deps number deps twin_empty other.stated.deps)
    → more ≡ line.stated.deps → node ≡ owner past more inner → ev ≡ Publish (owner past line.stated.deps inner) (line ∷ []) false → IsNextEvent s past at number deps node more ev
next_event s past legal at number inner clause twin twin_empty node deps more line ev some there above z first lines depends owned is =
    let w = parent_read s past legal at inner clause some there above in
    let whole = line_there s past clause w.1 in
    let other = line_there s past twin_empty (listed_within s past legal twin twin_empty first.empty.lists) in
    let belongs = owned ∙ ap (λ d. owner past d inner) depends in
    record {
      line = line;
      next = record {
        inner = inner;
        clause = clause;
        above = above;
        twin_empty = twin_empty;
        first = subst (λ t. IsFirstEmpty s past t twin_empty) z first;
        whole = whole.0;
        is_whole = whole.1;
        other = other.0;
        is_other = other.1;
        is_line = lines whole.0 other.0 whole.1 other.1;
        belongs = belongs;
      };
      is = is ∙ ap (λ n. Publish n (line ∷ []) false) (sym belongs);
      depends = depends;
    }

-- ---- the plan

-- the events planned so far
pub record IsPlanned (s : Setting) (past : List Entry) (w : ℕ) (first : Event) (evs : List Event) (at number : ℕ) (deps : List Assumption) : Type 0 where
  pub way : IsOnTheWay s past (appended w evs past) w at number deps
  pub closes : OnlyCloses w (record { by = w; event = first } ∷ past) (appended w evs past)
  pub each : (k : ℕ) (ev : Event) → slice_get evs k ≡ Some ev → IsOneLine ev
  pub few : length evs + at ≤ nodes past

last_one_line : (evs : List Event) (ev : Event) → ((k : ℕ) (x : Event) → slice_get evs k ≡ Some x → IsOneLine x) → IsOneLine ev → (k : ℕ) (x : Event) → slice_get (evs ++ ev ∷ []) k ≡ Some x → IsOneLine x
last_one_line [] ev each one zero x h = let q : ev ≡ x = cc in subst IsOneLine q one
last_one_line [] ev each one (suc k) x h = cc
last_one_line (y ∷ evs) ev each one zero x h = each zero x h
last_one_line (y ∷ evs) ev each one (suc k) x h = last_one_line evs ev (λ j z g. each (suc j) z g) one k x h

pub plan_more : (s : Setting) (past : List Entry) → IsLegalJournal s past → (w : ℕ) (first : Event) (evs : List Event) (at number : ℕ) (deps : List Assumption) → 1 ≤ w → w ≤ s.workers → IsPlanned s past w first evs at number deps → 0 < at
    → (node : ℕ) (more : List Assumption) (ev : Event) → IsNextEvent s past at number deps node more ev → (evs' : List Event) → evs' ≡ evs ++ ev ∷ [] → IsPlanned s past w first evs' node (number + 1) more
plan_more s past legal w first evs at number deps some worker y at_some node more ev n evs' is =
    let v = appended w evs past in
    let due = next_due s past v w at number deps legal some worker y.way at_some node n.line n.next in
    let d = due.1 in
    let after = next_on_the_way s past v w at number deps y.way at_some node n.line due.0 d in
    let e : Entry = record { by = w; event = Publish node (n.line ∷ []) false } in
    let grown : appended w evs' past ≡ with_line w node n.line v = ap (λ x. appended w x past) is ∙ (appended_more w evs ev past ∙ ap (λ x. (let z : Entry = record { by = w; event = x } in z) ∷ v) n.is) in
    let one : OnlyCloses w v (with_line w node n.line v) = record { added = e ∷ []; each = one_entry w node n.line d.rule; is = refl } in
    let here : IsOneLine ev = record { node = node; line = n.line; is = n.is } in
    let low = d.low in
    let few = y.few in
    record {
      way = subst (λ x. IsOnTheWay s past x w node (number + 1) more) (sym grown) (subst (λ x. IsOnTheWay s past (with_line w node n.line v) w node (number + 1) x) (sym n.depends) after);
      closes = closes_trans w (record { by = w; event = first } ∷ past) v (appended w evs' past) y.closes (subst (OnlyCloses w v) (sym grown) one);
      each = λ k x h. last_one_line evs ev y.each here k x (ap (λ t. slice_get t k) (sym is) ∙ h);
      few = omega (arith, ap length is, length-append evs (ev ∷ []));
    }

one_line_each : (ev : Event) → IsOneLine ev → (k : ℕ) (x : Event) → slice_get (ev ∷ []) k ≡ Some x → IsOneLine x
one_line_each ev one zero x h = let q : ev ≡ x = cc in subst IsOneLine q one
one_line_each ev one (suc k) x h = cc

-- the first event alone
pub plan_start : (s : Setting) (past : List Entry) (w node : ℕ) (chain : List Line) (line : Line) → IsLegalJournal s past → IsLegal s past w (Publish node chain false) → IsSettled s past → chain ≡ line ∷ [] → node < nodes past → is_empty line.stated.clause ≡ true
    → (evs : List Event) → evs ≡ Publish node chain false ∷ [] → (deps : List Assumption) → deps ≡ line.stated.deps → IsPlanned s past w (Publish node chain false) evs node (steps s past + 1) deps
plan_start s past w node chain line legal now settled one there empty evs is deps same =
    let one_now = subst (λ x. IsLegal s past w (Publish node x false)) one now in
    let way = on_the_way s past w node line legal one_now there empty settled in
    let grown : appended w evs past ≡ with_line w node line past = ap (λ x. appended w x past) is ∙ ap (λ x. (let z : Entry = record { by = w; event = Publish node x false } in z) ∷ past) one in
    let here : IsOneLine (Publish node chain false) = record { node = node; line = line; is = ap (λ x. Publish node x false) one } in
    record {
      way = subst (λ x. IsOnTheWay s past x w node (steps s past + 1) deps) (sym grown) (subst (λ x. IsOnTheWay s past (with_line w node line past) w node (steps s past + 1) x) (sym same) way);
      closes = record { added = []; each = λ k e h. (cc); is = ap (λ x. appended w x past) is };
      each = λ k x h. one_line_each (Publish node chain false) here k x (ap (λ t. slice_get t k) (sym is) ∙ h);
      few = omega (arith, ap length is);
    }

pub plan_done : (s : Setting) (past : List Entry) (w : ℕ) (first : Event) (evs : List Event) (at number : ℕ) (deps : List Assumption) → IsPlanned s past w first evs at number deps → IsSettled s (appended w evs past) → IsPlan s past w first evs
plan_done s past w first evs at number deps y settled = let few = y.few in record {
  legal = y.way.legal;
  few = omega arith;
  each = y.each;
  closes = y.closes;
  settled = settled;
  ended = y.way.ended;
}

-- ---- one event appended

pub cost_one : (past : List Entry) (w : ℕ) (ev : Event) → IsOneLine ev → cost_of past w ev ≡ 1
cost_one past w ev one = ap (cost_of past w) one.is

pub lines_one : (ev : Event) → IsOneLine ev → length (lines_of ev) ≡ 1
lines_one ev one = ap (λ x. length (lines_of x)) one.is

-- ---- the loop that plans

-- the step that was found, or that the other child is live
pub next_of : (s : Setting) (past : List Entry) (at number : ℕ) (deps : List Assumption) (o : Option Next) (x : Next) → MatchOption o (IsLive s past (twin_of at)) (λ n. IsNextEvent s past at number deps n.node n.deps n.event) → o ≡ Some x → IsNextEvent s past at number deps x.node x.deps x.event
next_of s past at number deps o x h is = subst (λ y. MatchOption y (IsLive s past (twin_of at)) (λ n. IsNextEvent s past at number deps n.node n.deps n.event)) is h

pub none_due : (s : Setting) (past : List Entry) (at number : ℕ) (deps : List Assumption) (o : Option Next) → MatchOption o (IsLive s past (twin_of at)) (λ n. IsNextEvent s past at number deps n.node n.deps n.event) → o ≡ None → IsLive s past (twin_of at)
none_due s past at number deps o h is = subst (λ y. MatchOption y (IsLive s past (twin_of at)) (λ n. IsNextEvent s past at number deps n.node n.deps n.event)) is h

pub plan_first : (s : Setting) (past : List Entry) (w node : ℕ) (chain : List Line) (l : Line) → IsLegalJournal s past → IsLegal s past w (Publish node chain false) → IsSettled s past → slice_get chain 0 ≡ Some l → IsSomeAnd (last_line chain) (λ x. is_empty x.stated.clause ≡ true)
    → (evs : List Event) → evs ≡ Publish node chain false ∷ [] → (deps : List Assumption) → deps ≡ l.stated.deps → (number : ℕ) → number ≡ steps s past + 1 → IsPlanned s past w (Publish node chain false) evs node number deps
plan_first s past w node chain l legal now settled head empty evs is deps same number n =
    let p = now.asked.asked in
    let one = p.one in
    let got : Some p.line ≡ Some l = ap (λ xs. slice_get xs 0) (sym one) ∙ head in
    let q : p.line ≡ l = cc in
    let there = publish_there s past legal w node chain false p in
    let void : is_empty p.line.stated.clause ≡ true = subst (λ xs. IsSomeAnd (last_line xs) (λ x. is_empty x.stated.clause ≡ true)) one empty in
    subst (λ k. IsPlanned s past w (Publish node chain false) evs node k deps) (sym n)
    (plan_start s past w node chain p.line legal now settled one there void evs is deps (same ∙ ap (λ x. x.stated.deps) (sym q)))

pub next_low : (s : Setting) (past : List Entry) → IsLegalJournal s past → (w : ℕ) (first : Event) (evs : List Event) (at number : ℕ) (deps : List Assumption) → 1 ≤ w → w ≤ s.workers → IsPlanned s past w first evs at number deps → 0 < at
    → (node : ℕ) (more : List Assumption) (ev : Event) → IsNextEvent s past at number deps node more ev → node < at
next_low s past legal w first evs at number deps some worker y at_some node more ev n =
    (next_due s past (appended w evs past) w at number deps legal some worker y.way at_some node n.line n.next).1.low
