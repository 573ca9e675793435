-- A view after an event is the one that the longer journal says.
use Rattle.std.specs.Prelude.{slice_get, reverse}
use Rattle.std.proofs.Common.{◌≡◌, ◌⊎◌, ℕ, ◌+◌, ◌<◌, ◌≤◌, ◌^◌, inl, inr, true, false, cond, eqb, leb, List, [], ◌∷◌, ◌++◌, length, Some, refl, sym, ◌∙◌, ap, subst, arith, eq-eqb, append_assoc, length-append}
use Rattle.std.proofs.lemmas.Bool.{ne_eqb, cases_Bool, cases_lt, cond-true, cond-false, false≢true, leb-true, le-leb}
use Rattle.dep_sets.specs.declared.deps.Assumption.{Assumption}
use Rattle.proof_steps.specs.declared.step.Line.{Line}
use Rattle.proof_steps.specs.Steps.{side_of}
use Rattle.std.proofs.lemmas.List.{append-nil, reverse-append, length-reverse}
use Rattle.case_journal.specs.ListLaws.{get_right}
use Rattle.case_journal.specs.declared.event.Entry.{Entry}
use Rattle.case_journal.specs.declared.event.Event.{Event}
use Rattle.case_journal.specs.declared.event.Event.TheVariants.{Split}
use Rattle.case_journal.specs.Journal.{Setting, ledger, nodes, nodes_of, steps, lines_of}
use Rattle.case_journal.specs.Paths.{stem, subject}
use Rattle.case_journal.specs.Facts.{lists}
use Rattle.case_journal.specs.Legal.{IsAsked, IsLegalJournal}
use Rattle.case_journal.specs.PlaceLaws.{claimed_within, stem_there}
use Rattle.case_view.specs.declared.kept.Case.{Case}
use Rattle.case_view.specs.Views.{kept_lines, IsRising, path_by, path_nodes, sides_by, path_sides, given_at, worked_at, listed_at, IsCaseOf, GoesOn}
use Rattle.case_view.specs.Walks.{hung, is_among, count_with, node_after, side_into, nodes_into, sides_into, given_by, worked_with, noted_at, with_event, IsNotable, IsWay, Reaches}
use Rattle.case_view.proofs.PathSteps.{count_is, nodes_grow, hung_old, hung_first, hung_there, enters, path_rises}
use Rattle.case_view.proofs.ListSteps.{listed_step, given_step, worked_step, choice_within}

-- ---- the path

nodes_step : (ev : Event) (count b : ℕ) (above : List ℕ) → stem ev count b < count → nodes_into (stem ev count b) b above ≡ path_by ev count b above
nodes_step (Split node lines put_off) count b above low = elim (cases_Bool (leb count b)) [
  | inl new ↦
      let at : cond (leb count b) node b ≡ node = cond-true (leb count b) node b new in
      cond-false (eqb b (cond (leb count b) node b)) above (above ++ b ∷ []) (ne_eqb b (cond (leb count b) node b) (λ q. omega (arith, q, low, leb-true count b new)))
      ∙ sym (cond-true (leb count b) (above ++ b ∷ []) above new)
  | inr old ↦
      cond-true (eqb b (cond (leb count b) node b)) above (above ++ b ∷ []) (eq-eqb b (cond (leb count b) node b) (sym (cond-false (leb count b) node b old)))
      ∙ sym (cond-false (leb count b) (above ++ b ∷ []) above old)
]
nodes_step _ count b above low = cond-true (eqb b b) above (above ++ b ∷ []) (eq-eqb b b refl)

below : (b count : ℕ) → leb count b ≡ false → b < count
below b count old = elim (cases_lt b count) [
  | inl low ↦ low
  | inr high ↦ absurd (false≢true (sym old ∙ le-leb count b high))
]

next_to : (b count : ℕ) → count ≤ b → b < count + 2 → eqb b count ≡ false → b ≡ count + 1
next_to b count le there other = elim (cases_lt b (count + 1)) [
  | inl low ↦ absurd (false≢true (sym other ∙ eq-eqb b count (omega (arith, low, le))))
  | inr high ↦ omega (arith, high, there)
]

-- the node hung where it does, or is one of the two that the event makes
sides_step : (ev : Event) (count b : ℕ) (above : List Assumption) → stem ev count b < count → b < count + nodes_of ev → sides_into (stem ev count b) b count (lines_of ev) above ≡ sides_by ev count b above
sides_step (Split node lines put_off) count b above low there = elim (cases_Bool (leb count b)) [
  | inl new ↦
      let le = leb-true count b new in
      cond-false (eqb b (cond (leb count b) node b)) above (above ++ side_into lines count b ∷ []) (ne_eqb b (cond (leb count b) node b) (λ q. omega (arith, q, low, le)))
      ∙ elim (cases_Bool (eqb b count)) [
        | inl left ↦
            ap (λ x. above ++ x ∷ []) (cond-true (eqb b count) (side_of (subject lines) 1) (side_of (subject lines) 2) left)
            ∙ sym (cond-true (eqb b count) (above ++ side_of (subject lines) 1 ∷ []) (cond (eqb b (count + 1)) (above ++ side_of (subject lines) 2 ∷ []) above) left)
        | inr right ↦
            let is : eqb b (count + 1) ≡ true = eq-eqb b (count + 1) (next_to b count le there right) in
            ap (λ x. above ++ x ∷ []) (cond-false (eqb b count) (side_of (subject lines) 1) (side_of (subject lines) 2) right)
            ∙ (sym (cond-true (eqb b (count + 1)) (above ++ side_of (subject lines) 2 ∷ []) above is)
            ∙ sym (cond-false (eqb b count) (above ++ side_of (subject lines) 1 ∷ []) (cond (eqb b (count + 1)) (above ++ side_of (subject lines) 2 ∷ []) above) right))
      ]
  | inr old ↦
      let less : b < count = below b count old in
      cond-true (eqb b (cond (leb count b) node b)) above (above ++ side_into lines count b ∷ []) (eq-eqb b (cond (leb count b) node b) (sym (cond-false (leb count b) node b old)))
      ∙ (sym (cond-false (eqb b (count + 1)) (above ++ side_of (subject lines) 2 ∷ []) above (ne_eqb b (count + 1) (λ q. omega (arith, q, less))))
      ∙ sym (cond-false (eqb b count) (above ++ side_of (subject lines) 1 ∷ []) (cond (eqb b (count + 1)) (above ++ side_of (subject lines) 2 ∷ []) above) (ne_eqb b count (λ q. omega (arith, q, less)))))
]
sides_step ev count b above low there = cond-true (eqb b b) above (above ++ side_into (lines_of ev) count b ∷ []) (eq-eqb b b refl)

-- ---- one event

pub case_step : (s : Setting) (past : List Entry) → IsLegalJournal s past → (e : Entry) → IsAsked s past e.by e.event → (v : Case) → IsCaseOf s past v → (b : ℕ) → v.node ≡ stem e.event (nodes past) b → b < nodes (e ∷ past)
    → (full more : List Line) → full ≡ ledger s past ++ more → IsCaseOf s (e ∷ past) (noted_at full e.event b v)
case_step s past legal e asked v h b at there full more is =
    let ev = e.event in
    let count = nodes past in
    let a = stem ev count b in
    let low : a < count = stem_there s past legal e.by ev b asked there in
    let counts : count_with v.splits ≡ count = ap count_with h.splits ∙ sym (count_is past) in
    let path : v.nodes ≡ path_nodes past a = h.nodes ∙ ap (path_nodes past) at in
    let lines = lines_of ev in
    record {
      events = omega (arith, h.events);
      base = omega (arith, h.base, length-append (ledger s past) lines);
      splits = omega (arith, h.splits);
      nodes =
          ap (λ x. nodes_into x b v.nodes) at
          ∙ (ap (nodes_into a b) path ∙ nodes_step ev count b (path_nodes past a) low);
      path =
          ap (λ x. sides_into x b (count_with v.splits) lines v.path) at
          ∙ (ap (λ c. sides_into a b c lines v.path) counts
          ∙ (ap (sides_into a b count lines) (h.path ∙ ap (path_sides past) at) ∙ sides_step ev count b (path_sides past a) low there));
      given =
          ap (λ x. given_by ev full x b v.given) at
          ∙ (ap (given_by ev full a b) (h.given ∙ ap (given_at s past) at) ∙ given_step s past legal e.by ev asked b full more is);
      worked =
          ap (λ x. worked_with ev x v.given v.worked) at
          ∙ (ap (λ g. worked_with ev a g v.worked) (h.given ∙ ap (given_at s past) at)
          ∙ (ap (worked_with ev a (given_at s past a)) (h.worked ∙ ap (worked_at s past) at) ∙ worked_step s past legal e.by ev asked a low));
      listed =
          ap (λ ks. ks ++ kept_lines (lists ev (count_with v.splits) v.base (is_among v.nodes) b) (v.base + 1) lines) (h.listed ∙ ap (listed_at s past) at)
          ∙ (ap (λ c. listed_at s past a ++ kept_lines (lists ev c v.base (is_among v.nodes) b) (v.base + 1) lines) counts
          ∙ (ap (λ n. listed_at s past a ++ kept_lines (lists ev count n (is_among v.nodes) b) (n + 1) lines) h.base
          ∙ sym (listed_step s past legal e asked b v.nodes path)));
    }

-- ---- the events of a journal in order

snoc : {A : Type 0} (xs : List A) → (xs ≡ []) ⊎ ((front : List A) × (x : A) × (xs ≡ front ++ x ∷ []))
snoc [] = inl refl
snoc (x ∷ xs) = elim (snoc xs) [
  | inl none ↦ inr ([], x, ap (λ ys. x ∷ ys) none)
  | inr some ↦ inr (x ∷ some.0, some.1, ap (λ ys. x ∷ ys) some.2)
]

next_is : {A : Type 0} (front : List A) (x : A) (start : List A) → slice_get (reverse ((front ++ x ∷ []) ++ start)) (length start) ≡ Some x
next_is front x start =
    ap (λ xs. slice_get xs (length start)) (reverse-append (front ++ x ∷ []) start ∙ ap (λ xs. reverse start ++ xs) (reverse-append front (x ∷ [])))
    ∙ (ap (slice_get (reverse start ++ x ∷ reverse front)) (omega (arith, length-reverse start))
    ∙ get_right (reverse start) (x ∷ reverse front) 0)

-- the next event in order is the last of the later ones
next_event : {A : Type 0} (past later start : List A) (e : A) → past ≡ later ++ start → length start < length past → slice_get (reverse past) (length start) ≡ Some e → (front : List A) × (later ≡ front ++ e ∷ [])
next_event past later start e is low at = elim (snoc later) [
  | inl none ↦ absurd (omega (arith, low, ap length (is ∙ ap (λ xs. xs ++ start) none)))
  | inr (front, x, some) ↦
      let found = next_is front x start in
      let same : Some x ≡ Some e = sym (ap (λ xs. slice_get (reverse xs) (length start)) (is ∙ ap (λ xs. xs ++ start) some) ∙ found) ∙ at in
      (front, some ∙ ap (λ y. front ++ y ∷ []) cc)
]

-- ---- one event of the walk

pub legal_tail : (s : Setting) (later past : List Entry) → IsLegalJournal s (later ++ past) → IsLegalJournal s past
legal_tail s [] past legal = legal
legal_tail s (e ∷ later) past legal = legal_tail s later past legal.1

ledger_more : (s : Setting) (later past : List Entry) → (more : List Line) × (ledger s (later ++ past) ≡ ledger s past ++ more)
ledger_more s [] past = ([], sym (append-nil (ledger s past)))
ledger_more s (e ∷ later) past =
    let r = ledger_more s later past in
    (r.0 ++ lines_of e.event, ap (λ ls. ls ++ lines_of e.event) r.1 ∙ append_assoc (ledger s past) r.0 (lines_of e.event))

-- the event at hand, where the view has come to it
pub record IsNext (s : Setting) (past : List Entry) (m : ℕ) (way : List ℕ) (at : ℕ) (v : Case) (e : Entry) : Type 0 where
  pub start : List Entry
  pub front : List Entry
  pub more : past ≡ front ++ e ∷ start
  pub count : length start ≡ at
  pub is : IsCaseOf s start v
  pub node : v.node ≡ stem e.event (nodes start) (hung front (e ∷ start) m)
  pub goes : IsWay past start m way

pub next_of : (s : Setting) (past : List Entry) (m : ℕ) (goal : List ℕ) (at : ℕ) (v : Case) (e : Entry) → Reaches s past m goal at v → at < length past → slice_get (reverse past) at ≡ Some e → IsNext s past m goal at v e
next_of s past m goal at v e h low found =
    let r = next_event past h.later h.start e h.more (omega (arith, h.count, low)) (ap (slice_get (reverse past)) h.count ∙ found) in
    record {
      start = h.start;
      front = r.0;
      more = h.more ∙ (ap (λ ls. ls ++ h.start) r.1 ∙ append_assoc r.0 (e ∷ []) h.start);
      count = h.count;
      is = h.is;
      node = h.node ∙ (ap (λ ls. hung ls h.start m) r.1 ∙ hung_first r.0 e h.start m);
      goes = h.goes;
    }

pub walk_step : (s : Setting) (past : List Entry) → IsLegalJournal s past → (m : ℕ) → m < nodes past → (goal : List ℕ) (at : ℕ) (v : Case) (e : Entry) → IsNext s past m goal at v e
    → Reaches s past m goal (at + 1) (with_event (ledger s past) e.event (slice_get goal (length v.nodes)) v)
walk_step s past legal m there goal at v e h =
    let start = h.start in
    let b = hung h.front (e ∷ start) m in
    let here : IsLegalJournal s (e ∷ start) = legal_tail s h.front (e ∷ start) (subst (IsLegalJournal s) h.more legal) in
    let low : b < nodes (e ∷ start) = hung_there s h.front (e ∷ start) (subst (IsLegalJournal s) h.more legal) m (subst (λ p. m < nodes p) h.more there) in
    let counts : count_with v.splits ≡ nodes start = ap count_with h.is.splits ∙ sym (count_is start) in
    let into : node_after e.event (count_with v.splits) (slice_get goal (length v.nodes)) v.node ≡ b =
    ap (λ c. node_after e.event c (slice_get goal (length v.nodes)) v.node) counts
    ∙ (ap (node_after e.event (nodes start) (slice_get goal (length v.nodes))) h.node
    ∙ enters s past start h.front e m goal v.nodes legal there h.more h.goes (h.is.nodes ∙ ap (path_nodes start) h.node)) in
    let full = ledger_more s (h.front ++ e ∷ []) start in
    let whole : ledger s past ≡ ledger s start ++ full.0 = ap (ledger s) (h.more ∙ sym (append_assoc h.front (e ∷ []) start)) ∙ full.1 in
    record {
      start = e ∷ start;
      later = h.front;
      more = h.more;
      count = omega (arith, h.count);
      is = subst (λ x. IsCaseOf s (e ∷ start) (noted_at (ledger s past) e.event x v)) (sym into) (case_step s start here.1 e here.0.asked v h.is b h.node low (ledger s past) full.0 whole);
      node = into;
      goes = elim h.goes [ inl all ↦ inl all | inr old ↦ inr (old.0, omega (arith, old.1)) ];
    }

-- the event may be noted
pub notable : (s : Setting) (past : List Entry) → IsLegalJournal s past → nodes past < 2 ^ 32 → steps s past + 1 < 2 ^ 32 → (m : ℕ) → m < nodes past → (goal : List ℕ) (at : ℕ) → at + 1 < 2 ^ 64 → (v : Case) (e : Entry) → IsNext s past m goal at v e
    → IsNotable (ledger s past) e.event v
notable s past legal few short m there goal at fits v e h =
    let start = h.start in
    let here : IsLegalJournal s (e ∷ start) = legal_tail s h.front (e ∷ start) (subst (IsLegalJournal s) h.more legal) in
    let full = ledger_more s h.front (e ∷ start) in
    let whole : ledger s past ≡ (ledger s start ++ lines_of e.event) ++ full.0 = ap (ledger s) h.more ∙ full.1 in
    let sum = length-append (ledger s start ++ lines_of e.event) full.0 in
    let part = length-append (ledger s start) (lines_of e.event) in
    let low = hung_there s h.front (e ∷ start) (subst (IsLegalJournal s) h.more legal) m (subst (λ p. m < nodes p) h.more there) in
    let counts : count_with v.splits ≡ nodes start = ap count_with h.is.splits ∙ sym (count_is start) in
    let low_end : nodes start + nodes_of e.event ≤ nodes past = subst (λ p. nodes start + nodes_of e.event ≤ nodes p) (sym h.more) (nodes_grow h.front (e ∷ start)) in
    record {
      steps = omega (arith, h.is.base, short, ap length whole, sum, part);
      nodes = omega (arith, counts, few, low_end);
      events = omega (arith, h.is.events, h.count, fits);
      chosen = λ node clause selected is.
          let r = choice_within s start here.1 e.by node clause selected (subst (IsAsked s start e.by) is here.0.asked) in
          (r.0, omega (arith, r.1, ap length whole, sum, part));
      rises = subst IsRising (sym (h.is.nodes ∙ ap (path_nodes start) h.node)) (path_rises s start here.1 (stem e.event (nodes start) (hung h.front (e ∷ start) m)) (stem_there s start here.1 e.by e.event (hung h.front (e ∷ start) m) here.0.asked low));
    }

-- ---- where the walk begins and ends

append_none : (past : List Entry) → past ≡ past ++ []
append_none past = sym (append-nil past)

-- before the first event the view is that of the root
pub begins : (s : Setting) (past : List Entry) → IsLegalJournal s past → (m : ℕ) → m < nodes past → (goal : List ℕ) → goal ≡ path_nodes past m → (v : Case) → IsCaseOf s [] v → v.node ≡ 0 → Reaches s past m goal v.events v
begins s past legal m there goal whole v is root =
    let low = hung_there s past [] (subst (IsLegalJournal s) (append_none past) legal) m (subst (λ p. m < nodes p) (append_none past) there) in
    record {
      start = [];
      later = past;
      more = append_none past;
      count = sym is.events;
      is = is;
      node = omega (arith, root, low);
      goes = inl whole;
    }

-- where the view is that of the leaf already, it goes on from there
pub goes : (s : Setting) (past : List Entry) → IsLegalJournal s past → (v : Case) → GoesOn s past v → Reaches s past v.node [] v.events v
goes s past legal v h =
    let before = legal_tail s h.later h.start (subst (IsLegalJournal s) h.more legal) in
    let low = claimed_within s h.start before v.worker v.node h.stands.holds.claims in
    record {
      start = h.start;
      later = h.later;
      more = h.more;
      count = sym h.stands.is.events;
      is = h.stands.is;
      node = sym (hung_old h.later h.start v.node low);
      goes = inr (refl, low);
    }

-- after the last event it is that of the whole journal
pub arrives : (s : Setting) (past : List Entry) (m : ℕ) (goal : List ℕ) (at : ℕ) (v : Case) → Reaches s past m goal at v → length past ≤ at → IsCaseOf s past v × (v.node ≡ m)
arrives s past m goal at v h far = by_later h.later h.more h.node
  where
    by_later : (later : List Entry) → past ≡ later ++ h.start → v.node ≡ hung later h.start m → IsCaseOf s past v × (v.node ≡ m)
    by_later [] more node = (subst (λ p. IsCaseOf s p v) (sym more) h.is, node)
    by_later (e ∷ later) more node = absurd (omega (arith, far, h.count, ap length more, length-append later h.start))
