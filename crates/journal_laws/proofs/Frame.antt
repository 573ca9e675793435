-- What a held leaf keeps: an event, and then a list of events.
use Rattle.std.proofs.Common.{◌≡◌, ◌⊎◌, ℕ, zero, suc, ◌+◌, ◌<◌, ◌≤◌, inl, inr, Bool, true, false, not, ◌&&◌, ◌||◌, cond, eqb, List, [], ◌∷◌, ◌++◌, length, Option, Some, None, refl, sym, ◌∙◌, ap, subst, arith, append_assoc, length-append}
use Rattle.std.specs.Prelude.{Contains}
use Rattle.std.proofs.lemmas.Bool.{or_cases, or_right, and_left, eqb-true, ne_eqb, cond-false}
use Rattle.std.proofs.lemmas.List.{append-nil}
use Rattle.spl_terms.specs.declared.clause.Clause.{Clause}
use Rattle.spl_terms.specs.Lists.{numbered}
use Rattle.case_journal.specs.declared.event.Entry.{Entry}
use Rattle.case_journal.specs.declared.event.Event.{Event}
use Rattle.case_journal.specs.declared.event.Event.TheVariants.{Choose, Split, Activate}
use Rattle.case_journal.specs.Journal.{Setting, nodes, ledger, lines_of, steps}
use Rattle.case_journal.specs.Paths.{stem, on_path, is_leaf, splits_node}
use Rattle.case_journal.specs.Facts.{lists, listed, activates, worked, splits_clause, split, chosen, chosen_by, claimed, claimed_by, IsLive, Holds, chooses_at, before_choice, is_number, published_by, published_since}
use Rattle.case_journal.specs.Picking.{choices, choices_by}
use Rattle.case_journal.specs.Legal.{IsAsked, IsLegalJournal, IsListed}
use Rattle.case_journal.specs.PlaceLaws.{claimed_within, lists_new}
use Rattle.case_journal.specs.PathLaws.{or_absorb, on_path-self, stem_old}
use Rattle.case_journal.specs.StandingLaws.{owner_same}
use Rattle.case_journal.specs.DependenceLaws.{listed_after}
use Rattle.case_journal.specs.LedgerLaws.{numbered_more}
use Rattle.journal_laws.specs.Frame.{NoneBy, StillHolds, KeepsLeaf}
use Rattle.journal_laws.proofs.Holders.{live_before, held_apart, held_off_path}

-- ---- one event

-- the event does nothing at the leaf m, and nothing on its path, but that it may list clauses
pub record IsQuietAt (past : List Entry) (ev : Event) (m : ℕ) : Type 0 where
  pub activates : (n : ℕ) → activates ev (chosen past) (on_path past m) n ≡ false
  pub leaves : (o : Option ℕ) → chosen_by ev m o ≡ o
  pub chooses : chooses_at ev m ≡ false
  pub whole : splits_node ev m ≡ false
  pub split : (n : ℕ) → splits_clause ev (on_path past m) n ≡ false
  pub choices : (n : ℕ) → choices_by ev (on_path past m) n ≡ n

-- an event of another worker than the one that holds m
pub others_quiet : (s : Setting) (past : List Entry) → IsLegalJournal s past → (v w m : ℕ) (ev : Event) → IsAsked s past v ev → Holds s past w m → ¬ (v ≡ w) → IsQuietAt past ev m
others_quiet s past legal v w m (Choose node clause selected) p h other =
    let apart = held_apart s past legal v w m node h p.holds other in
    let off = held_off_path s past legal v w m node h p.holds other in
    record { leaves = λ o. cond-false (eqb node m) (Some clause) o apart; chooses = apart; whole = refl; activates = λ n. refl; split = λ n. refl; choices = λ n. cond-false (on_path past m node) (n + 1) n off }
others_quiet s past legal v w m (Activate node) p h other =
    let apart = held_apart s past legal v w m node h p.holds other in
    let off = held_off_path s past legal v w m node h p.holds other in
    record { leaves = λ o. cond-false (eqb node m) None o apart; chooses = refl; whole = refl; activates = λ n. and_left (on_path past m node) (is_number (chosen past node) n) off; split = λ n. refl; choices = λ n. refl }
others_quiet s past legal v w m (Split node lines put_off) p h other =
    let apart = held_apart s past legal v w m node h p.asked.holds other in
    let off = held_off_path s past legal v w m node h p.asked.holds other in
    record { leaves = λ o. refl; chooses = refl; whole = apart; activates = λ n. refl; split = λ n. and_left (on_path past m node) _ off; choices = λ n. refl }
others_quiet s past legal v w m _ p h other = record { leaves = λ o. refl; chooses = refl; whole = refl; activates = λ n. refl; split = λ n. refl; choices = λ n. refl }

-- what the worker w publishes in its round by this event
abbrev pub own_by : ℕ → Entry → List Clause
own_by w e = cond (eqb e.by w) (published_by e.event) []

or_none : (x y : Bool) → x ≡ false → (x || y) ≡ y
or_none true y h = absurd (cc)
or_none false y h = refl

not_false : (b : Bool) → b ≡ false → (not b) ≡ true
not_false true h = absurd (cc)
not_false false h = refl

both_true : (x y : Bool) → x ≡ true → y ≡ true → (x && y) ≡ true
both_true true y a b = b
both_true false y a b = absurd (cc)

same_path : (past : List Entry) (e : Entry) (m n : ℕ) → m < nodes past → on_path (e ∷ past) m n ≡ on_path past m n
same_path past e m n low =
    ap (λ x. eqb n m || on_path past x n) (stem_old e.event (nodes past) m low)
    ∙ or_absorb (eqb n m) (on_path past m n) (λ h. ap (on_path past m) (eqb-true n m h) ∙ on_path-self past m)

old_listed : (s : Setting) (past : List Entry) (e : Entry) → IsAsked s past e.by e.event → (m n : ℕ) → m < nodes past → n ≤ steps s past → listed s (e ∷ past) m n ≡ true → listed s past m n ≡ true
old_listed s past e p m n low few h =
    elim (or_cases (lists e.event (nodes past) (steps s past) (on_path past m) m n) (listed s past (stem e.event (nodes past) m) n) h) [
      | inl new ↦ let b = lists_new s past e.by e.event (nodes past) (on_path past m) m n p new in absurd (omega (arith, b.0))
      | inr old ↦ ap (λ x. listed s past x n) (sym (stem_old e.event (nodes past) m low)) ∙ old
    ]

-- after an event that is quiet at m
pub quiet_keeps : (s : Setting) (past : List Entry) (e : Entry) (w m : ℕ) → IsLegalJournal s past → IsAsked s past e.by e.event → Holds s past w m → IsQuietAt past e.event m → claimed (e ∷ past) w ≡ claimed past w → IsLive s (e ∷ past) m
    → ((c : Clause) → Contains (own_by w e) c → IsListed s (e ∷ past) m c) → StillHolds s past (e ∷ past) w m (own_by w e)
quiet_keeps s past e w m legal asked h quiet claims live own =
    let low = claimed_within s past legal w m h.claims in
    let at = stem_old e.event (nodes past) m low in
    record {
      holds = record { claims = claims ∙ h.claims; leaf = both_true (not (splits_node e.event m)) (is_leaf past m) (not_false (splits_node e.event m) quiet.whole) h.leaf; live = live };
      count = omega arith;
      paths = λ n. same_path past e m n low;
      owners = λ deps. owner_same past e deps m low;
      chosen = quiet.leaves (chosen past m);
      before = cond-false (chooses_at e.event m) past (before_choice past m) quiet.chooses;
      since = cond-false (chooses_at e.event m) [] (own_by w e ++ published_since past w m) quiet.chooses;
      worked = λ n.
          ap (λ x. activates e.event (chosen past) (on_path past x) n || worked past x n) at
          ∙ or_none (activates e.event (chosen past) (on_path past m) n) (worked past m n) (quiet.activates n);
      split = λ n.
          ap (λ x. splits_clause e.event (on_path past x) n || split past x n) at
          ∙ or_none (splits_clause e.event (on_path past m) n) (split past m n) (quiet.split n);
      choices =
          ap (λ x. choices_by e.event (on_path past x) (choices past x)) at
          ∙ quiet.choices (choices past m);
      splits = omega arith;
      lists = λ n on. listed_after s past e m n low on;
      only = λ n few on. old_listed s past e asked m n low few on;
      published = own;
      lines = lines_of e.event;
      ledger = refl;
    }

-- ---- more events

pub none_of : (c : Clause) → Contains [] c → ⊥
none_of c h = absurd (omega (arith, h.1))

pub one_of : (x : Clause) (xs : List Clause) (c : Clause) → Contains (x ∷ xs) c → (x ≡ c) ⊎ Contains xs c
one_of x xs c (zero, low, is) = inl is
one_of x xs c (suc k, low, is) = inr (k, omega (arith, low), is)

pub some_of : (xs ys : List Clause) (c : Clause) → Contains (xs ++ ys) c → Contains xs c ⊎ Contains ys c
some_of [] ys c h = inr h
some_of (x ∷ xs) ys c (zero, low, is) = inl (0, omega arith, is)
some_of (x ∷ xs) ys c (suc k, low, is) = elim (some_of xs ys c (k, omega (arith, low), is)) [
  | inl at ↦ inl (suc at.0, omega (arith, at.1), at.2)
  | inr at ↦ inr at
]

pub listed_still : (s : Setting) (old new : List Entry) (w m : ℕ) (own : List Clause) (c : Clause) → StillHolds s old new w m own → IsListed s old m c → IsListed s new m c
listed_still s old new w m own c h (n, at) = (
  n,
  record {
    lists = h.lists n at.lists;
    line = at.line;
    found = subst (λ ls. numbered ls n ≡ Some at.line) (sym h.ledger) (numbered_more (ledger s old) h.lines n at.line at.found);
    is = at.is;
  },
)

pub still_self : (s : Setting) (past : List Entry) (w m : ℕ) → Holds s past w m → StillHolds s past past w m []
still_self s past w m h = record {
  holds = h;
  count = omega arith;
  paths = λ n. refl;
  owners = λ deps. refl;
  chosen = refl;
  before = refl;
  since = refl;
  worked = λ n. refl;
  split = λ n. refl;
  choices = refl;
  splits = omega arith;
  lists = λ n on. on;
  only = λ n few on. on;
  published = λ c at. absurd (none_of c at);
  lines = [];
  ledger = sym (append-nil (ledger s past));
}

pub still_more : (s : Setting) (a b c : List Entry) (w m : ℕ) (first second : List Clause) → StillHolds s a b w m first → StillHolds s b c w m second → StillHolds s a c w m (second ++ first)
still_more s a b c w m first second f g = record {
  holds = g.holds;
  count = omega (arith, f.count, g.count);
  paths = λ n. g.paths n ∙ f.paths n;
  owners = λ deps. g.owners deps ∙ f.owners deps;
  chosen = g.chosen ∙ f.chosen;
  before = g.before ∙ f.before;
  since = g.since ∙ ap (λ xs. second ++ xs) f.since ∙ sym (append_assoc second first (published_since a w m));
  worked = λ n. g.worked n ∙ f.worked n;
  split = λ n. g.split n ∙ f.split n;
  choices = g.choices ∙ f.choices;
  splits = omega (arith, f.splits, g.splits);
  lists = λ n on. g.lists n (f.lists n on);
  only = λ n few on. f.only n few (g.only n (omega (arith, few, ap length f.ledger, length-append (ledger s a) f.lines)) on);
  published = λ x at. elim (some_of second first x at) [
    | inl new ↦ g.published x new
    | inr old ↦ listed_still s b c w m second x g (f.published x old)
  ];
  lines = f.lines ++ g.lines;
  ledger = g.ledger ∙ ap (λ ls. ls ++ g.lines) f.ledger ∙ append_assoc (ledger s a) f.lines g.lines;
}

-- ---- events of others

own_none : (w : ℕ) (e : Entry) → ¬ (e.by ≡ w) → own_by w e ≡ []
own_none w e other = cond-false (eqb e.by w) (published_by e.event) [] (ne_eqb e.by w other)

pub others_keep : (s : Setting) (past : List Entry) (e : Entry) (w m : ℕ) → IsLegalJournal s (e ∷ past) → Holds s past w m → ¬ (e.by ≡ w) → IsLive s (e ∷ past) m → StillHolds s past (e ∷ past) w m []
others_keep s past e w m legal h other live =
    let none = own_none w e other in
    subst (StillHolds s past (e ∷ past) w m) none
    (quiet_keeps s past e w m legal.1 legal.0.asked h (others_quiet s past legal.1 e.by w m e.event legal.0.asked h other)
    (cond-false (eqb e.by w) (claimed_by e.event (claimed past w)) (claimed past w) (ne_eqb e.by w other)) live
    (λ c at. absurd (none_of c (subst (λ cs. Contains cs c) none at))))

pub nodes_grow : (later past : List Entry) → nodes past ≤ nodes (later ++ past)
nodes_grow [] past = omega arith
nodes_grow (e ∷ later) past = omega (arith, nodes_grow later past)

pub others_go_on : (s : Setting) (past later : List Entry) (w m : ℕ) → IsLegalJournal s (later ++ past) → Holds s past w m → NoneBy w later → IsLive s (later ++ past) m → m < nodes past → StillHolds s past (later ++ past) w m []
others_go_on s past [] w m legal h none live there = still_self s past w m h
others_go_on s past (e ∷ later) w m legal h none live there =
    let before = live_before s (later ++ past) e m (omega (arith, there, nodes_grow later past)) live in
    let f = others_go_on s past later w m legal.1 h none.1 before there in
    still_more s past (later ++ past) (e ∷ later ++ past) w m [] [] f (others_keep s (later ++ past) e w m legal f.holds none.0 live)

pub legal_tail : (s : Setting) (later past : List Entry) → IsLegalJournal s (later ++ past) → IsLegalJournal s past
legal_tail s [] past legal = legal
legal_tail s (e ∷ later) past legal = legal_tail s later past legal.1

-- while others go on, a worker holds its leaf as it is, as long as the leaf is live
pub others_leave_the_leaf : (s : Setting) (past later : List Entry) (w m : ℕ) → IsLegalJournal s (later ++ past) → Holds s past w m → NoneBy w later → IsLive s (later ++ past) m → StillHolds s past (later ++ past) w m []
others_leave_the_leaf s past later w m legal h none live = others_go_on s past later w m legal h none live (claimed_within s past (legal_tail s later past legal) w m h.claims)

-- ---- the leaf alone, whatever its worker does there but to split it

pub leaf_still : (s : Setting) (old new : List Entry) (w m : ℕ) (own : List Clause) → StillHolds s old new w m own → KeepsLeaf s old new w m
leaf_still s old new w m own h = record { holds = h.holds; count = h.count; paths = h.paths; owners = h.owners; splits = h.splits; parts = λ n on. h.split n ∙ on; lists = h.lists; only = h.only; works = λ n on. h.worked n ∙ on; lines = h.lines; ledger = h.ledger }

pub leaf_keeps : (s : Setting) (past : List Entry) (e : Entry) (w m : ℕ) → IsLegalJournal s past → IsAsked s past e.by e.event → Holds s past w m → Holds s (e ∷ past) w m → KeepsLeaf s past (e ∷ past) w m
leaf_keeps s past e w m legal asked h now =
    let low = claimed_within s past legal w m h.claims in
    let at = stem_old e.event (nodes past) m low in
    record {
      holds = now;
      count = omega arith;
      paths = λ n. same_path past e m n low;
      owners = λ deps. owner_same past e deps m low;
      splits = omega arith;
      parts = λ n on. or_right (splits_clause e.event (on_path past (stem e.event (nodes past) m)) n) (split past (stem e.event (nodes past) m) n) (ap (λ x. split past x n) at ∙ on);
      lists = λ n on. listed_after s past e m n low on;
      only = λ n few on. old_listed s past e asked m n low few on;
      works = λ n on. or_right (activates e.event (chosen past) (on_path past (stem e.event (nodes past) m)) n) (worked past (stem e.event (nodes past) m) n) (ap (λ x. worked past x n) at ∙ on);
      lines = lines_of e.event;
      ledger = refl;
    }

pub leaf_more : (s : Setting) (a b c : List Entry) (w m : ℕ) → KeepsLeaf s a b w m → KeepsLeaf s b c w m → KeepsLeaf s a c w m
leaf_more s a b c w m f g = record {
  holds = g.holds;
  count = omega (arith, f.count, g.count);
  paths = λ n. g.paths n ∙ f.paths n;
  owners = λ deps. g.owners deps ∙ f.owners deps;
  splits = omega (arith, f.splits, g.splits);
  parts = λ n on. g.parts n (f.parts n on);
  lists = λ n on. g.lists n (f.lists n on);
  only = λ n few on. f.only n few (g.only n (omega (arith, few, ap length f.ledger, length-append (ledger s a) f.lines)) on);
  works = λ n on. g.works n (f.works n on);
  lines = f.lines ++ g.lines;
  ledger = g.ledger ∙ ap (λ ls. ls ++ g.lines) f.ledger ∙ append_assoc (ledger s a) f.lines g.lines;
}
