-- The nodes of a path, as the journal goes on.
use Rattle.std.specs.Prelude.{slice_get, option_map, reverse}
use Rattle.std.proofs.Common.{◌≡◌, ◌⊎◌, ℕ, zero, suc, ◌+◌, ◌<◌, ◌≤◌, inl, inr, Bool, true, false, cond, ◌||◌, eqb, leb, List, [], ◌∷◌, ◌++◌, length, Option, Some, None, refl, sym, ◌∙◌, ap, subst, arith, eq-eqb, append_assoc}
use Rattle.std.proofs.lemmas.Bool.{le-leb, lt-leb, or_from, eqb-true, ne_eqb, cases_Bool, cases_lt, cond-true, cond-false, leb-true, false≢true, or_left, or_right}
use Rattle.std.proofs.lemmas.List.{append-nil, reverse-append}
use Rattle.std.proofs.lemmas.List.Folds.{list_any-append}
use Rattle.case_journal.specs.declared.event.Entry.{Entry}
use Rattle.case_journal.specs.declared.event.Event.{Event}
use Rattle.case_journal.specs.declared.event.Event.TheVariants.{Split}
use Rattle.case_journal.specs.Journal.{Setting, nodes, nodes_of, splits}
use Rattle.case_journal.specs.declared.branch.Branch.{Branch}
use Rattle.case_journal.specs.Paths.{stem, on_path, branch, branch_by, subject}
use Rattle.case_journal.specs.Legal.{IsAsked, IsLegalJournal}
use Rattle.case_journal.specs.ListLaws.{get_right}
use Rattle.case_journal.specs.BoundLaws.{splits_nodes}
use Rattle.case_journal.specs.PathLaws.{stem_old, stem_high, or_absorb, or_no, on_path-self, nodes_some}
use Rattle.case_journal.specs.BranchLaws.{branch_old, climbs}
use Rattle.case_journal.specs.StandingLaws.{parent_below, new_branch}
use Rattle.case_journal.specs.PlaceLaws.{stem_there, split_there}
use Rattle.case_view.specs.Views.{path_by, path_nodes, IsRising}
use Rattle.case_view.specs.Walks.{hung, is_among, count_with, node_after, IsWay}

-- ---- counts

pub count_is : (past : List Entry) → nodes past ≡ count_with (splits past)
count_is [] = refl
count_is (e ∷ past) = omega (arith, count_is past, splits_nodes e.event)

pub nodes_grow : (later past : List Entry) → nodes past ≤ nodes (later ++ past)
nodes_grow [] past = omega arith
nodes_grow (e ∷ later) past = omega (arith, nodes_grow later past)

-- ---- where a node hung

pub hung_old : (later past : List Entry) (m : ℕ) → m < nodes past → hung later past m ≡ m
hung_old [] past m low = refl
hung_old (e ∷ later) past m low =
    ap (hung later past) (stem_old e.event (nodes (later ++ past)) m (omega (arith, low, nodes_grow later past)))
    ∙ hung_old later past m low

pub hung_there : (s : Setting) (later past : List Entry) → IsLegalJournal s (later ++ past) → (m : ℕ) → m < nodes (later ++ past) → hung later past m < nodes past
hung_there s [] past legal m there = there
hung_there s (e ∷ later) past legal m there =
    hung_there s later past legal.1 (stem e.event (nodes (later ++ past)) m) (stem_there s (later ++ past) legal.1 e.by e.event m legal.0.asked there)

-- one event more at the front of the later ones
pub hung_first : (later : List Entry) (e : Entry) (past : List Entry) (m : ℕ) → hung (later ++ e ∷ []) past m ≡ stem e.event (nodes past) (hung later (e ∷ past) m)
hung_first [] e past m = refl
hung_first (x ∷ later) e past m =
    ap (λ ls. hung (later ++ e ∷ []) past (stem x.event (nodes ls) m)) (append_assoc later (e ∷ []) past)
    ∙ hung_first later e past (stem x.event (nodes (later ++ e ∷ past)) m)

-- ---- a path from its end

path_by_old : (ev : Event) (count m : ℕ) (above : List ℕ) → m < count → path_by ev count m above ≡ above
path_by_old (Split node lines put_off) count m above low = cond-false (leb count m) (above ++ m ∷ []) above (lt-leb count m low)
path_by_old _ count m above low = refl

pub path_old : (past : List Entry) (e : Entry) (m : ℕ) → m < nodes past → path_nodes (e ∷ past) m ≡ path_nodes past m
path_old past e m low = path_by_old e.event (nodes past) m (path_nodes past (stem e.event (nodes past) m)) low ∙ ap (path_nodes past) (stem_old e.event (nodes past) m low)

pub path_root : (past : List Entry) → path_nodes past 0 ≡ 0 ∷ []
path_root [] = refl
path_root (e ∷ past) = path_old past e 0 (omega (arith, nodes_some past)) ∙ path_root past

path_new : (s : Setting) (past : List Entry) → IsLegalJournal s past → (w : ℕ) (ev : Event) (m : ℕ) (b : Branch) → IsAsked s past w ev → nodes past ≤ m → m < nodes past + nodes_of ev → branch_by ev (nodes past) m (branch past m) ≡ Some b
    → path_by ev (nodes past) m (path_nodes past (stem ev (nodes past) m)) ≡ path_nodes past b.parent ++ m ∷ []
path_new s past legal w (Split node lines put_off) m b p high there h =
    let up : b.parent ≡ node = elim (new_branch node (subject lines) (nodes past) m (branch past m) b high there h) [ inl q ↦ ap (λ x. x.parent) q.1 | inr q ↦ ap (λ x. x.parent) q.1 ] in
    cond-true (leb (nodes past) m) (path_nodes past (cond (leb (nodes past) m) node m) ++ m ∷ []) (path_nodes past (cond (leb (nodes past) m) node m)) (le-leb (nodes past) m high)
    ∙ ap (λ x. path_nodes past x ++ m ∷ []) (stem_high node (nodes past) m high ∙ sym up)
path_new s past legal w _ m b p high there h = absurd (omega (arith, high, there))

parent_old : (s : Setting) (past : List Entry) → IsLegalJournal s past → (w : ℕ) (ev : Event) (m : ℕ) (b : Branch) → IsAsked s past w ev → nodes past ≤ m → m < nodes past + nodes_of ev → branch_by ev (nodes past) m (branch past m) ≡ Some b → b.parent < nodes past
parent_old s past legal w (Split node lines put_off) m b p high there h =
    let low = split_there s past legal w node lines put_off p in
    elim (new_branch node (subject lines) (nodes past) m (branch past m) b high there h) [
      | inl q ↦ omega (arith, low, ap (λ x. x.parent) q.1)
      | inr q ↦ omega (arith, low, ap (λ x. x.parent) q.1)
    ]
parent_old s past legal w _ m b p high there h = absurd (omega (arith, high, there))

-- the path of a node goes on from that of its parent
pub path_climbs : (s : Setting) (past : List Entry) → IsLegalJournal s past → (m : ℕ) (b : Branch) → m < nodes past → branch past m ≡ Some b → path_nodes past m ≡ path_nodes past b.parent ++ m ∷ []
path_climbs s [] legal m b there h = cc
path_climbs s (e ∷ past) legal m b there h = elim (cases_lt m (nodes past)) [
  | inl low ↦
      let before : branch past m ≡ Some b = sym (branch_old e.event (nodes past) m (branch past m) low) ∙ h in
      let up = parent_below s past legal.1 m b low before in
      path_old past e m low
      ∙ (path_climbs s past legal.1 m b low before
      ∙ ap (λ ns. ns ++ m ∷ []) (sym (path_old past e b.parent (omega (arith, up, low)))))
  | inr high ↦
      path_new s past legal.1 e.by e.event m b legal.0.asked high there h
      ∙ ap (λ ns. ns ++ m ∷ []) (sym (path_old past e b.parent (parent_old s past legal.1 e.by e.event m b legal.0.asked high there h)))
]

-- ---- a path as it is climbed

pub record IsUp (past : List Entry) (m up : ℕ) : Type 0 where
  pub below : up < m
  pub path : path_nodes past m ≡ path_nodes past up ++ m ∷ []

pub up_of : (s : Setting) (past : List Entry) → IsLegalJournal s past → (m up : ℕ) (o : Option Branch) → m < nodes past → branch past m ≡ o → option_map (λ b. b.parent) o ≡ Some up → IsUp past m up
up_of s past legal m up None there h e = absurd (cc)
up_of s past legal m up (Some b) there h e =
    let same : b.parent ≡ up = cc in
    record { below = omega (arith, same, parent_below s past legal m b there h); path = path_climbs s past legal m b there h ∙ ap (λ x. path_nodes past x ++ m ∷ []) same }

-- the climb goes on from the parent
pub path_up : (past : List Entry) (first m up : ℕ) (old new : List ℕ) → IsUp past m up → path_nodes past first ≡ path_nodes past m ++ reverse old → new ≡ old ++ m ∷ [] → path_nodes past first ≡ path_nodes past up ++ reverse new
path_up past first m up old new h before now =
    before
    ∙ (ap (λ ns. ns ++ reverse old) h.path
    ∙ (append_assoc (path_nodes past up) (m ∷ []) (reverse old)
    ∙ ap (λ ns. path_nodes past up ++ ns) (sym (ap reverse now ∙ reverse-append old (m ∷ [])))))

root_of : (s : Setting) (past : List Entry) → IsLegalJournal s past → (m : ℕ) (o : Option Branch) → m < nodes past → branch past m ≡ o → option_map (λ b. b.parent) o ≡ None → m ≡ 0
root_of s past legal m (Some b) there h e = absurd (cc)
root_of s past legal zero None there h e = refl
root_of s past legal (suc n) None there h e =
    let r = climbs s past legal (suc n) (omega arith) there in
    let bad : Some r.up ≡ None = sym r.hangs ∙ h in
    absurd (cc)

-- and ends at the root
pub path_end : (s : Setting) (past : List Entry) → IsLegalJournal s past → (first m : ℕ) (old new : List ℕ) → m < nodes past → option_map (λ b. b.parent) (branch past m) ≡ None → path_nodes past first ≡ path_nodes past m ++ reverse old → new ≡ old ++ m ∷ [] → reverse new ≡ path_nodes past first
path_end s past legal first m old new there none before now =
    let zero_is = root_of s past legal m (branch past m) there refl none in
    let whole : path_nodes past m ≡ m ∷ [] = ap (path_nodes past) zero_is ∙ (path_root past ∙ ap (λ n. n ∷ []) (sym zero_is)) in
    ap reverse now ∙ (reverse-append old (m ∷ []) ∙ sym (before ∙ ap (λ ns. ns ++ reverse old) whole))

-- ---- which nodes are on the path

pub among_append : (ns : List ℕ) (m n : ℕ) → is_among (ns ++ m ∷ []) n ≡ (is_among ns n || eqb n m)
among_append ns m n = list_any-append (λ x. eqb n x) ns (m ∷ []) ∙ ap (λ b. is_among ns n || b) (or_no (eqb n m))

or_swap : (x y : Bool) → (x || y) ≡ (y || x)
or_swap true true = refl
or_swap true false = refl
or_swap false true = refl
or_swap false false = refl

among_by : (ev : Event) (count m n : ℕ) (past : List Entry) (above : List ℕ) → is_among above n ≡ on_path past (stem ev count m) n
    → is_among (path_by ev count m above) n ≡ (eqb n m || on_path past (stem ev count m) n)
among_by (Split node lines put_off) count m n past above h = elim (cases_Bool (leb count m)) [
  | inl new ↦
      ap (λ ns. is_among ns n) (cond-true (leb count m) (above ++ m ∷ []) above new)
      ∙ (among_append above m n ∙ (or_swap (is_among above n) (eqb n m) ∙ ap (λ b. eqb n m || b) h))
  | inr old ↦
      let same : cond (leb count m) node m ≡ m = cond-false (leb count m) node m old in
      ap (λ ns. is_among ns n) (cond-false (leb count m) (above ++ m ∷ []) above old)
      ∙ (h ∙ sym (or_absorb (eqb n m) (on_path past (cond (leb count m) node m) n) (λ e. ap (λ x. on_path past x n) same ∙ (ap (on_path past m) (eqb-true n m e) ∙ on_path-self past m))))
]
among_by _ count m n past above h = h ∙ sym (or_absorb (eqb n m) (on_path past m n) (λ e. ap (on_path past m) (eqb-true n m e) ∙ on_path-self past m))

pub among_path : (past : List Entry) (m n : ℕ) → is_among (path_nodes past m) n ≡ on_path past m n
among_path [] m n = or_no (eqb n m)
among_path (e ∷ past) m n = among_by e.event (nodes past) m n past (path_nodes past (stem e.event (nodes past) m)) (among_path past (stem e.event (nodes past) m) n)

-- ---- the nodes rise

-- each is below n
abbrev AreBelow : ℕ → List ℕ → Type 0
AreBelow n ns = (i x : ℕ) → slice_get ns i ≡ Some x → x < n

get_cases : (xs : List ℕ) (y : ℕ) (i x : ℕ) → slice_get (xs ++ y ∷ []) i ≡ Some x → (slice_get xs i ≡ Some x) ⊎ ((i ≡ length xs) × (x ≡ y))
get_cases [] y zero x h = inr (refl, cc)
get_cases [] y (suc i) x h = cc
get_cases (z ∷ xs) y zero x h = inl h
get_cases (z ∷ xs) y (suc i) x h = elim (get_cases xs y i x h) [
  | inl at ↦ inl at
  | inr here ↦ inr (omega (arith, here.0), here.1)
]

get_within : (xs : List ℕ) (i x : ℕ) → slice_get xs i ≡ Some x → i < length xs
get_within [] i x h = cc
get_within (y ∷ xs) zero x h = omega arith
get_within (y ∷ xs) (suc i) x h = omega (arith, get_within xs i x h)

below_append : (n m : ℕ) (ns : List ℕ) → AreBelow n ns → n ≤ m → AreBelow (suc m) (ns ++ m ∷ [])
below_append n m ns h le i x at = elim (get_cases ns m i x at) [
  | inl old ↦ omega (arith, h i x old)
  | inr new ↦ omega (arith, new.1)
]

rising_append : (n m : ℕ) (ns : List ℕ) → AreBelow n ns → n ≤ m → IsRising ns → IsRising (ns ++ m ∷ [])
rising_append n m ns below le h i j x y ij at to = elim (get_cases ns m j y to) [
  | inl old ↦ elim (get_cases ns m i x at) [
    | inl low ↦ h i j x y ij low old
    | inr new ↦ absurd (omega (arith, new.0, ij, get_within ns j y old))
  ]
  | inr new ↦ elim (get_cases ns m i x at) [
    | inl low ↦ omega (arith, below i x low, new.1)
    | inr both ↦ omega (arith, both.1, new.1)
  ]
]

path_by_below : (ev : Event) (count m : ℕ) (above : List ℕ) → AreBelow count above → m < count + nodes_of ev → AreBelow (count + nodes_of ev) (path_by ev count m above)
path_by_below (Split node lines put_off) count m above h there i x at = elim (cases_Bool (leb count m)) [
  | inl new ↦ omega (arith, there, below_append count m above h (leb-true count m new) i x (ap (λ ns. slice_get ns i) (sym (cond-true (leb count m) (above ++ m ∷ []) above new)) ∙ at))
  | inr old ↦ omega (arith, h i x (ap (λ ns. slice_get ns i) (sym (cond-false (leb count m) (above ++ m ∷ []) above old)) ∙ at))
]
path_by_below _ count m above h there i x at = omega (arith, h i x at)

path_below : (s : Setting) (past : List Entry) → IsLegalJournal s past → (m : ℕ) → m < nodes past → AreBelow (nodes past) (path_nodes past m)
path_below s [] legal m there zero x at = let q : m ≡ x = cc in omega (arith, q, there)
path_below s [] legal m there (suc i) x at = cc
path_below s (e ∷ past) legal m there i x at =
    let up = stem e.event (nodes past) m in
    path_by_below e.event (nodes past) m (path_nodes past up) (path_below s past legal.1 up (stem_there s past legal.1 e.by e.event m legal.0.asked there)) there i x at

path_by_rises : (ev : Event) (count m : ℕ) (above : List ℕ) → AreBelow count above → IsRising above → IsRising (path_by ev count m above)
path_by_rises (Split node lines put_off) count m above below h = elim (cases_Bool (leb count m)) [
  | inl new ↦ subst IsRising (sym (cond-true (leb count m) (above ++ m ∷ []) above new)) (rising_append count m above below (leb-true count m new) h)
  | inr old ↦ subst IsRising (sym (cond-false (leb count m) (above ++ m ∷ []) above old)) h
]
path_by_rises _ count m above below h = h

pub path_rises : (s : Setting) (past : List Entry) → IsLegalJournal s past → (m : ℕ) → m < nodes past → IsRising (path_nodes past m)
path_rises s [] legal m there zero zero x y ij at to = let q : x ≡ y = cc in omega (arith, q)
path_rises s [] legal m there zero (suc j) x y ij at to = cc
path_rises s [] legal m there (suc i) j x y ij at to = cc
path_rises s (e ∷ past) legal m there i j x y ij at to =
    let up = stem e.event (nodes past) m in
    let low = stem_there s past legal.1 e.by e.event m legal.0.asked there in
    path_by_rises e.event (nodes past) m (path_nodes past up) (path_below s past legal.1 up low) (path_rises s past legal.1 up low) i j x y ij at to

-- ---- where the path goes on

-- each is n or more
abbrev AreFrom : ℕ → List ℕ → Type 0
AreFrom n ns = (i x : ℕ) → slice_get ns i ≡ Some x → n ≤ x

-- the path goes on by nodes that come later
record GoesBy (n : ℕ) (above path : List ℕ) : Type 0 where
  pub more : List ℕ
  pub is : path ≡ above ++ more
  pub from : AreFrom n more

goes_by : (ev : Event) (n count m : ℕ) (above path : List ℕ) → n ≤ count → GoesBy n above path → GoesBy n above (path_by ev count m path)
goes_by (Split node lines put_off) n count m above path le h = elim (cases_Bool (leb count m)) [
  | inl new ↦ record {
    more = h.more ++ m ∷ [];
    is = cond-true (leb count m) (path ++ m ∷ []) path new ∙ (ap (λ ns. ns ++ m ∷ []) h.is ∙ append_assoc above h.more (m ∷ []));
    from = λ i x at. elim (get_cases h.more m i x at) [
      | inl old ↦ h.from i x old
      | inr here ↦ omega (arith, here.1, le, leb-true count m new)
    ];
  }
  | inr old ↦ record { more = h.more; is = cond-false (leb count m) (path ++ m ∷ []) path old ∙ h.is; from = h.from }
]
goes_by _ n count m above path le h = h

path_goes : (later past : List Entry) (m : ℕ) → GoesBy (nodes past) (path_nodes past (hung later past m)) (path_nodes (later ++ past) m)
path_goes [] past m = record { more = []; is = sym (append-nil (path_nodes past m)); from = λ i x at. cc }
path_goes (e ∷ later) past m =
    let up = stem e.event (nodes (later ++ past)) m in
    goes_by e.event (nodes past) (nodes (later ++ past)) m (path_nodes past (hung later past up)) (path_nodes (later ++ past) up) (nodes_grow later past) (path_goes later past up)

-- ---- entering the node below

first_more : (xs more : List ℕ) → slice_get (xs ++ more) (length xs) ≡ slice_get more 0
first_more xs more = ap (slice_get (xs ++ more)) (omega arith) ∙ get_right xs more 0

enter_none : (ev : Event) (count m : ℕ) → node_after ev count None m ≡ m
enter_none (Split node lines put_off) count m = refl
enter_none _ count m = refl

-- a node of the path that comes later is not entered yet
enter_later : (ev : Event) (count m : ℕ) (o : Option ℕ) → ((x : ℕ) → o ≡ Some x → count + nodes_of ev ≤ x) → node_after ev count o m ≡ m
enter_later ev count m None h = enter_none ev count m
enter_later (Split node lines put_off) count m (Some x) h =
    let far = h x refl in
    cond-false (eqb x count || eqb x (count + 1)) x m (or_from (eqb x count) (eqb x (count + 1)) (ne_eqb x count (λ q. omega (arith, q, far))) (ne_eqb x (count + 1) (λ q. omega (arith, q, far))))
enter_later _ count m (Some x) h = refl

enter_child : (node : ℕ) (lines : _) (put_off : _) (count m b : ℕ) → count ≤ b → b < count + 2 → node_after (Split node lines put_off) count (Some b) m ≡ b
enter_child node lines put_off count m b le low = cond-true (eqb b count || eqb b (count + 1)) b m (elim (cases_Bool (eqb b count)) [
  | inl here ↦ or_left (eqb b count) (eqb b (count + 1)) here
  | inr other ↦ or_right (eqb b count) (eqb b (count + 1)) (eq-eqb b (count + 1) (elim (cases_lt b (count + 1)) [
    | inl less ↦ absurd (false≢true (sym other ∙ eq-eqb b count (omega (arith, less, le))))
    | inr more ↦ omega (arith, more, low)
  ]))
])

-- the node of the view after the event is where the leaf hung then
enter_step : (ev : Event) (count b : ℕ) (above goal more : List ℕ) → b < count + nodes_of ev → goal ≡ path_by ev count b above ++ more → AreFrom (count + nodes_of ev) more
    → node_after ev count (slice_get goal (length above)) (stem ev count b) ≡ b
enter_step (Split node lines put_off) count b above goal more there is from = elim (cases_Bool (leb count b)) [
  | inl new ↦
      let next : slice_get goal (length above) ≡ Some b =
      ap (λ ns. slice_get ns (length above)) (is ∙ (ap (λ ns. ns ++ more) (cond-true (leb count b) (above ++ b ∷ []) above new) ∙ append_assoc above (b ∷ []) more))
      ∙ first_more above (b ∷ more) in
      ap (λ o. node_after (Split node lines put_off) count o (stem (Split node lines put_off) count b)) next
      ∙ enter_child node lines put_off count (stem (Split node lines put_off) count b) b (leb-true count b new) there
  | inr old ↦
      let next : slice_get goal (length above) ≡ slice_get more 0 =
      ap (λ ns. slice_get ns (length above)) (is ∙ ap (λ ns. ns ++ more) (cond-false (leb count b) (above ++ b ∷ []) above old)) ∙ first_more above more in
      enter_later (Split node lines put_off) count (stem (Split node lines put_off) count b) (slice_get goal (length above)) (λ x h. from 0 x (sym next ∙ h))
      ∙ cond-false (leb count b) node b old
]
enter_step ev count b above goal more there is from =
    let next : slice_get goal (length above) ≡ slice_get more 0 = ap (λ ns. slice_get ns (length above)) is ∙ first_more above more in
    enter_later ev count b (slice_get goal (length above)) (λ x h. from 0 x (sym next ∙ h))

pub enters : (s : Setting) (past start later : List Entry) (e : Entry) (m : ℕ) (goal above : List ℕ) → IsLegalJournal s past → m < nodes past → past ≡ later ++ e ∷ start → IsWay past start m goal
    → (let b = hung later (e ∷ start) m in above ≡ path_nodes start (stem e.event (nodes start) b) → node_after e.event (nodes start) (slice_get goal (length above)) (stem e.event (nodes start) b) ≡ b)
enters s past start later e m goal above legal there is (inl whole) path =
    let b = hung later (e ∷ start) m in
    let low : b < nodes (e ∷ start) = hung_there s later (e ∷ start) (subst (IsLegalJournal s) is legal) m (subst (λ p. m < nodes p) is there) in
    let g = path_goes later (e ∷ start) m in
    enter_step e.event (nodes start) b above goal g.more low
    (whole ∙ (ap (λ p. path_nodes p m) is ∙ (g.is ∙ ap (λ ns. path_by e.event (nodes start) b ns ++ g.more) (sym path)))) g.from
enters s past start later e m goal above legal there is (inr old) path =
    let b = hung later (e ∷ start) m in
    let same : b ≡ m = hung_old later (e ∷ start) m (omega (arith, old.1)) in
    let at : stem e.event (nodes start) b ≡ b = ap (stem e.event (nodes start)) same ∙ (stem_old e.event (nodes start) m old.1 ∙ sym same) in
    ap (λ ns. node_after e.event (nodes start) (slice_get ns (length above)) (stem e.event (nodes start) b)) old.0
    ∙ (enter_none e.event (nodes start) (stem e.event (nodes start) b) ∙ at)
