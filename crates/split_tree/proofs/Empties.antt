-- For each node the first empty clause that stands there, as the journal grows and as it is found.
use Rattle.std.specs.Prelude.{MatchOption}
use Rattle.std.proofs.Common.{◌≡◌, ℕ, zero, suc, ◌+◌, ◌-◌, ◌<◌, ◌≤◌, min, ◌⊎◌, inl, inr, Bool, true, false, cond, ◌&&◌, eqb, List, [], ◌∷◌, ◌++◌, length, replicate, take, get_or, Option, Some, None, refl, sym, ◌∙◌, ap, arith, length-append, append_assoc, eq-eqb, subst}
use Rattle.std.proofs.lemmas.Bool.{cases_Bool, and_parts, and_from, or_cases, or_right, cond-true, cond-false, ne_eqb, eqb-true, cases_lt, false≢true}
use Rattle.std.proofs.Math.Bool.{and-false}
use Rattle.std.proofs.lemmas.List.{append-nil}
use Rattle.std.proofs.lemmas.Option.{slice_get-get_or}
use Rattle.std.specs.List.{slice_get}
use Rattle.spl_terms.specs.Clauses.{is_empty}
use Rattle.proof_steps.specs.declared.step.Line.{Line}
use Rattle.proof_steps.specs.Spots.{changed_at}
use Rattle.case_journal.specs.declared.branch.Branch.{Branch}
use Rattle.case_journal.specs.declared.event.Entry.{Entry}
use Rattle.case_journal.specs.declared.event.Event.{Event}
use Rattle.case_journal.specs.Journal.{Setting, nodes, nodes_of, lines_of, ledger, steps}
use Rattle.case_journal.specs.Paths.{on_path, branch}
use Rattle.case_journal.specs.Facts.{is_number, IsEmptyAt, IsLive}
use Rattle.case_journal.specs.Legal.{IsAsked, IsLegalJournal, IsFirstEmpty}
use Rattle.split_tree.specs.Caches.{homes, homes_by, at_home, own_empty, empties, or_first, noted_empty, noted_empties, IsHome, AreHomes, smaller}
use Rattle.split_tree.proofs.Lists.{upto-same, upto-changed, upto-more}
use Rattle.case_journal.specs.FactLaws.{number_is}
use Rattle.case_journal.specs.ListLaws.{numbered_get, length-input_lines}
use Rattle.split_tree.proofs.Places.{AddsLines-legal}
use Rattle.case_journal.specs.PathLaws.{on_path-self, on_path_root, nodes_some}
use Rattle.case_journal.specs.BranchLaws.{climbs}
use Rattle.split_tree.proofs.Past.{length-homes, length-homes_by, homes-push}
use Rattle.case_journal.specs.ListedLaws.{listed_within}
use Rattle.split_tree.proofs.Homes.{housed, new_housed}
use Rattle.case_journal.specs.StandingLaws.{parent_below}

-- ---- one more line

four : (c d : Bool) (n i j : ℕ) (o : Option ℕ) → i ≡ j → cond c (Some n) (cond d (or_first i o) o) ≡ cond d (or_first j (cond c (Some n) o)) (cond c (Some n) o)
four true true n i j o e = refl
four true false n i j o e = refl
four false true n i j o e = ap (λ k. or_first k o) e
four false false n i j o e = refl

own-snoc : (node n : ℕ) (hs : List (Option ℕ)) (ls : List Line) (h : Option ℕ) (l : Line) → length hs ≡ length ls
    → own_empty node n (hs ++ h ∷ []) (ls ++ l ∷ []) ≡ cond (is_number h node && is_empty l.stated.clause) (or_first (n + length hs) (own_empty node n hs ls)) (own_empty node n hs ls)
own-snoc node n [] [] h l long = ap (λ k. cond (is_number h node && is_empty l.stated.clause) (Some k) None) (let e : n ≡ n + 0 = omega arith in e)
own-snoc node n [] (y ∷ ls) h l long = absurd (omega arith)
own-snoc node n (x ∷ hs) [] h l long = absurd (omega arith)
own-snoc node n (x ∷ hs) (y ∷ ls) h l long =
    let c = is_number x node && is_empty y.stated.clause in
    let d = is_number h node && is_empty l.stated.clause in
    let o = own_empty node (n + 1) hs ls in
    let e : n + 1 + length hs ≡ n + suc (length hs) = omega arith in
    ap (cond c (Some n)) (own-snoc node (n + 1) hs ls h l (omega arith)) ∙ four c d n (n + 1 + length hs) (n + suc (length hs)) o e

noted-one : (m : ℕ) (hs : List (Option ℕ)) (ls : List Line) (h : Option ℕ) (l : Line) → length hs ≡ length ls → noted_empty h l (1 + length hs) (empties m hs ls) ≡ empties m (hs ++ h ∷ []) (ls ++ l ∷ [])
noted-one m hs ls None l long = upto-same (λ node. own_empty node 1 hs ls) (λ node. own_empty node 1 (hs ++ None ∷ []) (ls ++ l ∷ [])) m (λ k. sym (own-snoc k 1 hs ls None l long))
noted-one m hs ls (Some d) l long =
    let f = λ (node : ℕ). own_empty node 1 hs ls in
    let g = λ (node : ℕ). own_empty node 1 (hs ++ Some d ∷ []) (ls ++ l ∷ []) in
    let is = is_empty l.stated.clause in
    let n = 1 + length hs in
    elim (cases_Bool is) [
      | inl full ↦
          cond-true is (changed d n) (empties m hs ls) full
          ∙ upto-changed f g (or_first n) d m
          (own-snoc d 1 hs ls (Some d) l long ∙ cond-true (eqb d d && is) (or_first n (f d)) (f d) (and_from (eqb d d) is (eq-eqb d d refl) full))
          (λ j apart. own-snoc j 1 hs ls (Some d) l long ∙ cond-false (eqb d j && is) (or_first n (f j)) (f j) (ap (λ b. b && is) (ne_eqb d j (λ q. apart (sym q)))))
      | inr other ↦
          cond-false is (changed d n) (empties m hs ls) other
          ∙ upto-same f g m (λ k. sym (own-snoc k 1 hs ls (Some d) l long ∙ cond-false (eqb d k && is) (or_first n (f k)) (f k) (ap (λ b. eqb d k && b) other ∙ and-false (eqb d k))))
    ]
  where
    changed : ℕ → ℕ → List (Option ℕ)
    changed d n = changed_at d (or_first n) (empties m hs ls)

-- more lines
pub noted-all : (m n : ℕ) (hs more : List (Option ℕ)) (ls lines : List Line) → length hs ≡ length ls → length more ≡ length lines → n ≡ 1 + length hs → noted_empties more lines n (empties m hs ls) ≡ empties m (hs ++ more) (ls ++ lines)
noted-all m n hs [] ls [] long same at = ap (λ x. empties m x ls) (sym (append-nil hs)) ∙ ap (empties m (hs ++ [])) (sym (append-nil ls))
noted-all m n hs [] ls (l ∷ lines) long same at = absurd (omega arith)
noted-all m n hs (h ∷ more) ls [] long same at = absurd (omega arith)
noted-all m n hs (h ∷ more) ls (l ∷ lines) long same at =
    let longer : length (hs ++ h ∷ []) ≡ length (ls ++ l ∷ []) = omega (arith, length-append hs (h ∷ []), length-append ls (l ∷ [])) in
    let next : n + 1 ≡ 1 + length (hs ++ h ∷ []) = omega (arith, length-append hs (h ∷ [])) in
    ap (noted_empties more lines (n + 1)) (ap (λ k. noted_empty h l k (empties m hs ls)) at ∙ noted-one m hs ls h l long)
    ∙ (noted-all m (n + 1) (hs ++ h ∷ []) more (ls ++ l ∷ []) lines longer (omega arith) next
    ∙ (ap (λ x. empties m x ((ls ++ l ∷ []) ++ lines)) (append_assoc hs (h ∷ []) more) ∙ ap (empties m (hs ++ h ∷ more)) (append_assoc ls (l ∷ []) lines)))

-- the lines so far, with one more
pub noted-more : (n k : ℕ) (hs : List (Option ℕ)) (ls : List Line) (xs : List (Option ℕ)) (h : Option ℕ) (l : Line) → slice_get hs k ≡ Some h → slice_get ls k ≡ Some l
    → noted_empties (take (suc k) hs) (take (suc k) ls) n xs ≡ noted_empty h l (n + k) (noted_empties (take k hs) (take k ls) n xs)
noted-more n k [] ls xs h l p q = cc
noted-more n k (x ∷ hs) [] xs h l p q = cc
noted-more n zero (x ∷ hs) (y ∷ ls) xs h l p q =
    let a : x ≡ h = cc in
    let b : y ≡ l = cc in
    let z : n ≡ n + 0 = omega arith in
    ap (λ o. noted_empty o y n xs) a ∙ (ap (λ t. noted_empty h t n xs) b ∙ ap (λ i. noted_empty h l i xs) z)
noted-more n (suc k) (x ∷ hs) (y ∷ ls) xs h l p q =
    let z : n + 1 + k ≡ n + suc k = omega arith in
    noted-more (n + 1) k hs ls (noted_empty x y n xs) h l p q ∙ ap (λ i. noted_empty h l i (noted_empties (take k hs) (take k ls) (n + 1) (noted_empty x y n xs))) z

-- ---- more nodes

own_beyond : (m node n : ℕ) (hs : List (Option ℕ)) (ls : List Line) → AreHomes m hs → m ≤ node → own_empty node n hs ls ≡ None
own_beyond m node n [] ls each high = refl
own_beyond m node n (h ∷ hs) [] each high = refl
own_beyond m node n (h ∷ hs) (l ∷ ls) each high =
    cond-false (is_number h node && is_empty l.stated.clause) (Some n) (own_empty node (n + 1) hs ls) (ap (λ b. b && is_empty l.stated.clause) (other h (each 0 h refl)))
    ∙ own_beyond m node (n + 1) hs ls (λ k o g. each (suc k) o g) high
  where
    other : (o : Option ℕ) → IsHome m o → is_number o node ≡ false
    other None low = refl
    other (Some d) low = ne_eqb d node (λ q. omega arith)

pub empties-more : (m j : ℕ) (hs : List (Option ℕ)) (ls : List Line) → AreHomes m hs → empties (m + j) hs ls ≡ empties m hs ls ++ replicate j None
empties-more m j hs ls each = upto-more (λ node. own_empty node 1 hs ls) m j None (λ k high. own_beyond m k 1 hs ls each high)

pub root_homes : (n : ℕ) → AreHomes 1 (replicate n (Some 0))
root_homes zero k o h = cc
root_homes (suc n) zero o h = let q : Some 0 ≡ o = cc in subst (IsHome 1) q (omega arith)
root_homes (suc n) (suc k) o h = root_homes n k o h

-- ---- as the journal grows

homes_low : (s : Setting) (past : List Entry) → IsLegalJournal s past → AreHomes (nodes past) (homes s past)
homes_low s past legal k o h =
    let z : suc k - 1 ≡ k = omega arith in
    (housed s past legal 0 (suc k) (nodes_some past) (omega arith) o (ap (slice_get (homes s past)) z ∙ h)).1

-- the homes of the event's steps are nodes
pub new_homes_low : (s : Setting) (past : List Entry) → IsLegalJournal s past → (w : ℕ) (ev : Event) → IsAsked s past w ev → AreHomes (nodes past + nodes_of ev) (homes_by ev (nodes past))
new_homes_low s past legal w ev asked k o h = (new_housed s past w ev 0 (steps s past + k + 1) k legal asked (let b = nodes_some past in omega arith) refl o h).1

pub empties_after : (s : Setting) (past : List Entry) → IsLegalJournal s past → (e : Entry) → IsAsked s past e.by e.event
    → noted_empties (homes_by e.event (nodes past)) (lines_of e.event) (1 + steps s past) (empties (nodes past) (homes s past) (ledger s past) ++ replicate (nodes_of e.event) None) ≡ empties (nodes (e ∷ past)) (homes s (e ∷ past)) (ledger s (e ∷ past))
empties_after s past legal e asked =
    let hs = homes s past in
    let more = homes_by e.event (nodes past) in
    let lines : List Line = lines_of e.event in
    let m = nodes past + nodes_of e.event in
    let long = length-homes s past legal (sym (length-input_lines 1 s.input)) in
    ap (noted_empties more lines (1 + steps s past)) (sym (empties-more (nodes past) (nodes_of e.event) hs (ledger s past) (homes_low s past legal)))
    ∙ (noted-all m (1 + steps s past) hs more (ledger s past) lines long (length-homes_by e.event (nodes past) (AddsLines-legal s past e.by e.event asked)) (omega arith)
    ∙ ap (λ xs. empties m xs (ledger s past ++ lines)) (sym (homes-push s e past)))

-- ---- what is found

-- number i is that of an empty clause whose home is the node
pub record IsOwn (node n i : ℕ) (hs : List (Option ℕ)) (ls : List Line) : Type 0 where
  pub low : n ≤ i
  pub home : slice_get hs (i - n) ≡ Some (Some node)
  pub line : Line
  pub found : slice_get ls (i - n) ≡ Some line
  pub empty : is_empty line.stated.clause ≡ true

pub own_is : (node n i : ℕ) (hs : List (Option ℕ)) (ls : List Line) → own_empty node n hs ls ≡ Some i → IsOwn node n i hs ls
own_is node n i [] ls h = cc
own_is node n i (x ∷ hs) [] h = cc
own_is node n i (x ∷ hs) (l ∷ ls) h =
    let c = is_number x node && is_empty l.stated.clause in
    elim (cases_Bool c) [
      | inl here ↦
          let e : Some n ≡ Some i = sym (cond-true c (Some n) (own_empty node (n + 1) hs ls) here) ∙ h in
          let q : n ≡ i = cc in
          let z : i - n ≡ 0 = omega arith in
          let p = and_parts (is_number x node) (is_empty l.stated.clause) here in
          record { low = omega arith; home = ap (slice_get (x ∷ hs)) z ∙ ap Some (number_is x node p.0); line = l; found = ap (slice_get (l ∷ ls)) z; empty = p.1 }
      | inr later ↦
          let r = own_is node (n + 1) i hs ls (sym (cond-false c (Some n) (own_empty node (n + 1) hs ls) later) ∙ h) in
          let low = r.low in
          let z : i - n ≡ suc (i - (n + 1)) = omega arith in
          record { low = omega arith; home = ap (slice_get (x ∷ hs)) z ∙ r.home; line = r.line; found = ap (slice_get (l ∷ ls)) z ∙ r.found; empty = r.empty }
    ]

-- there is a number, and it is at most i
abbrev pub IsUpto : ℕ → Option ℕ → Type 0
IsUpto i None = ⊥
IsUpto i (Some j) = j ≤ i

pub own_upto : (node n k : ℕ) (hs : List (Option ℕ)) (ls : List Line) (l : Line) → slice_get hs k ≡ Some (Some node) → slice_get ls k ≡ Some l → is_empty l.stated.clause ≡ true → IsUpto (n + k) (own_empty node n hs ls)
own_upto node n k [] ls l h g e = cc
own_upto node n k (x ∷ hs) [] l h g e = cc
own_upto node n k (x ∷ hs) (y ∷ ls) l h g e = elim (cases_Bool (is_number x node && is_empty y.stated.clause)) [
  | inl here ↦ subst (IsUpto (n + k)) (sym (cond-true (is_number x node && is_empty y.stated.clause) (Some n) (own_empty node (n + 1) hs ls) here)) (omega arith)
  | inr later ↦ subst (IsUpto (n + k)) (sym (cond-false (is_number x node && is_empty y.stated.clause) (Some n) (own_empty node (n + 1) hs ls) later)) (go k h g later (λ j p q. own_upto node (n + 1) j hs ls l p q e))
]
  where
    go : (k : ℕ) → slice_get (x ∷ hs) k ≡ Some (Some node) → slice_get (y ∷ ls) k ≡ Some l → (is_number x node && is_empty y.stated.clause) ≡ false
        → ((j : ℕ) → slice_get hs j ≡ Some (Some node) → slice_get ls j ≡ Some l → IsUpto (n + 1 + j) (own_empty node (n + 1) hs ls)) → IsUpto (n + k) (own_empty node (n + 1) hs ls)
    go zero h g later more =
        let p : x ≡ Some node = cc in
        let q : y ≡ l = cc in
        let t : (is_number x node && is_empty y.stated.clause) ≡ true = and_from (is_number x node) (is_empty y.stated.clause) (ap (λ o. is_number o node) p ∙ eq-eqb node node refl) (ap (λ z. is_empty z.stated.clause) q ∙ e) in
        absurd (cc)
    go (suc k) h g later more = let z : n + 1 + k ≡ n + suc k = omega arith in subst (λ i. IsUpto i (own_empty node (n + 1) hs ls)) z (more k h g)

-- ---- up the path

-- m is d, or d is on the path of what m hangs at
record HangsBelow (past : List Entry) (m d : ℕ) : Type 0 where
  up : Branch
  hangs : branch past m ≡ Some up
  on : on_path past up.parent d ≡ true

path_up : (s : Setting) (past : List Entry) → IsLegalJournal s past → (m d : ℕ) → m < nodes past → on_path past m d ≡ true → (d ≡ m) ⊎ HangsBelow past m d
path_up s past legal m d there on = elim (cases_lt 0 m) [
  | inl some ↦
      let c = climbs s past legal m some there in
      elim (or_cases (eqb d m) (on_path past c.up.parent d) (sym (c.goes d) ∙ on)) [
        | inl here ↦ inl (eqb-true d m here)
        | inr more ↦ inr (record { up = c.up; hangs = c.hangs; on = more })
      ]
  | inr root ↦
      let z : m ≡ 0 = omega arith in
      elim (cases_Bool (eqb d m)) [
        | inl here ↦ inl (eqb-true d m here)
        | inr apart ↦ absurd (false≢true (sym (on_path_root s past legal d (λ q. false≢true (sym apart ∙ eq-eqb d m (q ∙ sym z)))) ∙ (ap (λ x. on_path past x d) (sym z) ∙ on)))
      ]
]

path_down : (s : Setting) (past : List Entry) → IsLegalJournal s past → (m d : ℕ) (b : Branch) → m < nodes past → branch past m ≡ Some b → on_path past b.parent d ≡ true → on_path past m d ≡ true
path_down s past legal m d b there hangs on =
    let some : 0 < m = (let low = parent_below s past legal m b there hangs in omega arith) in
    let c = climbs s past legal m some there in
    let same : Some c.up ≡ Some b = sym c.hangs ∙ hangs in
    let q : c.up ≡ b = cc in
    c.goes d ∙ or_right (eqb d m) (on_path past c.up.parent d) (ap (λ x. on_path past x.parent d) q ∙ on)

home_of : (s : Setting) (past : List Entry) → IsLegalJournal s past → (i : ℕ) → 1 ≤ i → i ≤ steps s past → (o : Option ℕ) × (slice_get (homes s past) (i - 1) ≡ Some o)
home_of s past legal i some there =
    let long = length-homes s past legal (sym (length-input_lines 1 s.input)) in
    (get_or (homes s past) (i - 1) None, slice_get-get_or (homes s past) (i - 1) None (omega arith))

-- the node's own empty clause is listed there
own_listed : (s : Setting) (past : List Entry) → IsLegalJournal s past → (m n : ℕ) → m < nodes past → own_empty m 1 (homes s past) (ledger s past) ≡ Some n → IsEmptyAt s past m n
own_listed s past legal m n there h =
    let r = own_is m 1 n (homes s past) (ledger s past) h in
    record {
      lists = (housed s past legal m n there r.low (Some m) r.home).0 ∙ on_path-self past m;
      line = r.line;
      found = numbered_get (ledger s past) n r.low ∙ r.found;
      empty = r.empty;
    }

-- the empty clause is listed at what m hangs at
record IsEmptyAbove (s : Setting) (past : List Entry) (m n : ℕ) : Type 0 where
  up : Branch
  hangs : branch past m ≡ Some up
  above : IsEmptyAt s past up.parent n

empty_up : (s : Setting) (past : List Entry) → IsLegalJournal s past → (m n : ℕ) → m < nodes past → IsEmptyAt s past m n → IsUpto n (own_empty m 1 (homes s past) (ledger s past)) ⊎ IsEmptyAbove s past m n
empty_up s past legal m n there e =
    let w = listed_within s past legal m n e.lists in
    let h = home_of s past legal n w.0 w.1 in
    go w.0 h.0 h.1 (sym (housed s past legal m n there w.0 h.0 h.1).0 ∙ e.lists)
  where
    go : 1 ≤ n → (o : Option ℕ) → slice_get (homes s past) (n - 1) ≡ Some o → at_home (on_path past m) o ≡ true → IsUpto n (own_empty m 1 (homes s past) (ledger s past)) ⊎ IsEmptyAbove s past m n
    go some None g t = absurd (false≢true t)
    go some (Some d) g t = elim (path_up s past legal m d there t) [
      | inl same ↦
          let z : 1 + (n - 1) ≡ n = omega arith in
          inl (subst (λ i. IsUpto i (own_empty m 1 (homes s past) (ledger s past))) z
          (own_upto m 1 (n - 1) (homes s past) (ledger s past) e.line (g ∙ ap (λ x. Some (Some x)) same) (sym (numbered_get (ledger s past) n some) ∙ e.found) e.empty))
      | inr h ↦
          let low = parent_below s past legal m h.up there h.hangs in
          inr (record {
            up = h.up;
            hangs = h.hangs;
            above = record { lists = (housed s past legal h.up.parent n (omega arith) some (Some d) g).0 ∙ h.on; line = e.line; found = e.found; empty = e.empty };
          })
    ]

empty_down : (s : Setting) (past : List Entry) → IsLegalJournal s past → (m n : ℕ) (b : Branch) → m < nodes past → branch past m ≡ Some b → IsEmptyAt s past b.parent n → IsEmptyAt s past m n
empty_down s past legal m n b there hangs e =
    let w = listed_within s past legal b.parent n e.lists in
    let h = home_of s past legal n w.0 w.1 in
    let low = parent_below s past legal m b there hangs in
    record {
      lists = (housed s past legal m n there w.0 h.0 h.1).0 ∙ go h.0 (sym (housed s past legal b.parent n (omega arith) w.0 h.0 h.1).0 ∙ e.lists);
      line = e.line;
      found = e.found;
      empty = e.empty;
    }
  where
    go : (o : Option ℕ) → at_home (on_path past b.parent) o ≡ true → at_home (on_path past m) o ≡ true
    go None t = t
    go (Some d) t = path_down s past legal m d b there hangs t

smaller_is : (a b : Option ℕ) (n : ℕ) → smaller a b ≡ Some n → (a ≡ Some n) ⊎ (b ≡ Some n)
smaller_is None b n h = inr h
smaller_is (Some x) None n h = inl h
smaller_is (Some x) (Some y) n h = elim (cases_lt x y) [
  | inl less ↦ let e : x ≡ min x y = omega arith in inl (ap Some e ∙ h)
  | inr more ↦ let e : y ≡ min x y = omega arith in inr (ap Some e ∙ h)
]

smaller_left : (a b : Option ℕ) (n : ℕ) → IsUpto n a → IsUpto n (smaller a b)
smaller_left None b n h = absurd h
smaller_left (Some x) None n h = h
smaller_left (Some x) (Some y) n h = omega arith

smaller_right : (a b : Option ℕ) (n : ℕ) → IsUpto n b → IsUpto n (smaller a b)
smaller_right None b n h = h
smaller_right (Some x) None n h = absurd h
smaller_right (Some x) (Some y) n h = omega arith

-- the smallest number of the empty clauses at the nodes of the path of m below `at`
pub record IsFirstBelow (s : Setting) (past : List Entry) (m at : ℕ) (first : Option ℕ) : Type 0 where
  pub there : at < nodes past
  pub is : (n : ℕ) → first ≡ Some n → IsEmptyAt s past m n
  pub down : (n : ℕ) → IsEmptyAt s past at n → IsEmptyAt s past m n
  pub upto : (n : ℕ) → IsEmptyAt s past m n → IsEmptyAt s past at n ⊎ IsUpto n first

-- with the node itself
with_own : (s : Setting) (past : List Entry) → IsLegalJournal s past → (m at n : ℕ) (first own : Option ℕ) → IsFirstBelow s past m at first → own ≡ own_empty at 1 (homes s past) (ledger s past) → smaller first own ≡ Some n → IsEmptyAt s past m n
with_own s past legal m at n first own r e h = elim (smaller_is first own n h) [
  | inl one ↦ r.is n one
  | inr two ↦ r.down n (own_listed s past legal at n r.there (sym e ∙ two))
]

pub first_parent : (s : Setting) (past : List Entry) → IsLegalJournal s past → (m at : ℕ) (first own : Option ℕ) (b : Branch) → IsFirstBelow s past m at first → own ≡ own_empty at 1 (homes s past) (ledger s past) → branch past at ≡ Some b
    → IsFirstBelow s past m b.parent (smaller first own)
first_parent s past legal m at first own b r e hangs =
    let low = parent_below s past legal at b r.there hangs in
    let there = r.there in
    record {
      there = omega arith;
      is = λ n h. with_own s past legal m at n first own r e h;
      down = λ n g. r.down n (empty_down s past legal at n b there hangs g);
      upto = λ n g. elim (r.upto n g) [
        | inl here ↦ elim (empty_up s past legal at n there here) [
          | inl u ↦ inr (smaller_right first own n (subst (IsUpto n) (sym e) u))
          | inr h ↦
              let same : Some h.up ≡ Some b = sym h.hangs ∙ hangs in
              let q : h.up ≡ b = cc in
              inl (subst (λ (x : Branch). IsEmptyAt s past x.parent n) q h.above)
        ]
        | inr u ↦ inr (smaller_left first own n u)
      ];
    }

first_is : (s : Setting) (past : List Entry) (m : ℕ) (o : Option ℕ) → ((n : ℕ) → o ≡ Some n → IsEmptyAt s past m n) → ((n : ℕ) → IsEmptyAt s past m n → IsUpto n o) → MatchOption o (IsLive s past m) (λ n. IsFirstEmpty s past m n)
first_is s past m None is upto = λ dead. upto dead.0 dead.1
first_is s past m (Some k) is upto = record { empty = is k refl; first = λ j low e. let b = upto j e in absurd (omega arith) }

pub first_root : (s : Setting) (past : List Entry) → IsLegalJournal s past → (m at : ℕ) (first own : Option ℕ) → IsFirstBelow s past m at first → own ≡ own_empty at 1 (homes s past) (ledger s past) → branch past at ≡ None
    → MatchOption (smaller first own) (IsLive s past m) (λ n. IsFirstEmpty s past m n)
first_root s past legal m at first own r e root = first_is s past m (smaller first own) (λ n h. with_own s past legal m at n first own r e h) (λ n g. elim (r.upto n g) [
  | inl here ↦ elim (empty_up s past legal at n r.there here) [
    | inl u ↦ smaller_right first own n (subst (IsUpto n) (sym e) u)
    | inr h ↦ let bad : Some h.up ≡ None = sym h.hangs ∙ root in absurd (cc)
  ]
  | inr u ↦ smaller_left first own n u
])
