-- The list of what was activated or split answers as the journal does; the pick as it goes on.
use Rattle.std.specs.Prelude.{fold}
use Rattle.std.proofs.Common.{◌≡◌, ℕ, zero, suc, ◌+◌, ◌<◌, ◌≤◌, inl, inr, Bool, true, false, cond, ◌&&◌, ◌||◌, eqb, List, [], ◌∷◌, ◌++◌, length, reverse, take, Option, Some, None, option_map, refl, sym, ◌∙◌, ap, arith}
use Rattle.std.proofs.lemmas.Bool.{cases_Bool, cond-true, cond-false, eqb-true}
use Rattle.std.proofs.lemmas.List.{reverse-append, length-reverse}
use Rattle.std.specs.List.{slice_get, list_any}
use Rattle.spl_truth.specs.declared.picking.Candidate.{Candidate}
use Rattle.proof_steps.specs.declared.step.Line.{Line}
use Rattle.spl_terms.specs.BoolLaws.{or-exchange}
use Rattle.case_journal.specs.declared.event.Entry.{Entry}
use Rattle.case_journal.specs.declared.event.Event.{Event}
use Rattle.case_journal.specs.declared.event.Event.TheVariants.{Split, Activate}
use Rattle.split_tree.specs.declared.caches.Retired.{Retired}
use Rattle.case_journal.specs.Journal.{Setting, nodes, nodes_of}
use Rattle.case_journal.specs.Paths.{stem, on_path, subject}
use Rattle.case_journal.specs.Facts.{worked, split, activates, splits_clause, is_number, chosen}
use Rattle.case_journal.specs.Picking.{passing, weighed}
use Rattle.case_journal.specs.Legal.{IsAsked, IsLegalJournal}
use Rattle.split_tree.specs.Caches.{retired, retired_at, retired_by, with_newest, newest}
use Rattle.split_tree.proofs.Places.{node_there}
use Rattle.case_journal.specs.PlaceLaws.{stem_there}
use Rattle.case_journal.specs.PathLaws.{on_path_grow}
use Rattle.case_journal.specs.ListLaws.{get_more, get_right}

-- the clause is i, and the node is on the path
abbrev pub hits : (ℕ → Bool) → ℕ → Retired → Bool
hits on i r = eqb r.clause i && on r.node

abbrev pub AreLow : ℕ → List Retired → Type 0
AreLow n [] = Unit {0}
AreLow n (r ∷ rs) = (r.node < n) × AreLow n rs

abbrev pub IsLow : ℕ → Option Retired → Type 0
IsLow n None = Unit {0}
IsLow n (Some r) = r.node < n

low_more : (n m : ℕ) (rs : List Retired) → n ≤ m → AreLow n rs → AreLow m rs
low_more n m [] le h = tt
low_more n m (r ∷ rs) le h = ((let a = h.0 in omega arith), low_more n m rs le h.1)

low_newest : (n : ℕ) (rs : List Retired) (o : Option Retired) → AreLow n rs → IsLow n o → AreLow n (with_newest o rs)
low_newest n rs None h g = h
low_newest n rs (Some r) h g = (g, h)

low_activated : (n node : ℕ) (rs : List Retired) (o : Option ℕ) → node < n → IsLow n (option_map (λ i. retired_at i node rs) o)
low_activated n node rs None h = tt
low_activated n node rs (Some i) h = h

low_by : (s : Setting) (past : List Entry) → IsLegalJournal s past → (w : ℕ) (ev : Event) (rs : List Retired) → IsAsked s past w ev → IsLow (nodes past) (retired_by ev (chosen past) rs)
low_by s past legal w (Activate node) rs p = low_activated (nodes past) node rs (chosen past node) (node_there s past legal w (Activate node) p)
low_by s past legal w (Split node lines put_off) rs p = node_there s past legal w (Split node lines put_off) p
low_by s past legal w _ rs p = tt

retired_low : (s : Setting) (past : List Entry) → IsLegalJournal s past → AreLow (nodes past) (retired past)
unfolding retired
retired_low s [] legal = tt
retired_low s (e ∷ past) legal =
    let rs = retired past in
    let o = retired_by e.event (chosen past) rs in
    low_more (nodes past) (nodes past + nodes_of e.event) (with_newest o rs) (omega arith) (low_newest (nodes past) rs o (retired_low s past legal.1) (low_by s past legal.1 e.by e.event rs legal.0.asked))

any_of : (Retired → Bool) → Option Retired → Bool
any_of p None = false
any_of p (Some r) = p r

newest_any : (p : Retired → Bool) (rs : List Retired) (o : Option Retired) → list_any p (with_newest o rs) ≡ (any_of p o || list_any p rs)
unfolding any_of
newest_any p rs None = refl
newest_any p rs (Some r) = refl

hits_grow : (past : List Entry) (e : Entry) (m i : ℕ) (rs : List Retired) → AreLow (nodes past) rs → list_any (hits (on_path (e ∷ past) m) i) rs ≡ list_any (hits (on_path past (stem e.event (nodes past) m)) i) rs
hits_grow past e m i [] low = refl
hits_grow past e m i (r ∷ rs) low =
    let h = on_path_grow past e m r.node low.0 in
    let t = hits_grow past e m i rs low.1 in
    ap (λ b. (eqb r.clause i && b) || list_any (hits (on_path (e ∷ past) m) i) rs) h ∙ ap (λ b. (eqb r.clause i && on_path past (stem e.event (nodes past) m) r.node) || b) t

hit_grow : (past : List Entry) (e : Entry) (m i : ℕ) (o : Option Retired) → IsLow (nodes past) o → any_of (hits (on_path (e ∷ past) m) i) o ≡ any_of (hits (on_path past (stem e.event (nodes past) m)) i) o
unfolding any_of
hit_grow past e m i None low = refl
hit_grow past e m i (Some r) low = ap (λ b. eqb r.clause i && b) (on_path_grow past e m r.node low)

swap_and : (x y : Bool) → ((x && y) || false) ≡ (y && x)
swap_and true true = refl
swap_and true false = refl
swap_and false true = refl
swap_and false false = refl

swap_two : (x y : Bool) → (x && y) ≡ (y && x)
swap_two true true = refl
swap_two true false = refl
swap_two false true = refl
swap_two false false = refl

and_no : (x : Bool) → ((x && false) || false) ≡ false
and_no true = refl
and_no false = refl

activated_hit : (node i : ℕ) (rs : List Retired) (on : ℕ → Bool) (o : Option ℕ) → ((on node && is_number o i) || false) ≡ any_of (hits on i) (option_map (λ j. retired_at j node rs) o)
unfolding any_of
activated_hit node i rs on None = and_no (on node)
activated_hit node i rs on (Some j) = swap_and (on node) (eqb j i)

new_hit : (ev : Event) (at : ℕ → Option ℕ) (rs : List Retired) (on : ℕ → Bool) (i : ℕ) → (activates ev at on i || splits_clause ev on i) ≡ any_of (hits on i) (retired_by ev at rs)
unfolding any_of
new_hit (Activate node) at rs on i = activated_hit node i rs on (at node)
new_hit (Split node lines put_off) at rs on i = swap_two (on node) (eqb (subject lines) i)
new_hit _ at rs on i = refl

-- what was activated or split at the nodes of a path
pub retired_any : (s : Setting) (past : List Entry) → IsLegalJournal s past → (m i : ℕ) → m < nodes past → (worked past m i || split past m i) ≡ list_any (hits (on_path past m) i) (retired past)
unfolding retired
retired_any s [] legal m i there = refl
retired_any s (e ∷ past) legal m i there =
    let u = stem e.event (nodes past) m in
    let on = on_path past u in
    let rs = retired past in
    let o = retired_by e.event (chosen past) rs in
    let p = hits (on_path (e ∷ past) m) i in
    let more = retired_any s past legal.1 u i (stem_there s past legal.1 e.by e.event m legal.0.asked there) in
    or-exchange (activates e.event (chosen past) on i) (worked past u i) (splits_clause e.event on i) (split past u i)
    ∙ (ap (λ b. (activates e.event (chosen past) on i || splits_clause e.event on i) || b) more
    ∙ (ap (λ b. b || list_any (hits on i) rs) (new_hit e.event (chosen past) rs on i)
    ∙ sym (newest_any p rs o
    ∙ (ap (λ b. any_of p o || b) (hits_grow past e m i rs (retired_low s past legal.1))
    ∙ ap (λ b. b || list_any (hits on i) rs) (hit_grow past e m i o (low_by s past legal.1 e.by e.event rs legal.0.asked))))))

-- ---- the records of one clause, from the last one on

-- each record names the last one of its clause before it
abbrev pub AreLinked : List Retired → Type 0
AreLinked [] = Unit {0}
AreLinked (r ∷ rs) = (r.older ≡ newest r.clause rs) × AreLinked rs

linked_activated : (node : ℕ) (rs : List Retired) (o : Option ℕ) → AreLinked rs → AreLinked (with_newest (option_map (λ i. retired_at i node rs) o) rs)
linked_activated node rs None h = h
linked_activated node rs (Some i) h = (refl, h)

linked_by : (ev : Event) (at : ℕ → Option ℕ) (rs : List Retired) → AreLinked rs → AreLinked (with_newest (retired_by ev at rs) rs)
linked_by (Activate node) at rs h = linked_activated node rs (at node) h
linked_by (Split node lines put_off) at rs h = (refl, h)
linked_by _ at rs h = h

pub retired_linked : (past : List Entry) → AreLinked (retired past)
unfolding retired
retired_linked [] = tt
retired_linked (e ∷ past) = linked_by e.event (chosen past) (retired past) (retired_linked past)

-- no record of the clause is left
pub newest_miss : (on : ℕ → Bool) (i : ℕ) (rs : List Retired) → newest i rs ≡ None → list_any (hits on i) rs ≡ false
newest_miss on i [] h = refl
newest_miss on i (r ∷ rs) h = elim (cases_Bool (eqb r.clause i)) [
  | inl same ↦ let e : Some (length rs) ≡ None = sym (cond-true (eqb r.clause i) (Some (length rs)) (newest i rs) same) ∙ h in absurd (cc)
  | inr other ↦ ap (λ b. (b && on r.node) || list_any (hits on i) rs) other ∙ newest_miss on i rs (sym (cond-false (eqb r.clause i) (Some (length rs)) (newest i rs) other) ∙ h)
]

-- the last record of the clause, in the place k, and the records before it
pub record IsLast (on : ℕ → Bool) (i k : ℕ) (rs : List Retired) : Type 0 where
  pub last : Retired
  pub rest : List Retired
  pub found : slice_get (reverse rs) k ≡ Some last
  pub kept : (j : ℕ) (r : Retired) → slice_get (reverse rest) j ≡ Some r → slice_get (reverse rs) j ≡ Some r
  pub older : last.older ≡ newest i rest
  pub linked : AreLinked rest
  pub place : length rest ≡ k
  pub any : list_any (hits on i) rs ≡ (on last.node || list_any (hits on i) rest)

pub newest_last : (on : ℕ → Bool) (i k : ℕ) (rs : List Retired) → AreLinked rs → newest i rs ≡ Some k → IsLast on i k rs
newest_last on i k [] linked h = cc
newest_last on i k (r ∷ rs) linked h =
    let turned : reverse (r ∷ rs) ≡ reverse rs ++ r ∷ [] = reverse-append (r ∷ []) rs in
    let more = λ (j : ℕ) (x : Retired) (g : slice_get (reverse rs) j ≡ Some x). ap (λ ys. slice_get ys j) turned ∙ get_more (reverse rs) (r ∷ []) j x g in
    elim (cases_Bool (eqb r.clause i)) [
      | inl same ↦
          let e : Some (length rs) ≡ Some k = sym (cond-true (eqb r.clause i) (Some (length rs)) (newest i rs) same) ∙ h in
          let q : length rs ≡ k = cc in
          let at : k ≡ length (reverse rs) + 0 = omega (arith, length-reverse rs) in
          record {
            last = r;
            rest = rs;
            found = ap (λ ys. slice_get ys k) turned ∙ (ap (slice_get (reverse rs ++ r ∷ [])) at ∙ get_right (reverse rs) (r ∷ []) 0);
            kept = more;
            older = linked.0 ∙ ap (λ c. newest c rs) (eqb-true r.clause i same);
            linked = linked.1;
            place = q;
            any = ap (λ b. (b && on r.node) || list_any (hits on i) rs) same;
          }
      | inr other ↦
          let p = newest_last on i k rs linked.1 (sym (cond-false (eqb r.clause i) (Some (length rs)) (newest i rs) other) ∙ h) in
          record {
            last = p.last;
            rest = p.rest;
            found = more k p.last p.found;
            kept = λ j x g. more j x (p.kept j x g);
            older = p.older;
            linked = p.linked;
            place = p.place;
            any = ap (λ b. (b && on r.node) || list_any (hits on i) rs) other ∙ p.any;
          }
    ]

-- the records that are left to look at, of which that in the place `next` is the last one of clause i
pub record AreLeft (on : ℕ → Bool) (i : ℕ) (rs : List Retired) (next : Option ℕ) : Type 0 where
  pub rest : List Retired
  pub linked : AreLinked rest
  pub kept : (j : ℕ) (r : Retired) → slice_get (reverse rest) j ≡ Some r → slice_get (reverse rs) j ≡ Some r
  pub is : newest i rest ≡ next
  pub any : list_any (hits on i) rs ≡ list_any (hits on i) rest

pub left_none : (on : ℕ → Bool) (i : ℕ) (rs : List Retired) (next : Option ℕ) → AreLeft on i rs next → next ≡ None → list_any (hits on i) rs ≡ false
left_none on i rs next left e = left.any ∙ newest_miss on i left.rest (left.is ∙ e)

-- how many places are left
abbrev pub places_left : Option ℕ → ℕ
places_left None = 0
places_left (Some k) = suc k

newest_low : (i : ℕ) (rs : List Retired) → places_left (newest i rs) ≤ length rs
newest_low i [] = omega arith
newest_low i (r ∷ rs) = elim (cases_Bool (eqb r.clause i)) [
  | inl same ↦ omega (arith, ap places_left (cond-true (eqb r.clause i) (Some (length rs)) (newest i rs) same))
  | inr other ↦ omega (arith, newest_low i rs, ap places_left (cond-false (eqb r.clause i) (Some (length rs)) (newest i rs) other))
]

-- what the record tells that was read in the place k
pub record Tells (on : ℕ → Bool) (i k : ℕ) (rs : List Retired) (r : Retired) : Type 0 where
  pub hit : on r.node ≡ true → list_any (hits on i) rs ≡ true
  pub miss : on r.node ≡ false → AreLeft on i rs r.older
  pub less : places_left r.older < suc k

pub left_some : (on : ℕ → Bool) (i k : ℕ) (rs : List Retired) (next : Option ℕ) → AreLeft on i rs next → next ≡ Some k → (r : Retired) × (slice_get (reverse rs) k ≡ Some r) × Tells on i k rs r
left_some on i k rs next left e =
    let p = newest_last on i k left.rest left.linked (left.is ∙ e) in
    let low = newest_low i p.rest in (
      p.last,
      left.kept k p.last p.found,
      record {
        hit = λ t. left.any ∙ (p.any ∙ ap (λ b. b || list_any (hits on i) p.rest) t);
        miss = λ f. record {
          rest = p.rest;
          linked = p.linked;
          kept = λ j r g. left.kept j r (p.kept j r g);
          is = sym p.older;
          any = left.any ∙ (p.any ∙ ap (λ b. b || list_any (hits on i) p.rest) f);
        };
        less = omega (arith, ap places_left p.older, low, p.place);
      },
    )

-- ---- the pick as it goes on

cond_one : (b : Bool) (c : Candidate) (f : Option Candidate → Candidate → Option Candidate) (best : Option Candidate) (xs : List Candidate) → fold f best (cond b (c ∷ xs) xs) ≡ fold f (cond b (f best c) best) xs
cond_one true c f best xs = refl
cond_one false c f best xs = refl

-- the best so far, with one more line
pub fold_passing : (f : Option Candidate → Candidate → Option Candidate) (passes : ℕ → Bool) (n k : ℕ) (lines : List Line) (l : Line) (best : Option Candidate) → slice_get lines k ≡ Some l
    → fold f best (passing passes n (take (suc k) lines)) ≡ cond (passes (n + k)) (f (fold f best (passing passes n (take k lines))) (weighed (n + k) l)) (fold f best (passing passes n (take k lines)))
fold_passing f passes n k [] l best h = cc
fold_passing f passes n zero (x ∷ xs) l best h =
    let q : x ≡ l = cc in
    let z : n ≡ n + 0 = omega arith in
    cond_one (passes n) (weighed n x) f best [] ∙ (ap (λ y. cond (passes n) (f best (weighed n y)) best) q ∙ ap (λ j. cond (passes j) (f best (weighed j l)) best) z)
fold_passing f passes n (suc k) (x ∷ xs) l best h =
    let z : n + 1 + k ≡ n + suc k = omega arith in
    let start = cond (passes n) (f best (weighed n x)) best in
    let back = sym (cond_one (passes n) (weighed n x) f best (passing passes (n + 1) (take k xs))) in
    cond_one (passes n) (weighed n x) f best (passing passes (n + 1) (take (suc k) xs))
    ∙ (fold_passing f passes (n + 1) k xs l start h
    ∙ (ap (λ j. cond (passes j) (f (fold f start (passing passes (n + 1) (take k xs))) (weighed j l)) (fold f start (passing passes (n + 1) (take k xs)))) z
    ∙ ap (λ o. cond (passes (n + suc k)) (f o (weighed (n + suc k) l)) o) back))
