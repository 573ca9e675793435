-- Dealing and joining seats keeps the rule of the cell, and what it says at the end.
use Rattle.std.proofs.Common.{◌≡◌, ◌≢◌, ℕ, zero, suc, ◌+◌, ◌<◌, ◌≤◌, List, [], ◌∷◌, length, set, ◌-◌, cond, eqb, Bool, true, false, true≢false, refl, sym, ap, ◌∙◌, subst, ⊎_elim, inl, inr, arith, eq-eqb, ne_eqb, add-one}
use Rattle.std.specs.Prelude.{Option, Some, None, slice_index, slice_set, nat_lt}
use Rattle.std.proofs.lemmas.List.Elements.{All-nil}
use mathlib.Core.Logic.{dite}
use native.Mathlib.Decide.{ℕ_discrete}
use mathlib.Core.Option.{some, some-injective, some-ne-none}
use lib.ListN.{get_elem?}
use Rattle.atomic_table.specs.Table.{State, Step, keeps, Allows, Splits, Joins, opening, Seen, Final}
use Rattle.atomic_table.proofs.Lists.{set_again, set_else, at_longer}
use Rattle.std.proofs.lemmas.Bool.Decides.{nat_tests}
use Rattle.atomic_table.specs.Seated.{TableId}
use Rattle.turn_cell.specs.declared.view.View.{View}
use Rattle.turn_cell.specs.Lists.{BeginsWith, entries_of, Among, Continues, HasAllSeats, IsOfSeats, longer}
use Rattle.turn_cell.specs.Seats.{Cell, SeatSeen, new_seat}
use Rattle.turn_cell.specs.Rule.{AllApart, count_up, first_view, dealt_from, dealt, second, without_second, both, spent_view, Looks, cell_of, seat_seen, others, dealing, Fits, IsConsistent, Sat, Sits}
use Rattle.turn_cell.proofs.Moves.{elsewhere}
use Rattle.turn_cell.specs.ListLaws.{among-append, among_left}
use Rattle.turn_cell.proofs.Lists.{begins_nothing, begins_itself, begins_shorter, between}
use Rattle.turn_cell.proofs.Views.{among_from, apart_up, among_first, apart-append, each_snoc, each_set}

module _ {T E G : Type 0} (told : T → List E) (by : E → ℕ) (set_of : T → G) (seats : ℕ) where
  abbrev V : Type 0
  V = View E G

  abbrev St : Type 0
  St = State (Option T) V

  abbrev Rule : St → Type 0
  Rule = IsConsistent told by set_of seats

  nothing : (xs : List E) → Continues by [] [] xs
  nothing xs = (begins_nothing xs, λ n a. absurd a)

  pub opens : (x : T) → told x ≡ [] → 0 < seats → Rule (opening (0 ∷ 0 ∷ []) (Some x ∷ []) (first_view (set_of x) seats))
  opens x empty some_seat = record {
    turn = 0;
    at = 0;
    all = [];
    g = set_of x;
    owner = λ _. 0;
    words = refl;
    ours = All-nil (λ e. (0 < by e) × (by e ≤ seats));
    home = λ _. (x, refl, empty, refl);
    out = λ far. absurd (far refl);
    holder = λ far. absurd (far refl);
    views = one;
  }
    where
      one : (id : ℕ) (v : V) → get_elem? (first_view (set_of x) seats ∷ []) id ≡ some v → v.spent ≡ false → Fits by seats 0 0 [] (set_of x) (λ _. 0) id v
      one zero v e live = subst (Fits by seats 0 0 [] (set_of x) (λ _. 0) 0) (some-injective _ _ e) record {
        positive = omega arith;
        within = λ y. absurd (true≢false (sym y));
        begins = begins_nothing [];
        same = refl;
        own = among_first seats some_seat;
        apart = apart_up 1 seats;
        kept = λ n a. let h = among_from 1 seats n a in (let l = h.0 in omega arith, let l = h.1 in omega arith, refl, refl);
        into = nothing [];
        other = nothing [];
      }
      one (suc id) v e live = absurd (some-ne-none v (sym e))

  abbrev given : ℕ → ℕ → (ℕ → ℕ) → ℕ → ℕ
  given y id owner n = cond (eqb n y) id (owner n)

  given_here : (y id : ℕ) (owner : ℕ → ℕ) (n : ℕ) → n ≡ y → given y id owner n ≡ id
  given_here y id owner n e = ap (λ b. cond b id (owner n)) (eq-eqb n y e)

  given_else : (y id : ℕ) (owner : ℕ → ℕ) (n k : ℕ) → n ≢ y → owner n ≡ k → given y id owner n ≡ k
  given_else y id owner n k e f = ap (λ b. cond b id (owner n)) (ne_eqb n y e) ∙ f

  -- a seat is made
  pub deals : (id : ℕ) (v : V) (y : ℕ) (ys : List ℕ) → v.spent ≡ false → v.inside ≡ false → v.keeps ≡ v.number ∷ y ∷ ys → Splits Rule id v (dealt_from v) (dealt v)
  deals id v y ys live out is s h at =
      let fit = h.views id v at live in
      let left = dealt_from v in
      let right = dealt v in
      let l = set s.views id left in
      let N = length l in
      let is_y : second v.keeps ≡ y = ap second is in
      let rest_is : without_second v.keeps ≡ v.number ∷ ys = ap without_second is in
      let split : AllApart (v.number ∷ y ∷ ys) = subst AllApart is fit.apart in
      let old : (n : ℕ) → Among n (v.number ∷ y ∷ ys) → _ = λ n a. fit.kept n (subst (Among n) (sym is) a) in
      let of_y = old y (inr (inl refl)) in
      let owner : ℕ → ℕ = given y N h.owner in
      record {
        turn = h.turn;
        at = h.at;
        all = h.all;
        g = h.g;
        owner = owner;
        words = h.words;
        ours = h.ours;
        home = h.home;
        out = h.out;
        holder = λ far. let o = h.holder far in
            (o.0, at_longer l (right ∷ []) h.at o.0 (set_else s.views id h.at left (elsewhere s.views h.at id v o.0 o.1 o.3 at out) ∙ o.1), o.2, o.3, o.4);
        views = each_snoc (λ j u. u.spent ≡ false → Fits by seats h.turn h.at h.all h.g owner j u) l right
            (λ _. record {
              positive = subst (λ n. 0 < n) (sym is_y) of_y.0;
              within = λ t. absurd (true≢false (sym t));
              begins = fit.begins;
              same = fit.same;
              own = inl refl;
              apart = ((λ a. a), tt);
              kept = λ n a. let e : n ≡ y = ⊎_elim (λ f. f ∙ is_y) (λ b. absurd b) a in let k = old n (inr (inl e)) in (k.0, k.1, given_here y N h.owner n e, k.3);
              into = nothing v.seen;
              other = nothing v.seen;
            })
            (each_set (λ j u. u.spent ≡ false → Fits by seats h.turn h.at h.all h.g owner j u) s.views id left
            (λ _. record {
              positive = fit.positive;
              within = fit.within;
              begins = fit.begins;
              same = fit.same;
              own = subst (Among v.number) (sym rest_is) (inl refl);
              apart = subst AllApart (sym rest_is) ((λ a. split.0 (inr a)), split.1.1);
              kept = λ n a. let b = subst (Among n) rest_is a in
                  let k = old n (⊎_elim (λ e. inl e) (λ r. inr (inr r)) b) in
                  let apart_y : n ≢ y = λ e. ⊎_elim (λ f. split.0 (inl (sym f ∙ e))) (λ r. split.1.0 (subst (λ m. Among m ys) e r)) b in
                  (k.0, k.1, given_else y N h.owner n id apart_y k.2, k.3);
              into = nothing v.seen;
              other = nothing v.seen;
            })
            (λ j u apart e lu. let f = h.views j u e lu in record {
              positive = f.positive;
              within = f.within;
              begins = f.begins;
              same = f.same;
              own = f.own;
              apart = f.apart;
              kept = λ n a. let k = f.kept n a in (k.0, k.1, given_else y N h.owner n j (λ z. apart (sym k.2 ∙ ap h.owner z ∙ of_y.2)) k.2, k.3);
              into = f.into;
              other = f.other;
            }));
      }

  abbrev moved : ℕ → ℕ → (ℕ → ℕ) → ℕ → ℕ
  moved other id owner n = cond (eqb (owner n) other) id (owner n)

  moved_over : (other id : ℕ) (owner : ℕ → ℕ) (n : ℕ) → owner n ≡ other → moved other id owner n ≡ id
  moved_over other id owner n e = ap (λ b. cond b id (owner n)) (eq-eqb (owner n) other e)

  moved_not : (other id : ℕ) (owner : ℕ → ℕ) (n k : ℕ) → k ≢ other → owner n ≡ k → moved other id owner n ≡ k
  moved_not other id owner n k e f = ap (λ b. cond b id (owner n)) (ne_eqb (owner n) other (λ z. e (sym f ∙ z))) ∙ f

  -- the longer of two lists that both begin `all`
  long : (xs ys all : List E) → BeginsWith all xs → BeginsWith all ys → BeginsWith all (longer xs ys) × BeginsWith (longer xs ys) xs × BeginsWith (longer xs ys) ys
  long xs ys all p q = by_test (nat_lt (length xs) (length ys)) refl
    where
      by_test : (b : Bool) → nat_lt (length xs) (length ys) ≡ b → BeginsWith all (cond b ys xs) × BeginsWith (cond b ys xs) xs × BeginsWith (cond b ys xs) ys
      by_test true e = (q, begins_shorter xs ys p.0 q.0 (sym p.1 ∙ q.1) (grind (arith, nat_tests)), begins_itself ys)
      by_test false e = (p, begins_itself xs, begins_shorter ys xs q.0 p.0 (sym q.1 ∙ p.1) (grind (arith, nat_tests)))

  -- two seats are joined
  pub joins : (id other : ℕ) (v w : V) → v.spent ≡ false → w.spent ≡ false → v.inside ≡ false → w.inside ≡ false → Joins Rule id v other w (both v w) spent_view
  joins id other v w lv lw ov ow s h at far there =
      let l = set s.views id (both v w) in
      let at_w : get_elem? s.views other ≡ some w = sym (set_else s.views id other (both v w) far) ∙ there in
      let fv = h.views id v at lv in
      let fw = h.views other w at_w lw in
      let L = long v.seen w.seen h.all fv.begins fw.begins in
      let seen = longer v.seen w.seen in
      let one : (n : ℕ) → Among n v.keeps → entries_of by n seen ≡ entries_of by n v.seen = λ n a. between by n v.seen seen h.all L.1 L.0 (fv.kept n a).3 in
      let two : (n : ℕ) → Among n w.keeps → entries_of by n seen ≡ entries_of by n w.seen = λ n a. between by n w.seen seen h.all L.2 L.0 (fw.kept n a).3 in
      let owner : ℕ → ℕ = moved other id h.owner in
      record {
        turn = h.turn;
        at = h.at;
        all = h.all;
        g = h.g;
        owner = owner;
        words = h.words;
        ours = h.ours;
        home = h.home;
        out = h.out;
        holder = λ z. let o = h.holder z in
            (o.0, set_else l other h.at spent_view (elsewhere s.views h.at other w o.0 o.1 o.3 at_w ow) ∙ (set_else s.views id h.at (both v w) (elsewhere s.views h.at id v o.0 o.1 o.3 at ov) ∙ o.1), o.2, o.3, o.4);
        views = each_set (λ j u. u.spent ≡ false → Fits by seats h.turn h.at h.all h.g owner j u) l other spent_view
            (λ z. absurd (true≢false z))
            (λ j u apart e. each_set (λ i t. i ≢ other → t.spent ≡ false → Fits by seats h.turn h.at h.all h.g owner i t) s.views id (both v w)
            (λ _ _. record {
              positive = fv.positive;
              within = λ z. absurd (true≢false (sym z ∙ ov));
              begins = L.0;
              same = fv.same;
              own = among_left v.number v.keeps w.keeps fv.own;
              apart = apart-append v.keeps w.keeps fv.apart fw.apart (λ n a b. far (sym (fw.kept n b).2 ∙ (fv.kept n a).2));
              kept = λ n a. ⊎_elim
                  (λ b. let k = fv.kept n b in (k.0, k.1, moved_not other id h.owner n id (λ z. far (sym z)) k.2, one n b ∙ k.3))
                  (λ b. let k = fw.kept n b in (k.0, k.1, moved_over other id h.owner n k.2, two n b ∙ k.3))
                  (among-append n v.keeps w.keeps a);
              into = (L.1, one);
              other = (L.2, two);
            })
            (λ i t not_id f not_other lt. let ft = h.views i t f lt in record {
              positive = ft.positive;
              within = ft.within;
              begins = ft.begins;
              same = ft.same;
              own = ft.own;
              apart = ft.apart;
              kept = λ n a. let k = ft.kept n a in (k.0, k.1, moved_not other id h.owner n i not_other k.2, k.3);
              into = ft.into;
              other = ft.other;
            }) j u e apart);
      }

  -- a look tells what the two seats of the last join had, and changes nothing
  pub looks : (slots id : ℕ) (me : Sat T E G) (st : Step (Option T)) → me.0.spent ≡ false → Allows Rule slots id me 1 (λ n. n) (Looks by st me)
  looks slots id me st live s h long at small =
      let fit = h.views id me.0 at live in
      let same : slice_set s.words 1 (slice_index s.words 1) ≡ s.words = subst (λ ws. slice_set ws 1 (slice_index ws 1) ≡ ws) (sym h.words) refl in
      (me.0, keeps, tt, subst Rule (λ k. record { words = sym same k; homes = s.homes; views = sym (set_again s.views id me.0 at) k }) h, (refl, fit.into, fit.other))

  -- what is known at the end, of the value at home
  abbrev pub Ends : V → State (Option T) V → Type 0
  Ends v s = (x : T) × (s.homes ≡ some (Some x) ∷ []) × (v.setting ≡ Some (set_of x)) × Continues by v.keeps v.seen (told x) × IsOfSeats by seats (told x)

  pub ends : (id : ℕ) (v : V) (s : St) → v.spent ≡ false → v.inside ≡ false → HasAllSeats seats v.keeps → Seen Rule id v s → Ends v s
  ends id v s live out all seen =
      let h = seen.0 in
      let fit = h.views id v seen.1 live in
      let home = h.home (free h fit) in
      (home.0, home.1, fit.same ∙ ap Some (sym home.3), (subst (λ l. BeginsWith l v.seen) (sym home.2) fit.begins, λ n a. ap (entries_of by n) home.2 ∙ sym (fit.kept n a).3), subst (IsOfSeats by seats) (sym home.2) h.ours)
    where
      taken : (h : Rule s) → Fits by seats h.turn h.at h.all h.g h.owner id v → h.turn ≢ 0 → ⊥
      taken h fit far =
          let o = h.holder far in
          let f = h.views h.at o.0 o.1 o.2 in
          let k = f.kept o.0.number f.own in
          let mine = fit.kept o.0.number (all o.0.number k.0 k.1) in
          elsewhere s.views h.at id v o.0 o.1 o.3 seen.1 out (sym k.2 ∙ mine.2)

      free : (h : Rule s) → Fits by seats h.turn h.at h.all h.g h.owner id v → h.turn ≡ 0
      free h fit = dite (ℕ_discrete h.turn 0) (λ e. e) (λ far. absurd (taken h fit far))

count_more : (n m : ℕ) → count_up n (m + 1) ≡ n ∷ count_up (n + 1) m
count_more n m = rw (add-one m, add-one n) refl

module _ {T E G : Type 0} (told : T → List E) (by : E → ℕ) (set_of : T → G) (seats : ℕ) where
  -- a seat is made of the first seat, which is seen as s
  pub deals_as : (id n m : ℕ) (here : TableId) (c : Cell) (v : View E G) (x : G) → v.spent ≡ false → v.keeps ≡ v.number ∷ others v.keeps → seat_seen here v ≡ dealing c x n (m + 1) → Splits (IsConsistent told by set_of seats) id v (dealt_from v) (dealt v)
  deals_as id n m here c v x live own is =
      deals told by set_of seats id v n (count_up (n + 1) m) live (ap (λ (s : SeatSeen E G). s.inside) is) (own ∙ ap (λ l. v.number ∷ l) (ap (λ (s : SeatSeen E G). s.joined) is ∙ count_more n m))

  pub dealt_keeps : (n m : ℕ) (here : TableId) (c : Cell) (v : View E G) (x : G) → v.keeps ≡ v.number ∷ others v.keeps → seat_seen here v ≡ dealing c x n (m + 1) → v.keeps ≡ 1 ∷ n ∷ count_up (n + 1) m
  dealt_keeps n m here c v x own is = own ∙ ap (λ (p : ℕ × List ℕ). p.0 ∷ p.1) (λ i. ((is i).number, (ap (λ (s : SeatSeen E G). s.joined) is ∙ count_more n m) i))

  pub dealt_left : (n m : ℕ) (here : TableId) (c : Cell) (v : View E G) (x : G) → v.keeps ≡ v.number ∷ others v.keeps → seat_seen here v ≡ dealing c x n (m + 1) → seat_seen here (dealt_from v) ≡ dealing c x (n + 1) m
  dealt_left n m here c v x own is =
      let k = dealt_keeps n m here c v x own is in
      λ i. record { cell = (is i).cell; number = (is i).number; setting = (is i).setting; seen = (is i).seen; joined = others (without_second (k i)); inside = (is i).inside; found = (is i).found; tries = (is i).tries }

  pub dealt_right : (n m : ℕ) (here : TableId) (c : Cell) (v : View E G) (x : G) → v.keeps ≡ v.number ∷ others v.keeps → seat_seen here v ≡ dealing c x n (m + 1) → seat_seen here (dealt v) ≡ new_seat c n x
  dealt_right n m here c v x own is =
      let k = dealt_keeps n m here c v x own is in
      λ i. record { cell = (is i).cell; number = second (k i); setting = (is i).setting; seen = (is i).seen; joined = []; inside = false; found = 0; tries = 0 }

abbrev option_or : {A : Type 0} → A → Option A → A
option_or d None = d
option_or d (Some x) = x

module _ {T E G : Type 0} (told : T → List E) (by : E → ℕ) (set_of : T → G) (seats : ℕ) where
  -- what the value is that is taken out at the end
  closes : (id : ℕ) (v : View E G) (ws : List ℕ) (xs : List (Option T)) (r : Option T) → v.spent ≡ false → v.inside ≡ false → HasAllSeats seats v.keeps → Final (Seen (IsConsistent told by set_of seats) id v) ws xs → get_elem? xs 0 ≡ some r
      → (x : T) × (r ≡ Some x) × (v.setting ≡ Some (set_of x)) × Continues by v.keeps v.seen (told x) × IsOfSeats by seats (told x)
  closes id v ws xs r live out all f at =
      let e = ends told by set_of seats id v f.0 live out all f.1 in
      let there = f.4 0 (Some e.0) (subst (λ hs. get_elem? hs 0 ≡ some (some (Some e.0))) (sym e.1) refl) in
      (e.0, some-injective r (Some e.0) (sym at ∙ there), e.2, e.3, e.4)

  pub closes_full : (id : ℕ) (v : View E G) (ws : List ℕ) (xs : List (Option T)) (r : Option T) → v.spent ≡ false → v.inside ≡ false → HasAllSeats seats v.keeps → Final (Seen (IsConsistent told by set_of seats) id v) ws xs → get_elem? xs 0 ≡ some r → r ≡ None → ⊥
  closes_full id v ws xs r live out all f at is = let c = closes id v ws xs r live out all f at in let e : None ≡ Some c.0 = sym is ∙ c.1 in cc

  pub closes_with : (id : ℕ) (v : View E G) (ws : List ℕ) (xs : List (Option T)) (r : Option T) (y : T) → v.spent ≡ false → v.inside ≡ false → HasAllSeats seats v.keeps → Final (Seen (IsConsistent told by set_of seats) id v) ws xs → get_elem? xs 0 ≡ some r → r ≡ Some y
      → (v.setting ≡ Some (set_of y)) × Continues by v.keeps v.seen (told y) × IsOfSeats by seats (told y)
  closes_with id v ws xs r y live out all f at is = let c = closes id v ws xs r live out all f at in
      subst (λ x. (v.setting ≡ Some (set_of x)) × Continues by v.keeps v.seen (told x) × IsOfSeats by seats (told x)) (value c.0 y (sym c.1 ∙ is)) (c.2, c.3, c.4)
    where
      value : (a b : T) → Some a ≡ Some b → a ≡ b
      value a b e = ap (option_or a) e

  pub opens_as : (x y : T) (k : ℕ) (slots : List (Option T)) → k ≡ seats → y ≡ x → slots ≡ Some x ∷ [] → told x ≡ [] → 0 < seats → IsConsistent told by set_of k (opening (0 ∷ 0 ∷ []) slots (first_view (set_of y) k))
  opens_as x y k slots n same held empty some_seat =
      subst (λ j. IsConsistent told by set_of j (opening (0 ∷ 0 ∷ []) slots (first_view (set_of y) j))) (sym n)
      (subst (λ z. IsConsistent told by set_of seats (opening (0 ∷ 0 ∷ []) slots (first_view (set_of z) seats))) (sym same)
      (subst (λ l. IsConsistent told by set_of seats (opening (0 ∷ 0 ∷ []) l (first_view (set_of x) seats))) (sym held) (opens told by set_of seats x empty some_seat)))

pub first_is_dealer : {E G : Type 0} (here : TableId) (g : G) (k count seats : ℕ) (v : View E G) → v ≡ first_view g k → k ≡ seats → count ≡ k → 0 < seats → seat_seen here v ≡ dealing (cell_of here count) g 2 (seats - 1)
first_is_dealer here g k count zero v is n all some_seat = absurd (omega arith)
first_is_dealer {E} {G} here g k count (suc m) v is n all some_seat =
    ap (seat_seen here) (is ∙ ap (first_view g) n) ∙ ap (λ (p : ℕ × ℕ). dealing (cell_of here p.0) g 2 p.1) (λ i. (sym (all ∙ n) i, rest i))
  where
    rest : m ≡ suc m - 1
    rest = omega arith

pub first_keeps : {E G : Type 0} (g : G) (k : ℕ) (v : View E G) → v ≡ first_view g k → 0 < k → v.keeps ≡ v.number ∷ others v.keeps
first_keeps {E} {G} g zero v is some_seat = absurd (omega arith)
first_keeps {E} {G} g (suc m) v is some_seat = subst (λ (u : View E G). u.keeps ≡ u.number ∷ others u.keeps) (sym is) refl

pub first_sits : {T E G : Type 0} (g : G) (k : ℕ) (m : Sat T E G) → m ≡ (first_view g k, []) → 0 < k → Sits 1 m
first_sits {T} {E} {G} g k m is some_seat =
    (ap (λ (u : Sat T E G). u.0.number) is, ap (λ (u : Sat T E G). u.0.spent) is, (λ _. ap (λ (u : Sat T E G). u.1) is), (λ y. absurd (true≢false (sym y ∙ ap (λ (u : Sat T E G). u.0.inside) is))), first_keeps g k m.0 (ap (λ (u : Sat T E G). u.0) is) some_seat)
