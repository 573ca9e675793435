-- Each step keeps the rule of the cell.
use Rattle.std.proofs.Common.{◌≡◌, ◌≢◌, ℕ, ◌≤◌, List, [], ◌∷◌, length, set, Bool, true, false, true≢false, refl, sym, ap, ◌∙◌, subst, arith}
use Rattle.std.specs.Prelude.{Option, Some, None, slice_index, slice_set, ◌==◌}
use mathlib.Core.Logic.{dite}
use native.Mathlib.Decide.{ℕ_discrete}
use mathlib.Core.Option.{some, none, some-injective, some-ne-none}
use lib.ListN.{get_elem?}
use prog.Atomic.{either}
use Rattle.atomic_table.specs.Table.{State, Me, Step, Act, keeps, takes, gives, stepped, carried_after, Valid, Allows, rest}
use Rattle.atomic_table.proofs.Lists.{set_else, exchanged}
use Rattle.turn_cell.specs.declared.view.View.{View}
use Rattle.turn_cell.specs.Lists.{BeginsWith, entries_of, Among, Appends, Continues, IsOfSeats}
use Rattle.turn_cell.specs.Rule.{entered, refused, grown, outside, Fits, IsConsistent, Sat, Enters, Stores, Leaves}
use Rattle.turn_cell.proofs.Lists.{begins_nothing, begins_itself, begins_trans, appends-others, appends-ours}
use Rattle.turn_cell.proofs.Views.{same_there, set_there, each_set}

-- the view in the turn is another than one that is outside
pub elsewhere : {E G : Type 0} (l : List (View E G)) (at id : ℕ) (v w : View E G) → get_elem? l at ≡ some w → w.inside ≡ true → get_elem? l id ≡ some v → v.inside ≡ false → at ≢ id
elsewhere {E} {G} l at id v w e y f n z =
    let same : w ≡ v = same_there l at w v e (subst (λ k. get_elem? l k ≡ some v) (sym z) f) in
    true≢false (sym y ∙ ap (λ (u : View E G). u.inside) same ∙ n)

module _ {T E G : Type 0} (told : T → List E) (by : E → ℕ) (set_of : T → G) (seats : ℕ) where
  abbrev V : Type 0
  V = View E G

  abbrev St : Type 0
  St = State (Option T) V

  abbrev Rule : St → Type 0
  Rule = IsConsistent told by set_of seats

  abbrev some_or : G → Option G → G
  some_or d None = d
  some_or d (Some x) = x

  some_same : (a b : G) → Some a ≡ Some b → a ≡ b
  some_same a b e = ap (some_or a) e

  nothing : (xs : List E) → Continues by [] [] xs
  nothing xs = (begins_nothing xs, λ n a. absurd a)

  not_in : (b : Bool) → (b ≡ true → ⊥) → b ≡ false
  not_in true h = absurd (h refl)
  not_in false h = refl

  enters : (slots id : ℕ) (me : Sat T E G) (st : Step (Option T)) → me.0.spent ≡ false → me.0.seats ≡ seats → Allows Rule slots id me 0 (λ n. either (n == 0) me.0.number n) (Enters told by set_of st me)
  enters slots id me st live count s h long at small = exchanged W 0 v.number F hit miss
    where
      v : V
      v = me.0

      W : ℕ
      W = slice_index s.words 0

      F : ℕ → Type 0
      F n = (w : V) × (a : Act (Option T)) × Valid s.homes me.1 a × Rule (stepped s 0 n id me.1 w a) × Enters told by set_of st me W (w, carried_after me.1 a)

      W_is : W ≡ h.turn
      W_is = ap (λ ws. slice_index ws 0) h.words

      fit : Fits by seats h.turn h.at h.all h.g h.owner id v
      fit = h.views id v at live

      same : slice_set s.words 0 W ≡ s.words
      same = subst (λ ws. slice_set ws 0 (slice_index ws 0) ≡ ws) (sym h.words) refl

      miss : W ≢ 0 → F W
      miss far =
          let taken : h.turn ≢ 0 = λ z. far (W_is ∙ z) in
          let o = h.holder taken in
          let f = h.views h.at o.0 o.1 o.2 in
          let k = f.kept o.0.number f.own in
          let w = refused v W in (
            w,
            keeps,
            tt,
            record {
              turn = h.turn;
              at = h.at;
              all = h.all;
              g = h.g;
              owner = h.owner;
              words = same ∙ h.words;
              ours = h.ours;
              home = h.home;
              out = h.out;
              holder = λ _. dite (ℕ_discrete h.at id) (λ e. again o e) (λ e. (o.0, set_else s.views id h.at w e ∙ o.1, o.2, o.3, o.4));
              views = each_set (λ j u. u.spent ≡ false → Fits by seats h.turn h.at h.all h.g h.owner j u) s.views id w
                  (λ _. record {
                    positive = fit.positive;
                    within = fit.within;
                    begins = fit.begins;
                    same = fit.same;
                    own = fit.own;
                    apart = fit.apart;
                    kept = fit.kept;
                    into = nothing v.seen;
                    other = nothing v.seen;
                  })
                  (λ j u apart e lu. h.views j u e lu);
            },
            ((λ z. absurd (far z)), λ _. (refl, (within o k.1, (λ y. W_is ∙ sym (fit.within y).1), λ out a. mine o k.2 out a))),
          )
        where
          -- the seat itself is in the turn
          again : (o : (u : V) × (get_elem? s.views h.at ≡ some u) × (u.spent ≡ false) × (u.inside ≡ true) × (u.number ≡ h.turn)) → h.at ≡ id
              → (u : V) × (get_elem? (set s.views id (refused v W)) h.at ≡ some u) × (u.spent ≡ false) × (u.inside ≡ true) × (u.number ≡ h.turn)
          again o e =
              let is : v ≡ o.0 = sym (same_there s.views h.at o.0 v o.1 (subst (λ j. get_elem? s.views j ≡ some v) (sym e) at)) in
              (refused v W, subst (λ j. get_elem? (set s.views id (refused v W)) j ≡ some (refused v W)) (sym e) (set_there s.views id v (refused v W) at), refl, ap (λ (u : V). u.inside) is ∙ o.3, ap (λ (u : V). u.number) is ∙ o.4)

          within : (o : (u : V) × (get_elem? s.views h.at ≡ some u) × (u.spent ≡ false) × (u.inside ≡ true) × (u.number ≡ h.turn)) → o.0.number ≤ seats → W ≤ v.seats
          within o low = let n : o.0.number ≡ h.turn = o.4 in let is : W ≡ h.turn = W_is in let many : v.seats ≡ seats = count in omega arith

          -- a number of this seat is not that of the seat in the turn
          mine : (o : (u : V) × (get_elem? s.views h.at ≡ some u) × (u.spent ≡ false) × (u.inside ≡ true) × (u.number ≡ h.turn)) → h.owner o.0.number ≡ h.at → v.inside ≡ false → Among W v.keeps → ⊥
          mine o owned out a =
              let kept = fit.kept o.0.number (subst (λ n. Among n v.keeps) (W_is ∙ sym o.4) a) in
              elsewhere s.views h.at id v o.0 o.1 o.3 at out (sym owned ∙ kept.2)

      hit : W ≡ 0 → F v.number
      hit z =
          let free : h.turn ≡ 0 = sym W_is ∙ z in
          let home = h.home free in
          let x = home.0 in
          let p = fit.positive in
          let w = entered v (told x) in
          let away : v.inside ≡ false = not_in v.inside (λ y. let n : v.number ≡ h.turn = (fit.within y).1 in omega arith) in (
            w,
            takes 0 (Some x),
            subst (λ hs. get_elem? hs 0 ≡ some (some (Some x))) (sym home.1) refl,
            record {
              turn = v.number;
              at = id;
              all = h.all;
              g = h.g;
              owner = h.owner;
              words = ap (λ ws. slice_set ws 0 v.number) h.words;
              ours = h.ours;
              home = λ none. absurd (omega arith);
              out = λ _. ap (λ hs. slice_set hs 0 none) home.1;
              holder = λ _. (w, set_there s.views id v w at, refl, refl, refl);
              views = each_set (λ j u. u.spent ≡ false → Fits by seats v.number id h.all h.g h.owner j u) s.views id w
                  (λ _. record {
                    positive = p;
                    within = λ _. (refl, refl, home.2);
                    begins = subst (BeginsWith h.all) (sym home.2) (begins_itself h.all);
                    same = fit.same;
                    own = fit.own;
                    apart = fit.apart;
                    kept = λ n k. let f = fit.kept n k in (f.0, f.1, f.2, ap (entries_of by n) home.2);
                    into = nothing (told x);
                    other = nothing (told x);
                  })
                  (λ j u apart e lu. let f = h.views j u e lu in record {
                    positive = f.positive;
                    within = λ y. let n : u.number ≡ h.turn = (f.within y).1 in let q = f.positive in absurd (omega arith);
                    begins = f.begins;
                    same = f.same;
                    own = f.own;
                    apart = f.apart;
                    kept = f.kept;
                    into = f.into;
                    other = f.other;
                  });
            },
            (
              (λ _. (x, refl, (away, fit.same ∙ ap Some (sym home.3), (subst (λ l. BeginsWith l v.seen) (sym home.2) fit.begins, λ n k. ap (entries_of by n) home.2 ∙ sym (fit.kept n k).3), subst (λ n. IsOfSeats by n (told x)) (sym count) (subst (IsOfSeats by seats) (sym home.2) h.ours)))),
              λ far. absurd (far z),
            ),
          )

  -- the new length, in the turn
  grows : (slots id : ℕ) (me : Sat T E G) (st : Step (Option T)) (list : List E) → me.0.spent ≡ false → me.0.inside ≡ true → Appends by me.0.number me.0.seen list
      → Allows Rule slots id me 1 (λ _. length list) (λ _. Stores list st me (length list))
  grows slots id me st list live inside new s h long at small =
      let v : V = me.0 in
      let fit = h.views id v at live in
      let mine = fit.within inside in
      let p = fit.positive in
      let w = grown v list in
      let more : Appends by v.number h.all list = subst (λ l. Appends by v.number l list) mine.2 new in (
        w,
        keeps,
        tt,
        record {
          turn = h.turn;
          at = h.at;
          all = list;
          g = h.g;
          owner = h.owner;
          words = ap (λ ws. slice_set ws 1 (length list)) h.words;
          ours = appends-ours by v.number seats h.all list p (fit.kept v.number fit.own).1 more h.ours;
          home = λ none. let n : v.number ≡ h.turn = mine.1 in absurd (omega arith);
          out = h.out;
          holder = λ far. (w, subst (λ k. get_elem? (set s.views id w) k ≡ some w) mine.0 (set_there s.views id v w at), refl, inside, mine.1);
          views = each_set (λ j u. u.spent ≡ false → Fits by seats h.turn h.at list h.g h.owner j u) s.views id w
              (λ _. record {
                positive = p;
                within = λ _. (mine.0, mine.1, refl);
                begins = begins_itself list;
                same = fit.same;
                own = fit.own;
                apart = fit.apart;
                kept = λ n k. let f = fit.kept n k in (f.0, f.1, f.2, refl);
                into = nothing list;
                other = nothing list;
              })
              (λ j u apart e lu. let f = h.views j u e lu in record {
                positive = f.positive;
                within = λ y. absurd (apart ((f.within y).0 ∙ sym mine.0));
                begins = begins_trans u.seen h.all list f.begins (more.0, more.1);
                same = f.same;
                own = f.own;
                apart = f.apart;
                kept = λ n k. let c = f.kept n k in
                    (c.0, c.1, c.2, c.3 ∙ sym (appends-others by n v.number h.all list (λ z. apart (sym c.2 ∙ ap h.owner z ∙ (fit.kept v.number fit.own).2)) more));
                into = f.into;
                other = f.other;
              });
        },
        refl,
      )

  -- the end of the turn
  pub leaves : (slots id : ℕ) (me : Sat T E G) (st : Step (Option T)) (x : T) → me.0.spent ≡ false → me.0.inside ≡ true → me.1 ≡ (0, Some x) ∷ [] → told x ≡ me.0.seen → me.0.setting ≡ Some (set_of x)
      → Allows Rule slots id me 0 (λ _. 0) (λ _. Leaves st me 0)
  leaves slots id me st x live inside holds is same s h long at small =
      let v : V = me.0 in
      let fit = h.views id v at live in
      let mine = fit.within inside in
      let p = fit.positive in
      let w = outside v in
      let n : v.number ≡ h.turn = mine.1 in
      let taken : h.turn ≢ 0 = λ z. omega arith in (
        w,
        gives,
        tt,
        record {
          turn = 0;
          at = id;
          all = h.all;
          g = h.g;
          owner = h.owner;
          words = ap (λ ws. slice_set ws 0 0) h.words;
          ours = h.ours;
          home = λ _. (x, put s.homes (h.out taken), is ∙ mine.2, some_same _ _ (sym same ∙ fit.same));
          out = λ far. absurd (far refl);
          holder = λ far. absurd (far refl);
          views = each_set (λ j u. u.spent ≡ false → Fits by seats 0 id h.all h.g h.owner j u) s.views id w
              (λ _. record {
                positive = p;
                within = λ y. absurd (true≢false (sym y));
                begins = fit.begins;
                same = fit.same;
                own = fit.own;
                apart = fit.apart;
                kept = fit.kept;
                into = nothing v.seen;
                other = nothing v.seen;
              })
              (λ j u apart e lu. let f = h.views j u e lu in record {
                positive = f.positive;
                within = λ y. absurd (apart ((f.within y).0 ∙ sym mine.0));
                begins = f.begins;
                same = f.same;
                own = f.own;
                apart = f.apart;
                kept = f.kept;
                into = f.into;
                other = f.other;
              });
        },
        refl,
      )
    where
      put : (hs : List (mathlib.Core.Option.Option (Option T))) → hs ≡ none ∷ [] → Rattle.atomic_table.specs.Table.put_back hs me.1 ≡ some (Some x) ∷ []
      put hs e = λ i. Rattle.atomic_table.specs.Table.put_back (e i) (holds i)

  -- the same where the number is known by an equation
  pub enters_as : (slots id : ℕ) (me : Sat T E G) (st : Step (Option T)) (k : ℕ) → me.0.number ≡ k → me.0.spent ≡ false → me.0.seats ≡ seats → Allows Rule slots id me 0 (λ n. either (n == 0) k n) (Enters told by set_of st me)
  enters_as slots id me st k is live count = subst (λ j. Allows Rule slots id me 0 (λ n. either (n == 0) j n) (Enters told by set_of st me)) is (enters slots id me st live count)

  -- the new length, while the value is out of the slot
  pub stores : (slots id : ℕ) (me : Sat T E G) (st : Step (Option T)) (list : List E) (k : ℕ) → k ≡ length list → me.0.spent ≡ false → me.0.inside ≡ true → Appends by me.0.number me.0.seen list
      → Allows Rule slots id me 1 (λ _. k) (λ _. Stores list st me k)
  stores slots id me st list k is live inside new = subst (λ j. Allows Rule slots id me 1 (λ _. j) (λ _. Stores list st me j)) (sym is) (grows slots id me st list live inside new)
