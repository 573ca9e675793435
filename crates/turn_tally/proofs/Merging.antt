-- Seats whose workers have ended.
use Rattle.std.proofs.Common.{◌≡◌, ℕ, Bool, true, ap, ◌∙◌, subst, ⊎_elim}
use Rattle.turn_cell.specs.Lists.{Continues, Among}
use Rattle.turn_cell.specs.Seats.{Cell, had, joined_with}
use Rattle.turn_cell.specs.ListLaws.{among-append}
use Rattle.turn_tally.specs.Tallies.{seat_of}
use Rattle.turn_tally.specs.Runs.{TallySeat, HasNumbered, IsDone}

pub entries_upto-joined : (n : ℕ) (a b c : TallySeat) → c ≡ joined_with a b → Continues seat_of (had a) a.seen c.seen → Continues seat_of (had b) b.seen c.seen → HasNumbered n a → HasNumbered n b → HasNumbered n c
entries_upto-joined n a b c is p q ha hb k among = ⊎_elim (λ x. p.1 k x ∙ ha k x) (λ x. q.1 k x ∙ hb k x)
    (among-append k (had a) (had b) (subst (Among k) (ap had is) among))

pub done-joined : (cell : Cell) (n : ℕ) (a b c : TallySeat) (x y z : Bool) → c ≡ joined_with a b → Continues seat_of (had a) a.seen c.seen → Continues seat_of (had b) b.seen c.seen
    → (z ≡ true → (x ≡ true) × (y ≡ true)) → IsDone cell n a x → IsDone cell n b y → IsDone cell n c z
done-joined cell n a b c x y z is p q whole da db = record {
  here = ap (λ (s : TallySeat). s.cell) is ∙ da.here;
  outside = ap (λ (s : TallySeat). s.inside) is ∙ da.outside;
  limit = ap (λ (s : TallySeat). s.setting) is ∙ da.limit;
  entries = λ e. entries_upto-joined n a b c is p q (da.entries (whole e).0) (db.entries (whole e).1);
}
