-- What a walk asks for at a form gives what it asks for at the parts that it goes to.
use Rattle.std.proofs.Common.{◌≡◌, ℕ, zero, suc, ◌+◌, ◌-◌, ◌*◌, ◌/◌, ◌%◌, ◌<◌, ◌≤◌, List, [], ◌∷◌, fold, arith, refl}
use Rattle.std.proofs.Math.Nat.{mul-zero, mod-lt, div-lt_iff_lt-mul}
use Rattle.std.proofs.lemmas.Nat.{mul-le}
use Rattle.formulas.specs.Negations.{Form, both, either}
use Rattle.formulas.specs.Counts.{clause_count, existentials, form_count}
use Rattle.normal_form.specs.Blocks.{for_each, for_any}
use Rattle.normal_form.specs.Walking.{CanAdd, sum_count, skolem_count}

-- ---- counts that are small enough are exact

pub exact_clauses : (f : Form) → clause_count f ≤ 65536 → (form_count f).clauses ≡ clause_count f
exact_clauses f h = omega arith

pub exact_skolems : (f : Form) → existentials f ≤ 65536 → (form_count f).skolems ≡ existentials f
exact_skolems f h = omega arith

-- ---- two parts

factors : (a b k l : ℕ) → k < a * b → a * b ≤ l → (0 < a) × (0 < b) × (a ≤ l) × (b ≤ l)
factors zero b k l h m = absurd (omega arith)
factors (suc a) zero k l h m = absurd (omega (arith, mul-zero (suc a)))
factors (suc a) (suc b) k l h m =
    let left : suc a * 1 ≤ suc a * suc b = mul-le (suc a) 1 (suc a) (suc b) (omega arith) (omega arith) in
    let right : 1 * suc b ≤ suc a * suc b = mul-le 1 (suc b) (suc a) (suc b) (omega arith) (omega arith) in
    (omega arith, omega arith, omega arith, omega arith)

module _ (f g : Form) (next k : ℕ) where
  pub can_first : CanAdd (both f g) next k → k < clause_count f → CanAdd f next k
  can_first can less = let few = can.few in let room = can.room in record { within = less; few = omega arith; room = omega arith }

  pub can_second : CanAdd (both f g) next k → clause_count f ≤ k → CanAdd g (next + existentials f) (k - clause_count f)
  can_second can more = let within = can.within in let few = can.few in let room = can.room in record { within = omega arith; few = omega arith; room = omega arith }

  pub can_left : CanAdd (either f g) next k → CanAdd f next (k / clause_count g)
  can_left can =
      let q = factors (clause_count f) (clause_count g) k 65536 can.within can.few in
      let room = can.room in
      record { within = (div-lt_iff_lt-mul {k = clause_count g} {x = k} {y = clause_count f} q.1).1 can.within; few = q.2; room = omega arith }

  pub can_right : CanAdd (either f g) next k → CanAdd g (next + existentials f) (k % clause_count g)
  can_right can =
      let q = factors (clause_count f) (clause_count g) k 65536 can.within can.few in
      let room = can.room in
      record { within = mod-lt k q.1; few = q.3; room = omega arith }

  -- no division by 0
  pub right_positive : CanAdd (either f g) next k → 0 < clause_count g
  right_positive can = (factors (clause_count f) (clause_count g) k 65536 can.within can.few).1

-- ---- several parts

pub count_all : (acc : Form) (fs : List Form) → clause_count (fold both acc fs) ≡ clause_count acc + sum_count fs
count_all acc [] = omega arith
count_all acc (f ∷ fs) = let h = count_all (both acc f) fs in omega arith

pub skolems_all : (acc : Form) (fs : List Form) → existentials (fold both acc fs) ≡ existentials acc + skolem_count fs
skolems_all acc [] = omega arith
skolems_all acc (f ∷ fs) = let h = skolems_all (both acc f) fs in omega arith

pub skolems_some : (acc : Form) (fs : List Form) → existentials (fold either acc fs) ≡ existentials acc + skolem_count fs
skolems_some acc [] = omega arith
skolems_some acc (f ∷ fs) = let h = skolems_some (either acc f) fs in omega arith

-- ---- blocks

clauses-for_each : (first count : ℕ) (f : Form) → clause_count (for_each first count f) ≡ clause_count f
clauses-for_each first zero f = refl
clauses-for_each first (suc count) f = clauses-for_each (suc first) count f

pub skolems-for_each : (first count : ℕ) (f : Form) → existentials (for_each first count f) ≡ existentials f
skolems-for_each first zero f = refl
skolems-for_each first (suc count) f = skolems-for_each (suc first) count f

clauses-for_any : (first count : ℕ) (f : Form) → clause_count (for_any first count f) ≡ clause_count f
clauses-for_any first zero f = refl
clauses-for_any first (suc count) f = clauses-for_any (suc first) count f

pub skolems-for_any : (first count : ℕ) (f : Form) → existentials (for_any first count f) ≡ existentials f + count
skolems-for_any first zero f = omega arith
skolems-for_any first (suc count) f = let h = skolems-for_any (suc first) count f in omega arith

module _ (first count : ℕ) (f : Form) (next k : ℕ) where
  pub can_universal : CanAdd (for_each first count f) next k → CanAdd f next k
  can_universal can =
      let within = can.within in let few = can.few in let room = can.room in
      let c = clauses-for_each first count f in let s = skolems-for_each first count f in
      record { within = omega arith; few = omega arith; room = omega arith }

  pub can_existential : CanAdd (for_any first count f) next k → CanAdd f (next + count) k
  can_existential can =
      let within = can.within in let few = can.few in let room = can.room in
      let c = clauses-for_any first count f in let s = skolems-for_any first count f in
      record { within = omega arith; few = omega arith; room = omega arith }
