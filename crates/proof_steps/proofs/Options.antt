-- Elements of lists at a place, and what options were made from.
use Rattle.std.proofs.Common.{◌≡◌, ℕ, zero, suc, Bool, true, false, if◌then◌else◌, List, [], ◌∷◌, ◌++◌, Contains, Option, Some, None, option_map, option_and_then, refl, subst, arith}
use Rattle.std.specs.List.{slice_get, AllByRecursion}
use Rattle.proof_steps.specs.Steps.{when, numbered, of_one, of_two, of_three}

-- ---- lists

pub Contains-get : {A : Type 0} (xs : List A) (k : ℕ) (x : A) → slice_get xs k ≡ Some x → Contains xs x
Contains-get [] k x e = absurd (cc)
Contains-get (y ∷ xs) zero x e = let h : y ≡ x = cc in (0, omega arith, h)
Contains-get (y ∷ xs) (suc k) x e =
    let r = Contains-get xs k x e in
    (suc r.0, omega (arith, r.1), r.2)

pub each_get : {A : Type 0} (P : A → Type 0) (xs : List A) (k : ℕ) (x : A) → AllByRecursion P xs → slice_get xs k ≡ Some x → P x
each_get P [] k x all e = absurd (cc)
each_get P (y ∷ xs) zero x all e = let h : y ≡ x = cc in subst P h all.0
each_get P (y ∷ xs) (suc k) x all e = each_get P xs k x all.1 e

pub each_push : {A : Type 0} (P : A → Type 0) (xs : List A) (x : A) → AllByRecursion P xs → P x → AllByRecursion P (xs ++ x ∷ [])
each_push P [] x all p = (p, tt)
each_push P (y ∷ xs) x all p = (all.0, each_push P xs x all.1 p)

pub numbered_get : {A : Type 0} (P : A → Type 0) (xs : List A) (k : ℕ) (x : A) → AllByRecursion P xs → numbered xs k ≡ Some x → P x
numbered_get P xs zero x all e = absurd (cc)
numbered_get P xs (suc k) x all e = each_get P xs k x all e

-- ---- options

pub of_one-parts : {A B : Type 0} (f : A → Option B) (o : Option A) (y : B) → of_one f o ≡ Some y → (p : A) × (o ≡ Some p) × (f p ≡ Some y)
of_one-parts f None y e = absurd (cc)
of_one-parts f (Some p) y e = (p, refl, e)

pub of_two-parts : {A B C : Type 0} (f : A → B → Option C) (o : Option A) (r : Option B) (y : C) → of_two f o r ≡ Some y → (p : A) × (q : B) × (o ≡ Some p) × (r ≡ Some q) × (f p q ≡ Some y)
of_two-parts f None r y e = absurd (cc)
of_two-parts f (Some p) None y e = absurd (cc)
of_two-parts f (Some p) (Some q) y e = (p, q, refl, refl, e)

pub of_three-parts : {A B C D : Type 0} (f : A → B → C → Option D) (o : Option A) (r : Option B) (t : Option C) (y : D) → of_three f o r t ≡ Some y → (p : A) × (q : B) × (w : C) × (o ≡ Some p) × (r ≡ Some q) × (t ≡ Some w) × (f p q w ≡ Some y)
of_three-parts f None r t y e = absurd (cc)
of_three-parts f (Some p) None t y e = absurd (cc)
of_three-parts f (Some p) (Some q) None y e = absurd (cc)
of_three-parts f (Some p) (Some q) (Some w) y e = (p, q, w, refl, refl, refl, e)

pub chosen : {A : Type 0} (b : Bool) (o : Option A) (y : A) → (if b then o else None) ≡ Some y → (b ≡ true) × (o ≡ Some y)
chosen true o y e = (refl, e)
chosen false o y e = absurd (cc)

pub mapped : {A B : Type 0} (f : A → B) (o : Option A) (y : B) → option_map f o ≡ Some y → (x : A) × (o ≡ Some x) × (f x ≡ y)
mapped f None y e = absurd (cc)
mapped f (Some x) y e = (x, refl, cc)

pub passed : {A : Type 0} (b : Bool) (a y : A) → when b a ≡ Some y → (b ≡ true) × (a ≡ y)
passed true a y e = (refl, cc)
passed false a y e = absurd (cc)

pub chained : {A B : Type 0} (f : A → Option B) (o : Option A) (y : B) → option_and_then f o ≡ Some y → (x : A) × (o ≡ Some x) × (f x ≡ Some y)
chained f None y e = absurd (cc)
chained f (Some x) y e = (x, refl, e)

pub contains_numbered : {A : Type 0} (xs : List A) (n : ℕ) (x : A) → numbered xs n ≡ Some x → Contains xs x
contains_numbered xs zero x e = absurd (cc)
contains_numbered xs (suc n) x e = Contains-get xs n x e
