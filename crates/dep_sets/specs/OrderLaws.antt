-- Laws that carry proofs, and no definitions that a reader must believe: the order of assumptions, the tests and what they say.
use Rattle.std.proofs.Common.{◌≡◌, inl, inr, Bool, true, false, ◌&&◌, eqb, ltb, refl, sym, ◌∙◌, ap, arith, eq-eqb}
use Rattle.std.proofs.lemmas.Bool.{or_cases, or_left, or_right, or_from, and_parts, and_from, cases_lt, eqb-true, ne_eqb, ltb-true, lt-ltb, le-ltb, false≢true}
use Rattle.dep_sets.specs.declared.deps.Assumption.{Assumption}
use Rattle.dep_sets.specs.Assumptions.{is_same_assumption, is_before, IsBefore}

pub no_first : (x y : Bool) → x ≡ false → (x && y) ≡ false
no_first true y h = cc
no_first false y h = refl

pub no_second : (x y : Bool) → y ≡ false → (x && y) ≡ false
no_second true y h = h
no_second false y h = refl

pub is_before_true : (a b : Assumption) → IsBefore a b → is_before a b ≡ true
is_before_true a b (inl h) = or_left (ltb a.split b.split) (eqb a.split b.split && ltb a.side b.side) (lt-ltb a.split b.split h)
is_before_true a b (inr h) = or_right (ltb a.split b.split) (eqb a.split b.split && ltb a.side b.side) (and_from (eqb a.split b.split) (ltb a.side b.side) (eq-eqb a.split b.split h.0) (lt-ltb a.side b.side h.1))

pub is_before_false : (a b : Assumption) → IsBefore b a → is_before a b ≡ false
is_before_false a b (inl h) =
    or_from (ltb a.split b.split) (eqb a.split b.split && ltb a.side b.side) (le-ltb a.split b.split (omega arith))
    (no_first (eqb a.split b.split) (ltb a.side b.side) (ne_eqb a.split b.split (λ q. omega arith)))
is_before_false a b (inr h) =
    or_from (ltb a.split b.split) (eqb a.split b.split && ltb a.side b.side) (le-ltb a.split b.split (omega (arith, h.0)))
    (no_second (eqb a.split b.split) (ltb a.side b.side) (le-ltb a.side b.side (omega (arith, h.1))))

pub is_same_false : (a b : Assumption) → IsBefore b a → is_same_assumption a b ≡ false
is_same_false a b (inl h) = no_first (eqb a.split b.split) (eqb a.side b.side) (ne_eqb a.split b.split (λ q. omega arith))
is_same_false a b (inr h) = no_second (eqb a.split b.split) (eqb a.side b.side) (ne_eqb a.side b.side (λ q. omega (arith, h.1)))

pub is_same_before : (a b : Assumption) → IsBefore a b → is_same_assumption a b ≡ false
is_same_before a b (inl h) = no_first (eqb a.split b.split) (eqb a.side b.side) (ne_eqb a.split b.split (λ q. omega arith))
is_same_before a b (inr h) = no_second (eqb a.split b.split) (eqb a.side b.side) (ne_eqb a.side b.side (λ q. omega (arith, h.1)))

pub before-is_before : (a b : Assumption) → is_before a b ≡ true → IsBefore a b
before-is_before a b h = elim (or_cases (ltb a.split b.split) (eqb a.split b.split && ltb a.side b.side) h) [
  | inl l ↦ inl (ltb-true a.split b.split l)
  | inr r ↦ let parts = and_parts (eqb a.split b.split) (ltb a.side b.side) r in inr (eqb-true a.split b.split parts.0, ltb-true a.side b.side parts.1)
]

-- the test passes at equal assumptions
pub same_equal : (a b : Assumption) → a ≡ b → is_same_assumption a b ≡ true
same_equal a b e = and_from (eqb a.split b.split) (eqb a.side b.side) (eq-eqb a.split b.split (ap (λ z. z.split) e)) (eq-eqb a.side b.side (ap (λ z. z.side) e))

pub same_self : (a : Assumption) → is_same_assumption a a ≡ true
same_self a = same_equal a a refl

pub same-is_same : (a b : Assumption) → is_same_assumption a b ≡ true → a ≡ b
same-is_same a b h =
    let parts = and_parts (eqb a.split b.split) (eqb a.side b.side) h in
    let p = eqb-true a.split b.split parts.0 in
    let q = eqb-true a.side b.side parts.1 in
    λ i. record { split = p i; side = q i }

pub before-else : (a b : Assumption) → is_before a b ≡ false → is_same_assumption a b ≡ false → IsBefore b a
before-else a b h k = elim (cases_lt b.split a.split) [
  | inl low ↦ inl low
  | inr high ↦
      elim (cases_lt a.split b.split) [
        | inl up ↦ absurd (false≢true (sym h ∙ is_before_true a b (inl up)))
        | inr down ↦
            let same : a.split ≡ b.split = omega arith in
            elim (cases_lt b.side a.side) [
              | inl low ↦ inr (sym same, low)
              | inr more ↦
                  elim (cases_lt a.side b.side) [
                    | inl up ↦ absurd (false≢true (sym h ∙ is_before_true a b (inr (same, up))))
                    | inr less ↦ absurd (false≢true (sym k ∙ and_from (eqb a.split b.split) (eqb a.side b.side) (eq-eqb a.split b.split same) (eq-eqb a.side b.side (omega arith))))
                  ]
            ]
      ]
]

pub before_trans : (a b c : Assumption) → IsBefore a b → IsBefore b c → IsBefore a c
before_trans a b c (inl h) (inl k) = inl (omega arith)
before_trans a b c (inl h) (inr k) = inl (omega (arith, k.0))
before_trans a b c (inr h) (inl k) = inl (omega (arith, h.0))
before_trans a b c (inr h) (inr k) = inr (h.0 ∙ k.0, omega (arith, h.1, k.1))
