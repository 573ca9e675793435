-- Marking a line and its ancestors.
use Rattle.std.proofs.Common.{◌≡◌, ℕ, zero, suc, ◌-◌, ◌<◌, ◌≤◌, ◌⊎◌, inl, inr, Bool, true, false, ◌||◌, nat_eq, List, [], ◌∷◌, length, Some, refl, sym, ap, ◌∙◌, subst, arith, rules, length-set, replicate}
use Rattle.std.specs.Prelude.{slice_set}
use Rattle.std.specs.List.{slice_get}
use Rattle.proof_steps.specs.declared.step.Line.{Line}
use Rattle.proof_extract.specs.Extracting.{is_in, IsMarked, HasParent, AreAncestors}
use Rattle.proof_extract.specs.Marking.{ParentsComeBefore, Marks, MarksParents}

get_set_same : (xs : List Bool) (k : ℕ) (y : Bool) → k < length xs → slice_get (slice_set xs k y) k ≡ Some y
get_set_same [] k y h = absurd (omega arith)
get_set_same (x ∷ xs) zero y h = refl
get_set_same (x ∷ xs) (suc k) y h = get_set_same xs k y (omega arith)

get_set_true : (xs : List Bool) (k n : ℕ) → slice_get xs n ≡ Some true → slice_get (slice_set xs k true) n ≡ Some true
get_set_true [] k n e = absurd (cc)
get_set_true (x ∷ xs) zero zero e = refl
get_set_true (x ∷ xs) zero (suc n) e = e
get_set_true (x ∷ xs) (suc k) zero e = e
get_set_true (x ∷ xs) (suc k) (suc n) e = get_set_true xs k n e

get_set_only : (xs : List Bool) (k n : ℕ) → slice_get (slice_set xs k true) n ≡ Some true → (slice_get xs n ≡ Some true) ⊎ (n ≡ k)
get_set_only [] k n e = inl e
get_set_only (x ∷ xs) zero zero e = inr refl
get_set_only (x ∷ xs) zero (suc n) e = inl e
get_set_only (x ∷ xs) (suc k) zero e = inl e
get_set_only (x ∷ xs) (suc k) (suc n) e = elim (get_set_only xs k n e) [ inl h ↦ inl h | inr h ↦ inr (ap suc h) ]

same_is_in : (n : ℕ) → is_in (n ∷ []) n ≡ true
same_is_in n = let same : nat_eq n n ≡ true = search rules in rw same refl

only_in : (n m : ℕ) → is_in (m ∷ []) n ≡ true → n ≡ m
only_in n m e = go (nat_eq n m) refl e
  where
    go : (b : Bool) → nat_eq n m ≡ b → (b || false) ≡ true → n ≡ m
    go true h e = search rules
    go false h e = absurd (cc)

pub marks_one : (xs : List Bool) (k : ℕ) → k < length xs → Marks (suc k ∷ []) xs (slice_set xs k true)
marks_one xs k h = record {
  size = length-set xs k true;
  keeps = elim [ zero ↦ (λ e. absurd (cc)) | suc n ↦ (λ e. get_set_true xs k n e) ];
  sets = elim [ zero ↦ (λ e p q. absurd (omega arith)) | suc n ↦ (λ e p q. let same : suc n ≡ suc k = only_in (suc n) (suc k) e in let s : k ≡ n = omega arith in subst (λ j. slice_get (slice_set xs k true) j ≡ Some true) s (get_set_same xs k true h)) ];
  only = elim [ zero ↦ (λ e. absurd (cc)) | suc n ↦ (λ e. elim (get_set_only xs k n e) [ inl f ↦ inl f | inr f ↦ inr (subst (λ j. is_in (suc k ∷ []) (suc j) ≡ true) (sym f) (same_is_in (suc k))) ]) ];
}

pub marks_out : (xs : List Bool) (n : ℕ) → (n ≡ 0) ⊎ (length xs < n) → Marks (n ∷ []) xs xs
marks_out xs n h = record {
  size = refl;
  keeps = λ m e. e;
  sets = λ m e p q. let same : m ≡ n = only_in m n e in absurd (elim h [ inl z ↦ (omega arith) | inr z ↦ (omega arith) ]);
  only = λ m e. inl e;
}

pub marks_none : (xs : List Bool) → Marks [] xs xs
marks_none xs = record { size = refl; keeps = λ m e. e; sets = λ m e p q. absurd (cc); only = λ m e. inl e }

pub marks_more : (n : ℕ) (ns : List ℕ) (xs ys zs : List Bool) → Marks (n ∷ []) xs ys → Marks ns ys zs → Marks (n ∷ ns) xs zs
marks_more n ns xs ys zs a b = record {
  size = b.size ∙ a.size;
  keeps = λ m e. b.keeps m (a.keeps m e);
  sets = λ m e p q. set m e p q;
  only = λ m e. elim (b.only m e) [ inl h ↦ elim (a.only m h) [ inl f ↦ inl f | inr f ↦ inr (first m f) ] | inr h ↦ inr (later m h) ];
}
  where
    first : (m : ℕ) → is_in (n ∷ []) m ≡ true → is_in (n ∷ ns) m ≡ true
    first m e = let same : m ≡ n = only_in m n e in subst (λ j. is_in (n ∷ ns) j ≡ true) (sym same) (let t : nat_eq n n ≡ true = search rules in rw t refl)

    go : (b c : Bool) → c ≡ true → (b || c) ≡ true
    go true c e = refl
    go false c e = e

    later : (m : ℕ) → is_in ns m ≡ true → is_in (n ∷ ns) m ≡ true
    later m e = go (nat_eq m n) (is_in ns m) e

    set : (m : ℕ) → is_in (n ∷ ns) m ≡ true → 0 < m → m ≤ length xs → IsMarked zs m
    set m e p q = pick (nat_eq m n) refl e
      where
        pick : (t : Bool) → nat_eq m n ≡ t → (t || is_in ns m) ≡ true → IsMarked zs m
        pick true h e = let same : m ≡ n = search rules in b.keeps m (a.sets m (subst (λ j. is_in (n ∷ []) j ≡ true) (sym same) (same_is_in n)) p q)
        pick false h e = b.sets m e p (omega (arith, a.size))

-- the ancestors among the lines past k are marked
pub record AreMarkedTo (lines : List Line) (last k : ℕ) (marks : List Bool) : Type 0 where
  pub size : length marks ≡ last
  pub whole : IsMarked marks last
  pub closed : (n m : ℕ) → k < n → IsMarked marks n → HasParent lines n m → IsMarked marks m
  pub needed : (m : ℕ) → IsMarked marks m → (m ≡ last) ⊎ ((n : ℕ) × IsMarked marks n × HasParent lines n m)

marked_within : (xs : List Bool) (n : ℕ) → IsMarked xs n → n ≤ length xs
marked_within xs zero e = absurd (cc)
marked_within [] (suc n) e = absurd (cc)
marked_within (x ∷ xs) (suc zero) e = omega arith
marked_within (x ∷ xs) (suc (suc n)) e = omega (arith, marked_within xs (suc n) e)

pub marked_down : (lines : List Line) (last k : ℕ) (old new : List Bool) → ParentsComeBefore lines → AreMarkedTo lines last (suc k) old → MarksParents lines (suc k) old new → AreMarkedTo lines last k new
marked_down lines last k old new before a s = record {
  size = s.size ∙ a.size;
  whole = s.keeps last a.whole;
  closed = λ n m below marked parent. close n m below (was n below marked) parent;
  needed = λ m marked. elim (s.only m marked) [
    | inl f ↦ elim (a.needed m f) [ inl e ↦ inl e | inr e ↦ inr (e.0, s.keeps e.0 e.1, e.2) ]
    | inr f ↦ inr (suc k, s.keeps (suc k) f.0, f.1)
  ];
}
  where
    -- what is past k was marked before, since a parent is not
    was : (n : ℕ) → k < n → IsMarked new n → IsMarked old n
    was n below marked = elim (s.only n marked) [ inl f ↦ f | inr f ↦ absurd (omega (arith, (before (suc k) n f.1).1)) ]

    split : (n : ℕ) → k < n → (n ≡ suc k) ⊎ (suc k < n)
    split n h = grind arith

    close : (n m : ℕ) → k < n → IsMarked old n → HasParent lines n m → IsMarked new m
    close n m below marked parent = elim (split n below) [
      | inl e ↦ (let b = before n m parent in let w = marked_within old n marked in s.sets m (subst (λ j. IsMarked old j) e marked) (subst (λ j. HasParent lines j m) e parent) b.0 (omega (arith, b.1, w)))
      | inr e ↦ s.keeps m (a.closed n m e marked parent)
    ]

pub marked_all : (lines : List Line) (last : ℕ) (marks : List Bool) → AreMarkedTo lines last 0 marks → AreAncestors lines last marks
marked_all lines last marks a = record {
  size = a.size;
  whole = a.whole;
  closed = elim [ zero ↦ (λ m e p. absurd (cc)) | suc n ↦ (λ m e p. a.closed (suc n) m (omega arith) e p) ];
  needed = a.needed;
}

unmarked : (n k : ℕ) → slice_get (replicate n false) k ≡ Some true → ⊥
unmarked zero k e = cc
unmarked (suc n) zero e = cc
unmarked (suc n) (suc k) e = unmarked n k e

pub marked_start : (lines : List Line) (last : ℕ) (old new : List Bool) → 0 < last → length old ≡ last → old ≡ replicate last false → Marks (last ∷ []) old new → AreMarkedTo lines last last new
marked_start lines last old new h size is s = record {
  size = s.size ∙ size;
  whole = s.sets last (same_is_in last) h (omega arith);
  closed = λ n m below marked parent. absurd (omega (arith, marked_within new n marked, s.size));
  needed = λ m marked. elim (s.only m marked) [ inl f ↦ absurd (none m f) | inr f ↦ inl (only_in m last f) ];
}
  where
    none : (m : ℕ) → IsMarked old m → ⊥
    none zero e = cc
    none (suc m) e = unmarked last m (subst (λ o. slice_get o m ≡ Some true) is e)

pub marks_at : (xs : List Bool) (n : ℕ) → 0 < n → n ≤ length xs → Marks (n ∷ []) xs (slice_set xs (n - 1) true)
marks_at xs zero h k = absurd (omega arith)
marks_at xs (suc n) h k = let e : n ≡ suc n - 1 = omega arith in subst (λ j. Marks (suc n ∷ []) xs (slice_set xs j true)) e (marks_one xs n (omega arith))

pub marked_down_at : (lines : List Line) (last k j : ℕ) (old new : List Bool) → ParentsComeBefore lines → AreMarkedTo lines last k old → 0 < k → j ≡ k - 1 → MarksParents lines k old new → AreMarkedTo lines last j new
marked_down_at lines last k j old new before a h e s =
    let up : k ≡ suc j = omega arith in
    marked_down lines last j old new before (subst (λ n. AreMarkedTo lines last n old) up a) (subst (λ n. MarksParents lines n old new) up s)

pub ruleset mark_laws = (marks_out, marks_none, marks_more, marks_at)
