-- Pairs that are held in slots, one more and one less.
use Rattle.std.proofs.Common.{◌≡◌, ◌⊎◌, inl, inr, ℕ, zero, suc, ◌+◌, ◌<◌, ◌≤◌, Bool, true, false, ◌==◌, eq-eqb, List, [], ◌∷◌, ◌++◌, length, Option, Some, None, get_or, set, refl, sym, ap, subst, ◌∙◌, arith}
use Rattle.std.specs.Prelude.{Contains, slice_get}
use Rattle.std.proofs.lemmas.Bool.{eqb-true, false≢true}
use Rattle.std.proofs.lemmas.Option.{none-some, same_Some, slice_get_within}
use Rattle.spl_terms.specs.ListLaws.{get-left}
use Rattle.spl_terms.specs.declared.clause.Clause.{Clause}
use Rattle.spl_truth.specs.Redundancy.{Subsumes}
use Rattle.subsume.specs.declared.slots.HeldClause.{HeldClause}
use Rattle.subsume.specs.declared.trie.Node.{Node}
use Rattle.subsume.specs.Features.{features}
use Rattle.subsume.specs.Tries.{IsChildFor, Down, Grows, AreAtMost, HasReached}
use Rattle.subsume.specs.Held.{held_pairs, IsAlsoHeld, IsNoLongerHeld, IsStillNotHeld, IsInSlot, IsUnder, AreFound}
use Rattle.subsume.proofs.Paths.{grown_child, grown_down, read_at}
use Rattle.subsume.proofs.Grown.{features_grow}

abbrev Pair : Type 0
Pair = Clause × ℕ

-- ---- slots and pairs

one_behind : (xs : List Pair) (x p : Pair) → Contains xs p → Contains (x ∷ xs) p
one_behind xs x p h = (suc h.0, omega (arith, h.1), h.2)

pub in_pairs : (slots : List (Option HeldClause)) (s : ℕ) (c : Clause) (key : ℕ) → IsInSlot slots s c key → Contains (held_pairs slots) (c, key)
in_pairs [] s c key is = absurd (none-some (Some is.0) is.1)
in_pairs (None ∷ slots) zero c key is = absurd (none-some is.0 (same_Some None (Some is.0) is.1))
in_pairs (None ∷ slots) (suc s) c key is = in_pairs slots s c key is
in_pairs (Some h ∷ slots) zero c key is =
    let same : h ≡ is.0 = same_Some h is.0 (same_Some (Some h) (Some is.0) is.1) in
    (zero, omega arith, (λ i. ((ap (λ (x : HeldClause). x.clause) same ∙ is.2) i, (ap (λ (x : HeldClause). x.key) same ∙ is.3) i)))
in_pairs (Some h ∷ slots) (suc s) c key is = one_behind (held_pairs slots) (h.clause, h.key) (c, key) (in_pairs slots s c key is)

in_first : (x : HeldClause) (slots : List (Option HeldClause)) (p : Pair) (i : ℕ) → i < length (held_pairs (Some x ∷ slots)) → get_or (held_pairs (Some x ∷ slots)) i p ≡ p → (Contains (held_pairs slots) p → (s : ℕ) × IsInSlot slots s p.0 p.1) → (s : ℕ) × IsInSlot (Some x ∷ slots) s p.0 p.1
in_first x slots p zero low e more = (zero, (x, refl, ap (λ (q : Pair). q.0) e, ap (λ (q : Pair). q.1) e))
in_first x slots p (suc i) low e more = (let r = more (i, omega (arith, low), e) in (suc r.0, r.1))

pub from_pairs : (slots : List (Option HeldClause)) (p : Pair) → Contains (held_pairs slots) p → (s : ℕ) × IsInSlot slots s p.0 p.1
from_pairs [] p h = absurd (omega (arith, h.1))
from_pairs (None ∷ slots) p h = (let r = from_pairs slots p h in (suc r.0, r.1))
from_pairs (Some x ∷ slots) p h = in_first x slots p h.0 h.1 h.2 (from_pairs slots p)

-- a slot has one pair
pub one_pair : (slots : List (Option HeldClause)) (s : ℕ) (c d : Clause) (key other : ℕ) → IsInSlot slots s c key → IsInSlot slots s d other → (c ≡ d) × (key ≡ other)
one_pair slots s c d key other is is' =
    let same : is.0 ≡ is'.0 = same_Some is.0 is'.0 (same_Some (Some is.0) (Some is'.0) (sym is.1 ∙ is'.1)) in
    (sym is.2 ∙ ap (λ (x : HeldClause). x.clause) same ∙ is'.2, sym is.3 ∙ ap (λ (x : HeldClause). x.key) same ∙ is'.3)

-- ---- a slot is emptied

get_emptied : (slots : List (Option HeldClause)) (s : ℕ) (h : HeldClause) → slice_get (set slots s None) s ≡ Some (Some h) → ⊥
get_emptied [] s h e = none-some (Some h) e
get_emptied (x ∷ slots) zero h e = none-some h (same_Some None (Some h) e)
get_emptied (x ∷ slots) (suc s) h e = get_emptied slots s h e

get_other : (slots : List (Option HeldClause)) (s t : ℕ) → (t ≡ s → ⊥) → slice_get (set slots s None) t ≡ slice_get slots t
get_other [] s t h = refl
get_other (x ∷ slots) zero zero h = absurd (h refl)
get_other (x ∷ slots) zero (suc t) h = refl
get_other (x ∷ slots) (suc s) zero h = refl
get_other (x ∷ slots) (suc s) (suc t) h = get_other slots s t (λ e. h (ap suc e))

module _ (slots : List (Option HeldClause)) (s : ℕ) where
  still_in : (t : ℕ) (c : Clause) (key : ℕ) → IsInSlot (set slots s None) t c key → IsInSlot slots t c key × (t ≡ s → ⊥)
  still_in t c key is = (
    (is.0, (sym (get_other slots s t other) ∙ is.1), is.2, is.3),
    other,
  )
    where
      other : t ≡ s → ⊥
      other e = get_emptied slots s is.0 (subst (λ n. slice_get (set slots s None) n ≡ Some (Some is.0)) e is.1)

  stays_in : (t : ℕ) (c : Clause) (key : ℕ) → IsInSlot slots t c key → (t ≡ s → ⊥) → IsInSlot (set slots s None) t c key
  stays_in t c key is other = (is.0, get_other slots s t other ∙ is.1, is.2, is.3)

  pub emptied_found : (nodes : List Node) → AreFound nodes slots → AreFound nodes (set slots s None)
  emptied_found nodes found = record {
    under = λ t c key is. found.under t c key (still_in t c key is).0;
    apart = λ t u c key is is'. found.apart t u c key (still_in t c key is).0 (still_in u c key is').0;
  }

  pub no_longer_held : (nodes : List Node) (c : Clause) (key : ℕ) → AreFound nodes slots → IsInSlot slots s c key → IsNoLongerHeld (held_pairs slots) (held_pairs (set slots s None)) c key
  no_longer_held nodes c key found is = record { was = in_pairs slots s c key is; others = λ p. (away p, (λ h. back p h.0 h.1)) }
    where
      away : (p : Pair) → Contains (held_pairs (set slots s None)) p → Contains (held_pairs slots) p × (p ≡ (c, key) → ⊥)
      away p h =
          let r = from_pairs (set slots s None) p h in
          let k = still_in r.0 p.0 p.1 r.1 in
          (in_pairs slots r.0 p.0 p.1 k.0, (λ e. k.1 (found.apart r.0 s c key (subst (λ (q : Pair). IsInSlot slots r.0 q.0 q.1) e k.0) is)))

      by_equal : (P : Type 0) (t : ℕ) → (t ≡ s → P) → ((t ≡ s → ⊥) → P) → P
      by_equal P t f g = by_test (t == s) refl
        where
          by_test : (b : Bool) → (t == s) ≡ b → P
          by_test true e = f (eqb-true t s e)
          by_test false e = g (λ q. false≢true (sym e ∙ eq-eqb t s q))

      back : (p : Pair) → Contains (held_pairs slots) p → (p ≡ (c, key) → ⊥) → Contains (held_pairs (set slots s None)) p
      back p h other =
          let r = from_pairs slots p h in
          by_equal (Contains (held_pairs (set slots s None)) p) r.0
          (λ e. (let one = one_pair slots s p.0 c p.1 key (subst (λ n. IsInSlot slots n p.0 p.1) e r.1) is in absurd (other (λ i. (one.0 i, one.1 i)))))
          (λ e. in_pairs (set slots s None) r.0 p.0 p.1 (stays_in r.0 p.0 p.1 r.1 e))

pub not_held : (slots : List (Option HeldClause)) (c : Clause) (key : ℕ) → ((s : ℕ) → IsInSlot slots s c key → ⊥) → Contains (held_pairs slots) (c, key) → ⊥
not_held slots c key never h = (let r = from_pairs slots (c, key) h in never r.0 r.1)

-- ---- one slot more, or one that was empty

-- the slot has the pair, and all others are as before
pub record IsPutIn (slots now : List (Option HeldClause)) (s : ℕ) (held : HeldClause) : Type 0 where
  pub before : (t : ℕ) (c : Clause) (key : ℕ) → IsInSlot slots t c key → IsInSlot now t c key
  pub own : IsInSlot now s held.clause held.key
  pub cases : (t : ℕ) (c : Clause) (key : ℕ) → IsInSlot now t c key → IsInSlot slots t c key ⊎ ((t ≡ s) × (held.clause ≡ c) × (held.key ≡ key))

module _ (slots : List (Option HeldClause)) (held : HeldClause) where
  get_last : (t : ℕ) (h : HeldClause) → slice_get (slots ++ Some held ∷ []) t ≡ Some (Some h) → (slice_get slots t ≡ Some (Some h)) ⊎ ((t ≡ length slots) × (held ≡ h))
  get_last t h e = last slots t e
    where
      last : (xs : List (Option HeldClause)) (t : ℕ) → slice_get (xs ++ Some held ∷ []) t ≡ Some (Some h) → (slice_get xs t ≡ Some (Some h)) ⊎ ((t ≡ length xs) × (held ≡ h))
      last [] zero e = inr (refl, same_Some held h (same_Some (Some held) (Some h) e))
      last [] (suc t) e = absurd (none-some (Some h) e)
      last (x ∷ xs) zero e = inl e
      last (x ∷ xs) (suc t) e = elim (last xs t e) [ inl before ↦ inl before | inr now ↦ inr (ap suc now.0, now.1) ]

  at_end : (xs : List (Option HeldClause)) → slice_get (xs ++ Some held ∷ []) (length xs) ≡ Some (Some held)
  at_end [] = refl
  at_end (x ∷ xs) = at_end xs

  pub put_last : IsPutIn slots (slots ++ Some held ∷ []) (length slots) held
  put_last = record {
    before = λ t c key is. (is.0, get-left slots (Some held ∷ []) t (slice_get_within slots t (Some is.0) is.1) ∙ is.1, is.2, is.3);
    own = (held, at_end slots, refl, refl);
    cases = λ t c key is. elim (get_last t is.0 is.1) [
      | inl before ↦ inl (is.0, before, is.2, is.3)
      | inr now ↦ inr (now.0, ap (λ (x : HeldClause). x.clause) now.1 ∙ is.2, ap (λ (x : HeldClause). x.key) now.1 ∙ is.3)
    ];
  }

  get_put : (xs : List (Option HeldClause)) (s : ℕ) → slice_get xs s ≡ Some None → slice_get (set xs s (Some held)) s ≡ Some (Some held)
  get_put [] s e = absurd (none-some None e)
  get_put (x ∷ xs) zero e = refl
  get_put (x ∷ xs) (suc s) e = get_put xs s e

  get_beside : (xs : List (Option HeldClause)) (s t : ℕ) → (t ≡ s → ⊥) → slice_get (set xs s (Some held)) t ≡ slice_get xs t
  get_beside [] s t h = refl
  get_beside (x ∷ xs) zero zero h = absurd (h refl)
  get_beside (x ∷ xs) zero (suc t) h = refl
  get_beside (x ∷ xs) (suc s) zero h = refl
  get_beside (x ∷ xs) (suc s) (suc t) h = get_beside xs s t (λ e. h (ap suc e))

  pub put_back : (s : ℕ) → slice_get slots s ≡ Some None → IsPutIn slots (set slots s (Some held)) s held
  put_back s empty = record {
    before = λ t c key is. (is.0, get_beside slots s t (full t is.0 is.1) ∙ is.1, is.2, is.3);
    own = (held, get_put slots s empty, refl, refl);
    cases = λ t c key is. by_test t c key is (t == s) refl;
  }
    where
      full : (t : ℕ) (h : HeldClause) → slice_get slots t ≡ Some (Some h) → t ≡ s → ⊥
      full t h is e = none-some h (same_Some None (Some h) (sym empty ∙ ap (slice_get slots) (sym e) ∙ is))

      by_test : (t : ℕ) (c : Clause) (key : ℕ) → IsInSlot (set slots s (Some held)) t c key → (b : Bool) → (t == s) ≡ b → IsInSlot slots t c key ⊎ ((t ≡ s) × (held.clause ≡ c) × (held.key ≡ key))
      by_test t c key is true e =
          let at : t ≡ s = eqb-true t s e in
          let same : held ≡ is.0 = same_Some held is.0 (same_Some (Some held) (Some is.0) (sym (get_put slots s empty) ∙ ap (slice_get (set slots s (Some held))) (sym at) ∙ is.1)) in
          inr (at, ap (λ (x : HeldClause). x.clause) same ∙ is.2, ap (λ (x : HeldClause). x.key) same ∙ is.3)
      by_test t c key is false e = inl (is.0, sym (get_beside slots s t (λ q. false≢true (sym e ∙ eq-eqb t s q))) ∙ is.1, is.2, is.3)

module _ (slots now : List (Option HeldClause)) (s : ℕ) (held : HeldClause) (put : IsPutIn slots now s held) where
  pub also_held : IsAlsoHeld (held_pairs slots) (held_pairs now) held.clause held.key
  also_held p = (away, back)
    where
      away : Contains (held_pairs now) p → Contains (held_pairs slots) p ⊎ (p ≡ (held.clause, held.key))
      away h =
          let r = from_pairs now p h in
          elim (put.cases r.0 p.0 p.1 r.1) [
            | inl before ↦ inl (in_pairs slots r.0 p.0 p.1 before)
            | inr new ↦ inr (λ i. (sym new.1 i, sym new.2 i))
          ]

      back : Contains (held_pairs slots) p ⊎ (p ≡ (held.clause, held.key)) → Contains (held_pairs now) p
      back (inl h) = (let r = from_pairs slots p h in in_pairs now r.0 p.0 p.1 (put.before r.0 p.0 p.1 r.1))
      back (inr e) = subst (Contains (held_pairs now)) (sym e) (in_pairs now s held.clause held.key put.own)

  pub added_found : (nodes : List Node) → AreFound nodes slots → IsUnder nodes (features held.clause) s → ((t : ℕ) → IsInSlot slots t held.clause held.key → ⊥) → AreFound nodes now
  added_found nodes found under never = record {
    under = λ t c key is. elim (put.cases t c key is) [
      | inl before ↦ found.under t c key before
      | inr new ↦ subst (λ d. IsUnder nodes (features d) t) new.1 (subst (IsUnder nodes (features held.clause)) (sym new.0) under)
    ];
    apart = λ t u c key is is'. elim (put.cases t c key is) [
      | inl before ↦ elim (put.cases u c key is') [
        | inl before' ↦ found.apart t u c key before before'
        | inr new ↦ absurd (never t (subst (λ d. IsInSlot slots t d held.key) (sym new.1) (subst (IsInSlot slots t c) (sym new.2) before)))
      ]
      | inr new ↦ elim (put.cases u c key is') [
        | inl before' ↦ absurd (never u (subst (λ d. IsInSlot slots u d held.key) (sym new.1) (subst (IsInSlot slots u c) (sym new.2) before')))
        | inr new' ↦ new.0 ∙ sym new'.0
      ]
    ];
  }

pub grown_found : (nodes later : List Node) (slots : List (Option HeldClause)) → Grows nodes later → AreFound nodes slots → AreFound later slots
grown_found nodes later slots g found = record {
  under = λ t c key is. (let u = found.under t c key is in (u.0, u.1, grown_down nodes later (features c) 0 u.0 g u.2, grown_child nodes later u.0 t u.1 g u.3));
  apart = found.apart;
}

-- a pair that is held stays so
pub already_held : (slots : List (Option HeldClause)) (s : ℕ) (c : Clause) (key : ℕ) → IsInSlot slots s c key → IsAlsoHeld (held_pairs slots) (held_pairs slots) c key
already_held slots s c key is p = ((λ h. inl h), back)
  where
    back : Contains (held_pairs slots) p ⊎ (p ≡ (c, key)) → Contains (held_pairs slots) p
    back (inl h) = h
    back (inr e) = subst (Contains (held_pairs slots)) (sym e) (in_pairs slots s c key is)

-- ---- candidates

-- the keys in the slots below the first of these nodes are among these
abbrev pub HaveKeys : List Node → List (Option HeldClause) → List ℕ → ℕ → List ℕ → Type 0
HaveKeys nodes slots leaves i keys = (j l slot m : ℕ) (c : Clause) (k : ℕ) → j < i → get_or leaves j l ≡ l → IsChildFor nodes l slot m → IsInSlot slots slot c k → Contains keys k

pub have_more : (nodes : List Node) (slots : List (Option HeldClause)) (leaves : List ℕ) (i leaf : ℕ) (keys keys' : List ℕ) → i < length leaves → leaf ≡ get_or leaves i 0 → ((k : ℕ) → Contains keys k → Contains keys' k) → ((slot m : ℕ) (c : Clause) (k : ℕ) → IsChildFor nodes leaf slot m → IsInSlot slots slot c k → Contains keys' k) → HaveKeys nodes slots leaves i keys → HaveKeys nodes slots leaves (i + 1) keys'
have_more nodes slots leaves i leaf keys keys' low at kept own before j l slot m c k less e child is = by_test (j == i) refl
  where
    lower : (j ≡ i → ⊥) → j < i
    lower h = omega (arith, h, less)

    by_test : (b : Bool) → (j == i) ≡ b → Contains keys' k
    by_test true t =
        let same : j ≡ i = eqb-true j i t in
        let here : l ≡ leaf = read_at leaves i l low (sym e ∙ ap (λ n. get_or leaves n l) same) ∙ sym at in
        own slot m c k (subst (λ n. IsChildFor nodes n slot m) here child) is
    by_test false t = kept k (before j l slot m c k (lower (λ q. false≢true (sym t ∙ eq-eqb j i q))) e child is)

pub all_keys : (nodes : List Node) (slots : List (Option HeldClause)) (leaves limits keys : List ℕ) (i : ℕ) → length leaves ≤ i → HasReached nodes 0 limits leaves → HaveKeys nodes slots leaves i keys → (fs : List ℕ) (slot : ℕ) (c : Clause) (k : ℕ) → AreAtMost fs limits → IsUnder nodes fs slot → IsInSlot slots slot c k → Contains keys k
all_keys nodes slots leaves limits keys i long reached have fs slot c k most u is = (let r = reached fs u.0 most u.2 in have r.0 u.0 slot u.1 c k (omega (arith, r.1, long)) r.2 u.3 is)

pub subsuming_keys : (nodes : List Node) (slots : List (Option HeldClause)) (keys limits : List ℕ) (d : Clause) → AreFound nodes slots → limits ≡ features d → ((fs : List ℕ) (slot : ℕ) (c : Clause) (k : ℕ) → AreAtMost fs limits → IsUnder nodes fs slot → IsInSlot slots slot c k → Contains keys k) → (c : Clause) (k : ℕ) → Contains (held_pairs slots) (c, k) → Subsumes c d → Contains keys k
subsuming_keys nodes slots keys limits d found e all c k h s = (let r = from_pairs slots (c, k) h in all (features c) r.0 c k (subst (AreAtMost (features c)) (sym e) (features_grow c d s)) (found.under r.0 c k r.1) r.1)

pub held_keys : (slots : List (Option HeldClause)) (keys : List ℕ) → ((k : ℕ) → Contains keys k → (slot : ℕ) × (c : Clause) × IsInSlot slots slot c k) → (k : ℕ) → Contains keys k → (c : Clause) × Contains (held_pairs slots) (c, k)
held_keys slots keys held k h = (let r = held k h in (r.1, in_pairs slots r.0 r.1 k r.2))

-- ---- what the calls of an index answer

module _ (slots slots' : List (Option HeldClause)) (pairs : List Pair) (c : Clause) (key : ℕ) (same : slots' ≡ slots) (view : held_pairs slots ≡ pairs) where
  in_slots : (s : ℕ) → IsInSlot slots' s c key → IsInSlot slots s c key
  in_slots s is = subst (λ l. IsInSlot l s c key) same is

  pub answers_already : (s : ℕ) → IsInSlot slots' s c key → IsAlsoHeld pairs pairs c key
  answers_already s is = subst (λ l. IsAlsoHeld l l c key) view (already_held slots s c key (in_slots s is))

  pub answers_not : ((s : ℕ) → IsInSlot slots' s c key → ⊥) → IsStillNotHeld pairs pairs c key
  answers_not never = record {
    was_not = λ h. not_held slots c key (λ s is. never s (subst (λ l. IsInSlot l s c key) (sym same) is)) (subst (λ l. Contains l (c, key)) (sym view) h);
    same = refl;
  }

  pub answers_removed : (nodes : List Node) (s : ℕ) → AreFound nodes slots → IsInSlot slots' s c key → IsNoLongerHeld pairs (held_pairs (set slots s None)) c key
  answers_removed nodes s found is = subst (λ l. IsNoLongerHeld l (held_pairs (set slots s None)) c key) view (no_longer_held slots s nodes c key found (in_slots s is))

  module _ (pushed : List (Option HeldClause)) (clause : Clause) (copied : clause ≡ c) (push : pushed ≡ slots ++ Some (record { clause = clause; key = key }) ∷ []) where
    pub answers_inserted : IsAlsoHeld pairs (held_pairs pushed) c key
    answers_inserted =
        subst (λ l. IsAlsoHeld pairs (held_pairs l) c key) (sym push)
        (subst (λ l. IsAlsoHeld l (held_pairs (slots ++ Some (record { clause = clause; key = key }) ∷ [])) c key) view
        (subst (λ d. IsAlsoHeld (held_pairs slots) (held_pairs (slots ++ Some (record { clause = clause; key = key }) ∷ [])) d key) copied
        (also_held slots (slots ++ Some (record { clause = clause; key = key }) ∷ []) (length slots) (record { clause = clause; key = key }) (put_last slots (record { clause = clause; key = key })))))

    pub still_found : (nodes made later : List Node) (counts : List ℕ) (leaf place m : ℕ) → AreFound nodes slots → Grows nodes made → Grows made later → counts ≡ features c → Down made counts 0 leaf → IsChildFor later leaf place m → place ≡ length slots → ((s : ℕ) → IsInSlot slots' s c key → ⊥) → AreFound later pushed
    still_found nodes made later counts leaf place m found one other e down child at never =
        subst (AreFound later) (sym push)
        (added_found slots (slots ++ Some (record { clause = clause; key = key }) ∷ []) (length slots) (record { clause = clause; key = key }) (put_last slots (record { clause = clause; key = key })) later
        (grown_found made later slots other (grown_found nodes made slots one found))
        (leaf, m, subst (λ fs. Down later fs 0 leaf) (e ∙ ap features (sym copied)) (grown_down made later counts 0 leaf other down), subst (λ p. IsChildFor later leaf p m) at child)
        (λ s is. never s (subst (λ l. IsInSlot l s c key) (sym same) (subst (λ d. IsInSlot slots s d key) copied is))))

-- the same for a slot that was empty
module _ (slots slots' : List (Option HeldClause)) (pairs : List Pair) (c : Clause) (key : ℕ) (same : slots' ≡ slots) (view : held_pairs slots ≡ pairs) (clause : Clause) (copied : clause ≡ c) (s : ℕ) (empty : slice_get slots s ≡ Some None) where
  abbrev put : HeldClause
  put = record { clause = clause; key = key }

  pub answers_put : IsAlsoHeld pairs (held_pairs (set slots s (Some put))) c key
  answers_put =
      subst (λ l. IsAlsoHeld l (held_pairs (set slots s (Some put))) c key) view
      (subst (λ d. IsAlsoHeld (held_pairs slots) (held_pairs (set slots s (Some put))) d key) copied
      (also_held slots (set slots s (Some put)) s put (put_back slots put s empty)))

  pub put_found : (nodes : List Node) (counts : List ℕ) → AreFound nodes slots → counts ≡ features c → IsUnder nodes counts s → ((t : ℕ) → IsInSlot slots' t c key → ⊥) → AreFound nodes (set slots s (Some put))
  put_found nodes counts found e under never =
      added_found slots (set slots s (Some put)) s put (put_back slots put s empty) nodes found
      (subst (λ fs. IsUnder nodes fs s) (e ∙ ap features (sym copied)) under)
      (λ t is. never t (subst (λ l. IsInSlot l t c key) (sym same) (subst (λ d. IsInSlot slots t d key) copied is)))

pub found_after : (nodes later : List Node) (slots slots' : List (Option HeldClause)) → slots' ≡ slots → Grows nodes later → AreFound nodes slots → AreFound later slots'
found_after nodes later slots slots' same g found = subst (AreFound later) (sym same) (grown_found nodes later slots g found)
