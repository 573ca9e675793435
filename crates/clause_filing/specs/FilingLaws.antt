-- Laws with their proofs, not definitions that a reader must believe: what holds of all that is filed under a key, by a way from its newest entry back; and what holds of all that is filed for a clause.
use Rattle.std.specs.Prelude.{bit_and}
use Rattle.std.specs.Int.Bits.{and_self}
use Rattle.std.specs.List.{slice_get}
use Rattle.std.proofs.Common.{◌≡◌, inl, inr, ℕ, zero, suc, ◌+◌, ◌-◌, ◌<◌, ◌≤◌, true, List, [], ◌∷◌, length, Some, None, refl, sym, ap, ◌∙◌, subst, arith}
use Rattle.std.proofs.lemmas.Bool.{eq-eqb, cases_lt}
use Rattle.spl_terms.specs.Lists.{numbered}
use Rattle.spl_terms.specs.ListLaws.{numbered-within, numbered-there}
use Rattle.spl_terms.specs.declared.atom.Atom.{Atom}
use Rattle.spl_terms.specs.declared.clause.Clause.{Clause}
use Rattle.clause_filing.specs.declared.filing.Entry.{Entry}
use Rattle.clause_filing.specs.Filings.{key, before_arrow, after_arrow, first_key, clause_key, clause_mask, is_within, HasKey, IsNewest, IsFiledClause, HoldsUnder, HoldUnder}

-- ---- under one key

-- the entries of the key from the newest down to this number were passed, and P holds of their values
pub record IsGoingBack (P : ℕ → Type 0) (entries : List Entry) (key mask number : ℕ) : Type 0 where
  pub within : number ≤ length entries
  pub own : 0 < number → HasKey entries key number
  pub all : (y : ℕ) (e : Entry) → number < y → numbered entries y ≡ Some e → e.key ≡ key → is_within e.mask mask ≡ true → P e.value

pub going_back_starts : (P : ℕ → Type 0) (entries : List Entry) (key mask number : ℕ) → IsNewest entries key (length entries) number → IsGoingBack P entries key mask number
going_back_starts P entries key mask number w = record {
  within = w.within;
  own = w.own;
  all = λ y e less at same in_mask. absurd (w.last y less (numbered-within entries y e at).1 (e, at, same));
}

pub going_back_more : (P Q : ℕ → Type 0) (entries : List Entry) (key mask number : ℕ) (e : Entry) → numbered entries number ≡ Some e → IsNewest entries e.key (number - 1) e.older → ((v : ℕ) → P v → Q v) → (is_within e.mask mask ≡ true → Q e.value) → IsGoingBack P entries key mask number → IsGoingBack Q entries key mask e.older
going_back_more P Q entries key mask number e at newest more here u =
    let p = numbered-within entries number e at in
    let k = u.own (omega (arith, p.0)) in
    let same : k.0 ≡ e = (let s : Some k.0 ≡ Some e = sym k.1 ∙ at in cc) in
    let own_key : e.key ≡ key = ap (λ (f : Entry). f.key) (sym same) ∙ k.2 in
    let w : IsNewest entries key (number - 1) e.older = subst (λ k. IsNewest entries k (number - 1) e.older) own_key newest in
    record {
      within = omega (arith, w.within, p.1);
      own = w.own;
      all = λ y f less there of in_mask. elim (cases_lt number y) [
        | inl after ↦ more f.value (u.all y f after there of in_mask)
        | inr before ↦ elim (cases_lt y number) [
          | inl earlier ↦ absurd (w.last y less (omega (arith, earlier)) (f, there, of))
          | inr now ↦
              let eq : y ≡ number = omega (arith, before, now) in
              let f_is : e ≡ f = (let s : Some e ≡ Some f = sym at ∙ ap (numbered entries) (sym eq) ∙ there in cc) in
              subst (λ (f : Entry). Q f.value) f_is (here (subst (λ (f : Entry). is_within f.mask mask ≡ true) (sym f_is) in_mask))
        ]
      ];
    }

pub going_back_ends : (P : ℕ → Type 0) (entries : List Entry) (key mask number : ℕ) → numbered entries number ≡ None → IsGoingBack P entries key mask number → HoldsUnder P entries key mask
going_back_ends P entries key mask zero none u = λ y e at. u.all y e (omega (arith, (numbered-within entries y e at).0)) at
going_back_ends P entries key mask (suc k) none u =
    let t = numbered-there entries (suc k) (omega arith) u.within in
    absurd (let s : None ≡ Some t.0 = sym none ∙ t.1 in cc)

pub older_below : (entries : List Entry) (number : ℕ) (e : Entry) → IsNewest entries e.key (number - 1) e.older → numbered entries number ≡ Some e → e.older < number
older_below entries number e w at = omega (arith, w.within, numbered-within entries number e at)

-- ---- under the keys of atoms

-- P holds of what is filed under the key of one of the first atoms
abbrev pub HoldUnderFirst : (ℕ → Type 0) → List Entry → ℕ → List Atom → ℕ → ℕ → Type 0
HoldUnderFirst P entries side atoms mask i = (k : ℕ) (a : Atom) → k < i → slice_get atoms k ≡ Some a → HoldsUnder P entries (key side a) mask

pub under_first_more : (P Q : ℕ → Type 0) (entries : List Entry) (side : ℕ) (atoms : List Atom) (mask i q : ℕ) (x : Atom) → ((v : ℕ) → P v → Q v) → HoldUnderFirst P entries side atoms mask i → HoldsUnder Q entries q mask → q ≡ key side x → slice_get atoms i ≡ Some x → HoldUnderFirst Q entries side atoms mask (i + 1)
under_first_more P Q entries side atoms mask i q x more before now is here k y less at = elim (cases_lt k i) [
  | inl earlier ↦ λ n e there of in_mask. more e.value (before k y earlier at n e there of in_mask)
  | inr late ↦
      let eq : i ≡ k = omega (arith, less, late) in
      let y_is : x ≡ y = (let s : Some x ≡ Some y = sym here ∙ ap (slice_get atoms) eq ∙ at in cc) in
      subst (λ k. HoldsUnder Q entries k mask) (is ∙ ap (key side) y_is) now
]

-- ---- what was filed for a clause

at_first : (P : ℕ → Type 0) (s a c : List Atom) → P 0 → ((k : ℕ) (x : Atom) → slice_get s k ≡ Some x → P (key after_arrow x)) → ((k : ℕ) (x : Atom) → slice_get a k ≡ Some x → P (key before_arrow x)) → ((k : ℕ) (x : Atom) → slice_get c k ≡ Some x → P (key before_arrow x)) → P (first_key s a c)
at_first P (x ∷ s) a c zero_is one two three = one 0 x refl
at_first P [] (x ∷ a) c zero_is one two three = two 0 x refl
at_first P [] [] (x ∷ c) zero_is one two three = three 0 x refl
at_first P [] [] [] zero_is one two three = zero_is

pub within_self : (mask other : ℕ) → mask ≡ other → is_within mask other ≡ true
within_self mask other same = eq-eqb (bit_and mask other) mask (ap (bit_and mask) (sym same) ∙ and_self mask)

-- what holds of all that is filed under the key of one of the clause's atoms, or of the empty clause, holds of all that is filed for the clause
pub holds_of_clause : (P : ℕ → Type 0) (entries : List Entry) (c : Clause) (mask : ℕ) → mask ≡ clause_mask c → HoldsUnder P entries 0 mask → HoldUnder P entries after_arrow c.succedent mask → HoldUnder P entries before_arrow c.antecedent mask → HoldUnder P entries before_arrow c.constraint mask → (v : ℕ) → IsFiledClause entries c v → P v
holds_of_clause P entries c mask is empty succedent antecedent constraint v f =
    let at_key : HoldsUnder P entries (clause_key c) mask = at_first (λ k. HoldsUnder P entries k mask) c.succedent c.antecedent c.constraint empty succedent antecedent constraint in
    subst P f.4 (at_key f.0 f.1 f.2 f.3 (within_self f.1.mask mask (f.5 ∙ sym is)))
