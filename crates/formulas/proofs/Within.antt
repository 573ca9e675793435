-- Lists of numbers that lie between two numbers, one behind the other.
use Rattle.std.proofs.Common.{◌≡◌, inl, inr, ℕ, zero, suc, ◌+◌, ◌<◌, ◌≤◌, Bool, true, false, not, ◌&&◌, ◌||◌, ◌==◌, List, [], ◌∷◌, ◌++◌, length, take, get_or, Option, None, Some, refl, sym, ap, ◌∙◌, arith, append_assoc, append-nil}
use Rattle.std.proofs.lemmas.Bool.{and_parts, and_from, or_cases, or_left, or_right, or_from, not-true, eq-eqb, eqb-true, false≢true, false_from_ne_true}
use Rattle.std.proofs.lemmas.List.Folds.{list_any-append}
use Rattle.std.specs.Prelude.{IfSome}
use Rattle.std.specs.List.{flat_map}
use Rattle.formulas.specs.declared.tree.Tree.{Tree}
use Rattle.formulas.specs.Bindings.{is_member, bindings, all_distinct, numbers_from}
use Rattle.formulas.specs.Ascending.{AreWithin}

pub within_different : (from to : ℕ) (vs : List ℕ) → AreWithin from to vs → all_distinct vs ≡ true
within_different from to vs h = h.different

pub within_nothing : (n : ℕ) → AreWithin n n []
within_nothing n = record { order = omega arith; low = λ v e. absurd (false≢true e); high = λ v e. absurd (false≢true e); different = refl }

distinct_both : (vs ws : List ℕ) → all_distinct vs ≡ true → all_distinct ws ≡ true → ((v : ℕ) → is_member v vs ≡ true → is_member v ws ≡ false) → all_distinct (vs ++ ws) ≡ true
distinct_both [] ws d e apart = e
distinct_both (v ∷ vs) ws d e apart =
    let p = and_parts (not (is_member v vs)) (all_distinct vs) d in
    and_from (not (is_member v (vs ++ ws))) (all_distinct (vs ++ ws))
    (ap not (list_any-append (λ w. v == w) vs ws ∙ or_from (is_member v vs) (is_member v ws) (not-true (is_member v vs) p.0) (apart v (or_left (v == v) (is_member v vs) (eq-eqb v v refl)))))
    (distinct_both vs ws p.1 e (λ u h. apart u (or_right (u == v) (is_member u vs) h)))

pub within_both : (a b c : ℕ) (vs ws : List ℕ) → AreWithin a b vs → AreWithin b c ws → AreWithin a c (vs ++ ws)
within_both a b c vs ws h k = record {
  order = omega (arith, h.order, k.order);
  low = λ v e. elim (or_cases (is_member v vs) (is_member v ws) (sym (list_any-append (λ w. v == w) vs ws) ∙ e)) [
    | inl i ↦ h.low v i
    | inr i ↦ (let l = k.low v i in omega (arith, l, h.order))
  ];
  high = λ v e. elim (or_cases (is_member v vs) (is_member v ws) (sym (list_any-append (λ w. v == w) vs ws) ∙ e)) [
    | inl i ↦ (let l = h.high v i in omega (arith, l, k.order))
    | inr i ↦ k.high v i
  ];
  different = distinct_both vs ws h.different k.different (λ v e. false_from_ne_true (is_member v ws) (λ m. let l = h.high v e in let g = k.low v m in omega (arith, l, g)));
}

block_bounds : (first count v : ℕ) → is_member v (numbers_from first count) ≡ true → (first ≤ v) × (v < first + count)
block_bounds first zero v e = absurd (false≢true e)
block_bounds first (suc count) v e = elim (or_cases (v == first) (is_member v (numbers_from (suc first) count)) e) [
  | inl i ↦ (let s = eqb-true v first i in (omega (arith, s), omega (arith, s)))
  | inr i ↦ (let r = block_bounds (suc first) count v i in (omega (arith, r.0), omega (arith, r.1)))
]

block_distinct : (first count : ℕ) → all_distinct (numbers_from first count) ≡ true
block_distinct first zero = refl
block_distinct first (suc count) =
    and_from (not (is_member first (numbers_from (suc first) count))) (all_distinct (numbers_from (suc first) count))
    (ap not (false_from_ne_true (is_member first (numbers_from (suc first) count)) (λ m. let r = block_bounds (suc first) count first m in omega (arith, r.0))))
    (block_distinct (suc first) count)

within_block : (from first count : ℕ) → from ≤ first → AreWithin from (first + count) (numbers_from first count)
within_block from first count h = record {
  order = omega (arith, h);
  low = λ v e. let r = block_bounds first count v e in omega (arith, h, r.0);
  high = λ v e. (block_bounds first count v e).1;
  different = block_distinct first count;
}

-- a block of variables, and what is bound behind it
pub within_quantifier : (from first count to : ℕ) (vs : List ℕ) → from ≤ first → AreWithin (first + count) to vs → AreWithin from to (numbers_from first count ++ vs)
within_quantifier from first count to vs h k = within_both from (first + count) to (numbers_from first count) vs (within_block from first count h) k

pub some_quantifier : (o : Option ℕ) (from first count : ℕ) (vs : List ℕ) → from ≤ first → IfSome o (λ to. AreWithin (first + count) to vs) → IfSome o (λ to. AreWithin from to (numbers_from first count ++ vs))
some_quantifier None from first count vs h k = tt
some_quantifier (Some to) from first count vs h k = within_quantifier from first count to vs h k

pub some_both : (o : Option ℕ) (from mid : ℕ) (vs ws : List ℕ) → AreWithin from mid vs → IfSome o (λ to. AreWithin mid to ws) → IfSome o (λ to. AreWithin from to (vs ++ ws))
some_both None from mid vs ws h k = tt
some_both (Some to) from mid vs ws h k = within_both from mid to vs ws h k

-- the bindings of one more part
pub next_bindings : (ts : List Tree) (i : ℕ) (t : Tree) → i < length ts → t ≡ get_or ts i t → flat_map bindings (take i ts) ++ bindings t ≡ flat_map bindings (take (i + 1) ts)
next_bindings ts i t h e = by_suc ts i h e ∙ ap (λ (j : ℕ). flat_map bindings (take j ts)) (let f : suc i ≡ i + 1 = omega arith in f)
  where
    by_suc : (us : List Tree) (j : ℕ) → j < length us → t ≡ get_or us j t → flat_map bindings (take j us) ++ bindings t ≡ flat_map bindings (take (suc j) us)
    by_suc [] j h e = absurd (omega arith)
    by_suc (u ∷ us) zero h e = ap bindings e ∙ sym (append-nil (bindings u))
    by_suc (u ∷ us) (suc j) h e = append_assoc (bindings u) (flat_map bindings (take j us)) (bindings t) ∙ ap (λ l. bindings u ++ l) (by_suc us j (omega arith) e)
