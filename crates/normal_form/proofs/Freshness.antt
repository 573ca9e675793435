-- Bindings that no block has yet: what holds of them at the parts of a formula, and behind a quantifier.
use Rattle.std.proofs.Common.{◌≡◌, inl, inr, ℕ, zero, suc, ◌+◌, ◌-◌, ◌<◌, ◌≤◌, Bool, true, false, ◌&&◌, ◌||◌, ◌==◌, nat_le, nat_lt, if◌then◌else◌, List, [], ◌∷◌, ◌++◌, fold, get_or, length, arith, refl, sym, subst, ap, ◌∙◌, append_assoc}
use Rattle.std.specs.List.{list_any, filter, flat_map}
use Rattle.std.proofs.lemmas.Bool.{eqb-true, eq-eqb, or_cases, or_left, or_right, or_from, or_parts, cases_lt, and_parts, and_from, leb-true, ltb-true, le-leb, lt-ltb, cases_eq, false≢true, false_from_ne_true}
use Rattle.std.proofs.lemmas.List.Folds.{list_any-append}
use Rattle.std.proofs.lemmas.List.Elements.{filter-append}
use Rattle.spl_terms.specs.declared.term.Term.{Term, Var}
use Rattle.spl_terms.specs.Terms.{term_variables}
use Rattle.formulas.specs.declared.tree.Tree.{Tree}
use Rattle.formulas.specs.Trees.{foralls, exists}
use Rattle.formulas.specs.Negations.{signed_form}
use Rattle.normal_form.specs.declared.scope.Block.{Block}
use Rattle.normal_form.specs.Skolem.{skolem_arguments}
use Rattle.formulas.specs.BindingLaws.{bindings-foralls, bindings-exists}
use Rattle.formulas.specs.Bindings.{is_member, bindings, all_distinct, numbers_from}
use Rattle.normal_form.specs.Occurring.{occurring}
use Rattle.normal_form.specs.Blocks.{has_variable, with_block, term_in, is_universal, scope_in, place_below, for_any, own_term}
use Rattle.normal_form.specs.Walking.{AreFresh, arguments_in}
use Rattle.normal_form.proofs.Members.{member_left, member_right}
use Rattle.normal_form.proofs.Separate.{Disjoint, parted, member_cases}
use Rattle.normal_form.proofs.FreeOnes.{arguments-occurring}
use Rattle.normal_form.proofs.BlockLemmas.{form-not_foralls, form-exists}
use Rattle.normal_form.proofs.OccurringLemmas.{occurring-foralls, occurring-exists}

-- ---- parts

pub fresh_left : (blocks : List Block) (vs ws : List ℕ) → AreFresh blocks (vs ++ ws) → AreFresh blocks vs
fresh_left blocks vs ws f = record { outside = λ v e. f.outside v (member_left v vs ws e); different = (parted vs ws f.different).first }

pub fresh_right : (blocks : List Block) (vs ws : List ℕ) → AreFresh blocks (vs ++ ws) → AreFresh blocks ws
fresh_right blocks vs ws f = record { outside = λ v e. f.outside v (member_right v vs ws e); different = (parted vs ws f.different).second }

pub fresh_part : (blocks : List Block) (ts : List Tree) (i : ℕ) (t : Tree) → i < length ts → t ≡ get_or ts i t → AreFresh blocks (flat_map bindings ts) → AreFresh blocks (bindings t)
fresh_part blocks [] i t h e f = absurd (omega arith)
fresh_part blocks (u ∷ ts) zero t h e f = subst (λ w. AreFresh blocks (bindings w)) (sym e) (fresh_left blocks (bindings u) (flat_map bindings ts) f)
fresh_part blocks (u ∷ ts) (suc i) t h e f = fresh_part blocks ts i t (omega arith) e (fresh_right blocks (bindings u) (flat_map bindings ts) f)

pub fresh_outside : (vs : List ℕ) → all_distinct vs ≡ true → AreFresh [] vs
fresh_outside vs d = record { outside = λ v e. refl; different = d }

-- ---- the numbers of a block

pub block_has : (first count v : ℕ) → is_member v (numbers_from first count) ≡ true → (nat_le first v && nat_lt (v - first) count) ≡ true
block_has first zero v h = absurd (false≢true h)
block_has first (suc count) v h = elim (or_cases (v == first) (is_member v (numbers_from (suc first) count)) h) [
  | inl e ↦ (let same = eqb-true v first e in and_from (nat_le first v) (nat_lt (v - first) (suc count)) (le-leb first v (omega arith)) (lt-ltb (v - first) (suc count) (omega arith)))
  | inr k ↦
      (let p = and_parts (nat_le (suc first) v) (nat_lt (v - suc first) count) (block_has (suc first) count v k) in
      let low = leb-true (suc first) v p.0 in
      let high = ltb-true (v - suc first) count p.1 in
      and_from (nat_le first v) (nat_lt (v - first) (suc count)) (le-leb first v (omega arith)) (lt-ltb (v - first) (suc count) (omega arith)))
]

pub among_block : (first count v : ℕ) → (nat_le first v && nat_lt (v - first) count) ≡ true → is_member v (numbers_from first count) ≡ true
among_block first zero v h = (let q = and_parts (nat_le first v) (nat_lt (v - first) 0) h in let less = ltb-true (v - first) 0 q.1 in absurd (omega (arith, less)))
among_block first (suc count) v h =
    let q = and_parts (nat_le first v) (nat_lt (v - first) (suc count)) h in
    let low = leb-true first v q.0 in
    let high = ltb-true (v - first) (suc count) q.1 in
    elim (cases_eq v first) [
      | inl same ↦ or_left (v == first) (is_member v (numbers_from (suc first) count)) (eq-eqb v first same)
      | inr other ↦ or_right (v == first) (is_member v (numbers_from (suc first) count)) (among_block (suc first) count v (later low high (above low other)))
    ]
  where
    above : first ≤ v → (v ≡ first → ⊥) → suc first ≤ v
    above low other = elim (cases_lt first v) [
      | inl less ↦ omega (arith, less)
      | inr more ↦ absurd (other (omega (arith, low, more)))
    ]

    later : first ≤ v → v - first < suc count → suc first ≤ v → (nat_le (suc first) v && nat_lt (v - suc first) count) ≡ true
    later low high more = and_from (nat_le (suc first) v) (nat_lt (v - suc first) count) (le-leb (suc first) v more) (lt-ltb (v - suc first) count (omega (arith, high, more)))

-- ---- behind a quantifier

module _ (blocks : List Block) (b : Block) (vs : List ℕ) (f : AreFresh blocks (numbers_from b.first b.count ++ vs)) where
  not_in_block : (v : ℕ) → is_member v vs ≡ true → has_variable b v ≡ false
  not_in_block v e =
      let apart = (parted (numbers_from b.first b.count) vs f.different).apart in
      false_from_ne_true (has_variable b v) (λ k. false≢true (sym (apart v (among_block b.first b.count v k)) ∙ e))

  pub fresh_behind : AreFresh (blocks ++ b ∷ []) vs
  fresh_behind = record {
    outside = λ v e. list_any-append (λ c. has_variable c v) blocks (b ∷ []) ∙ or_from _ _ (f.outside v (member_right v (numbers_from b.first b.count) vs e)) (or_from _ false (not_in_block v e) refl);
    different = (parted (numbers_from b.first b.count) vs f.different).second;
  }

-- ---- where no block has a variable, it stands for itself and is not in the scope

outside_itself : (v : ℕ) (blocks : List Block) (terms : ℕ → Term) → terms v ≡ Var v → list_any (λ b. has_variable b v) blocks ≡ false → fold with_block terms blocks v ≡ Var v
outside_itself v [] terms here out = here
outside_itself v (b ∷ blocks) terms here out =
    let p = or_parts (has_variable b v) (list_any (λ c. has_variable c v) blocks) out in
    outside_itself v blocks (with_block terms b) (ap (λ t. if t then own_term b.skolems (v - b.first) v else terms v) p.0 ∙ here) p.1

scope_has : (v : ℕ) (blocks : List Block) → is_member v (scope_in blocks) ≡ true → list_any (λ b. has_variable b v) blocks ≡ true
scope_has v [] h = absurd (false≢true h)
scope_has v (b ∷ blocks) h = at_test (is_universal b) h (scope_has v blocks)
  where
    at_test : (t : Bool) → is_member v ((if t then numbers_from b.first b.count else []) ++ scope_in blocks) ≡ true → (is_member v (scope_in blocks) ≡ true → list_any (λ c. has_variable c v) blocks ≡ true) → (has_variable b v || list_any (λ c. has_variable c v) blocks) ≡ true
    at_test true k again = elim (member_cases v (numbers_from b.first b.count) (scope_in blocks) k) [
      | inl first ↦ or_left (has_variable b v) (list_any (λ c. has_variable c v) blocks) (block_has b.first b.count v first)
      | inr later ↦ or_right (has_variable b v) (list_any (λ c. has_variable c v) blocks) (again later)
    ]
    at_test false k again = or_right (has_variable b v) (list_any (λ c. has_variable c v) blocks) (again k)

module _ (blocks : List Block) (vs : List ℕ) (f : AreFresh blocks vs) where
  pub own_terms : (v : ℕ) → is_member v vs ≡ true → term_in blocks v ≡ Var v
  own_terms v e = outside_itself v blocks Var refl (f.outside v e)

  pub out_of_scope : Disjoint (scope_in blocks) vs
  out_of_scope v e = false_from_ne_true (is_member v vs) (λ k. false≢true (sym (f.outside v k) ∙ scope_has v blocks e))

-- ---- the arguments of a block's Skolem terms, from what occurs in the part

module _ (blocks : List Block) (next first count : ℕ) (t : Tree) (f : AreFresh blocks (numbers_from first count ++ bindings t)) where
  by_tree : (whole : Tree) (sign : Bool) → bindings whole ≡ numbers_from first count ++ bindings t → occurring whole ≡ occurring t → arguments_in blocks t ≡ skolem_arguments (signed_form whole sign) (place_below blocks next)
  by_tree whole sign b o =
      let g : AreFresh blocks (bindings whole) = subst (AreFresh blocks) (sym b) f in
      ap (λ vs. filter (λ u. is_member u (flat_map (λ v. term_variables (term_in blocks v)) vs)) (scope_in blocks)) (sym o)
      ∙ arguments-occurring whole sign (place_below blocks next) (own_terms blocks (bindings whole) g) (out_of_scope blocks (bindings whole) g)

  pub block_arguments : (sign : Bool) → arguments_in blocks t ≡ skolem_arguments (for_any first count (signed_form t sign)) (place_below blocks next)
  block_arguments true = by_tree (exists first count t) true (bindings-exists first count t) (occurring-exists first count t) ∙ ap (λ g. skolem_arguments g (place_below blocks next)) (form-exists first count t)
  block_arguments false = by_tree (foralls first count t) false (bindings-foralls first count t) (occurring-foralls first count t) ∙ ap (λ g. skolem_arguments g (place_below blocks next)) (form-not_foralls first count t)

-- ---- one more of a block's variables

numbers_more : (first k : ℕ) → numbers_from first (suc k) ≡ numbers_from first k ++ (first + k) ∷ []
numbers_more first zero = ap (λ (n : ℕ). n ∷ []) (let e : first ≡ first + 0 = omega arith in e)
numbers_more first (suc k) = ap (λ l. first ∷ l) (numbers_more (suc first) k ∙ ap (λ (n : ℕ). numbers_from (suc first) k ++ n ∷ []) (let e : suc first + k ≡ first + suc k = omega arith in e))

pub filter_more : (test : ℕ → Bool) (before : List ℕ) (first k : ℕ) → (before ++ filter test (numbers_from first k)) ++ filter test ((first + k) ∷ []) ≡ before ++ filter test (numbers_from first (k + 1))
filter_more test before first k =
    append_assoc before (filter test (numbers_from first k)) (filter test ((first + k) ∷ []))
    ∙ ap (λ l. before ++ l) (sym (filter-append test (numbers_from first k) ((first + k) ∷ [])) ∙ ap (filter test) (sym (numbers_more first k) ∙ ap (numbers_from first) (let e : suc k ≡ k + 1 = omega arith in e)))
