-- The search for the part that has the list at a place.
use Rattle.std.proofs.Common.{◌≡◌, ℕ, zero, suc, ◌+◌, ◌-◌, ◌*◌, ◌/◌, ◌%◌, ◌<◌, ◌≤◌, Bool, true, false, ◌++◌, subst, if◌then◌else◌, List, [], ◌∷◌, fold, drop, get_or, length, arith, refl, sym, ap, ◌∙◌, Option, Some, None, MatchOption, Err}
use Rattle.std.proofs.lemmas.Bool.{lt-ltb}
use Rattle.std.proofs.lemmas.Grind.{fold-append}
use Rattle.std.proofs.lemmas.List.{same_from_push}
use denote.Param.Weighed.{most}
use Rattle.normal_form.specs.declared.scope.Block.{Block}
use Rattle.spl_terms.specs.declared.clause.Clause.{Clause}
use Rattle.formulas.specs.Trees.{tree_size}
use Rattle.normal_form.specs.Clausal.{Literal}
use Rattle.normal_form.specs.Gathering.{gathered, with_signed_atom, IsGathered}
use Rattle.normal_form.specs.declared.stop.Stop.{Stop}
use Rattle.normal_form.specs.declared.stop.Stop.TheVariants.{Huge, Memory}
use Rattle.normal_form.proofs.Gathered.{gathered_grows}
use Rattle.spl_terms.specs.Clauses.{clause_symbols}
use Rattle.formulas.specs.declared.tree.Tree.{Tree}
use Rattle.std.proofs.Math.Nat.{mul-zero, mul_comm, mod-lt, div-lt_iff_lt-mul}
use Rattle.std.proofs.lemmas.Nat.{mul-le, div-mul-add}
use Rattle.formulas.specs.Negations.{Form, constant, both, either, signed_form}
use Rattle.formulas.specs.Counts.{clause_count, existentials}
use Rattle.normal_form.specs.Skolem.{Place, behind}
use Rattle.normal_form.specs.Choices.{literals_chosen, chosen_in_one, chosen_in_each, product_count}
use Rattle.normal_form.specs.Walking.{CanAdd}
use Rattle.normal_form.proofs.Walks.{count_all, skolems_all, skolems_some}
use Rattle.normal_form.proofs.Several.{count_either}
use Rattle.normal_form.proofs.Finding.{CanFind, CanTake}
use Rattle.normal_form.specs.Listing.{forms_of}

pub can_find : (fs : List Form) (next place : ℕ) → CanAdd (fold both (constant true) fs) next place → CanFind fs next place
can_find fs next place can =
    let c = count_all (constant true) fs in
    let s = skolems_all (constant true) fs in
    let within = can.within in let few = can.few in let room = can.room in
    record { within = omega arith; few = omega arith; room = omega arith }

can_this : (f : Form) (fs : List Form) (next place : ℕ) → CanFind (f ∷ fs) next place → place < clause_count f → CanAdd f next place
can_this f fs next place c less = let few = c.few in let room = c.room in record { within = less; few = omega arith; room = omega arith }

-- where the place is below the next part's count, the list is that part's
pub here : (sign : Bool) (ts : List Tree) (i : ℕ) (t : Tree) (p : Place) (k : ℕ) → i < length ts → t ≡ get_or ts i t → k < clause_count (signed_form t sign) → chosen_in_one (forms_of sign (drop i ts)) p k ≡ literals_chosen (signed_form t sign) p k
here sign [] i t p k h e less = absurd (omega arith)
here sign (u ∷ ts) zero t p k h e less =
    ap (λ w. chosen_in_one (forms_of sign (w ∷ ts)) p k) (sym e)
    ∙ ap (λ b. if b then literals_chosen (signed_form t sign) p k else chosen_in_one (forms_of sign ts) (record p { symbols = p.symbols + existentials (signed_form t sign) }) (k - clause_count (signed_form t sign))) (lt-ltb k (clause_count (signed_form t sign)) less)
here sign (u ∷ ts) (suc i) t p k h e less = here sign ts i t p k (omega arith) e less

-- ---- a list of each part

factors : (a b k l : ℕ) → k < a * b → a * b ≤ l → (0 < a) × (0 < b) × (a ≤ l) × (b ≤ l)
factors zero b k l h m = absurd (omega arith)
factors (suc a) zero k l h m = absurd (omega (arith, mul-zero (suc a)))
factors (suc a) (suc b) k l h m =
    let left : suc a * 1 ≤ suc a * suc b = mul-le (suc a) 1 (suc a) (suc b) (omega arith) (omega arith) in
    let right : 1 * suc b ≤ suc a * suc b = mul-le 1 (suc b) (suc a) (suc b) (omega arith) (omega arith) in
    (omega arith, omega arith, omega arith, omega arith)

-- the next part, and what is left behind it
pub record Taken (f : Form) (fs : List Form) (next place rest : ℕ) : Type 0 where
  pub positive : 0 < clause_count f
  pub few : clause_count f ≤ 65536
  pub few_skolems : existentials f ≤ 65536
  pub divided : rest / clause_count f ≡ product_count fs
  pub left : 0 < product_count fs
  pub can : CanAdd f next (place / product_count fs)
  pub later : CanTake fs (next + existentials f) (place % product_count fs) (product_count fs)

pub taken : (f : Form) (fs : List Form) (next place rest : ℕ) → CanTake (f ∷ fs) next place rest → Taken f fs next place rest
taken f fs next place rest c =
    let q = factors (clause_count f) (product_count fs) place 65536 c.within c.few in
    let room = c.room in
    record {
      positive = q.0;
      few = q.2;
      few_skolems = omega arith;
      divided = ap (λ (n : ℕ). n / clause_count f) (c.exact ∙ mul_comm (clause_count f) (product_count fs) ∙ (let e : product_count fs * clause_count f ≡ product_count fs * clause_count f + 0 = omega arith in e)) ∙ div-mul-add (product_count fs) (clause_count f) 0 q.0;
      left = q.1;
      can = record { within = (div-lt_iff_lt-mul {k = product_count fs} {x = place} {y = clause_count f} q.1).1 c.within; few = q.2; room = omega arith };
      later = record { exact = refl; within = mod-lt place q.1; few = q.3; room = omega arith };
    }

-- the parts that are left, the next one first
pub left_parts : (sign : Bool) (ts : List Tree) (i : ℕ) (t : Tree) → i < length ts → t ≡ get_or ts i t → forms_of sign (drop i ts) ≡ signed_form t sign ∷ forms_of sign (drop (i + 1) ts)
left_parts sign ts i t h e = by_suc ts i h e ∙ ap (λ (j : ℕ). signed_form t sign ∷ forms_of sign (drop j ts)) (let f : suc i ≡ i + 1 = omega arith in f)
  where
    by_suc : (us : List Tree) (j : ℕ) → j < length us → t ≡ get_or us j t → forms_of sign (drop j us) ≡ signed_form t sign ∷ forms_of sign (drop (suc j) us)
    by_suc [] j h e = absurd (omega arith)
    by_suc (u ∷ us) zero h e = ap (λ w. signed_form w sign ∷ forms_of sign us) (sym e)
    by_suc (u ∷ us) (suc j) h e = by_suc us j (omega arith) e

pub next_found : (sign : Bool) (ts : List Tree) (i : ℕ) (t : Tree) (next place : ℕ) → i < length ts → t ≡ get_or ts i t → CanFind (forms_of sign (drop i ts)) next place → place < clause_count (signed_form t sign) → CanAdd (signed_form t sign) next place
next_found sign ts i t next place h e can =
    can_this (signed_form t sign) (forms_of sign (drop (i + 1) ts)) next place (subst (λ fs. CanFind fs next place) (left_parts sign ts i t h e) can)

pub next_taken : (sign : Bool) (ts : List Tree) (i : ℕ) (t : Tree) (next place rest : ℕ) → i < length ts → t ≡ get_or ts i t → CanTake (forms_of sign (drop i ts)) next place rest → Taken (signed_form t sign) (forms_of sign (drop (i + 1) ts)) next place rest
next_taken sign ts i t next place rest h e can =
    taken (signed_form t sign) (forms_of sign (drop (i + 1) ts)) next place rest (subst (λ fs. CanTake fs next place rest) (left_parts sign ts i t h e) can)

pub next_made : (sign : Bool) (ts : List Tree) (i : ℕ) (t : Tree) (p : Place) (k : ℕ) → i < length ts → t ≡ get_or ts i t →
    chosen_in_each (forms_of sign (drop i ts)) p k ≡ literals_chosen (signed_form t sign) p (k / product_count (forms_of sign (drop (i + 1) ts))) ++ chosen_in_each (forms_of sign (drop (i + 1) ts)) (behind (signed_form t sign) p) (k % product_count (forms_of sign (drop (i + 1) ts)))
next_made sign ts i t p k h e = ap (λ fs. chosen_in_each fs p k) (left_parts sign ts i t h e)

pub can_take : (fs : List Form) (next place rest : ℕ) → CanAdd (fold either (constant false) fs) next place → rest ≡ clause_count (fold either (constant false) fs) → CanTake fs next place rest
can_take fs next place rest can exact =
    let c : clause_count (fold either (constant false) fs) ≡ 1 * product_count fs = count_either (constant false) fs in
    let s = skolems_some (constant false) fs in
    let within = can.within in let few = can.few in let room = can.room in
    record { exact = omega arith; within = omega arith; few = omega arith; room = omega arith }

pub element_most : (ts : List Tree) (i : ℕ) (t : Tree) → i < length ts → t ≡ get_or ts i t → tree_size t + 1 ≤ most (λ u. tree_size u + 1) ts
element_most [] i t h e = absurd (omega arith)
element_most (u ∷ ts) zero t h e = let same = ap tree_size e in omega arith
element_most (u ∷ ts) (suc i) t h e = let rest = element_most ts i t (omega arith) e in omega arith

pub drop_past : (ts : List Tree) (i : ℕ) → length ts ≤ i → drop i ts ≡ []
drop_past [] zero h = refl
drop_past [] (suc i) h = refl
drop_past (t ∷ ts) zero h = absurd (omega arith)
drop_past (t ∷ ts) (suc i) h = drop_past ts i (omega arith)

pub gathered_two : (c : Clause) (xs ys : List Literal) → gathered c (xs ++ ys) ≡ gathered (gathered c xs) ys
gathered_two c xs ys = fold-append with_signed_atom c xs ys

-- where some literals are too many, so they are with more
pub stopped : (c : Clause) (xs ys : List Literal) (m n : Clause) (s : Stop) → IsGathered {T = Unit {0}} (gathered c xs) m (Err s) → IsGathered {T = Unit {0}} (gathered c (xs ++ ys)) n (Err s)
stopped c xs ys m n Huge h = omega (arith, h, gathered_grows (gathered c xs) ys, ap clause_symbols (gathered_two c xs ys))
stopped c xs ys m n Memory h = tt

-- ---- leaving a quantifier's scope

abbrev is_nothing : List Block → Type 0
is_nothing [] = Unit {0}
is_nothing (b ∷ bs) = ⊥

something : (bs : List Block) (b : Block) → bs ++ b ∷ [] ≡ [] → ⊥
something [] b e = subst is_nothing (sym e) tt
something (c ∷ bs) b e = subst is_nothing (sym e) tt

-- the last block is taken off again
pub popped : (old new pushed : List Block) (b : Block) (r : Option Block) → pushed ≡ old ++ b ∷ [] → MatchOption r ((pushed ≡ []) × (new ≡ [])) (λ last. pushed ≡ new ++ last ∷ []) → new ≡ old
popped old new pushed b None p m = absurd (something old b (sym p ∙ m.0))
popped old new pushed b (Some last) p m = (same_from_push new old last b (sym m ∙ p)).0
