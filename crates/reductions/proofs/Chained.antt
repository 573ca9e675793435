-- Chains of reductions, line by line: what the first line does, and that the others are a chain.
use Rattle.std.proofs.Common.{◌≡◌, ◌⊎◌, inl, inr, ℕ, suc, ◌+◌, ◌<◌, Bool, true, false, ◌&&◌, if◌then◌else◌, List, [], ◌∷◌, ◌++◌, length, Option, Some, None, option_map, option_and_then, refl, sym, ap, subst, ◌∙◌, arith, length-append}
use Rattle.std.specs.Prelude.{slice_get}
use Rattle.std.proofs.lemmas.Bool.{or_cases, and_parts, false≢true}
use Rattle.std.proofs.lemmas.Option.{none-some, same_Some, slice_get_within}
use Rattle.std.proofs.lemmas.List.{length-map}
use Rattle.std.proofs.lemmas.List.Folds.{list_any-append}
use Rattle.spl_terms.specs.declared.term.Term.{Term}
use Rattle.spl_terms.specs.declared.atom.Atom.{Atom}
use Rattle.spl_terms.specs.declared.clause.Part.{Part}
use Rattle.spl_terms.specs.declared.clause.Part.TheVariants.{Constraint, Antecedent, Succedent}
use Rattle.spl_terms.specs.declared.clause.Spot.{Spot}
use Rattle.spl_terms.specs.declared.clause.Clause.{Clause}
use Rattle.spl_terms.specs.Terms.{term_eq, replace}
use Rattle.spl_terms.specs.TermLaws.{term_eq-true}
use Rattle.spl_terms.specs.Clauses.{atoms_of, in_order, is_same, part_of, replace_in_atom}
use Rattle.spl_terms.specs.InOrder.{IsInOrder}
use Rattle.spl_terms.specs.InOrderLaws.{in_order-IsInOrder}
use Rattle.spl_terms.specs.ListLaws.{numbered-more, numbered-end}
use Rattle.spl_terms.specs.SameLaws.{same_self}
use Rattle.spl_truth.specs.declared.replace.Subst.{Subst}
use Rattle.spl_truth.specs.Truth.{entry, apply}
use Rattle.spl_truth.specs.Redundancy.{has_equal_sides, Subsumes}
use Rattle.proof_steps.specs.declared.step.Statement.{Statement}
use Rattle.proof_steps.specs.declared.step.Line.{Line}
use Rattle.proof_steps.specs.Spots.{atom_at, term_under, with_term_at}
use Rattle.proof_steps.specs.Steps.{when, numbered, has_entries, without, joined, may_resolve, resolvent, resolved, resolution, factored, paramodulated, paramodulation, reflection, states, of_one, of_two, from_one, from_two, conclude}
use Rattle.proof_steps.specs.StepLaws.{may_resolve-below}
use Rattle.dep_sets.specs.Assumptions.{united}
use Rattle.calculus.specs.declared.kept.Kept.{Kept}
use Rattle.calculus.specs.Inferences.{clause_of}
use Rattle.calculus.specs.Reductions.{unchanged, before_arrow, after_arrow, IsRewriting, IsReplacement, IsReductionBy, IsOwnReduction, AreReductions}
use Rattle.calculus.specs.ReductionLaws.{IsStatedAs}
use Rattle.reductions.specs.Rewriting.{IsEquation}
use Rattle.reductions.specs.Chains.{HasOther, AreStatedIn, IsChain, rewriting_of, IsRewrittenTo, ShrinksOrRewrites, shrinks, rewrites, HaveOneClause}
use Rattle.reductions.proofs.Apart.{StandsIn, standing_subsumes}
use Rattle.reductions.proofs.Folded.{fewer_left, left_among, length-atoms}
use Rattle.reductions.proofs.Members.{among, among_at}
use Rattle.reductions.proofs.Rewritings.{at_spot}
use Rattle.reductions.proofs.Stating.{reflection_unchanged, unchanged_applied}

-- ---- answers taken apart

module _ {A B : Type 0} where
  map_some : (f : A → B) (o : Option A) (b : B) → option_map f o ≡ Some b → (a : A) × (o ≡ Some a) × (f a ≡ b)
  map_some f None b e = absurd (none-some b e)
  map_some f (Some a) b e = (a, refl, same_Some (f a) b e)

  then_some : (f : A → Option B) (o : Option A) (b : B) → option_and_then f o ≡ Some b → (a : A) × (o ≡ Some a) × (f a ≡ Some b)
  then_some f None b e = absurd (none-some b e)
  then_some f (Some a) b e = (a, refl, e)

when_some : {A : Type 0} (t : Bool) (a b : A) → when t a ≡ Some b → (t ≡ true) × (a ≡ b)
when_some true a b e = (refl, same_Some a b e)
when_some false a b e = absurd (none-some b e)

if_some : {A : Type 0} (t : Bool) (o : Option A) (b : A) → (if t then o else None) ≡ Some b → (t ≡ true) × (o ≡ Some b)
if_some true o b e = (refl, e)
if_some false o b e = absurd (none-some b e)

-- ---- atoms that are left

part_joined : (x y : Clause) (p : Part) → part_of (joined x y) p ≡ part_of x p ++ part_of y p
part_joined x y Constraint = refl
part_joined x y Antecedent = refl
part_joined x y Succedent = refl

among_joined : (x y : Clause) (p : Part) (a : Atom) → among a (part_of (joined x y) p) ≡ true → (among a (part_of x p) ≡ true) ⊎ (among a (part_of y p) ≡ true)
among_joined x y p a e = or_cases _ _ (sym (list_any-append (is_same a) (part_of x p) (part_of y p)) ∙ ap (among a) (sym (part_joined x y p)) ∙ e)

-- a clause that had one atom has none after it is taken out
module _ (d : Clause) (s : List Term) (part : Part) (i : ℕ) (one : length (atoms_of d) ≡ 1) (there : i < length (part_of (apply s d) part)) where
  abbrev left : Clause
  left = without part i (apply s d)

  as_many : length (atoms_of (apply s d)) ≡ length (atoms_of d)
  as_many =
      length-atoms (apply s d)
      ∙ (λ k. length-map d.constraint (replace_in_atom (entry s)) k + length-map d.antecedent (replace_in_atom (entry s)) k + length-map d.succedent (replace_in_atom (entry s)) k)
      ∙ sym (length-atoms d)

  none_left : length left.constraint + length left.antecedent + length left.succedent ≡ 0
  none_left = omega (arith, length-atoms left, fewer_left (apply s d) part i there, as_many, one)

  empty_part : (xs : List Atom) (a : Atom) → length xs ≡ 0 → among a xs ≡ true → ⊥
  empty_part [] a e h = false≢true h
  empty_part (x ∷ xs) a e h = omega (arith, e)

  nothing_left : (p : Part) (a : Atom) → among a (part_of left p) ≡ true → ⊥
  nothing_left Constraint a = empty_part left.constraint a (omega (arith, none_left))
  nothing_left Antecedent a = empty_part left.antecedent a (omega (arith, none_left))
  nothing_left Succedent a = empty_part left.succedent a (omega (arith, none_left))

without_stands : (part : Part) (i : ℕ) (e : Clause) → i < length (part_of e part) → StandsIn (without part i e) e
without_stands part i e low p k a is = left_among e part i low p a (among_at a a (part_of (without part i e) p) k is (same_self a))

resolution_some : (i : ℕ) (part : Part) (j : ℕ) (s t : List Term) (p q made : Clause) → resolution i part j s t p q ≡ Some made → (may_resolve i part j (apply s p) (apply t q) ≡ true) × (in_order (resolvent i part j (apply s p) (apply t q)) ≡ made)
resolution_some i part j s t p q made e =
    when_some (may_resolve i part j (apply s p) (apply t q)) (in_order (resolvent i part j (apply s p) (apply t q))) made
    (if_some (has_entries s p && has_entries t q) (resolved i part j (apply s p) (apply t q)) made e).1

-- what a clause of one atom leaves of another clause, which stays as it is
module _ (e d made : Clause) (s : List Term) (one : length (atoms_of d) ≡ 1) where
  pub replaced_before : (part : Part) (j : ℕ) → resolution 0 part j s (unchanged e).terms d e ≡ Some made → Subsumes made e × IsInOrder made
  replaced_before part j h =
      let r = resolution_some 0 part j s (unchanged e).terms d e made h in
      let may : may_resolve 0 part j (apply s d) e ≡ true = ap (may_resolve 0 part j (apply s d)) (sym (unchanged_applied e)) ∙ r.0 in
      let there = may_resolve-below 0 part j (apply s d) e may in
      let is : in_order (resolvent 0 part j (apply s d) e) ≡ made = ap (λ x. in_order (resolvent 0 part j (apply s d) x)) (sym (unchanged_applied e)) ∙ r.1 in
      let stands : StandsIn (resolvent 0 part j (apply s d) e) e = λ p k a at. elim (among_joined (without Succedent 0 (apply s d)) (without part j e) p a (among_at a a (part_of (resolvent 0 part j (apply s d) e) p) k at (same_self a))) [
        | inl h ↦ absurd (nothing_left d s Succedent 0 one there.0 p a h)
        | inr h ↦ left_among e part j there.1 p a h
      ] in
      (subst (λ x. Subsumes x e) is (standing_subsumes (resolvent 0 part j (apply s d) e) e stands), subst IsInOrder is (in_order-IsInOrder (resolvent 0 part j (apply s d) e)))

  pub replaced_after : (i : ℕ) (part : Part) → resolution i part 0 (unchanged e).terms s e d ≡ Some made → Subsumes made e × IsInOrder made
  replaced_after i part h =
      let r = resolution_some i part 0 (unchanged e).terms s e d made h in
      let may : may_resolve i part 0 e (apply s d) ≡ true = ap (λ x. may_resolve i part 0 x (apply s d)) (sym (unchanged_applied e)) ∙ r.0 in
      let there = may_resolve-below i part 0 e (apply s d) may in
      let is : in_order (resolvent i part 0 e (apply s d)) ≡ made = ap (λ x. in_order (resolvent i part 0 x (apply s d))) (sym (unchanged_applied e)) ∙ r.1 in
      let stands : StandsIn (resolvent i part 0 e (apply s d)) e = λ p k a at. elim (among_joined (without Succedent i e) (without part 0 (apply s d)) p a (among_at a a (part_of (resolvent i part 0 e (apply s d)) p) k at (same_self a))) [
        | inl h ↦ left_among e Succedent i there.0 p a h
        | inr h ↦ absurd (nothing_left d s part 0 one there.1 p a h)
      ] in
      (subst (λ x. Subsumes x e) is (standing_subsumes (resolvent i part 0 e (apply s d)) e stands), subst IsInOrder is (in_order-IsInOrder (resolvent i part 0 e (apply s d))))

-- ---- rewriting

rewritten_to : (e d made : Clause) (right : Bool) (spot : Spot) (s : Subst) (l r : Term) → IsEquation right d l r → paramodulation 0 right spot s.terms (unchanged e).terms d e ≡ Some made → IsRewrittenTo d right spot s e made × IsInOrder made
rewritten_to e d made right spot s l r is h =
    let fits = if_some (has_entries s.terms d && has_entries (unchanged e).terms e) (paramodulated 0 right spot (apply s.terms d) (apply (unchanged e).terms e)) made h in
    let made_so = sym (at_spot right d l r is s.terms e spot) ∙ ap (paramodulated 0 right spot (apply s.terms d)) (sym (unchanged_applied e)) ∙ fits.1 in
    let whole : Clause = joined (without Succedent 0 (apply s.terms d)) (with_term_at spot (replace (entry s.terms) r) e) in
    let u = then_some (λ u. when (term_eq u (replace (entry s.terms) l)) (in_order whole)) (option_and_then (term_under spot.path) (atom_at spot.part spot.place e)) made made_so in
    let a = then_some (term_under spot.path) (atom_at spot.part spot.place e) u.0 u.1 in
    let equal = when_some (term_eq u.0 (replace (entry s.terms) l)) (in_order whole) made u.2 in
    let alone : whole ≡ with_term_at spot (replace (entry s.terms) r) e = ap (λ c. joined (without Succedent 0 (apply s.terms c)) (with_term_at spot (replace (entry s.terms) r) e)) is.alone in (
      record {
        left_side = l;
        right_side = r;
        is = is;
        entries = (and_parts _ _ fits.0).0;
        atom = a.0;
        there = a.1;
        stands = a.2 ∙ ap Some (term_eq-true u.0 (replace (entry s.terms) l) equal.0);
        makes = sym equal.1 ∙ ap in_order alone;
      },
      subst IsInOrder equal.1 (in_order-IsInOrder whole),
    )

-- ---- the first line

-- a line of a chain does what it should, its equation isn't the hidden clause, and it states a clause in order
pub record IsFirstLine (hidden : ℕ) (listed : List Kept) (e : Clause) (l : Line) : Type 0 where
  pub does : ShrinksOrRewrites listed e l
  pub other : (m : ℕ) (right : Bool) (spot : Spot) (s : Subst) → rewriting_of l.step ≡ Some (m, right, spot, s) → m ≡ hidden → ⊥
  pub ordered : IsInOrder l.stated.clause

no_rewriting : (hidden : ℕ) (l : Line) → rewriting_of l.step ≡ None → (m : ℕ) (right : Bool) (spot : Spot) (s : Subst) → rewriting_of l.step ≡ Some (m, right, spot, s) → m ≡ hidden → ⊥
no_rewriting hidden l none m right spot s e = absurd (none-some (m, right, spot, s) (sym none ∙ e))

module _ (hidden : ℕ) (listed : List Kept) (n : ℕ) (e : Clause) (l : Line) (lines : List Line) (c : IsChain hidden listed n e (l ∷ lines)) where
  abbrev clause : Clause
  clause = l.stated.clause

  of_itself : (f : Clause → Option Clause) → of_one (from_one f) (numbered c.earlier n) ≡ Some l.stated → f e ≡ Some clause
  of_itself f h =
      let m = map_some (λ k. states k c.first.0) (f e) l.stated (sym (ap (of_one (from_one f)) c.first.1) ∙ h) in
      m.1 ∙ ap (λ (s : Statement). Some s.clause) m.2

  shrinks_to : rewriting_of l.step ≡ None → Subsumes clause e × IsInOrder clause → IsFirstLine hidden listed e l
  shrinks_to none h = record { does = shrinks none h.0; other = no_rewriting hidden l none; ordered = h.1 }

  own_line : IsOwnReduction n e l.step → IsFirstLine hidden listed e l
  own_line (inl w) =
      let g : factored w.s.terms e ≡ Some clause = of_itself (factored w.s.terms) (ap (conclude c.input c.earlier) (sym w.step) ∙ c.concluded.0) in
      let is : in_order (apply w.s.terms e) ≡ clause = same_Some _ _ (if_some (has_entries w.s.terms e) (Some (in_order (apply w.s.terms e))) clause g).1 in
      shrinks_to (ap rewriting_of w.step) (subst (λ x. Subsumes x e) is w.subsumes, subst IsInOrder is (in_order-IsInOrder (apply w.s.terms e)))
  own_line (inr w) =
      let g : reflection w.j (unchanged e).terms e ≡ Some clause = of_itself (reflection w.j (unchanged e).terms) (ap (conclude c.input c.earlier) (sym w.step) ∙ c.concluded.0) in
      let a = then_some (λ x. when (has_equal_sides x) (in_order (without Antecedent w.j e))) (slice_get e.antecedent w.j) clause (sym (reflection_unchanged w.j e) ∙ g) in
      let is : in_order (without Antecedent w.j e) ≡ clause = (when_some (has_equal_sides a.0) (in_order (without Antecedent w.j e)) clause a.2).1 in
      shrinks_to (ap rewriting_of w.step) (
        subst (λ x. Subsumes x e) is (standing_subsumes (without Antecedent w.j e) e (without_stands Antecedent w.j e (slice_get_within e.antecedent w.j a.0 a.1))),
        subst IsInOrder is (in_order-IsInOrder (without Antecedent w.j e)),
      )

  module _ (m : ℕ) (d : Clause) (h : HasOther hidden listed m d) where
    other_there : IsStatedAs c.earlier m d
    other_there = (let x = c.others h.0.kept h.0.among in subst (λ k. IsStatedAs c.earlier k d) h.0.number (subst (IsStatedAs c.earlier h.0.kept.number) h.0.clause x))

    of_both : (f : Clause → Clause → Option Clause) → of_two (from_two f) (numbered c.earlier m) (numbered c.earlier n) ≡ Some l.stated → f d e ≡ Some clause
    of_both f g =
        let x = map_some (λ k. states k (united other_there.0 c.first.0)) (f d e) l.stated (sym (λ i. of_two (from_two f) (other_there.1 i) (c.first.1 i)) ∙ g) in
        x.1 ∙ ap (λ (s : Statement). Some s.clause) x.2

    of_both_turned : (f : Clause → Clause → Option Clause) → of_two (from_two f) (numbered c.earlier n) (numbered c.earlier m) ≡ Some l.stated → f e d ≡ Some clause
    of_both_turned f g =
        let x = map_some (λ k. states k (united c.first.0 other_there.0)) (f e d) l.stated (sym (λ i. of_two (from_two f) (c.first.1 i) (other_there.1 i)) ∙ g) in
        x.1 ∙ ap (λ (s : Statement). Some s.clause) x.2

    replacing_line : IsReplacement n e m d l.step → IsFirstLine hidden listed e l
    replacing_line (before_arrow part j s one is) =
        shrinks_to (ap rewriting_of is) (replaced_before e d clause s.terms one part j (of_both (resolution 0 part j s.terms (unchanged e).terms) (ap (conclude c.input c.earlier) (sym is) ∙ c.concluded.0)))
    replacing_line (after_arrow i part t one is) =
        shrinks_to (ap rewriting_of is) (replaced_after e d clause t.terms one i part (of_both_turned (resolution i part 0 (unchanged e).terms t.terms) (ap (conclude c.input c.earlier) (sym is) ∙ c.concluded.0)))

    rewriting_line : IsRewriting n e m d l.step → IsFirstLine hidden listed e l
    rewriting_line w =
        let g : paramodulation 0 w.right w.spot w.s.terms (unchanged e).terms d e ≡ Some clause = of_both (paramodulation 0 w.right w.spot w.s.terms (unchanged e).terms) (ap (conclude c.input c.earlier) (sym w.step) ∙ c.concluded.0) in
        let r = rewritten_to e d clause w.right w.spot w.s w.left_side w.right_side (record { equation = w.equation; alone = w.alone; sides = w.sides }) g in
        let here : rewriting_of l.step ≡ Some (m, w.right, w.spot, w.s) = ap rewriting_of w.step in record {
          does = rewrites m w.right w.spot w.s d here h.0 r.0;
          other = λ k right spot s e same. h.1 (ap (λ (y : ℕ × Bool × Spot × Subst). y.0) (same_Some (m, w.right, w.spot, w.s) (k, right, spot, s) (sym here ∙ e)) ∙ same);
          ordered = r.1;
        }

    line_by : IsReductionBy n e m d l.step → IsFirstLine hidden listed e l
    line_by (apart, inl w) = rewriting_line w
    line_by (apart, inr w) = replacing_line w

  pub first_line : IsFirstLine hidden listed e l
  first_line = elim c.reductions.0 [
    | inl by ↦ line_by by.number by.by by.among by.reduces
    | inr own ↦ own_line own
  ]

  -- the other lines are a chain that begins with what the first one states
  pub other_lines : IsChain hidden listed (suc (length c.earlier)) clause lines
  other_lines = record {
    input = c.input;
    earlier = c.earlier ++ l.stated ∷ [];
    first = (l.stated.deps, subst (λ (k : ℕ). numbered (c.earlier ++ l.stated ∷ []) k ≡ Some l.stated) last (numbered-end c.earlier l.stated));
    others = λ k among. (let x = c.others k among in (x.0, numbered-more c.earlier (l.stated ∷ []) k.number (states (clause_of k) x.0) x.1));
    reductions = subst (λ (k : ℕ). AreReductions (HasOther hidden listed) k (suc (length c.earlier)) clause lines) next c.reductions.1;
    concluded = c.concluded.1;
  }
    where
      last : length c.earlier + 1 ≡ suc (length c.earlier)
      last = omega arith

      next : suc (length c.earlier) + 1 ≡ suc (length (c.earlier ++ l.stated ∷ []))
      next = omega (arith, length-append c.earlier (l.stated ∷ []))

-- ---- the listed clauses

pub one_clause : (earlier : List Statement) (listed : List Kept) → AreStatedIn earlier listed → HaveOneClause listed
one_clause earlier listed there m c d h k =
    let x = there h.kept h.among in
    let y = there k.kept k.among in
    let same : states (clause_of h.kept) x.0 ≡ states (clause_of k.kept) y.0 = same_Some _ _ (sym x.1 ∙ ap (numbered earlier) (h.number ∙ sym k.number) ∙ y.1) in
    sym h.clause ∙ ap (λ (s : Statement). s.clause) same ∙ k.clause
