-- Laws with their proofs, not definitions that a reader must believe: a reduction step may be given other numbers, and makes the same
-- clause; and a chain whose end is covered begins with a clause that is.
use Rattle.std.proofs.Common.{◌≡◌, ◌⊎◌, inl, inr, ℕ, zero, suc, ◌+◌, List, [], ◌∷◌, ◌++◌, length, refl, sym, ap, ◌∙◌, subst, arith, length-append}
use Rattle.std.specs.Prelude.{Option, Some, None, option_map, slice_get}
use Rattle.spl_terms.specs.declared.clause.Clause.{Clause}
use Rattle.dep_sets.specs.declared.deps.Assumption.{Assumption}
use Rattle.dep_sets.specs.Assumptions.{united}
use Rattle.proof_steps.specs.declared.step.Rule.{Rule}
use Rattle.proof_steps.specs.declared.step.Rule.TheVariants.{Resolve, Factor, Paramodulate, Reflex}
use Rattle.proof_steps.specs.declared.step.Statement.{Statement}
use Rattle.proof_steps.specs.declared.step.Step.{Step}
use Rattle.proof_steps.specs.declared.step.Line.{Line}
use Rattle.proof_steps.specs.Steps.{numbered, states, of_one, of_two, from_one, from_two, resolution, factored, paramodulation, reflection, conclude}
use Rattle.calculus.specs.Reductions.{unchanged, before_arrow, after_arrow, IsReductionBy, IsOwnReduction, ReducesBy, ReducesItself, IsReductionAmong, AreReductions}
use Rattle.calculus.specs.Coverage.{IsReducedByOne, Covered, reduced}

-- what is concluded from two clauses, whatever they depend on
from_clauses : (f : Clause → Clause → Option Clause) (d e : Clause) (xs ys vs ws : List Assumption) (c : Statement) → from_two f (states d xs) (states e ys) ≡ Some c → from_two f (states d vs) (states e ws) ≡ Some (states c.clause (united vs ws))
from_clauses f d e xs ys vs ws c = by_answer (f d e)
  where
    by_answer : (o : Option Clause) → option_map (λ k. states k (united xs ys)) o ≡ Some c → option_map (λ k. states k (united vs ws)) o ≡ Some (states c.clause (united vs ws))
    by_answer None h = absurd (cc)
    by_answer (Some k) h = let g : states k (united xs ys) ≡ c = cc in ap (λ (x : Statement). Some (states x.clause (united vs ws))) g

from_clause : (f : Clause → Option Clause) (e : Clause) (xs vs : List Assumption) (c : Statement) → from_one f (states e xs) ≡ Some c → from_one f (states e vs) ≡ Some (states c.clause vs)
from_clause f e xs vs c = by_answer (f e)
  where
    by_answer : (o : Option Clause) → option_map (λ k. states k xs) o ≡ Some c → option_map (λ k. states k vs) o ≡ Some (states c.clause vs)
    by_answer None h = absurd (cc)
    by_answer (Some k) h = let g : states k xs ≡ c = cc in ap (λ (x : Statement). Some (states x.clause vs)) g

-- the step concludes this clause, with the dependencies of both parents
abbrev pub Makes : List Clause → List Statement → Step → Clause → List Assumption → List Assumption → Type 0
Makes input earlier st made xs ys = (conclude input earlier st ≡ Some (states made (united xs ys))) ⊎ (conclude input earlier st ≡ Some (states made (united ys xs)))

-- two clauses among statements: number n is e, and number m is d
module _ (input more : List Clause) (earlier later : List Statement) (e d : Clause) (n m k j : ℕ) (e_deps d_deps e_later d_later : List Assumption)
    (has_e : numbered earlier n ≡ Some (states e e_deps)) (has_d : numbered earlier m ≡ Some (states d d_deps))
    (later_e : numbered later k ≡ Some (states e e_later)) (later_d : numbered later j ≡ Some (states d d_later)) where
  -- by d and e, in this order
  moved_d_e : (f : Clause → Clause → Option Clause) (c : Statement) → of_two (from_two f) (numbered earlier m) (numbered earlier n) ≡ Some c → of_two (from_two f) (numbered later j) (numbered later k) ≡ Some (states c.clause (united d_later e_later))
  moved_d_e f c h = (λ i. of_two (from_two f) (later_d i) (later_e i)) ∙ from_clauses f d e d_deps e_deps d_later e_later c (sym (λ i. of_two (from_two f) (has_d i) (has_e i)) ∙ h)

  moved_e_d : (f : Clause → Clause → Option Clause) (c : Statement) → of_two (from_two f) (numbered earlier n) (numbered earlier m) ≡ Some c → of_two (from_two f) (numbered later k) (numbered later j) ≡ Some (states c.clause (united e_later d_later))
  moved_e_d f c h = (λ i. of_two (from_two f) (later_e i) (later_d i)) ∙ from_clauses f e d e_deps d_deps e_later d_later c (sym (λ i. of_two (from_two f) (has_e i) (has_d i)) ∙ h)

  moved_e : (f : Clause → Option Clause) (c : Statement) → of_one (from_one f) (numbered earlier n) ≡ Some c → of_one (from_one f) (numbered later k) ≡ Some (states c.clause e_later)
  moved_e f c h = ap (of_one (from_one f)) later_e ∙ from_clause f e e_deps e_later c (sym (ap (of_one (from_one f)) has_e) ∙ h)

  -- with other numbers the same clause is made
  pub reduction-moved : (st : Step) (c : Statement) → IsReductionBy n e m d st → (j ≡ k → ⊥) → conclude input earlier st ≡ Some c → (st' : Step) × IsReductionBy k e j d st' × Makes more later st' c.clause d_later e_later
  reduction-moved st c (apart, inl w) other h =
      let rule : Rule = Paramodulate 0 w.right w.spot w.s (unchanged e) in
      let g : conclude input earlier (record { rule = rule; parents = m ∷ n ∷ [] }) ≡ Some c = ap (conclude input earlier) (sym w.step) ∙ h in (
        record { rule = rule; parents = j ∷ k ∷ [] },
        (other, inl (record { equation = w.equation; alone = w.alone; right = w.right; left_side = w.left_side; right_side = w.right_side; sides = w.sides; bound = w.bound; s = w.s; falls = w.falls; spot = w.spot; step = refl })),
        inl (moved_d_e (paramodulation 0 w.right w.spot w.s.terms (unchanged e).terms) c g),
      )
  reduction-moved st c (apart, inr (before_arrow part i s one is)) other h =
      let rule : Rule = Resolve 0 part i s (unchanged e) in
      let g : conclude input earlier (record { rule = rule; parents = m ∷ n ∷ [] }) ≡ Some c = ap (conclude input earlier) (sym is) ∙ h in
      (record { rule = rule; parents = j ∷ k ∷ [] }, (other, inr (before_arrow part i s one refl)), inl (moved_d_e (resolution 0 part i s.terms (unchanged e).terms) c g))
  reduction-moved st c (apart, inr (after_arrow i part t one is)) other h =
      let rule : Rule = Resolve i part 0 (unchanged e) t in
      let g : conclude input earlier (record { rule = rule; parents = n ∷ m ∷ [] }) ≡ Some c = ap (conclude input earlier) (sym is) ∙ h in
      (record { rule = rule; parents = k ∷ j ∷ [] }, (other, inr (after_arrow i part t one refl)), inr (moved_e_d (resolution i part 0 (unchanged e).terms t.terms) c g))

  -- and by the clause itself
  pub own-moved : (st : Step) (c : Statement) → IsOwnReduction n e st → conclude input earlier st ≡ Some c → (st' : Step) × IsOwnReduction k e st' × (conclude more later st' ≡ Some (states c.clause e_later))
  own-moved st c (inl w) h =
      let g : conclude input earlier (record { rule = Factor w.s; parents = n ∷ [] }) ≡ Some c = ap (conclude input earlier) (sym w.step) ∙ h in
      (record { rule = Factor w.s; parents = k ∷ [] }, inl (record { s = w.s; step = refl; fewer = w.fewer; subsumes = w.subsumes }), moved_e (factored w.s.terms) c g)
  own-moved st c (inr w) h =
      let g : conclude input earlier (record { rule = Reflex w.j (unchanged e); parents = n ∷ [] }) ≡ Some c = ap (conclude input earlier) (sym w.step) ∙ h in
      (record { rule = Reflex w.j (unchanged e); parents = k ∷ [] }, inr (record { j = w.j; step = refl }), moved_e (reflection w.j (unchanged e).terms) c g)

two_isn't_one : ◌≡◌ {A = ℕ} 2 1 → ⊥
two_isn't_one e = omega arith

-- a published step is a reduction step in the sense of coverage
pub reduces-by : (input : List Clause) (earlier : List Statement) (e d : Clause) (n m : ℕ) (xs ys : List Assumption) (st : Step) (c : Statement) → numbered earlier n ≡ Some (states e xs) → numbered earlier m ≡ Some (states d ys) → IsReductionBy n e m d st → conclude input earlier st ≡ Some c → ReducesBy d e c.clause
reduces-by input earlier e d n m xs ys st c has_e has_d h g =
    let moved = reduction-moved input [] earlier (states e [] ∷ states d [] ∷ []) e d n m 1 2 xs ys [] [] has_e has_d refl refl st c h two_isn't_one g in
    record { step = moved.0; reduces = moved.1; gives = elim moved.2 [ inl x ↦ x | inr x ↦ x ] }

pub reduces-itself : (input : List Clause) (earlier : List Statement) (e : Clause) (n : ℕ) (xs : List Assumption) (st : Step) (c : Statement) → numbered earlier n ≡ Some (states e xs) → IsOwnReduction n e st → conclude input earlier st ≡ Some c → ReducesItself e c.clause
reduces-itself input earlier e n xs st c has_e h g =
    let moved = own-moved input [] earlier (states e [] ∷ []) e e n n 1 1 xs xs [] [] has_e has_e refl refl st c h g in
    record { step = moved.0; reduces = moved.1; gives = moved.2 }

-- and where a clause is reducible in that sense, there is a step with its numbers
pub reduction-there : (input : List Clause) (earlier : List Statement) (e d made : Clause) (n m : ℕ) (xs ys : List Assumption) → numbered earlier n ≡ Some (states e xs) → numbered earlier m ≡ Some (states d ys) → (m ≡ n → ⊥) → ReducesBy d e made → (st : Step) × IsReductionBy n e m d st × Makes input earlier st made ys xs
reduction-there input earlier e d made n m xs ys has_e has_d apart h =
    reduction-moved [] input (states e [] ∷ states d [] ∷ []) earlier e d 1 2 n m [] [] xs ys refl refl has_e has_d h.step (states made []) h.reduces apart h.gives

pub own-reduction-there : (input : List Clause) (earlier : List Statement) (e made : Clause) (n : ℕ) (xs : List Assumption) → numbered earlier n ≡ Some (states e xs) → ReducesItself e made → (st : Step) × IsOwnReduction n e st × (conclude input earlier st ≡ Some (states made xs))
own-reduction-there input earlier e made n xs has_e h =
    own-moved [] input (states e [] ∷ []) earlier e e 1 1 n n [] [] xs xs refl refl has_e has_e h.step (states made []) h.reduces h.gives

-- ---- chains

-- the clause in which a chain from e ends
abbrev pub end_of : Clause → List Line → Clause
end_of e [] = e
end_of e (l ∷ lines) = end_of l.stated.clause lines

-- each line states what its step concludes from the statements before it
abbrev pub AreConcludedFrom : List Clause → List Statement → List Line → Type 0
AreConcludedFrom input earlier [] = Unit {0}
AreConcludedFrom input earlier (l ∷ lines) = (conclude input earlier l.step ≡ Some l.stated) × AreConcludedFrom input (earlier ++ l.stated ∷ []) lines

-- number m of the statements states d
abbrev pub IsStatedAs : List Statement → ℕ → Clause → Type 0
IsStatedAs earlier m d = (xs : List Assumption) × (numbered earlier m ≡ Some (states d xs))

get_front : (xs ys : List Statement) (k : ℕ) (x : Statement) → slice_get xs k ≡ Some x → slice_get (xs ++ ys) k ≡ Some x
get_front [] ys k x h = absurd (cc)
get_front (y ∷ xs) ys zero x h = h
get_front (y ∷ xs) ys (suc k) x h = get_front xs ys k x h

front_stays : (earlier more : List Statement) (m : ℕ) (x : Statement) → numbered earlier m ≡ Some x → numbered (earlier ++ more) m ≡ Some x
front_stays earlier more zero x h = absurd (cc)
front_stays earlier more (suc k) x h = get_front earlier more k x h

get_last : (xs : List Statement) (x : Statement) → slice_get (xs ++ x ∷ []) (length xs) ≡ Some x
get_last [] x = refl
get_last (y ∷ xs) x = get_last xs x

-- if the clause in which a chain of reductions ends is covered, so is the one that it begins with
pub chain-covered : {Those : Clause → Type 0} (These : ℕ → Clause → Type 0) (input : List Clause) (earlier : List Statement) (n : ℕ) (e : Clause) (lines : List Line) → ((m : ℕ) (d : Clause) → These m d → IsStatedAs earlier m d × Those d) → IsStatedAs earlier n e → AreReductions These (suc (length earlier)) n e lines → AreConcludedFrom input earlier lines → Covered Those (end_of e lines) → Covered Those e
chain-covered These input earlier n e [] known is h c covered = covered
chain-covered {Those} These input earlier n e (l ∷ lines) known is h c covered =
    reduced (first h.0) (chain-covered These input (earlier ++ l.stated ∷ []) (suc (length earlier)) l.stated.clause lines known_later (l.stated.deps, get_last earlier l.stated) reductions c.1 covered)
  where
    known_later : (m : ℕ) (d : Clause) → These m d → IsStatedAs (earlier ++ l.stated ∷ []) m d × Those d
    known_later m d t = (let k = known m d t in ((k.0.0, front_stays earlier (l.stated ∷ []) m (states d k.0.0) k.0.1), k.1))

    next : suc (suc (length earlier)) ≡ suc (length (earlier ++ l.stated ∷ []))
    next = omega (arith, length-append earlier (l.stated ∷ []))

    after : suc (length earlier) + 1 ≡ suc (suc (length earlier))
    after = omega arith

    reductions : AreReductions These (suc (length (earlier ++ l.stated ∷ []))) (suc (length earlier)) l.stated.clause lines
    reductions = subst (λ (k : ℕ). AreReductions These k (suc (length earlier)) l.stated.clause lines) (after ∙ next) h.1

    first : IsReductionAmong These n e l.step → IsReducedByOne Those e l.stated.clause ⊎ ReducesItself e l.stated.clause
    first (inl by) = (let d = known by.number by.by by.among in inl (record { by = by.by; among = d.1; reduces = reduces-by input earlier e by.by n by.number is.0 d.0.0 l.step l.stated is.1 d.0.1 by.reduces c.0 }))
    first (inr own) = inr (reduces-itself input earlier e n is.0 l.step l.stated is.1 own c.0)
