-- What a step concludes: its parents are there, its assumptions are theirs or about one of them, and where the numbers
-- change, it concludes the statement with the same change.
use Rattle.std.proofs.Common.{◌≡◌, ℕ, ◌⊎◌, inl, inr, Bool, true, false, ◌&&◌, ◌||◌, nat_eq, List, [], ◌∷◌, map, Option, Some, None, option_map, cond, refl, sym, ap, ◌∙◌, subst, rules}
use Rattle.std.specs.Prelude.{option_and_then}
use Rattle.std.proofs.lemmas.Option.{same_Some}
use Rattle.spl_terms.specs.declared.clause.Clause.{Clause}
use Rattle.spl_terms.specs.Clauses.{in_order, is_empty}
use Rattle.dep_sets.specs.declared.deps.Assumption.{Assumption}
use Rattle.dep_sets.specs.Assumptions.{united, without_assumption}
use Rattle.proof_steps.specs.declared.step.Statement.{Statement}
use Rattle.proof_steps.specs.declared.step.Rule.{Rule}
use Rattle.proof_steps.specs.declared.step.Rule.TheVariants.{Input, Resolve, Factor, Paramodulate, Reflex, EqFactor, Assume, CaseLeft, CaseRight, CaseBoth}
use Rattle.proof_steps.specs.Parts.{Parted, parts_of}
use Rattle.proof_steps.specs.Steps.{numbered, states, of_one, of_two, of_three, from_one, from_two, side_of, closes, assumption_of, side_closed, both_closed, concluded, resolution, factored, paramodulation, reflection, equality_factoring}
use Rattle.clause_parts.specs.Sides.{split_parts, assumed}
use Rattle.proof_steps.specs.SplitLaws.{left_closed, right_closed}
use Rattle.proof_extract.specs.Extracting.{is_in, renumbered_deps, renumbered_statement}
use Rattle.proof_extract.proofs.Renumbered.{KeepsOrder, AreOver, over_united, over_without, renumbered_united, renumbered_without, renumbered_contains}

-- ---- what is looked up is there

one_of : (g : Statement → Option Statement) (p : Option Statement) (c : Statement) (Q : Type 0) → ((x : Statement) → p ≡ Some x → g x ≡ Some c → Q) → of_one g p ≡ Some c → Q
one_of g (Some x) c Q h e = h x refl e
one_of g None c Q h e = absurd (cc)

two_of : (g : Statement → Statement → Option Statement) (p q : Option Statement) (c : Statement) (Q : Type 0) → ((x y : Statement) → p ≡ Some x → q ≡ Some y → g x y ≡ Some c → Q) → of_two g p q ≡ Some c → Q
two_of g (Some x) (Some y) c Q h e = h x y refl refl e
two_of g (Some x) None c Q h e = absurd (cc)
two_of g None q c Q h e = absurd (cc)

three_of : (g : Statement → Statement → Statement → Option Statement) (p q r : Option Statement) (c : Statement) (Q : Type 0) → ((x y z : Statement) → p ≡ Some x → q ≡ Some y → r ≡ Some z → g x y z ≡ Some c → Q) → of_three g p q r ≡ Some c → Q
three_of g (Some x) q r c Q h e = two_of (g x) q r c Q (λ y z. h x y z refl) e
three_of g None q r c Q h e = absurd (cc)

-- what is made is of something
mapped : {A : Type 0} (f : A → Statement) (o : Option A) (c : Statement) (Q : Type 0) → ((d : A) → o ≡ Some d → f d ≡ c → Q) → option_map f o ≡ Some c → Q
mapped f (Some d) c Q h e = h d refl (same_Some (f d) c e)
mapped f None c Q h e = absurd (cc)

chosen : (b : Bool) (o : Option Statement) (c : Statement) (Q : Type 0) → (b ≡ true → o ≡ Some c → Q) → cond b o None ≡ Some c → Q
chosen true o c Q h e = h refl e
chosen false o c Q h e = absurd (cc)

-- ---- one of some numbers

is_first : (m : ℕ) (ms : List ℕ) → is_in (m ∷ ms) m ≡ true
is_first m ms = let same : nat_eq m m ≡ true = search rules in rw same refl

is_later : (k m : ℕ) (ms : List ℕ) → is_in ms m ≡ true → is_in (k ∷ ms) m ≡ true
is_later k m ms e = go (nat_eq m k) (is_in ms m) e
  where
    go : (b c : Bool) → c ≡ true → (b || c) ≡ true
    go true c e = refl
    go false c e = e

which : (m n : ℕ) (ms : List ℕ) → is_in (n ∷ ms) m ≡ true → (m ≡ n) ⊎ (is_in ms m ≡ true)
which m n ms e = go (nat_eq m n) refl e
  where
    go : (b : Bool) → nat_eq m n ≡ b → (b || is_in ms m) ≡ true → (m ≡ n) ⊎ (is_in ms m ≡ true)
    go true h e = inl (search rules)
    go false h e = inr e

each : (Q : ℕ → Type 0) (n : ℕ) (ms : List ℕ) → Q n → ((m : ℕ) → is_in ms m ≡ true → Q m) → (m : ℕ) → is_in (n ∷ ms) m ≡ true → Q m
each Q n ms here rest m h = elim (which m n ms h) [ inl e ↦ subst Q (sym e) here | inr k ↦ rest m k ]

none : (Q : ℕ → Type 0) → (m : ℕ) → is_in [] m ≡ true → Q m
none Q m h = absurd (cc)

-- ---- steps

module _ (P : ℕ → Type 0) (f : ℕ → ℕ) (keeps : KeepsOrder P f) (earlier others : List Statement) where
  -- P holds of the parents and of the splits on which they depend
  abbrev pub AreFit : List ℕ → Type 0
  AreFit parents = (m : ℕ) (x : Statement) → is_in parents m ≡ true → numbered earlier m ≡ Some x → P m × AreOver P x.deps

  -- the parents are found under their new numbers
  abbrev pub AreMoved : List ℕ → Type 0
  AreMoved parents = (m : ℕ) (x : Statement) → is_in parents m ≡ true → numbered earlier m ≡ Some x → numbered others (f m) ≡ Some (renumbered_statement f x)

  abbrev pub AreThere : List ℕ → Type 0
  AreThere parents = (m : ℕ) → is_in parents m ≡ true → (x : Statement) × (numbered earlier m ≡ Some x)

  -- what is known of the statement c that was concluded from these parents, and `again` from their new numbers
  pub record Outcome (parents : List ℕ) (again : Option Statement) (c : Statement) : Type 0 where
    pub there : AreThere parents
    pub over : AreFit parents → AreOver P c.deps
    pub moved : AreFit parents → AreMoved parents → again ≡ Some (renumbered_statement f c)

  abbrev There : ℕ → Type 0
  There m = (x : Statement) × (numbered earlier m ≡ Some x)

  from_input : (o : Option Clause) (c : Statement) → option_map (λ d. states (in_order d) []) o ≡ Some c → Outcome [] (option_map (λ d. states (in_order d) []) o) c
  from_input o c e = mapped (λ d. states (in_order d) []) o c (Outcome [] (option_map (λ d. states (in_order d) []) o) c) (λ d h k. record {
    there = none There;
    over = λ fit. subst (λ z. AreOver P z.deps) k tt;
    moved = λ fit moved. e ∙ ap Some (sym k ∙ ap (renumbered_statement f) k);
  }) e

  made_one : (g : Clause → Option Clause) (m : ℕ) (x c : Statement) → numbered earlier m ≡ Some x → from_one g x ≡ Some c → Outcome (m ∷ []) (of_one (from_one g) (numbered others (f m))) c
  made_one g m x c a e = mapped (λ d. states d x.deps) (g x.clause) c (Outcome (m ∷ []) (of_one (from_one g) (numbered others (f m))) c) (λ d h k. record {
    there = each There m [] (x, a) (none There);
    over = λ fit. subst (λ z. AreOver P z.deps) k (fit m x (is_first m []) a).1;
    moved = λ fit moved. ap (of_one (from_one g)) (moved m x (is_first m []) a) ∙ ap (option_map (λ d. states d (renumbered_deps f x.deps))) h ∙ ap (λ z. Some (renumbered_statement f z)) k;
  }) e

  from_parent : (g : Clause → Option Clause) (m : ℕ) (c : Statement) → of_one (from_one g) (numbered earlier m) ≡ Some c → Outcome (m ∷ []) (of_one (from_one g) (numbered others (f m))) c
  from_parent g m c e = one_of (from_one g) (numbered earlier m) c (Outcome (m ∷ []) (of_one (from_one g) (numbered others (f m))) c) (λ x a k. made_one g m x c a k) e

  made_two : (g : Clause → Clause → Option Clause) (m n : ℕ) (x y c : Statement) → numbered earlier m ≡ Some x → numbered earlier n ≡ Some y → from_two g x y ≡ Some c → Outcome (m ∷ n ∷ []) (of_two (from_two g) (numbered others (f m)) (numbered others (f n))) c
  made_two g m n x y c a b e = mapped (λ d. states d (united x.deps y.deps)) (g x.clause y.clause) c (Outcome (m ∷ n ∷ []) (of_two (from_two g) (numbered others (f m)) (numbered others (f n))) c) (λ d h k. record {
    there = each There m (n ∷ []) (x, a) (each There n [] (y, b) (none There));
    over = λ fit. subst (λ z. AreOver P z.deps) k (over_united P x.deps y.deps (fit m x (is_first m (n ∷ [])) a).1 (fit n y (is_later m n (n ∷ []) (is_first n [])) b).1);
    moved = λ fit moved.
        let p = (fit m x (is_first m (n ∷ [])) a).1 in
        let q = (fit n y (is_later m n (n ∷ []) (is_first n [])) b).1 in
        ap (λ o. of_two (from_two g) o (numbered others (f n))) (moved m x (is_first m (n ∷ [])) a)
        ∙ ap (of_two (from_two g) (Some (renumbered_statement f x))) (moved n y (is_later m n (n ∷ []) (is_first n [])) b)
        ∙ ap (option_map (λ d. states d (united (renumbered_deps f x.deps) (renumbered_deps f y.deps)))) h
        ∙ ap (λ z. Some (states d z)) (sym (renumbered_united P f keeps x.deps y.deps p q))
        ∙ ap (λ z. Some (renumbered_statement f z)) k;
  }) e

  from_parents : (g : Clause → Clause → Option Clause) (m n : ℕ) (c : Statement) → of_two (from_two g) (numbered earlier m) (numbered earlier n) ≡ Some c → Outcome (m ∷ n ∷ []) (of_two (from_two g) (numbered others (f m)) (numbered others (f n))) c
  from_parents g m n c e = two_of (from_two g) (numbered earlier m) (numbered earlier n) c (Outcome (m ∷ n ∷ []) (of_two (from_two g) (numbered others (f m)) (numbered others (f n))) c) (λ x y a b k. made_two g m n x y c a b k) e

  -- ---- splits

  made_assumption : (side : ℕ) (negated : Option ℕ) (m : ℕ) (x c : Statement) → numbered earlier m ≡ Some x → assumption_of m side negated x ≡ Some c → Outcome (m ∷ []) (of_one (assumption_of (f m) side negated) (numbered others (f m))) c
  made_assumption side negated m x c a e = mapped (λ d. states d (side_of m side ∷ [])) (option_and_then (assumed side negated) (split_parts x.clause)) c (Outcome (m ∷ []) (of_one (assumption_of (f m) side negated) (numbered others (f m))) c) (λ d h k. record {
    there = each There m [] (x, a) (none There);
    over = λ fit. subst (λ z. AreOver P z.deps) k ((fit m x (is_first m []) a).0, tt);
    moved = λ fit moved. ap (of_one (assumption_of (f m) side negated)) (moved m x (is_first m []) a) ∙ ap (option_map (λ d. states d (side_of (f m) side ∷ []))) h ∙ ap (λ z. Some (renumbered_statement f z)) k;
  }) e

  from_split : (side : ℕ) (negated : Option ℕ) (m : ℕ) (c : Statement) → of_one (assumption_of m side negated) (numbered earlier m) ≡ Some c → Outcome (m ∷ []) (of_one (assumption_of (f m) side negated) (numbered others (f m))) c
  from_split side negated m c e = one_of (assumption_of m side negated) (numbered earlier m) c (Outcome (m ∷ []) (of_one (assumption_of (f m) side negated) (numbered others (f m))) c) (λ x a k. made_assumption side negated m x c a k) e

  closes_renumbered : (m side : ℕ) (y : Statement) → P m → AreOver P y.deps → closes (side_of (f m) side) (renumbered_statement f y) ≡ closes (side_of m side) y
  closes_renumbered m side y p q = ap (λ t. is_empty y.clause && t) (renumbered_contains P f keeps (side_of m side) y.deps p q)

  -- the other assumptions of what closes a side
  abbrev left_over : ℕ → ℕ → Statement → List Assumption
  left_over m side y = without_assumption (side_of m side) y.deps

  -- what a case rule concludes where one side is closed
  abbrev by_side : ℕ → (Parted → Clause) → ℕ → Statement → Statement → Option Statement
  by_side side part m x y = cond (closes (side_of m side) y) (option_map (λ parts. states (part parts) (united (left_over m side y) x.deps)) (parts_of x.clause)) None

  made_case : (side : ℕ) (part : Parted → Clause) (m n : ℕ) (x y c : Statement) → numbered earlier m ≡ Some x → numbered earlier n ≡ Some y → by_side side part m x y ≡ Some c → Outcome (m ∷ n ∷ []) (of_two (by_side side part (f m)) (numbered others (f m)) (numbered others (f n))) c
  made_case side part m n x y c a b e =
      chosen (closes (side_of m side) y) (option_map (λ parts. states (part parts) (united (left_over m side y) x.deps)) (parts_of x.clause)) c (Outcome (m ∷ n ∷ []) (of_two (by_side side part (f m)) (numbered others (f m)) (numbered others (f n))) c) (λ t u.
      mapped (λ parts. states (part parts) (united (left_over m side y) x.deps)) (parts_of x.clause) c (Outcome (m ∷ n ∷ []) (of_two (by_side side part (f m)) (numbered others (f m)) (numbered others (f n))) c) (λ d h k. record {
        there = each There m (n ∷ []) (x, a) (each There n [] (y, b) (none There));
        over = λ fit.
            let p = fit m x (is_first m (n ∷ [])) a in
            let q = fit n y (is_later m n (n ∷ []) (is_first n [])) b in
            subst (λ z. AreOver P z.deps) k (over_united P (left_over m side y) x.deps (over_without P (side_of m side) y.deps q.1) p.1);
        moved = λ fit moved.
            let p = fit m x (is_first m (n ∷ [])) a in
            let q = fit n y (is_later m n (n ∷ []) (is_first n [])) b in
            let v = over_without P (side_of m side) y.deps q.1 in
            let deps = sym (renumbered_united P f keeps (left_over m side y) x.deps v p.1 ∙ ap (λ z. united z (renumbered_deps f x.deps)) (renumbered_without P f keeps (side_of m side) y.deps p.0 q.1)) in
            ap (λ o. of_two (by_side side part (f m)) o (numbered others (f n))) (moved m x (is_first m (n ∷ [])) a)
            ∙ ap (of_two (by_side side part (f m)) (Some (renumbered_statement f x))) (moved n y (is_later m n (n ∷ []) (is_first n [])) b)
            ∙ ap (λ s. cond s (option_map (λ parts. states (part parts) (united (left_over (f m) side (renumbered_statement f y)) (renumbered_deps f x.deps))) (parts_of x.clause)) None) (closes_renumbered m side y p.0 q.1 ∙ t)
            ∙ ap (option_map (λ parts. states (part parts) (united (left_over (f m) side (renumbered_statement f y)) (renumbered_deps f x.deps)))) h
            ∙ ap (λ z. Some (states (part d) z)) deps
            ∙ ap (λ z. Some (renumbered_statement f z)) k;
      }) u) e

  from_case : (side : ℕ) (part : Parted → Clause) (m n : ℕ) (c : Statement) → of_two (by_side side part m) (numbered earlier m) (numbered earlier n) ≡ Some c → Outcome (m ∷ n ∷ []) (of_two (by_side side part (f m)) (numbered others (f m)) (numbered others (f n))) c
  from_case side part m n c e = two_of (by_side side part m) (numbered earlier m) (numbered earlier n) c (Outcome (m ∷ n ∷ []) (of_two (by_side side part (f m)) (numbered others (f m)) (numbered others (f n))) c) (λ x y a b k. made_case side part m n x y c a b k) e

  left_by_parts : (m : ℕ) (a b : Option Statement) → of_two (side_closed m 1) a b ≡ of_two (by_side 1 (λ parts. parts.right) m) a b
  left_by_parts m a b = λ i. of_two (λ x y. left_closed m x y i) a b

  right_by_parts : (m : ℕ) (a b : Option Statement) → of_two (side_closed m 2) a b ≡ of_two (by_side 2 (λ parts. parts.left) m) a b
  right_by_parts m a b = λ i. of_two (λ x y. right_closed m x y i) a b

  abbrev empty_clause : Clause
  empty_clause = record { constraint = []; antecedent = []; succedent = [] }

  both_parts : (s t : Bool) → (s && t) ≡ true → (s ≡ true) × (t ≡ true)
  both_parts true t e = (refl, e)
  both_parts false t e = absurd (cc)

  made_both : (m n o : ℕ) (x y z c : Statement) → numbered earlier m ≡ Some x → numbered earlier n ≡ Some y → numbered earlier o ≡ Some z → both_closed m x y z ≡ Some c → Outcome (m ∷ n ∷ o ∷ []) (of_three (both_closed (f m)) (numbered others (f m)) (numbered others (f n)) (numbered others (f o))) c
  made_both m n o x y z c a b g e =
      chosen (closes (side_of m 1) y && closes (side_of m 2) z) (Some (states empty_clause (united (united (left_over m 1 y) (left_over m 2 z)) x.deps))) c (Outcome (m ∷ n ∷ o ∷ []) (of_three (both_closed (f m)) (numbered others (f m)) (numbered others (f n)) (numbered others (f o))) c) (λ t u.
      let k = same_Some (states empty_clause (united (united (left_over m 1 y) (left_over m 2 z)) x.deps)) c u in
      let first = is_first m (n ∷ o ∷ []) in
      let second = is_later m n (n ∷ o ∷ []) (is_first n (o ∷ [])) in
      let third = is_later m o (n ∷ o ∷ []) (is_later n o (o ∷ []) (is_first o [])) in
      record {
        there = each There m (n ∷ o ∷ []) (x, a) (each There n (o ∷ []) (y, b) (each There o [] (z, g) (none There)));
        over = λ fit.
            subst (λ s. AreOver P s.deps) k (over_united P (united (left_over m 1 y) (left_over m 2 z)) x.deps
            (over_united P (left_over m 1 y) (left_over m 2 z) (over_without P (side_of m 1) y.deps (fit n y second b).1) (over_without P (side_of m 2) z.deps (fit o z third g).1)) (fit m x first a).1);
        moved = λ fit moved.
            let p = fit m x first a in
            let q = fit n y second b in
            let r = fit o z third g in
            let v = over_without P (side_of m 1) y.deps q.1 in
            let w = over_without P (side_of m 2) z.deps r.1 in
            let closed = both_parts (closes (side_of m 1) y) (closes (side_of m 2) z) t in
            let left = renumbered_without P f keeps (side_of m 1) y.deps p.0 q.1 in
            let right = renumbered_without P f keeps (side_of m 2) z.deps p.0 r.1 in
            let deps : renumbered_deps f (united (united (left_over m 1 y) (left_over m 2 z)) x.deps) ≡ united (united (left_over (f m) 1 (renumbered_statement f y)) (left_over (f m) 2 (renumbered_statement f z))) (renumbered_deps f x.deps) =
            renumbered_united P f keeps (united (left_over m 1 y) (left_over m 2 z)) x.deps (over_united P (left_over m 1 y) (left_over m 2 z) v w) p.1
            ∙ ap (λ i. united i (renumbered_deps f x.deps)) (renumbered_united P f keeps (left_over m 1 y) (left_over m 2 z) v w ∙ ap (λ i. united i (renumbered_deps f (left_over m 2 z))) left ∙ ap (united (left_over (f m) 1 (renumbered_statement f y))) right) in
            ap (λ i. of_three (both_closed (f m)) i (numbered others (f n)) (numbered others (f o))) (moved m x first a)
            ∙ ap (λ i. of_three (both_closed (f m)) (Some (renumbered_statement f x)) i (numbered others (f o))) (moved n y second b)
            ∙ ap (of_three (both_closed (f m)) (Some (renumbered_statement f x)) (Some (renumbered_statement f y))) (moved o z third g)
            ∙ ap (λ s. cond (s && closes (side_of (f m) 2) (renumbered_statement f z)) (Some (states empty_clause (united (united (left_over (f m) 1 (renumbered_statement f y)) (left_over (f m) 2 (renumbered_statement f z))) (renumbered_deps f x.deps)))) None) (closes_renumbered m 1 y p.0 q.1 ∙ closed.0)
            ∙ ap (λ s. cond s (Some (states empty_clause (united (united (left_over (f m) 1 (renumbered_statement f y)) (left_over (f m) 2 (renumbered_statement f z))) (renumbered_deps f x.deps)))) None) (closes_renumbered m 2 z p.0 r.1 ∙ closed.1)
            ∙ ap (λ i. Some (states empty_clause i)) (sym deps)
            ∙ ap (λ i. Some (renumbered_statement f i)) k;
      }) e

  -- ---- all rules

  pub outcome : (input : List Clause) (rule : Rule) (parents : List ℕ) (c : Statement) → concluded input earlier rule parents ≡ Some c → Outcome parents (concluded input others rule (map f parents)) c
  outcome input (Input n) [] c e = from_input (numbered input n) c e
  outcome input (Input n) (m ∷ ms) c e = absurd (cc)
  outcome input (Resolve i part j s t) [] c e = absurd (cc)
  outcome input (Resolve i part j s t) (m ∷ []) c e = absurd (cc)
  outcome input (Resolve i part j s t) (m ∷ n ∷ []) c e = from_parents (resolution i part j s.terms t.terms) m n c e
  outcome input (Resolve i part j s t) (m ∷ n ∷ o ∷ ms) c e = absurd (cc)
  outcome input (Factor s) [] c e = absurd (cc)
  outcome input (Factor s) (m ∷ []) c e = from_parent (factored s.terms) m c e
  outcome input (Factor s) (m ∷ n ∷ ms) c e = absurd (cc)
  outcome input (Paramodulate i right spot s t) [] c e = absurd (cc)
  outcome input (Paramodulate i right spot s t) (m ∷ []) c e = absurd (cc)
  outcome input (Paramodulate i right spot s t) (m ∷ n ∷ []) c e = from_parents (paramodulation i right spot s.terms t.terms) m n c e
  outcome input (Paramodulate i right spot s t) (m ∷ n ∷ o ∷ ms) c e = absurd (cc)
  outcome input (Reflex j s) [] c e = absurd (cc)
  outcome input (Reflex j s) (m ∷ []) c e = from_parent (reflection j s.terms) m c e
  outcome input (Reflex j s) (m ∷ n ∷ ms) c e = absurd (cc)
  outcome input (EqFactor i i_right j j_right s) [] c e = absurd (cc)
  outcome input (EqFactor i i_right j j_right s) (m ∷ []) c e = from_parent (equality_factoring i i_right j j_right s.terms) m c e
  outcome input (EqFactor i i_right j j_right s) (m ∷ n ∷ ms) c e = absurd (cc)
  outcome input (Assume side negated) [] c e = absurd (cc)
  outcome input (Assume side negated) (m ∷ []) c e = from_split side negated m c e
  outcome input (Assume side negated) (m ∷ n ∷ ms) c e = absurd (cc)
  outcome input CaseLeft [] c e = absurd (cc)
  outcome input CaseLeft (m ∷ []) c e = absurd (cc)
  outcome input CaseLeft (m ∷ n ∷ []) c e =
      subst (λ o. Outcome (m ∷ n ∷ []) o c) (sym (left_by_parts (f m) (numbered others (f m)) (numbered others (f n))))
      (from_case 1 (λ parts. parts.right) m n c (sym (left_by_parts m (numbered earlier m) (numbered earlier n)) ∙ e))
  outcome input CaseLeft (m ∷ n ∷ o ∷ ms) c e = absurd (cc)
  outcome input CaseRight [] c e = absurd (cc)
  outcome input CaseRight (m ∷ []) c e = absurd (cc)
  outcome input CaseRight (m ∷ n ∷ []) c e =
      subst (λ o. Outcome (m ∷ n ∷ []) o c) (sym (right_by_parts (f m) (numbered others (f m)) (numbered others (f n))))
      (from_case 2 (λ parts. parts.left) m n c (sym (right_by_parts m (numbered earlier m) (numbered earlier n)) ∙ e))
  outcome input CaseRight (m ∷ n ∷ o ∷ ms) c e = absurd (cc)
  outcome input CaseBoth [] c e = absurd (cc)
  outcome input CaseBoth (m ∷ []) c e = absurd (cc)
  outcome input CaseBoth (m ∷ n ∷ []) c e = absurd (cc)
  outcome input CaseBoth (m ∷ n ∷ o ∷ []) c e = three_of (both_closed m) (numbered earlier m) (numbered earlier n) (numbered earlier o) c (Outcome (m ∷ n ∷ o ∷ []) (of_three (both_closed (f m)) (numbered others (f m)) (numbered others (f n)) (numbered others (f o))) c) (λ x y z a b g k. made_both m n o x y z c a b g k) e
  outcome input CaseBoth (m ∷ n ∷ o ∷ p ∷ ms) c e = absurd (cc)
