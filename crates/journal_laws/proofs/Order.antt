-- What a step concludes is in order.
use Rattle.std.proofs.Common.{◌≡◌, ℕ, zero, suc, take, ◌==◌, ◌&&◌, Bool, true, false, if◌then◌else◌, not, List, map, ◌++◌, [], ◌∷◌, Option, Some, None, option_map, refl, sym, ap, ◌∙◌, subst}
use Rattle.std.specs.Prelude.{option_and_then}
use Rattle.spl_terms.specs.declared.term.Term.{Term}
use Rattle.std.specs.List.{slice_get}
use Rattle.spl_terms.specs.declared.atom.Atom.TheVariants.{Equal}
use Rattle.spl_terms.specs.declared.clause.Part.TheVariants.{Antecedent, Succedent}
use Rattle.spl_terms.specs.declared.clause.Clause.{Clause}
use Rattle.spl_terms.specs.Clauses.{in_order, renumbered}
use Rattle.spl_terms.specs.Terms.{term_eq}
use Rattle.spl_truth.specs.Truth.{apply}
use Rattle.spl_truth.specs.Redundancy.{has_equal_sides}
use Rattle.proof_steps.specs.Spots.{atom_at, term_under, with_term_at}
use Rattle.proof_steps.specs.declared.step.Rule.{Rule}
use Rattle.proof_steps.specs.declared.step.Rule.TheVariants.{Input, Resolve, Factor, Paramodulate, Reflex, EqFactor, Assume, CaseLeft, CaseRight, CaseBoth}
use Rattle.proof_steps.specs.declared.step.Statement.{Statement}
use Rattle.proof_steps.specs.declared.step.Step.{Step}
use Rattle.proof_steps.specs.declared.step.Line.{Line}
use Rattle.proof_steps.specs.Checked.{AreConclusions, stated}
use Rattle.clause_parts.specs.Parts.{Parted, parts_of, part_by, parted_by, left_marks, negation, negated_atom}
use Rattle.spl_terms.specs.Lists.{numbered}
use Rattle.proof_steps.specs.Steps.{when, has_entries, without, joined, may_resolve, resolvent, resolved, paramodulated, sides_of, reflexed, equality_factored, conclude, concluded, of_one, of_two, of_three, resolution, factored, paramodulation, rewritten, reflection, equality_factoring, factored_sides, assumption_of, side_closed, both_closed}
use Rattle.proof_steps.specs.SplitLaws.{assumed_of_two, assumption_of-two, left_closed, right_closed}

abbrev pub IsInOrder : Clause → Type 0
IsInOrder c = (x : Clause) × (c ≡ in_order x)

-- ---- what an option comes from

some_when : {A : Type 0} (b : Bool) (x c : A) → when b x ≡ Some c → x ≡ c
some_when true x c e = let same : x ≡ c = cc in same
some_when false x c e = absurd (cc)

some_if : {A : Type 0} (b : Bool) (o : Option A) (c : A) → (if b then o else None) ≡ Some c → o ≡ Some c
some_if true o c e = e
some_if false o c e = absurd (cc)

some_unless : {A : Type 0} (b : Bool) (o : Option A) (c : A) → (if b then None else o) ≡ Some c → o ≡ Some c
some_unless true o c e = absurd (cc)
some_unless false o c e = e

some_map : {A B : Type 0} (f : A → B) (o : Option A) (c : B) → option_map f o ≡ Some c → (a : A) × (o ≡ Some a) × (f a ≡ c)
some_map f None c e = absurd (cc)
some_map f (Some a) c e = let same : f a ≡ c = cc in (a, refl, same)

some_then : {A B : Type 0} (f : A → Option B) (o : Option A) (c : B) → option_and_then f o ≡ Some c → (a : A) × (f a ≡ Some c)
some_then f None c e = absurd (cc)
some_then f (Some a) c e = (a, e)

some_of_one : {A B : Type 0} (f : A → Option B) (o : Option A) (c : B) → of_one f o ≡ Some c → (a : A) × (f a ≡ Some c)
some_of_one f None c e = absurd (cc)
some_of_one f (Some a) c e = (a, e)

some_of_two : {A B C : Type 0} (f : A → B → Option C) (o : Option A) (r : Option B) (c : C) → of_two f o r ≡ Some c → (a : A) × (b : B) × (f a b ≡ Some c)
some_of_two f None r c e = absurd (cc)
some_of_two f (Some a) None c e = absurd (cc)
some_of_two f (Some a) (Some b) c e = (a, b, e)

some_of_three : {A B C D : Type 0} (f : A → B → C → Option D) (o : Option A) (q : Option B) (r : Option C) (d : D) → of_three f o q r ≡ Some d → (a : A) × (b : B) × (c : C) × (f a b c ≡ Some d)
some_of_three f None q r d e = absurd (cc)
some_of_three f (Some a) q r d e = let t = some_of_two (f a) q r d e in (a, t.0, t.1, t.2)

ordered_when : (b : Bool) (x c : Clause) → when b (in_order x) ≡ Some c → IsInOrder c
ordered_when b x c e = (x, sym (some_when b (in_order x) c e))

-- ---- the rules

by_resolution : (i : ℕ) (part : _) (j : ℕ) (s t : List Term) (p q c : Clause) → resolution i part j s t p q ≡ Some c → IsInOrder c
by_resolution i part j s t p q c e = ordered_when (may_resolve i part j (apply s p) (apply t q)) (resolvent i part j (apply s p) (apply t q)) c (some_if (has_entries s p && has_entries t q) (resolved i part j (apply s p) (apply t q)) c e)

by_factor : (s : List Term) (p c : Clause) → factored s p ≡ Some c → IsInOrder c
by_factor s p c e = let h : Some (in_order (apply s p)) ≡ Some c = some_if (has_entries s p) (Some (in_order (apply s p))) c e in let same : in_order (apply s p) ≡ c = cc in (apply s p, sym same)

by_rewriting : (i : ℕ) (spot : _) (p q c : Clause) (sides : Term × Term) → rewritten i spot p q sides ≡ Some c → IsInOrder c
by_rewriting i spot p q c (l, r) e =
    let h = some_then (λ u. when (term_eq u l) (in_order (joined (without Succedent i p) (with_term_at spot r q)))) (option_and_then (term_under spot.path) (atom_at spot.part spot.place q)) c e in
    ordered_when (term_eq h.0 l) (joined (without Succedent i p) (with_term_at spot r q)) c h.1

by_paramodulation : (i : ℕ) (right : Bool) (spot : _) (s t : List Term) (p q c : Clause) → paramodulation i right spot s t p q ≡ Some c → IsInOrder c
by_paramodulation i right spot s t p q c e =
    let h = some_then (rewritten i spot (apply s p) (apply t q)) (option_and_then (sides_of right) (slice_get (apply s p).succedent i)) c (some_if (has_entries s p && has_entries t q) (paramodulated i right spot (apply s p) (apply t q)) c e) in
    by_rewriting i spot (apply s p) (apply t q) c h.0 h.1

by_reflection : (j : ℕ) (s : List Term) (p c : Clause) → reflection j s p ≡ Some c → IsInOrder c
by_reflection j s p c e =
    let h = some_then (λ a. when (has_equal_sides a) (in_order (without Antecedent j (apply s p)))) (slice_get (apply s p).antecedent j) c (some_if (has_entries s p) (reflexed j (apply s p)) c e) in
    ordered_when (has_equal_sides h.0) (without Antecedent j (apply s p)) c h.1

by_sides : (i : ℕ) (p c : Clause) (a b : Term × Term) → factored_sides i p a b ≡ Some c → IsInOrder c
by_sides i p c (u, v) (x, w) e = ordered_when (term_eq u x) (let d = without Succedent i p in record d { antecedent = d.antecedent ++ Equal v w ∷ [] }) c e

by_equality_factoring : (i : ℕ) (i_right : Bool) (j : ℕ) (j_right : Bool) (s : List Term) (p c : Clause) → equality_factoring i i_right j j_right s p ≡ Some c → IsInOrder c
by_equality_factoring i i_right j j_right s p c e =
    let x = apply s p in
    let h = some_then (λ first. option_and_then (factored_sides i x first) (option_and_then (sides_of j_right) (slice_get x.succedent j))) (option_and_then (sides_of i_right) (slice_get x.succedent i)) c (some_unless (i == j) _ c (some_if (has_entries s p) (equality_factored i i_right j j_right x) c e)) in
    let k = some_then (factored_sides i x h.0) (option_and_then (sides_of j_right) (slice_get x.succedent j)) c h.1 in
    by_sides i (apply s p) c h.0 k.0 k.1

parts_ordered : (c : Clause) (parts : Parted) → parts_of c ≡ Some parts → IsInOrder parts.left × IsInOrder parts.right
parts_ordered c parts e =
    let h = some_map (parted_by c) (left_marks c) parts e in
    ((part_by c h.0, ap (λ (p : Parted). p.left) (sym h.2)), (part_by c (map not h.0), ap (λ (p : Parted). p.right) (sym h.2)))

by_negation : (k : ℕ) (l c : Clause) → negated_atom k l ≡ Some c → IsInOrder c
by_negation k l c e = let h = some_map in_order (negation k l) c e in (h.0, sym h.2)

side_one_or_two : (a b : Bool) (l r c : Clause) → (if a then Some l else (if b then Some r else None)) ≡ Some c → IsInOrder l → IsInOrder r → IsInOrder c
side_one_or_two true b l r c e hl hr = let same : l ≡ c = cc in subst IsInOrder same hl
side_one_or_two false true l r c e hl hr = let same : r ≡ c = cc in subst IsInOrder same hr
side_one_or_two false false l r c e hl hr = absurd (cc)

by_assumption : (side : ℕ) (negated : Option ℕ) (d c : Clause) (parts : Parted) → parts_of d ≡ Some parts → assumed_of_two side negated parts ≡ Some c → IsInOrder c
by_assumption side None d c parts is e = let h = parts_ordered d parts is in side_one_or_two (side == 1) (side == 2) parts.left parts.right c e h.0 h.1
by_assumption side (Some k) d c parts is e = by_negation k parts.left c (some_if _ _ c e)

assumed_from : (side : ℕ) (negated : Option ℕ) (d c : Clause) (o : Option Parted) → parts_of d ≡ o → option_and_then (assumed_of_two side negated) o ≡ Some c → IsInOrder c
assumed_from side negated d c None is e = absurd (cc)
assumed_from side negated d c (Some parts) is e = by_assumption side negated d c parts is e

ordered_by : (input : List Clause) (earlier : List Statement) (rule : Rule) (parents : List ℕ) (s : Statement) → concluded input earlier rule parents ≡ Some s → IsInOrder s.clause
ordered_by input earlier (Input number) [] s e = let h = some_map _ (numbered input number) s e in (h.0, ap (λ (t : Statement). t.clause) (sym h.2))
ordered_by input earlier (Resolve i part j a b) (m ∷ n ∷ []) s e =
    let p = some_of_two _ (numbered earlier m) (numbered earlier n) s e in
    let c = some_map _ (resolution i part j a.terms b.terms p.0.clause p.1.clause) s p.2 in
    subst IsInOrder (ap (λ (t : Statement). t.clause) c.2) (by_resolution i part j a.terms b.terms p.0.clause p.1.clause c.0 c.1)
ordered_by input earlier (Factor a) (m ∷ []) s e =
    let p = some_of_one _ (numbered earlier m) s e in
    let c = some_map _ (factored a.terms p.0.clause) s p.1 in
    subst IsInOrder (ap (λ (t : Statement). t.clause) c.2) (by_factor a.terms p.0.clause c.0 c.1)
ordered_by input earlier (Paramodulate i right spot a b) (m ∷ n ∷ []) s e =
    let p = some_of_two _ (numbered earlier m) (numbered earlier n) s e in
    let c = some_map _ (paramodulation i right spot a.terms b.terms p.0.clause p.1.clause) s p.2 in
    subst IsInOrder (ap (λ (t : Statement). t.clause) c.2) (by_paramodulation i right spot a.terms b.terms p.0.clause p.1.clause c.0 c.1)
ordered_by input earlier (Reflex j a) (m ∷ []) s e =
    let p = some_of_one _ (numbered earlier m) s e in
    let c = some_map _ (reflection j a.terms p.0.clause) s p.1 in
    subst IsInOrder (ap (λ (t : Statement). t.clause) c.2) (by_reflection j a.terms p.0.clause c.0 c.1)
ordered_by input earlier (EqFactor i i_right j j_right a) (m ∷ []) s e =
    let p = some_of_one _ (numbered earlier m) s e in
    let c = some_map _ (equality_factoring i i_right j j_right a.terms p.0.clause) s p.1 in
    subst IsInOrder (ap (λ (t : Statement). t.clause) c.2) (by_equality_factoring i i_right j j_right a.terms p.0.clause c.0 c.1)
ordered_by input earlier (Assume side negated) (m ∷ []) s e =
    let p = some_of_one (assumption_of m side negated) (numbered earlier m) s e in
    let c = some_map _ (option_and_then (assumed_of_two side negated) (parts_of p.0.clause)) s (sym (assumption_of-two m side negated p.0) ∙ p.1) in
    subst IsInOrder (ap (λ (t : Statement). t.clause) c.2) (assumed_from side negated p.0.clause c.0 (parts_of p.0.clause) refl c.1)
ordered_by input earlier CaseLeft (m ∷ n ∷ []) s e =
    let p = some_of_two (side_closed m 1) (numbered earlier m) (numbered earlier n) s e in
    let c = some_map _ (parts_of p.0.clause) s (some_if _ _ s (sym (left_closed m p.0 p.1) ∙ p.2)) in
    subst IsInOrder (ap (λ (t : Statement). t.clause) c.2) (parts_ordered p.0.clause c.0 c.1).1
ordered_by input earlier CaseRight (m ∷ n ∷ []) s e =
    let p = some_of_two (side_closed m 2) (numbered earlier m) (numbered earlier n) s e in
    let c = some_map _ (parts_of p.0.clause) s (some_if _ _ s (sym (right_closed m p.0 p.1) ∙ p.2)) in
    subst IsInOrder (ap (λ (t : Statement). t.clause) c.2) (parts_ordered p.0.clause c.0 c.1).0
ordered_by input earlier CaseBoth (m ∷ n ∷ o ∷ []) s e =
    let p = some_of_three (both_closed m) (numbered earlier m) (numbered earlier n) (numbered earlier o) s e in
    (record { constraint = []; antecedent = []; succedent = [] }, ap (λ (t : Statement). t.clause) (sym (some_when _ _ s p.3)))
ordered_by input earlier _ _ s e = absurd (cc)

pub conclude_in_order : (input : List Clause) (earlier : List Statement) (step : Step) (s : Statement) → conclude input earlier step ≡ Some s → IsInOrder s.clause
conclude_in_order input earlier step s e = ordered_by input earlier step.rule step.parents s e

-- a clause in order is its own renumbering
pub own_renumbering : ((c : Clause) → renumbered (in_order c) ≡ in_order c) → (c : Clause) → IsInOrder c → renumbered c ≡ c
own_renumbering stays c h = ap renumbered h.1 ∙ stays h.0 ∙ sym h.1

-- ---- what the laws of a table say of its journal

-- each line's clause is its own renumbering
abbrev pub AreOrdered : List Line → Type 0
AreOrdered lines = (n : ℕ) (l : Line) → numbered lines n ≡ Some l → renumbered l.stated.clause ≡ l.stated.clause

pub stated_ordered : ((c : Clause) → renumbered (in_order c) ≡ in_order c) → (input : List Clause) (lines : List Line) → AreConclusions input lines → AreOrdered lines
stated_ordered stays input lines h zero l e = absurd (cc)
stated_ordered stays input lines h (suc k) l e = own_renumbering stays l.stated.clause (conclude_in_order input (stated (take k lines)) l.step l.stated (h k l e).0)
