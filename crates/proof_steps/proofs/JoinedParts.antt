-- The resolvent of two clauses under substitutions, part by part.
use Rattle.std.proofs.Common.{◌≡◌, ℕ, ◌<◌, Bool, true, false, ◌&&◌, if◌then◌else◌, List, [], ◌++◌, length, map, fold, Option, Some, None, option_map, sum_by, refl, sym, ap, subst, ◌∙◌, arith}
use Rattle.std.specs.Prelude.{slice_get, remove}
use Rattle.std.proofs.lemmas.Bool.{and_parts}
use Rattle.std.proofs.lemmas.List.{map-append, append_assoc, length-map}
use Rattle.std.proofs.lemmas.List.Sums.{fold-append}
use Rattle.std.proofs.lemmas.Option.{slice_get-map}
use Rattle.spl_terms.specs.declared.term.Term.{Term}
use Rattle.spl_terms.specs.declared.atom.Atom.{Atom}
use Rattle.spl_terms.specs.declared.clause.Part.{Part}
use Rattle.spl_terms.specs.declared.clause.Part.TheVariants.{Constraint, Antecedent, Succedent}
use Rattle.spl_terms.specs.declared.clause.Clause.{Clause}
use Rattle.spl_terms.specs.Clauses.{atom_symbols, added, distinct, part_of, replace_in_atom, in_order}
use Rattle.spl_truth.specs.Truth.{entry, apply}
use Rattle.spl_truth.specs.TruthLaws.{map-remove}
use Rattle.dep_sets.specs.Assumptions.{united}
use Rattle.proof_steps.specs.declared.step.Statement.{Statement}
use Rattle.proof_steps.specs.Steps.{when, without, has_entries, is_negative, both_same, may_resolve, resolvent, resolution, from_two, states}
use Rattle.proof_steps.specs.StepLaws.{may_resolve-below}
use Rattle.proof_steps.proofs.Distinct.{fold-grows}

-- ---- three lists

module _ (a b c : List Atom) where
  pub kept_three : fold added (fold added (fold added [] a) b) c ≡ distinct (a ++ b ++ c)
  kept_three = ap (λ xs. fold added xs c) (sym (fold-append added [] a b)) ∙ sym (fold-append added [] (a ++ b) c)

  pub large_third : 4096 < sum_by atom_symbols (fold added (fold added (fold added [] a) b) c) → 4096 < sum_by atom_symbols (distinct (a ++ b ++ c))
  large_third h = subst (λ xs. 4096 < sum_by atom_symbols xs) kept_three h

  pub large_second : 4096 < sum_by atom_symbols (fold added (fold added [] a) b) → 4096 < sum_by atom_symbols (distinct (a ++ b ++ c))
  large_second h = large_third (omega (arith, h, fold-grows c (fold added (fold added [] a) b)))

  pub large_first : 4096 < sum_by atom_symbols (fold added [] a) → 4096 < sum_by atom_symbols (distinct (a ++ b ++ c))
  large_first h = large_second (omega (arith, h, fold-grows b (fold added [] a)))

-- ---- parts of an instance

abbrev pub at_entries : List Term → List Atom → List Atom
at_entries s = map (replace_in_atom (entry s))

pub part_of-apply : (s : List Term) (c : Clause) (part : Part) → part_of (apply s c) part ≡ at_entries s (part_of c part)
part_of-apply s c Constraint = refl
part_of-apply s c Antecedent = refl
part_of-apply s c Succedent = refl

pub instances_resolve : (i : ℕ) (part : Part) (j : ℕ) (s t : List Term) (p q : Clause) → may_resolve i part j (apply s p) (apply t q) ≡ (is_negative part && both_same (option_map (replace_in_atom (entry s)) (slice_get p.succedent i)) (option_map (replace_in_atom (entry t)) (slice_get (part_of q part) j)))
instances_resolve i part j s t p q =
    let right : slice_get (part_of (apply t q) part) j ≡ option_map (replace_in_atom (entry t)) (slice_get (part_of q part) j) = ap (λ xs. slice_get xs j) (part_of-apply t q part) ∙ slice_get-map (replace_in_atom (entry t)) (part_of q part) j in
    λ k. is_negative part && both_same (slice_get-map (replace_in_atom (entry s)) p.succedent i k) (right k)

-- where the literals may be resolved, they are there
pub literals_there : (i : ℕ) (part : Part) (j : ℕ) (s t : List Term) (p q : Clause) → may_resolve i part j (apply s p) (apply t q) ≡ true → (i < length p.succedent) × (j < length (part_of q part)) × (is_negative part ≡ true)
literals_there i part j s t p q e =
    let h = may_resolve-below i part j (apply s p) (apply t q) e in
    let left = length-map p.succedent (replace_in_atom (entry s)) in
    let right = ap length (part_of-apply t q part) ∙ length-map (part_of q part) (replace_in_atom (entry t)) in
    (omega (arith, h.0, left), omega (arith, h.1, right), (and_parts _ _ e).0)

-- ---- the resolvent

-- an atom is dropped from a part alone
without-apply : (t : List Term) (q : Clause) (part : Part) (j : ℕ) (of : Part) → part_of (without part j (apply t q)) of ≡ at_entries t (part_of (without part j q) of)
without-apply t q Constraint j Constraint = sym (map-remove (entry t) q.constraint j)
without-apply t q Constraint j Antecedent = refl
without-apply t q Constraint j Succedent = refl
without-apply t q Antecedent j Constraint = refl
without-apply t q Antecedent j Antecedent = sym (map-remove (entry t) q.antecedent j)
without-apply t q Antecedent j Succedent = refl
without-apply t q Succedent j Constraint = refl
without-apply t q Succedent j Antecedent = refl
without-apply t q Succedent j Succedent = sym (map-remove (entry t) q.succedent j)

same_succedent : (t : List Term) (q : Clause) (part : Part) (j : ℕ) → is_negative part ≡ true → (without part j (apply t q)).succedent ≡ at_entries t q.succedent
same_succedent t q Constraint j e = refl
same_succedent t q Antecedent j e = refl
same_succedent t q Succedent j e = absurd (cc)

module _ (i : ℕ) (part : Part) (j : ℕ) (s t : List Term) (p q : Clause) where
  abbrev made : Clause
  made = resolvent i part j (apply s p) (apply t q)

  joined_two : (mine before behind : List Atom) (of : Part) → before ++ behind ≡ part_of (without part j q) of → at_entries s mine ++ part_of (without part j (apply t q)) of ≡ at_entries s mine ++ at_entries t before ++ at_entries t behind
  joined_two mine before behind of e =
      ap (λ xs. at_entries s mine ++ xs) (without-apply t q part j of ∙ ap (at_entries t) (sym e) ∙ map-append (replace_in_atom (entry t)) before behind)
      ∙ sym (append_assoc (at_entries s mine) (at_entries t before) (at_entries t behind))

  pub constraint_is : (before behind : List Atom) → before ++ behind ≡ part_of (without part j q) Constraint → made.constraint ≡ at_entries s p.constraint ++ at_entries t before ++ at_entries t behind
  constraint_is before behind e = joined_two p.constraint before behind Constraint e

  pub antecedent_is : (before behind : List Atom) → before ++ behind ≡ part_of (without part j q) Antecedent → made.antecedent ≡ at_entries s p.antecedent ++ at_entries t before ++ at_entries t behind
  antecedent_is before behind e = joined_two p.antecedent before behind Antecedent e

  pub succedent_is : (before behind : List Atom) → before ++ behind ≡ remove p.succedent i → is_negative part ≡ true → made.succedent ≡ at_entries s before ++ at_entries s behind ++ at_entries t q.succedent
  succedent_is before behind e negative =
      λ k. (sym (map-remove (entry s) p.succedent i) ∙ ap (at_entries s) (sym e) ∙ map-append (replace_in_atom (entry s)) before behind) k ++ same_succedent t q part j negative k

-- ---- what resolution states

module _ (i : ℕ) (part : Part) (j : ℕ) (s t : List Term) (p q : Statement) where
  abbrev concluded : Bool → Bool → Option Statement
  concluded fit may = option_map (λ c. states c (united p.deps q.deps)) (if fit then when may (in_order (resolvent i part j (apply s p.clause) (apply t q.clause))) else None)

  pub resolution_made : (has_entries s p.clause && has_entries t q.clause) ≡ true → may_resolve i part j (apply s p.clause) (apply t q.clause) ≡ true → Some (states (in_order (resolvent i part j (apply s p.clause) (apply t q.clause))) (united p.deps q.deps)) ≡ from_two (resolution i part j s t) p q
  resolution_made fit may = λ k. concluded (sym fit k) (sym may k)

  pub resolution_none : (has_entries s p.clause && has_entries t q.clause) ≡ true → may_resolve i part j (apply s p.clause) (apply t q.clause) ≡ false → None ≡ from_two (resolution i part j s t) p q
  resolution_none fit may = λ k. concluded (sym fit k) (sym may k)
