-- Laws with their proofs, not definitions that a reader must believe: what some clauses cover, more clauses cover; each of them, and each
-- of its variants, is covered.
use Rattle.std.proofs.Common.{◌≡◌, inl, inr, ℕ, zero, suc, true, List, [], ◌∷◌, map, Some, sym, ap, ◌∙◌, subst}
use Rattle.std.specs.Prelude.{slice_get, slice_index, IsSomeAnd}
use Rattle.spl_terms.specs.declared.term.Term.{Term, Var}
use Rattle.spl_terms.specs.declared.atom.Atom.{Atom}
use Rattle.spl_terms.specs.declared.clause.Part.{Part}
use Rattle.spl_terms.specs.declared.clause.Part.TheVariants.{Constraint, Antecedent, Succedent}
use Rattle.spl_terms.specs.declared.clause.Clause.{Clause}
use Rattle.spl_terms.specs.SameLaws.{same_self}
use Rattle.spl_truth.specs.SubsumptionLaws.{subsumes_itself}
use Rattle.spl_terms.specs.Clauses.{is_same, part_of, replace_in_atom, replace_in, clause_variables, firsts, number_in}
use Rattle.spl_terms.specs.Terms.{replace}
use Rattle.spl_truth.specs.InstanceLaws.{clause-replace-replace}
use Rattle.spl_truth.specs.Redundancy.{Subsumes, MapsApart}
use Rattle.spl_terms.specs.InOrderLaws.{renumbered-undone}
use Rattle.proof_steps.specs.Covering.{IsVariant}
use Rattle.calculus.specs.Coverage.{Covered, tautologous, subsumed, reduced}

-- ---- coverage

-- what some clauses cover, more clauses cover
pub covered_more : {These Those : Clause → Type 0} → ((c : Clause) → These c → Those c) → {e : Clause} → Covered These e → Covered Those e
covered_more more (tautologous h) = tautologous h
covered_more more (subsumed h) = subsumed (record { by = h.by; among = more h.by h.among; subsumes = h.subsumes })
covered_more more (reduced (inl h) rest) = reduced (inl (record { by = h.by; among = more h.by h.among; reduces = h.reduces })) (covered_more more rest)
covered_more more (reduced (inr h) rest) = reduced (inr h) (covered_more more rest)

-- one of the clauses is covered
pub among-covered : {These : Clause → Type 0} (c : Clause) → These c → Covered These c
among-covered c h = subsumed (record { by = c; among = h; subsumes = subsumes_itself c })

-- ---- variants

-- each atom of the instance has its place
instance_maps : (h : ℕ → Term) (atoms : List Atom) → MapsApart h atoms (map (replace_in_atom h) atoms)
instance_maps h atoms = record { place = λ k. k; same = stands atoms; apart = λ k l m n e. e }
  where
    stands : (atoms : List Atom) (k : ℕ) (a : Atom) → slice_get atoms k ≡ Some a → IsSomeAnd (slice_get (map (replace_in_atom h) atoms) k) (λ b. is_same (replace_in_atom h a) b ≡ true)
    stands [] k a e = absurd (cc)
    stands (b ∷ atoms) zero a e = let q : b ≡ a = cc in subst (λ x. is_same (replace_in_atom h a) (replace_in_atom h x) ≡ true) (sym q) (same_self (replace_in_atom h a))
    stands (b ∷ atoms) (suc k) a e = stands atoms k a e

-- a clause subsumes its instances
pub subsumes-instance : (h : ℕ → Term) (c : Clause) → Subsumes c (replace_in h c)
subsumes-instance h c = record { by = h; each = each }
  where
    each : (part : Part) → MapsApart h (part_of c part) (part_of (replace_in h c) part)
    each Constraint = instance_maps h c.constraint
    each Antecedent = instance_maps h c.antecedent
    each Succedent = instance_maps h c.succedent

-- and its variants
pub variant-subsumes : (d c : Clause) → IsVariant d c → Subsumes d c
variant-subsumes d c e =
    let back : ℕ → Term = λ v. Var (slice_index (firsts (clause_variables c)) v) in
    let whole : replace_in (λ v. replace back (Var (number_in d v))) d ≡ c = sym (clause-replace-replace back (λ v. Var (number_in d v)) d) ∙ ap (replace_in back) e ∙ renumbered-undone c in
    subst (Subsumes d) whole (subsumes-instance (λ v. replace back (Var (number_in d v))) d)

-- a variant of one of the clauses is covered
pub variant-covered : {These : Clause → Type 0} (d c : Clause) → These d → IsVariant d c → Covered These c
variant-covered d c h e = subsumed (record { by = d; among = h; subsumes = variant-subsumes d c e })
