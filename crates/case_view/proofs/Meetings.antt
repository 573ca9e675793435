-- Two clauses from which something is concluded have atoms that are the same, on both sides of the arrow.
use Rattle.std.proofs.Common.{◌≡◌, inl, inr, ℕ, Bool, true, false, ◌&&◌, if◌then◌else◌, [], Option, Some, None, option_map, refl, sym, ◌∙◌, subst}
use Rattle.std.specs.List.{slice_get}
use Rattle.spl_terms.specs.declared.atom.Atom.{Atom}
use Rattle.spl_terms.specs.declared.clause.Part.{Part}
use Rattle.spl_terms.specs.declared.clause.Part.TheVariants.{Constraint, Antecedent, Succedent}
use Rattle.spl_terms.specs.declared.clause.Clause.{Clause}
use Rattle.spl_terms.specs.Clauses.{is_same, part_of, in_order}
use Rattle.spl_truth.specs.Truth.{apply}
use Rattle.spl_truth.specs.InstanceLaws.{applied_none}
use Rattle.proof_steps.specs.declared.step.Statement.{Statement}
use Rattle.proof_steps.specs.Steps.{resolution, resolved, when, both_same, may_resolve, resolvent, has_entries, is_negative}
use Rattle.clause_filing.specs.Filings.{side, before_arrow, Meets, CanMeet}
use Rattle.case_view.specs.declared.kept.Kept.{Kept}
use Rattle.case_view.specs.declared.kept.Case.{Case}
use Rattle.case_view.specs.Views.{conclusion_of, IsPartnerOf}

negative_side : (part : Part) → is_negative part ≡ true → side part ≡ before_arrow
negative_side Constraint e = refl
negative_side Antecedent e = refl
negative_side Succedent e = absurd (cc)

both : (x y : Bool) → (x && y) ≡ true → (x ≡ true) × (y ≡ true)
both true y e = (refl, e)
both false y e = absurd (cc)

meet_at : (i : ℕ) (part : Part) (j : ℕ) (p q : Clause) (o r : Option Atom) → slice_get p.succedent i ≡ o → slice_get (part_of q part) j ≡ r → (is_negative part && both_same o r) ≡ true → Meets p q
meet_at i part j p q (Some a) (Some b) l m e = let h = both (is_negative part) (is_same a b) e in record { i = i; part = part; j = j; a = a; b = b; left = l; right = m; same = h.1; before = negative_side part h.0 }
meet_at i part j p q (Some a) None l m e = absurd (let h = both (is_negative part) false e in let x : false ≡ true = h.1 in cc)
meet_at i part j p q None r l m e = absurd (let h = both (is_negative part) false e in let x : false ≡ true = h.1 in cc)

as_they_stand : (i : ℕ) (part : Part) (j : ℕ) (p q : Clause) → may_resolve i part j (apply [] p) (apply [] q) ≡ true → may_resolve i part j p q ≡ true
as_they_stand i part j p q e = subst (λ c. may_resolve i part j p c ≡ true) (applied_none q) (subst (λ c. may_resolve i part j c (apply [] q) ≡ true) (applied_none p) e)

when_true : (b : Bool) (d c : Clause) → when b d ≡ Some c → b ≡ true
when_true true d c e = refl
when_true false d c e = absurd (cc)

by_test : (b : Bool) (o : Option Clause) (c : Clause) → (if b then o else None) ≡ Some c → o ≡ Some c
by_test true o c e = e
by_test false o c e = absurd (cc)

mapped_some : (o : Option Clause) (f : Clause → Statement) (s : Statement) → option_map f o ≡ Some s → (c : Clause) × (o ≡ Some c)
mapped_some (Some c) f s e = (c, refl)
mapped_some None f s e = absurd (cc)

conclude : (i : ℕ) (part : Part) (j : ℕ) (p q : Kept) (s : Statement) → conclusion_of i part j p q ≡ Some s → Meets p.stated.clause q.stated.clause
conclude i part j p q s e =
    let c = p.stated.clause in
    let d = q.stated.clause in
    let x = apply [] c in
    let y = apply [] d in
    let made = mapped_some (resolution i part j [] [] c d) _ s e in
    let is : resolved i part j x y ≡ Some made.0 = by_test (has_entries [] c && has_entries [] d) (resolved i part j x y) made.0 made.1 in
    let may = as_they_stand i part j c d (when_true (may_resolve i part j x y) (in_order (resolvent i part j x y)) made.0 is) in
    meet_at i part j c d (slice_get c.succedent i) (slice_get (part_of d part) j) refl refl may

pub partners_meet : (v : Case) (given other : Kept) → v.given ≡ Some given → IsPartnerOf v other → CanMeet other.stated.clause given.stated.clause
partners_meet v given other is h =
    let same : h.given ≡ given = (let e : Some h.given ≡ Some given = sym h.is ∙ is in cc) in
    elim h.resolves [
      | inl r ↦ inr (subst (λ (g : Kept). Meets g.stated.clause other.stated.clause) same (conclude r.i r.part r.j h.given other r.conclusion r.is))
      | inr r ↦ inl (subst (λ (g : Kept). Meets other.stated.clause g.stated.clause) same (conclude r.i r.part r.j other h.given r.conclusion r.is))
    ]
