-- Laws that carry proofs, and no definitions that a reader must believe: nothing is concluded by resolution into a clause without negated atoms.
use Rattle.std.specs.Prelude.{map}
use Rattle.std.proofs.Common.{◌≡◌, ℕ, zero, suc, Bool, true, false, cond, ◌&&◌, List, [], Option, Some, None, option_map, refl, sym, ◌∙◌, ap}
use Rattle.std.proofs.lemmas.Option.{slice_get-map}
use Rattle.std.specs.List.{slice_get}
use Rattle.spl_terms.specs.declared.atom.Atom.{Atom}
use Rattle.spl_terms.specs.declared.clause.Part.{Part}
use Rattle.spl_terms.specs.declared.clause.Part.TheVariants.{Constraint, Antecedent, Succedent}
use Rattle.spl_terms.specs.declared.clause.Clause.{Clause}
use Rattle.spl_terms.specs.Clauses.{part_of, replace_in_atom, in_order}
use Rattle.spl_truth.specs.Truth.{entry, apply}
use Rattle.dep_sets.specs.Assumptions.{united}
use Rattle.proof_steps.specs.declared.step.Statement.{Statement}
use Rattle.proof_steps.specs.declared.step.Line.{Line}
use Rattle.proof_steps.specs.Steps.{numbered, of_two, from_two, resolution, resolved, resolvent, when, has_entries, both_same, is_negative, states}
use Rattle.proof_steps.specs.Checked.{resolution_of_lines, stated}

both_none : (x : Option Atom) → both_same x None ≡ false
both_none (Some a) = refl
both_none None = refl

no_place : (part : Part) (q : Clause) → q.constraint ≡ [] → q.antecedent ≡ [] → (x : Option Atom) (j : ℕ) → (is_negative part && both_same x (slice_get (part_of q part) j)) ≡ false
no_place Constraint q a b x j = ap (λ ys. both_same x (slice_get ys j)) a ∙ both_none x
no_place Antecedent q a b x j = ap (λ ys. both_same x (slice_get ys j)) b ∙ both_none x
no_place Succedent q a b x j = refl

no_inference : (b : Bool) (i : ℕ) (part : Part) (j : ℕ) (p q : Clause) → q.constraint ≡ [] → q.antecedent ≡ [] → cond b (resolved i part j (apply [] p) (apply [] q)) None ≡ None
no_inference true i part j p q a e =
    let r = apply [] q in
    let c : r.constraint ≡ [] = ap (map (replace_in_atom (entry []))) a in
    let d : r.antecedent ≡ [] = ap (map (replace_in_atom (entry []))) e in
    ap (λ b. when b (in_order (resolvent i part j (apply [] p) r))) (no_place part r c d (slice_get (apply [] p).succedent i) j)
no_inference false i part j p q a e = refl

stated_at : (lines : List Line) (n : ℕ) (l : Line) → numbered lines n ≡ Some l → numbered (stated lines) n ≡ Some l.stated
stated_at lines zero l h = cc
stated_at lines (suc k) l h = slice_get-map (λ x. x.stated) lines k ∙ ap (option_map (λ x. x.stated)) h

-- nothing is concluded by resolution into a clause without negated atoms
no_conclusion : (i : ℕ) (part : Part) (j : ℕ) (p : Option Statement) (q : Statement) → q.clause.constraint ≡ [] → q.clause.antecedent ≡ [] → of_two (from_two (resolution i part j [] [])) p (Some q) ≡ None
no_conclusion i part j None q a e = refl
no_conclusion i part j (Some p) q a e = ap (option_map (λ c. states c (united p.deps q.deps))) (no_inference (has_entries [] p.clause && has_entries [] q.clause) i part j p.clause q.clause a e)

pub positive_alone : (lines : List Line) (i : ℕ) (part : Part) (j m n : ℕ) (l : Line) (st : Statement) → numbered lines n ≡ Some l → l.stated.clause.constraint ≡ [] → l.stated.clause.antecedent ≡ [] → resolution_of_lines i part j m n lines ≡ Some st → ⊥
positive_alone lines i part j m n l st found a e h =
    let q = stated_at lines n l found in
    let none = ap (of_two (from_two (resolution i part j [] [])) (numbered (stated lines) m)) q ∙ no_conclusion i part j (numbered (stated lines) m) l.stated a e in
    let bad : None ≡ Some st = sym none ∙ h in
    cc
