-- What a justified note hides follows from its reasons.
use Rattle.std.proofs.Common.{◌≡◌, ◌⊎◌, inl, inr, ℕ, zero, suc, true, List, [], ◌∷◌, map, Contains, Option, Some, None, refl, sym, ap, subst, ◌∙◌, arith}
use Rattle.std.specs.Prelude.{filter_map, IsSomeAnd}
use Rattle.std.specs.List.{cons_option}
use Rattle.std.proofs.lemmas.Option.{none-some, same_Some}
use Rattle.spl_terms.specs.declared.term.Term.{Term}
use Rattle.spl_terms.specs.declared.clause.Clause.{Clause}
use Rattle.spl_terms.specs.Clauses.{replace_in}
use Rattle.spl_truth.specs.declared.replace.Subst.{Subst}
use Rattle.spl_truth.specs.Truth.{entry, apply, truth, is_ground, IsGroundInstance, FollowsAt, Follows}
use Rattle.spl_truth.specs.InstanceLaws.{AllGround, grounded, grounded-ground, clause-grounded, clause-replace-replace}
use Rattle.proof_steps.specs.declared.step.Statement.{Statement}
use Rattle.proof_steps.specs.Steps.{numbered}
use Rattle.proof_steps.specs.StepLaws.{Contains-cons_cases}
use Rattle.calculus.specs.declared.note.Edit.{Edit}
use Rattle.calculus.specs.declared.note.Why.{Why}
use Rattle.calculus.specs.declared.note.Why.TheVariants.{Tautology, Subsumed, Rewritten}
use Rattle.calculus.specs.declared.note.HideNote.{HideNote}
use Rattle.calculus.specs.Notes.{reasons_of, IsMapped, IsFirstEquation, IsReasoned, IsJustified}
use Rattle.spl_truth.specs.Redundancy.{Maps, EachPart, is_tautology}
use Rattle.justification.specs.Hiding.{clauses_numbered, HasFollowing}
use Rattle.justification.proofs.Forced.{Forced, forced_then, forced_both, follows_forced}
use Rattle.justification.proofs.Images.{maps-exact, parts-Maps}
use Rattle.justification.proofs.Mapped.{mapped_forced, tautology_forced}
use Rattle.justification.proofs.Edits.{instance_forced, edits_forced}

-- a reason that is there is among the clauses of the reasons
pub clause_there : (earlier : List Statement) (ns : List ℕ) (n : ℕ) (d : Statement) → Contains ns n → numbered earlier n ≡ Some d → Contains (clauses_numbered earlier ns) d.clause
clause_there earlier [] n d (k, below, is) e = absurd (omega (arith, below))
clause_there earlier (m ∷ ns) n d c e = elim (Contains-cons_cases m ns n c) [
  | inl same ↦ first (numbered earlier m) (ap (numbered earlier) same ∙ e)
  | inr there ↦ later (numbered earlier m) (clause_there earlier ns n d there e)
]
  where
    first : (o : Option Statement) → o ≡ Some d → Contains (map (λ s. s.clause) (cons_option o (filter_map (numbered earlier) ns))) d.clause
    first None h = absurd (none-some d h)
    first (Some x) h = (0, omega arith, ap (λ (s : Statement). s.clause) (same_Some x d h))

    later : (o : Option Statement) → Contains (map (λ s. s.clause) (filter_map (numbered earlier) ns)) d.clause → Contains (map (λ s. s.clause) (cons_option o (filter_map (numbered earlier) ns))) d.clause
    later None c = c
    later (Some x) (k, below, is) = (suc k, omega (arith, below), is)

module _ (clauses : List Clause) where
  -- enough are instances by terms without variables
  follows_ground : (c : Clause) → ((g : ℕ → Term) → AllGround g → Forced clauses (λ t. truth t (replace_in g c) ≡ true)) → Follows clauses c
  follows_ground c forced d (g, is, ground') =
      let same : replace_in (grounded g) c ≡ d = clause-grounded g c (ap is_ground is ∙ ground') ∙ is in
      subst (FollowsAt clauses) same (follows_forced clauses (replace_in (grounded g) c) (forced (grounded g) (grounded-ground g)))

  -- what one of the clauses maps into follows
  mapped_follows : (d : Statement) (s : Subst) (c : Clause) → Contains clauses d.clause → EachPart (Maps (entry s.terms)) d.clause c → (g : ℕ → Term) → AllGround g → Forced clauses (λ t. truth t (replace_in g c) ≡ true)
  mapped_follows d s c among maps g all =
      forced_then clauses (forced_both clauses (instance_forced clauses g all d.clause among s.terms) (mapped_forced clauses g all (entry s.terms) d.clause c ((maps-exact (entry s.terms) d.clause c).1 maps)))
      (λ t h. h.1 h.0)

abbrev numbers_of : ℕ → List Edit → List ℕ
numbers_of reduct edits = reduct ∷ map (λ (e : Edit). e.equation) edits

abbrev clauses_of : List Statement → ℕ → List Edit → List Clause
clauses_of earlier reduct edits = clauses_numbered earlier (numbers_of reduct edits)

reasons_follow : (earlier : List Statement) (hidden : ℕ) (c : Clause) (why : Why) → IsReasoned earlier hidden c why → Follows (clauses_numbered earlier (reasons_of why)) c
reasons_follow earlier hidden c Tautology h = follows_ground [] c (λ g all. tautology_forced [] g all c h)
reasons_follow earlier hidden c (Subsumed by s) h =
    let clauses : List Clause = clauses_numbered earlier (by ∷ []) in
    follows_ground clauses c (mapped_follows clauses h.reason s c (clause_there earlier (by ∷ []) by h.reason (0, omega arith, refl) h.found) (parts-Maps (entry s.terms) h.reason.clause c h.maps))
reasons_follow earlier hidden c (Rewritten reduct s edits) h = follows_ground (clauses_of earlier reduct edits) c (λ g all.
    forced_then (clauses_of earlier reduct edits) (forced_both (clauses_of earlier reduct edits) (ever_true g all h.maps) (edits_forced (clauses_of earlier reduct edits) g all earlier c edits h.whole equations h.applied))
    (λ t k. sym k.1 ∙ k.0))
  where
    equations : (n : ℕ) (d : Statement) → Contains (map (λ (e : Edit). e.equation) edits) n → numbered earlier n ≡ Some d → Contains (clauses_of earlier reduct edits) d.clause
    equations n d (k, below, is) e = clause_there earlier (numbers_of reduct edits) n d (suc k, omega (arith, below), is) e

    ever_true : (g : ℕ → Term) → AllGround g → IsMapped earlier reduct s h.whole.ever ⊎ (IsFirstEquation reduct edits × (is_tautology h.whole.ever ≡ true)) → Forced (clauses_of earlier reduct edits) (λ t. truth t (replace_in g h.whole.ever) ≡ true)
    ever_true g all (inl m) = mapped_follows (clauses_of earlier reduct edits) m.reason s h.whole.ever (clause_there earlier (numbers_of reduct edits) reduct m.reason (0, omega arith, refl) m.found) m.maps g all
    ever_true g all (inr first) = tautology_forced (clauses_of earlier reduct edits) g all h.whole.ever first.1

pub hidden_follows : (note : HideNote) (earlier : List Statement) → IsJustified note earlier → HasFollowing note earlier
hidden_follows note earlier h =
    subst (λ o. IsSomeAnd o (λ hidden. Follows (clauses_numbered earlier (reasons_of note.why)) hidden.clause)) (sym h.found)
    (reasons_follow earlier note.hidden h.hidden.clause note.why h.reasoned)
