-- The tests of notes are their definitions.
use Rattle.std.proofs.Common.{◌≡◌, ◌↔◌, ◌⊎◌, inl, inr, IsTrue, ℕ, zero, suc, ◌<◌, ◌==◌, Bool, true, false, not, ◌&&◌, ◌||◌, List, [], ◌∷◌, map, Contains, Option, Some, None, Result, Ok, Err, IfOk, eq-eqb, refl, sym, ap, subst, ◌∙◌, arith}
use Rattle.std.specs.List.{list_any}
use Rattle.std.specs.Option.{option_map_or}
use Rattle.std.proofs.lemmas.Bool.{false≢true, eqb-true, and_parts, and_from, or_cases, or_left, or_right}
use Rattle.std.proofs.lemmas.Option.{none-some, same_Some}
use Rattle.spl_terms.specs.declared.clause.Part.{Part}
use Rattle.spl_terms.specs.declared.clause.Clause.{Clause}
use Rattle.spl_terms.specs.Clauses.{part_of}
use Rattle.spl_terms.specs.InOrder.{are_different}
use Rattle.spl_truth.specs.declared.replace.Subst.{Subst}
use Rattle.spl_truth.specs.Truth.{entry}
use Rattle.spl_truth.specs.Redundancy.{MapsApart, EachPart, is_tautology}
use Rattle.proof_steps.specs.declared.step.Statement.{Statement}
use Rattle.proof_steps.specs.Steps.{has_entries, numbered}
use Rattle.proof_steps.specs.StepLaws.{Contains-cons_cases}
use Rattle.proof_steps.specs.Covering.{IsVariant}
use Rattle.calculus.specs.declared.note.Edit.{Edit}
use Rattle.calculus.specs.declared.note.Why.{Why}
use Rattle.calculus.specs.declared.note.Why.TheVariants.{Tautology, Subsumed, Rewritten}
use Rattle.calculus.specs.declared.note.HideNote.{HideNote}
use Rattle.calculus.specs.Notes.{EditState, reasons_of, edited, IsFirstEquation, IsSubsumedNote, IsMapped, IsRewrittenNote, IsReasoned, IsJustified}
use Rattle.justification.specs.Tests.{are_mapped, passes_at_parts, is_mapped, is_first_equation, is_mapped_result, is_rewritten, is_reason}
use Rattle.justification.proofs.Images.{maps-exact}

-- ---- answers

pub if_ok : {T E : Type 0} (r : Result T E) (P Q : T → Type 0) → ((x : T) → P x → Q x) → IfOk r P → IfOk r Q
if_ok (Ok x) P Q f h = f x h
if_ok (Err e) P Q f h = tt

-- ---- a clause that is there

there_is : {A : Type 0} (test : A → Bool) (o : Option A) → option_map_or test o false ≡ true → (x : A) × (o ≡ Some x) × (test x ≡ true)
there_is test None e = absurd (false≢true e)
there_is test (Some x) e = (x, refl, e)

is_there : {A : Type 0} (test : A → Bool) (o : Option A) (x : A) → o ≡ Some x → test x ≡ true → option_map_or test o false ≡ true
is_there test o x e h = ap (λ p. option_map_or test p false) e ∙ h

module _ (earlier : List Statement) (reduct : ℕ) (s : Subst) where
  abbrev Maps-test : Clause → Statement → Bool
  Maps-test c r = has_entries s.terms r.clause && passes_at_parts (are_mapped (entry s.terms)) r.clause c

  mapped_is : (c : Clause) → is_mapped earlier reduct s c ≡ true → IsMapped earlier reduct s c
  mapped_is c e =
      let r = there_is (Maps-test c) (numbered earlier reduct) e in
      let both = and_parts _ _ r.2 in
      record { reason = r.0; found = r.1; entries = both.0; maps = (maps-exact (entry s.terms) r.0.clause c).0 both.1 }

  is_mapped_there : (c : Clause) → IsMapped earlier reduct s c → is_mapped earlier reduct s c ≡ true
  is_mapped_there c m = is_there (Maps-test c) (numbered earlier reduct) m.reason m.found (and_from _ _ m.entries ((maps-exact (entry s.terms) m.reason.clause c).1 m.maps))

  first_is : (edits : List Edit) → is_first_equation reduct edits ≡ true → IsFirstEquation reduct edits
  first_is [] e = absurd (false≢true e)
  first_is (f ∷ edits) e = sym (eqb-true f.equation reduct e)

  is_first : (edits : List Edit) → IsFirstEquation reduct edits → is_first_equation reduct edits ≡ true
  is_first [] e = absurd e
  is_first (f ∷ edits) e = eq-eqb f.equation reduct (sym e)

  pub rewritten-exact : (edits : List Edit) (c : Clause) → (is_rewritten earlier reduct s edits c ≡ true) ↔ IsRewrittenNote earlier reduct s edits c
  rewritten-exact edits c = (
    (λ e. let w = there_is (is_mapped_result earlier reduct s edits) (edited earlier c edits) e in record { whole = w.0; applied = w.1; maps = result_is w.0 w.2 }),
    (λ h. is_there (is_mapped_result earlier reduct s edits) (edited earlier c edits) h.whole h.applied (is_result h.whole h.maps)),
  )
    where
      result_is : (w : EditState) → is_mapped_result earlier reduct s edits w ≡ true → IsMapped earlier reduct s w.ever ⊎ (IsFirstEquation reduct edits × (is_tautology w.ever ≡ true))
      result_is w e = elim (or_cases _ _ e) [
        | inl first ↦ (let both = and_parts _ _ first in inr (first_is edits both.0, both.1))
        | inr mapped' ↦ inl (mapped_is w.ever mapped')
      ]

      is_result : (w : EditState) → IsMapped earlier reduct s w.ever ⊎ (IsFirstEquation reduct edits × (is_tautology w.ever ≡ true)) → is_mapped_result earlier reduct s edits w ≡ true
      is_result w (inl m) = or_right (is_first_equation reduct edits && is_tautology w.ever) _ (is_mapped_there w.ever m)
      is_result w (inr h) = or_left _ (is_mapped earlier reduct s w.ever) (and_from _ _ (is_first edits h.0) h.1)

-- ---- reasons

edit_there : (edits : List Edit) (n : ℕ) → list_any (λ (e : Edit). e.equation == n) edits ≡ true → Contains (map (λ (e : Edit). e.equation) edits) n
edit_there [] n e = absurd (false≢true e)
edit_there (f ∷ edits) n e = elim (or_cases _ _ e) [
  | inl here ↦ (0, omega arith, eqb-true f.equation n here)
  | inr there ↦ (let w = edit_there edits n there in (suc w.0, omega (arith, w.1), w.2))
]

there_edit : (edits : List Edit) (n : ℕ) → Contains (map (λ (e : Edit). e.equation) edits) n → list_any (λ (e : Edit). e.equation == n) edits ≡ true
there_edit [] n (k, below, is) = absurd (omega (arith, below))
there_edit (f ∷ edits) n c = elim (Contains-cons_cases f.equation (map (λ (e : Edit). e.equation) edits) n c) [
  | inl here ↦ or_left (f.equation == n) _ (eq-eqb f.equation n here)
  | inr there ↦ or_right (f.equation == n) _ (there_edit edits n there)
]

pub reason_is : (why : Why) (n : ℕ) → is_reason why n ≡ true → Contains (reasons_of why) n
reason_is Tautology n e = absurd (false≢true e)
reason_is (Subsumed by s) n e = (0, omega arith, eqb-true by n e)
reason_is (Rewritten reduct s edits) n e = elim (or_cases _ _ e) [
  | inl here ↦ (0, omega arith, eqb-true reduct n here)
  | inr there ↦ (let w = edit_there edits n there in (suc w.0, omega (arith, w.1), w.2))
]

pub is_reason_there : (why : Why) (n : ℕ) → Contains (reasons_of why) n → is_reason why n ≡ true
is_reason_there Tautology n (k, below, is) = absurd (omega (arith, below))
is_reason_there (Subsumed by s) n c = elim (Contains-cons_cases by [] n c) [
  | inl here ↦ eq-eqb by n here
  | inr there ↦ absurd (omega (arith, there.1))
]
is_reason_there (Rewritten reduct s edits) n c = elim (Contains-cons_cases reduct (map (λ (e : Edit). e.equation) edits) n c) [
  | inl here ↦ or_left (reduct == n) _ (eq-eqb reduct n here)
  | inr there ↦ or_right (reduct == n) _ (there_edit edits n there)
]

-- ---- a clause that subsumes

module _ (earlier : List Statement) (hidden by : ℕ) (s : Subst) (c : Clause) where
  pub none_subsumes : None ≡ numbered earlier by → IsTrue false ↔ IsSubsumedNote earlier hidden by s c
  none_subsumes e = ((λ yes'. absurd (false≢true yes')), (λ h. absurd (none-some h.reason (e ∙ h.found))))

  module _ (r : Statement) (there : Some r ≡ numbered earlier by) where
    same_reason : (h : IsSubsumedNote earlier hidden by s c) → h.reason ≡ r
    same_reason h = same_Some h.reason r (sym h.found ∙ sym there)

    pub younger_hides_none : ((IsVariant r.clause c → by < hidden) → ⊥) → IsTrue false ↔ IsSubsumedNote earlier hidden by s c
    younger_hides_none younger = ((λ yes'. absurd (false≢true yes')), (λ h. absurd (younger (subst (λ (x : Statement). IsVariant x.clause c → by < hidden) (same_reason h) h.older))))

    pub other_entries_hide_none : false ≡ has_entries s.terms r.clause → IsTrue false ↔ IsSubsumedNote earlier hidden by s c
    other_entries_hide_none other = ((λ yes'. absurd (false≢true yes')), (λ h. absurd (false≢true (other ∙ ap (λ (x : Statement). has_entries s.terms x.clause) (sym (same_reason h)) ∙ h.entries))))

    pub subsumed-exact : (yes' : Bool) → (IsVariant r.clause c → by < hidden) → true ≡ has_entries s.terms r.clause → (IsTrue yes' ↔ EachPart (MapsApart (entry s.terms)) r.clause c) → IsTrue yes' ↔ IsSubsumedNote earlier hidden by s c
    subsumed-exact yes' older entries maps = (
      (λ e. record { reason = r; found = sym there; entries = sym entries; maps = maps.0 e; older = older }),
      (λ h. maps.1 (subst (λ (x : Statement). EachPart (MapsApart (entry s.terms)) x.clause c) (same_reason h) h.maps)),
    )

-- ---- the note

module _ (note : HideNote) (earlier : List Statement) where
  pub none_hidden : None ≡ numbered earlier note.hidden → IsTrue false ↔ IsJustified note earlier
  none_hidden e = ((λ yes'. absurd (false≢true yes')), (λ h. absurd (none-some h.hidden (e ∙ h.found))))

  pub hidden_by_itself : true ≡ is_reason note.why note.hidden → IsTrue false ↔ IsJustified note earlier
  hidden_by_itself e = ((λ yes'. absurd (false≢true yes')), (λ h. absurd (h.others (reason_is note.why note.hidden (sym e)))))

  pub justified-exact : (d : Statement) (yes' : Bool) → Some d ≡ numbered earlier note.hidden → false ≡ is_reason note.why note.hidden → (IsTrue yes' ↔ IsReasoned earlier note.hidden d.clause note.why) → IsTrue yes' ↔ IsJustified note earlier
  justified-exact d yes' there other exact = (
    (λ e. record { hidden = d; found = sym there; others = λ c. false≢true (other ∙ is_reason_there note.why note.hidden c); reasoned = exact.0 e }),
    (λ h. exact.1 (subst (λ (x : Statement). IsReasoned earlier note.hidden x.clause note.why) (same_Some h.hidden d (sym h.found ∙ sym there)) h.reasoned)),
  )
