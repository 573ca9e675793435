-- Notes compose, where the second one has no edits and what it hides is no equation of the first one.
use Rattle.std.proofs.Common.{◌≡◌, ◌⊎◌, inl, inr, ℕ, zero, suc, ◌<◌, Bool, true, false, ◌||◌, ◌==◌, List, [], ◌∷◌, length, map, Contains, Option, Some, None, option_map, unwrap_or, eq-eqb, refl, sym, ap, subst, ◌∙◌, arith}
use Rattle.std.specs.List.{list_any, slice_get}
use Rattle.std.proofs.lemmas.List.{length-map}
use Rattle.std.proofs.lemmas.Bool.{false≢true, eqb-true, or_cases, or_left, or_right}
use Rattle.std.proofs.lemmas.Option.{none-some, same_Some, slice_get-map}
use Rattle.spl_terms.specs.declared.term.Term.{Term, Var}
use Rattle.spl_terms.specs.declared.atom.Atom.{Atom}
use Rattle.spl_terms.specs.declared.atom.Atom.TheVariants.{Holds, Equal}
use Rattle.spl_terms.specs.declared.clause.Part.{Part}
use Rattle.spl_terms.specs.declared.clause.Part.TheVariants.{Constraint, Antecedent, Succedent}
use Rattle.spl_terms.specs.declared.clause.Clause.{Clause}
use Rattle.spl_terms.specs.Terms.{replace, term_eq}
use Rattle.spl_terms.specs.TermLaws.{term_eq-true, term_eq-refl}
use Rattle.spl_terms.specs.ListLaws.{get-there}
use Rattle.spl_terms.specs.Clauses.{is_same, part_of, replace_in_atom}
use Rattle.spl_terms.specs.SameLaws.{same_turned, same_joined, same-replace, same_cases, flipped}
use Rattle.spl_terms.specs.InOrder.{IsInOrder, variables}
use Rattle.spl_truth.specs.declared.replace.Subst.{Subst}
use Rattle.spl_truth.specs.Truth.{entry}
use Rattle.spl_truth.specs.InstanceLaws.{atom-replace-replace}
use Rattle.spl_truth.specs.Redundancy.{Maps, MapsApart, EachPart, has_equal_sides, is_tautology}
use Rattle.proof_steps.specs.declared.step.Statement.{Statement}
use Rattle.proof_steps.specs.Steps.{numbered, has_entries}
use Rattle.proof_steps.specs.StepLaws.{Contains-cons_cases}
use Rattle.calculus.specs.LiftingLaws.{agree_atom, atom_below}
use Rattle.calculus.specs.declared.note.Edit.{Edit}
use Rattle.calculus.specs.declared.note.Why.{Why}
use Rattle.calculus.specs.declared.note.Why.TheVariants.{Tautology, Subsumed, Rewritten}
use Rattle.calculus.specs.declared.note.HideNote.{HideNote}
use Rattle.calculus.specs.Notes.{EditState, reasons_of, edited, IsFirstEquation, IsMapped, IsRewrittenNote, IsReasoned, IsJustified}
use Rattle.justification.specs.Hiding.{AreStatedInOrder}
use Rattle.justification.specs.Composing.{equations_of, IsReasonOfEither, AreComposed, CanCompose}
use Rattle.justification.proofs.Images.{parts-Maps}

-- ---- one substitution after another

-- what the entries of the second one become by the first one
abbrev after : Subst → Subst → Subst
after s t = record { terms = map (replace (entry s.terms)) t.terms }

entry-map : (f : Term → Term) (ts : List Term) (v : ℕ) → v < length ts → entry (map f ts) v ≡ f (entry ts v)
entry-map f ts v below =
    let there = get-there ts v below in
    ap (λ o. unwrap_or o (Var v)) (slice_get-map f ts v ∙ ap (option_map f) there.1)
    ∙ ap (λ o. f (unwrap_or o (Var v))) (sym there.1)

fits-after : (s t : Subst) (c : Clause) → has_entries t.terms c ≡ true → has_entries (after s t).terms c ≡ true
fits-after s t c e = ap (λ n. n == variables c) (length-map t.terms (replace (entry s.terms))) ∙ e

atom-after : (s t : Subst) (c : Clause) → IsInOrder c → has_entries t.terms c ≡ true → (part : Part) (k : ℕ) (a : Atom) → slice_get (part_of c part) k ≡ Some a → replace_in_atom (entry (after s t).terms) a ≡ replace_in_atom (entry s.terms) (replace_in_atom (entry t.terms) a)
atom-after s t c in_order fits part k a e =
    agree_atom (entry (after s t).terms) (λ v. replace (entry s.terms) (entry t.terms v)) a
    (λ v h. entry-map (replace (entry s.terms)) t.terms v (let below = atom_below c in_order part k a e v h in omega (arith, below, eqb-true (length t.terms) (variables c) fits)))
    ∙ sym (atom-replace-replace (entry s.terms) (entry t.terms) a)

-- ---- an atom that is the same as one of a list

record Alike (a : Atom) (xs : List Atom) : Type 0 where
  pub place : ℕ
  pub atom : Atom
  pub found : slice_get xs place ≡ Some atom
  pub same : is_same a atom ≡ true

alike : (a : Atom) (xs : List Atom) → list_any (is_same a) xs ≡ true → Alike a xs
alike a [] e = absurd (false≢true e)
alike a (x ∷ xs) e = elim (or_cases _ _ e) [
  | inl here ↦ record { place = 0; atom = x; found = refl; same = here }
  | inr there ↦ (let w = alike a xs there in record { place = suc w.place; atom = w.atom; found = w.found; same = w.same })
]

alike_any : (a : Atom) (xs : List Atom) (k : ℕ) (x : Atom) → slice_get xs k ≡ Some x → is_same a x ≡ true → list_any (is_same a) xs ≡ true
alike_any a [] k x e h = absurd (none-some x e)
alike_any a (y ∷ xs) zero x e h = or_left _ _ (ap (is_same a) (same_Some y x e) ∙ h)
alike_any a (y ∷ xs) (suc k) x e h = or_right _ _ (alike_any a xs k x e h)

-- the image of an atom that is the same as one that is mapped
alike_mapped : (h : ℕ → Term) (a : Atom) (xs into : List Atom) → Maps h xs into → list_any (is_same a) xs ≡ true → list_any (is_same (replace_in_atom h a)) into ≡ true
alike_mapped h a xs into maps e =
    let w = alike a xs e in
    let image = alike (replace_in_atom h w.atom) into (maps w.place w.atom w.found) in
    alike_any (replace_in_atom h a) into image.place image.atom image.found (same_joined (replace_in_atom h a) (replace_in_atom h w.atom) image.atom (same-replace h a w.atom w.same) image.same)

-- where c maps into d and d maps on, c maps on
maps-after : (s t : Subst) (c d w : Clause) → IsInOrder c → has_entries t.terms c ≡ true → EachPart (Maps (entry t.terms)) c d → EachPart (Maps (entry s.terms)) d w → EachPart (Maps (entry (after s t).terms)) c w
maps-after s t c d w in_order fits first second part k a e =
    ap (λ x. list_any (is_same x) (part_of w part)) (atom-after s t c in_order fits part k a e)
    ∙ alike_mapped (entry s.terms) (replace_in_atom (entry t.terms) a) (part_of d part) (part_of w part) (second part) (first part k a e)

-- ---- what a tautology maps into

equal_sides : (h : ℕ → Term) (a b : Atom) → has_equal_sides a ≡ true → is_same (replace_in_atom h a) b ≡ true → has_equal_sides b ≡ true
equal_sides h (Holds p ts) b e same = absurd (false≢true e)
equal_sides h (Equal l r) b e same = elim (same_cases (replace_in_atom h (Equal l r)) b same) [
  | inl is ↦ subst (λ x. has_equal_sides x ≡ true) is equal
  | inr is ↦ subst (λ x. has_equal_sides x ≡ true) is (ap (λ x. term_eq x (replace h l)) (sym both) ∙ term_eq-refl (replace h l))
]
  where
    both : replace h l ≡ replace h r
    both = ap (replace h) (term_eq-true l r e)

    equal : term_eq (replace h l) (replace h r) ≡ true
    equal = ap (term_eq (replace h l)) (sym both) ∙ term_eq-refl (replace h l)

-- an atom passes, wherever it stands
abbrev Shown : Clause → Atom → Bool
Shown c a = list_any (is_same a) c.antecedent || list_any (is_same a) c.constraint || has_equal_sides a

shown_any : (p : Atom → Bool) (xs : List Atom) → list_any p xs ≡ true → (k : ℕ) × (a : Atom) × (slice_get xs k ≡ Some a) × (p a ≡ true)
shown_any p [] e = absurd (false≢true e)
shown_any p (x ∷ xs) e = elim (or_cases _ _ e) [
  | inl here ↦ (0, x, refl, here)
  | inr there ↦ (let w = shown_any p xs there in (suc w.0, w.1, w.2, w.3))
]

any_shown : (p : Atom → Bool) (xs : List Atom) (k : ℕ) (a : Atom) → slice_get xs k ≡ Some a → p a ≡ true → list_any p xs ≡ true
any_shown p [] k a e h = absurd (none-some a e)
any_shown p (x ∷ xs) zero a e h = or_left _ _ (ap p (same_Some x a e) ∙ h)
any_shown p (x ∷ xs) (suc k) a e h = or_right _ _ (any_shown p xs k a e h)

-- an atom that is the same as a list's is the same as that of another atom that is the same
turned_any : (a b : Atom) (xs : List Atom) → is_same a b ≡ true → list_any (is_same a) xs ≡ true → list_any (is_same b) xs ≡ true
turned_any a b xs same e =
    let w = alike a xs e in
    alike_any b xs w.place w.atom w.found (same_joined b a w.atom (same_turned a b same) w.same)

module _ (c : Clause) (a : Atom) where
  shown_before : list_any (is_same a) c.antecedent ≡ true → Shown c a ≡ true
  shown_before e = or_left (list_any (is_same a) c.antecedent || list_any (is_same a) c.constraint) (has_equal_sides a) (or_left (list_any (is_same a) c.antecedent) (list_any (is_same a) c.constraint) e)

  shown_in_constraint : list_any (is_same a) c.constraint ≡ true → Shown c a ≡ true
  shown_in_constraint e = or_left (list_any (is_same a) c.antecedent || list_any (is_same a) c.constraint) (has_equal_sides a) (or_right (list_any (is_same a) c.antecedent) (list_any (is_same a) c.constraint) e)

  shown_equal : has_equal_sides a ≡ true → Shown c a ≡ true
  shown_equal e = or_right (list_any (is_same a) c.antecedent || list_any (is_same a) c.constraint) (has_equal_sides a) e

tautology-maps : (h : ℕ → Term) (d w : Clause) → EachPart (Maps h) d w → is_tautology d ≡ true → is_tautology w ≡ true
tautology-maps h d w maps e =
    let found = shown_any (Shown d) d.succedent e in
    let image = alike (replace_in_atom h found.1) w.succedent (maps Succedent found.0 found.1 found.2) in
    any_shown (Shown w) w.succedent image.place image.atom image.found (elim (or_cases _ _ found.3) [
      | inl side ↦ elim (or_cases _ _ side) [
        | inl one ↦ shown_before w image.atom (turned_any (replace_in_atom h found.1) image.atom w.antecedent image.same (alike_mapped h found.1 d.antecedent w.antecedent (maps Antecedent) one))
        | inr one ↦ shown_in_constraint w image.atom (turned_any (replace_in_atom h found.1) image.atom w.constraint image.same (alike_mapped h found.1 d.constraint w.constraint (maps Constraint) one))
      ]
      | inr equal ↦ shown_equal w image.atom (equal_sides h found.1 image.atom equal image.same)
    ])

-- ---- the second note

module _ (earlier : List Statement) (ordered : AreStatedInOrder earlier) where
  stated_in_order : (n : ℕ) (d : Statement) → numbered earlier n ≡ Some d → IsInOrder d.clause
  stated_in_order zero d e = absurd (none-some d e)
  stated_in_order (suc n) d e = ordered n d e

  -- a tautology, or a reason maps into it
  abbrev Shortened : Why → Clause → Type 0
  Shortened why w = (is_tautology w ≡ true) ⊎ ((c : ℕ) × (t : Subst) × Contains (reasons_of why) c × IsMapped earlier c t w)

  through : (c : ℕ) (t s : Subst) (d : Statement) (w : Clause) → IsMapped earlier c t d.clause → EachPart (Maps (entry s.terms)) d.clause w → IsMapped earlier c (after s t) w
  through c t s d w m maps = record {
    reason = m.reason;
    found = m.found;
    entries = fits-after s t m.reason.clause m.entries;
    maps = maps-after s t m.reason.clause d.clause w (stated_in_order c m.reason m.found) m.entries m.maps maps;
  }

  shortened : (why : Why) (hidden : ℕ) (d : Statement) → IsReasoned earlier hidden d.clause why → equations_of why ≡ [] → (s : Subst) (w : Clause) → EachPart (Maps (entry s.terms)) d.clause w → Shortened why w
  shortened Tautology hidden d k short s w maps = inl (tautology-maps (entry s.terms) d.clause w maps k)
  shortened (Subsumed by t) hidden d k short s w maps =
      inr (by, after s t, (0, omega arith, refl), through by t s d w (record { reason = k.reason; found = k.found; entries = k.entries; maps = parts-Maps (entry t.terms) k.reason.clause d.clause k.maps }) maps)
  shortened (Rewritten reduct t []) hidden d k short s w maps = by_case k.maps
    where
      same : k.whole.ever ≡ d.clause
      same = ap (λ (x : EditState). x.ever) (sym (same_Some (record { now = d.clause; ever = d.clause }) k.whole k.applied))

      by_case : IsMapped earlier reduct t k.whole.ever ⊎ (IsFirstEquation reduct [] × (is_tautology k.whole.ever ≡ true)) → Shortened (Rewritten reduct t []) w
      by_case (inl m) = inr (reduct, after s t, (0, omega arith, refl), through reduct t s d w (subst (IsMapped earlier reduct t) same m) maps)
      by_case (inr first) = absurd first.0
  shortened (Rewritten reduct t (e ∷ edits)) hidden d k short s w maps = absurd (not_empty e.equation (map (λ (e : Edit). e.equation) edits) short)
    where
      not_empty : (n : ℕ) (ns : List ℕ) → n ∷ ns ≡ [] → ⊥
      not_empty n ns e = let h : length (n ∷ ns) ≡ length {A = ℕ} [] = ap length e in omega (arith, h)

  -- ---- both notes

  module _ (hidden other_hidden : ℕ) (other_why : Why) (k : IsJustified (record { hidden = other_hidden; why = other_why }) earlier) where
    abbrev Composed : Why → Type 0
    Composed why = AreComposed (record { hidden = hidden; why = why }) (record { hidden = other_hidden; why = other_why }) earlier

    abbrev Can : Why → Type 0
    Can why = CanCompose (record { hidden = hidden; why = why }) (record { hidden = other_hidden; why = other_why })

    abbrev Justified : Why → Type 0
    Justified why = IsJustified (record { hidden = hidden; why = why }) earlier

    -- a note of whose reasons the second one hides none stays as it is
    unchanged : (why : Why) → Justified why → (Contains (reasons_of why) other_hidden → ⊥) → Composed why
    unchanged why h none = record { whole = record { hidden = hidden; why = why }; hides = refl; justified = h; reasons = λ n c. inl (c, λ e. none (subst (Contains (reasons_of why)) e c)) }

    tautologous : (why : Why) (h : Justified why) → is_tautology h.hidden.clause ≡ true → Composed why
    tautologous why h e = record {
      whole = record { hidden = hidden; why = Tautology };
      hides = refl;
      justified = record { hidden = h.hidden; found = h.found; others = nothing hidden; reasoned = e };
      reasons = λ n c. absurd (nothing n c);
    }
      where
        nothing : (n : ℕ) → Contains {X = ℕ} [] n → ⊥
        nothing n (j, below, is) = omega (arith, below)

    -- what the second one hides is the clause with this number
    the_same : (n : ℕ) (d : Statement) → (n == other_hidden) ≡ true → numbered earlier n ≡ Some d → d ≡ k.hidden
    the_same n d same found = same_Some d k.hidden (sym found ∙ ap (numbered earlier) (eqb-true n other_hidden same) ∙ k.found)

    short_of : (why : Why) → Can why → (n : ℕ) (d : Statement) (s : Subst) (w : Clause) → (n == other_hidden) ≡ true → numbered earlier n ≡ Some d → EachPart (Maps (entry s.terms)) d.clause w → Shortened other_why w
    short_of why can n d s w same found maps =
        shortened other_why other_hidden k.hidden k.reasoned can.short s w (subst (λ (x : Statement). EachPart (Maps (entry s.terms)) x.clause w) (the_same n d same found) maps)

    apart_from : (n : ℕ) (ns : List ℕ) → (n == other_hidden) ≡ false → (Contains ns other_hidden → ⊥) → Contains (n ∷ ns) other_hidden → ⊥
    apart_from n ns other none c = elim (Contains-cons_cases n ns other_hidden c) [
      | inl is ↦ false≢true (sym other ∙ eq-eqb n other_hidden is)
      | inr there ↦ none there
    ]

    -- by a reason of the second one and the edits of the first one
    by_reason : (why : Why) (h : Justified why) (can : Can why) (edits : List Edit) (whole : EditState) → edited earlier h.hidden.clause edits ≡ Some whole →
        ((n : ℕ) → Contains (map (λ (e : Edit). e.equation) edits) n → Contains (equations_of why) n) → ((n : ℕ) → Contains (equations_of why) n → Contains (reasons_of why) n) →
        (c : ℕ) (t : Subst) → Contains (reasons_of other_why) c → IsMapped earlier c t whole.ever → Composed why
    by_reason why h can edits whole applied kept among c t reason mapped' = record {
      whole = record { hidden = hidden; why = Rewritten c t edits };
      hides = refl;
      justified = record {
        hidden = h.hidden;
        found = h.found;
        others = λ there. elim (Contains-cons_cases c (map (λ (e : Edit). e.equation) edits) hidden there) [
          | inl is ↦ can.away (subst (Contains (reasons_of other_why)) is reason)
          | inr edit ↦ h.others (among hidden (kept hidden edit))
        ];
        reasoned = record { whole = whole; applied = applied; maps = inl mapped' };
      };
      reasons = λ n there. elim (Contains-cons_cases c (map (λ (e : Edit). e.equation) edits) n there) [
        | inl is ↦ inr (subst (Contains (reasons_of other_why)) is reason)
        | inr edit ↦ inl (among n (kept n edit), λ e. can.apart (subst (Contains (equations_of why)) e (kept n edit)))
      ];
    }

    none_kept : (ns : List ℕ) (n : ℕ) → Contains {X = ℕ} [] n → Contains ns n
    none_kept ns n (j, below, is) = absurd (omega (arith, below))

    composed_subsumed : (by : ℕ) (s : Subst) → Justified (Subsumed by s) → Can (Subsumed by s) → Composed (Subsumed by s)
    composed_subsumed by s h can = by_test (by == other_hidden) refl
      where
        replaced : Shortened other_why h.hidden.clause → Composed (Subsumed by s)
        replaced (inl e) = tautologous (Subsumed by s) h e
        replaced (inr w) = by_reason (Subsumed by s) h can [] (record { now = h.hidden.clause; ever = h.hidden.clause }) refl (none_kept []) (none_kept (by ∷ [])) w.0 w.1 w.2 w.3

        by_test : (b : Bool) → (by == other_hidden) ≡ b → Composed (Subsumed by s)
        by_test false e = unchanged (Subsumed by s) h (apart_from by [] e (λ c. can.apart c))
        by_test true e = replaced (short_of (Subsumed by s) can by h.reasoned.reason s h.hidden.clause e h.reasoned.found (parts-Maps (entry s.terms) h.reasoned.reason.clause h.hidden.clause h.reasoned.maps))

    first_among : (n : ℕ) (edits : List Edit) → IsFirstEquation n edits → Contains (map (λ (e : Edit). e.equation) edits) n
    first_among n [] e = absurd e
    first_among n (e ∷ edits) is = (0, omega arith, sym is)

    composed_rewritten : (reduct : ℕ) (s : Subst) (edits : List Edit) → Justified (Rewritten reduct s edits) → Can (Rewritten reduct s edits) → Composed (Rewritten reduct s edits)
    composed_rewritten reduct s edits h can = by_case h.reasoned.maps
      where
        edit_among : (n : ℕ) → Contains (map (λ (e : Edit). e.equation) edits) n → Contains (reduct ∷ map (λ (e : Edit). e.equation) edits) n
        edit_among n (j, below, is) = (suc j, omega (arith, below), is)

        -- the result is a tautology, so the equations are reasons enough
        by_equations : (es : List Edit) → es ≡ edits → is_tautology h.reasoned.whole.ever ≡ true → Composed (Rewritten reduct s edits)
        by_equations [] is e =
            let same : h.reasoned.whole.ever ≡ h.hidden.clause = ap (λ (x : EditState). x.ever) (sym (same_Some (record { now = h.hidden.clause; ever = h.hidden.clause }) h.reasoned.whole (ap (edited earlier h.hidden.clause) is ∙ h.reasoned.applied))) in
            tautologous (Rewritten reduct s edits) h (ap is_tautology (sym same) ∙ e)
        by_equations (f ∷ es) is e =
            let first : IsFirstEquation f.equation edits = subst (IsFirstEquation f.equation) is refl in
            let there : (n : ℕ) → Contains (f.equation ∷ map (λ (e : Edit). e.equation) edits) n → Contains (map (λ (e : Edit). e.equation) edits) n = λ n c. elim (Contains-cons_cases f.equation (map (λ (e : Edit). e.equation) edits) n c) [
              | inl same ↦ subst (Contains (map (λ (e : Edit). e.equation) edits)) same (first_among f.equation edits first)
              | inr rest ↦ rest
            ] in
            record {
              whole = record { hidden = hidden; why = Rewritten f.equation s edits };
              hides = refl;
              justified = record {
                hidden = h.hidden;
                found = h.found;
                others = λ c. h.others (edit_among hidden (there hidden c));
                reasoned = record { whole = h.reasoned.whole; applied = h.reasoned.applied; maps = inr (first, e) };
              };
              reasons = λ n c. inl (edit_among n (there n c), λ same. can.apart (subst (Contains (map (λ (e : Edit). e.equation) edits)) same (there n c)));
            }

        replaced : Shortened other_why h.reasoned.whole.ever → Composed (Rewritten reduct s edits)
        replaced (inl e) = by_equations edits refl e
        replaced (inr w) = by_reason (Rewritten reduct s edits) h can edits h.reasoned.whole h.reasoned.applied (λ n c. c) edit_among w.0 w.1 w.2 w.3

        by_test : (m : IsMapped earlier reduct s h.reasoned.whole.ever) (b : Bool) → (reduct == other_hidden) ≡ b → Composed (Rewritten reduct s edits)
        by_test m false e = unchanged (Rewritten reduct s edits) h (apart_from reduct (map (λ (e : Edit). e.equation) edits) e can.apart)
        by_test m true e = replaced (short_of (Rewritten reduct s edits) can reduct m.reason s h.reasoned.whole.ever e m.found m.maps)

        by_case : IsMapped earlier reduct s h.reasoned.whole.ever ⊎ (IsFirstEquation reduct edits × (is_tautology h.reasoned.whole.ever ≡ true)) → Composed (Rewritten reduct s edits)
        by_case (inl m) = by_test m (reduct == other_hidden) refl
        by_case (inr first) = unchanged (Rewritten reduct s edits) h (λ c. elim (Contains-cons_cases reduct (map (λ (e : Edit). e.equation) edits) other_hidden c) [
          | inl same ↦ can.apart (subst (Contains (map (λ (e : Edit). e.equation) edits)) same (first_among reduct edits first.0))
          | inr there ↦ can.apart there
        ])

    composed : (why : Why) → Justified why → Can why → Composed why
    composed Tautology h can = unchanged Tautology h (λ c. none_at c)
      where
        none_at : Contains {X = ℕ} [] other_hidden → ⊥
        none_at (j, below, is) = omega (arith, below)
    composed (Subsumed by s) h can = composed_subsumed by s h can
    composed (Rewritten reduct s edits) h can = composed_rewritten reduct s edits h can

pub notes_compose : (note other : HideNote) (earlier : List Statement) → AreStatedInOrder earlier → IsJustified note earlier → IsJustified other earlier → CanCompose note other → AreComposed note other earlier
notes_compose note other earlier ordered h k can = composed earlier ordered note.hidden other.hidden other.why k note.why h can
