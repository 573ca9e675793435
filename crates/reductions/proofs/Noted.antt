-- Edits along a chain, and the note that they make.
use Rattle.std.proofs.Common.{◌≡◌, ◌⊎◌, inl, inr, ℕ, zero, suc, ◌+◌, ◌<◌, ◌≤◌, Bool, true, List, [], ◌∷◌, ◌++◌, length, map, drop, get_or, Contains, Some, option_and_then, refl, sym, ap, subst, ◌∙◌, arith}
use Rattle.std.specs.Prelude.{slice_get}
use Rattle.std.proofs.lemmas.Bool.{eq-eqb, or_left, or_right}
use Rattle.std.proofs.lemmas.Option.{none-some, same_Some}
use Rattle.std.proofs.lemmas.List.{map-append}
use Rattle.std.proofs.lemmas.List.Elements.{Contains-append_cases}
use Rattle.std.proofs.lemmas.List.Folds.{list_any-append}
use Rattle.std.proofs.lemmas.List.Sums.{fold-append}
use Rattle.std.proofs.Math.Seq.{drop-cons}
use Rattle.std.proofs.lemmas.List.{drop_all}
use Rattle.spl_terms.specs.declared.atom.Atom.{Atom}
use Rattle.spl_terms.specs.declared.clause.Part.{Part}
use Rattle.spl_terms.specs.declared.clause.Part.TheVariants.{Constraint, Antecedent, Succedent}
use Rattle.spl_terms.specs.declared.clause.Spot.{Spot}
use Rattle.spl_terms.specs.declared.clause.Clause.{Clause}
use Rattle.spl_terms.specs.Clauses.{is_same, part_of, replace_in_atom}
use Rattle.spl_terms.specs.InOrder.{IsInOrder}
use Rattle.spl_terms.specs.SameLaws.{same_self}
use Rattle.spl_truth.specs.declared.replace.Subst.{Subst}
use Rattle.spl_truth.specs.Truth.{entry}
use Rattle.spl_truth.specs.Redundancy.{Maps, EachPart, Subsumes}
use Rattle.spl_truth.specs.SubsumptionLaws.{subsumes_itself}
use Rattle.proof_steps.specs.declared.step.Statement.{Statement}
use Rattle.proof_steps.specs.declared.step.Line.{Line}
use Rattle.proof_steps.specs.Spots.{changed_at, with_part}
use Rattle.proof_steps.specs.Steps.{states}
use Rattle.proof_steps.specs.StepLaws.{some_and, Contains-cons_cases}
use Rattle.calculus.specs.declared.kept.Kept.{Kept}
use Rattle.calculus.specs.declared.note.Edit.{Edit}
use Rattle.calculus.specs.declared.note.HideNote.{HideNote}
use Rattle.calculus.specs.declared.note.Why.TheVariants.{Rewritten}
use Rattle.calculus.specs.ReductionLaws.{end_of, IsStatedAs}
use Rattle.calculus.specs.Notes.{reasons_of, edit_once, edited}
use Rattle.subsume.specs.Subsuming.{SubsumesBy}
use Rattle.reductions.specs.Chains.{HasNumber, HasClause, HaveOneClause, AreStatedIn, IsChain, IsNoteOf, rewriting_of, ShrinksOrRewrites, IsEditBy, EditsAlong, edits_nothing, edits_once, AreEditsTo}
use Rattle.reductions.proofs.Chained.{IsFirstLine, first_line, other_lines, one_clause}
use Rattle.reductions.proofs.Members.{among, among_as, among_at}

-- ---- what stands there and what has stood there

-- each atom that stands there is the same as one that has stood there
abbrev IsKept : Clause → Clause → Type 0
IsKept now ever = (part : Part) (k : ℕ) (a : Atom) → slice_get (part_of now part) k ≡ Some a → among a (part_of ever part) ≡ true

among_more : (a : Atom) (xs ys : List Atom) → among a xs ≡ true → among a (xs ++ ys) ≡ true
among_more a xs ys e = list_any-append (is_same a) xs ys ∙ or_left _ _ e

among_last : (a : Atom) (xs : List Atom) → among a (xs ++ a ∷ []) ≡ true
among_last a xs = list_any-append (is_same a) xs (a ∷ []) ∙ or_right (among a xs) _ (among_at a a (a ∷ []) 0 refl (same_self a))

-- an atom of a changed list is the new one, or stood there
changed_or : (xs : List Atom) (k j : ℕ) (a b : Atom) → slice_get (changed_at k (λ c. a) xs) j ≡ Some b → (b ≡ a) ⊎ (slice_get xs j ≡ Some b)
changed_or [] k j a b e = absurd (none-some b e)
changed_or (x ∷ xs) zero zero a b e = inl (sym (same_Some a b e))
changed_or (x ∷ xs) zero (suc j) a b e = inr e
changed_or (x ∷ xs) (suc k) zero a b e = inr e
changed_or (x ∷ xs) (suc k) (suc j) a b e = changed_or xs k j a b e

kept_set : (spot : Spot) (a : Atom) (now ever : Clause) → IsKept now ever → IsKept (with_part (changed_at spot.place (λ b. a)) spot.part now) (with_part (λ atoms. atoms ++ a ∷ []) spot.part ever)
kept_set spot a now ever kept = by_part spot.part
  where
    at_spot : (xs ys : List Atom) → ((k : ℕ) (b : Atom) → slice_get xs k ≡ Some b → among b ys ≡ true) → (k : ℕ) (b : Atom) → slice_get (changed_at spot.place (λ c. a) xs) k ≡ Some b → among b (ys ++ a ∷ []) ≡ true
    at_spot xs ys before k b e = elim (changed_or xs spot.place k a b e) [
      | inl h ↦ subst (λ c. among c (ys ++ a ∷ []) ≡ true) (sym h) (among_last a ys)
      | inr h ↦ among_more b ys (a ∷ []) (before k b h)
    ]

    by_part : (p : Part) → IsKept (with_part (changed_at spot.place (λ b. a)) p now) (with_part (λ atoms. atoms ++ a ∷ []) p ever)
    by_part Constraint Constraint = at_spot now.constraint ever.constraint (kept Constraint)
    by_part Constraint Antecedent = kept Antecedent
    by_part Constraint Succedent = kept Succedent
    by_part Antecedent Constraint = kept Constraint
    by_part Antecedent Antecedent = at_spot now.antecedent ever.antecedent (kept Antecedent)
    by_part Antecedent Succedent = kept Succedent
    by_part Succedent Constraint = kept Constraint
    by_part Succedent Antecedent = kept Antecedent
    by_part Succedent Succedent = at_spot now.succedent ever.succedent (kept Succedent)

-- ---- one line more

pub first_edits : (hidden : ℕ) (listed : List Kept) (e now : Clause) (edits : List Edit) → now ≡ e → edits ≡ [] → AreEditsTo hidden listed e now edits
first_edits hidden listed e now edits e_now e_edits =
    let start : AreEditsTo hidden listed e e [] = record {
      numbers = λ m h. absurd (nothing m h);
      leads = λ earlier there. (e, refl, (λ part k a is. among_at a a (part_of e part) k is (same_self a)));
    } in
    subst (λ l. AreEditsTo hidden listed e now l) (sym e_edits) (subst (λ c. AreEditsTo hidden listed e c []) (sym e_now) start)
  where
    nothing : (m : ℕ) → Contains {X = ℕ} [] m → ⊥
    nothing m (i, h, is) = omega (arith, h)

statement_of : (earlier : List Statement) (listed : List Kept) (m : ℕ) (d : Clause) → AreStatedIn earlier listed → HasClause listed m d → IsStatedAs earlier m d
statement_of earlier listed m d there h = subst (λ k. IsStatedAs earlier k d) h.number (subst (IsStatedAs earlier h.kept.number) h.clause (there h.kept h.among))

module _ (hidden : ℕ) (listed : List Kept) (e : Clause) (l : Line) (before after : Clause) (old new : List Edit) where
  one_more : (m : ℕ) (d : Clause) (edit : Edit) → HasClause listed m d → (m ≡ hidden → ⊥) → IsEditBy m d before after edit → AreEditsTo hidden listed e before old → AreEditsTo hidden listed e after (old ++ edit ∷ [])
  one_more m d edit h other w x = record { numbers = numbers; leads = leads }
    where
      numbers : (k : ℕ) → Contains (map (λ y. y.equation) (old ++ edit ∷ [])) k → HasNumber listed k × (k ≡ hidden → ⊥)
      numbers k c = elim (Contains-append_cases (map (λ y. y.equation) old) (edit.equation ∷ []) k (subst (λ xs. Contains xs k) (map-append (λ (y : Edit). y.equation) old (edit ∷ [])) c)) [
        | inl more ↦ x.numbers k more
        | inr last ↦ elim (Contains-cons_cases edit.equation [] k last) [
          | inl same ↦ (let is : m ≡ k = sym w.number ∙ same in (record { kept = h.kept; among = h.among; number = h.number ∙ is }, (λ q. other (is ∙ q))))
          | inr (i, low, is) ↦ absurd (omega (arith, low))
        ]
      ]

      leads : (earlier : List Statement) → AreStatedIn earlier listed → (ever : Clause) × (edited earlier e (old ++ edit ∷ []) ≡ Some (record { now = after; ever = ever })) × IsKept after ever
      leads earlier there =
          let y = x.leads earlier there in
          let ever : Clause = with_part (λ atoms. atoms ++ w.atom ∷ []) edit.spot.part y.0 in (
            ever,
            fold-append (λ o k. option_and_then (λ z. edit_once earlier z k) o) (Some (record { now = e; ever = e })) old (edit ∷ [])
                ∙ ap (option_and_then (λ z. edit_once earlier z edit)) y.1
                ∙ w.once earlier y.0 (statement_of earlier listed m d there h)
                ∙ (λ i. Some (record { now = sym w.makes i; ever = ever })),
            subst (λ c. IsKept c ever) (sym w.makes) (kept_set edit.spot w.atom before y.0 y.2),
          )

  pub more_edits : ((m : ℕ) (right : Bool) (spot : Spot) (s : Subst) → rewriting_of l.step ≡ Some (m, right, spot, s) → m ≡ hidden → ⊥) → EditsAlong listed l before after old new → AreEditsTo hidden listed e before old → AreEditsTo hidden listed e after new
  more_edits other (edits_nothing none same as_before) x = subst (λ k. AreEditsTo hidden listed e after k) (sym as_before) (subst (λ c. AreEditsTo hidden listed e c old) (sym same) x)
  more_edits other (edits_once m right spot s d edit is h w more) x = subst (AreEditsTo hidden listed e after) (sym more) (one_more m d edit h (other m right spot s is) w x)

-- ---- the note

module _ (number reduct : ℕ) (e end now : Clause) (listed : List Kept) (edits : List Edit) (s : Subst) (apart : reduct ≡ number → ⊥) (x : AreEditsTo number listed e now edits) (by : SubsumesBy end now s.terms) where
  abbrev note : HideNote
  note = record { hidden = number; why = Rewritten reduct s edits }

  maps_ever : (ever : Clause) → IsKept now ever → EachPart (Maps (entry s.terms)) end ever
  maps_ever ever kept part k a is =
      let b = some_and (slice_get (part_of now part) ((by.maps part).place k)) (λ b. is_same (replace_in_atom (entry s.terms) a) b ≡ true) ((by.maps part).same k a is) in
      among_as (replace_in_atom (entry s.terms) a) b.0 (part_of ever part) b.2 (kept part ((by.maps part).place k) b.0 b.1)

  reason_cases : (m : ℕ) → Contains (reasons_of note.why) m → (m ≡ reduct) ⊎ (HasNumber listed m × (m ≡ number → ⊥))
  reason_cases m c = elim (Contains-cons_cases reduct (map (λ y. y.equation) edits) m c) [
    | inl same ↦ inl (sym same)
    | inr more ↦ inr (x.numbers m more)
  ]

  not_hidden : Contains (reasons_of note.why) number → ⊥
  not_hidden c = elim (reason_cases number c) [ inl same ↦ apart (sym same) | inr other ↦ other.1 refl ]

  pub note_of : (lines : List Line) → end ≡ end_of e lines → IsNoteOf number e lines reduct listed note
  note_of lines is = record {
    hides = refl;
    reasons = λ m c. elim (reason_cases m c) [ inl same ↦ inl same | inr other ↦ inr other.0 ];
    justified = λ earlier first last there. (
        let y = x.leads earlier there in record {
          hidden = states e first.0;
          found = first.1;
          others = not_hidden;
          reasoned = record {
            whole = record { now = now; ever = y.0 };
            applied = y.1;
            maps = inl (record { reason = states end last.0; found = last.1 ∙ ap (λ c. Some (states c last.0)) (sym is); entries = eq-eqb _ _ by.as_many; maps = maps_ever y.0 y.2 });
          };
        });
  }

-- ---- after so many lines

-- the clause to which the first lines lead is mapped into the one to which the edits lead, and the other lines are a chain
-- that begins with it
pub record AreLed (number : ℕ) (target : Clause) (reducts : List Line) (listed : List Kept) (i : ℕ) (current now : Clause) (edits : List Edit) : Type 0 where
  pub place : ℕ
  pub chain : IsChain number listed place current (drop i reducts)
  pub ends : end_of current (drop i reducts) ≡ end_of target reducts
  pub ordered : IsInOrder current
  pub maps : Subsumes current now
  pub along : AreEditsTo number listed target now edits

pub led_first : (number : ℕ) (target : Clause) (reducts : List Line) (listed : List Kept) (now : Clause) (edits : List Edit) → IsInOrder target → IsChain number listed number target reducts → now ≡ target → edits ≡ [] → AreLed number target reducts listed 0 target now edits
led_first number target reducts listed now edits o chain e_now e_edits = record {
  place = number;
  chain = chain;
  ends = refl;
  ordered = o;
  maps = subst (Subsumes target) (sym e_now) (subsumes_itself target);
  along = first_edits number listed target now edits e_now e_edits;
}

module _ (number : ℕ) (target : Clause) (reducts : List Line) (listed : List Kept) (i : ℕ) (current now : Clause) (edits : List Edit) (x : AreLed number target reducts listed i current now edits) where
  pub still_one_clause : HaveOneClause listed
  still_one_clause = one_clause x.chain.earlier listed x.chain.others

  module _ (l : Line) (low : i < length reducts) (is : l ≡ get_or reducts i l) where
    rest : drop i reducts ≡ l ∷ drop (suc i) reducts
    rest = drop-cons reducts i l low ∙ ap (λ y. y ∷ drop (suc i) reducts) (sym is)

    chain_here : IsChain number listed x.place current (l ∷ drop (suc i) reducts)
    chain_here = subst (IsChain number listed x.place current) rest x.chain

    line_here : IsFirstLine number listed current l
    line_here = first_line number listed x.place current l (drop (suc i) reducts) chain_here

    pub line_does : ShrinksOrRewrites listed current l
    line_does = line_here.does

    pub led_on : (after : Clause) (more : List Edit) → EditsAlong listed l now after edits more → Subsumes l.stated.clause after → AreLed number target reducts listed (i + 1) l.stated.clause after more
    led_on after more done maps = subst (λ k. AreLed number target reducts listed k l.stated.clause after more) one_on (record {
      place = suc (length chain_here.earlier);
      chain = other_lines number listed x.place current l (drop (suc i) reducts) chain_here;
      ends = ap (end_of current) (sym rest) ∙ x.ends;
      ordered = line_here.ordered;
      maps = maps;
      along = more_edits number listed target l now after edits more line_here.other done x.along;
    })
      where
        one_on : suc i ≡ i + 1
        one_on = omega arith

  pub led_last : length reducts ≤ i → current ≡ end_of target reducts
  led_last past = sym (ap (end_of current) (drop_all i reducts past)) ∙ x.ends
