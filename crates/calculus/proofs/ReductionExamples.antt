-- Subsumption, reductions, coverage and notes on small clauses.
use Rattle.std.proofs.Common.{◌≡◌, ◌⊎◌, inl, inr, ℕ, zero, suc, ◌<◌, true, false, List, [], ◌∷◌, length, refl, sym, ap, ◌∙◌, subst, arith}
use Rattle.std.specs.Prelude.{Some, None, slice_get, IsSomeAnd, Contains}
use Rattle.std.specs.List.{list_any}
use Rattle.std.proofs.lemmas.Bool.{false≢true}
use Rattle.spl_terms.specs.declared.term.Term.{Term}
use Rattle.spl_terms.specs.declared.atom.Atom.{Atom}
use Rattle.spl_terms.specs.declared.atom.Atom.TheVariants.{Equal}
use Rattle.spl_terms.specs.declared.clause.Part.TheVariants.{Constraint, Antecedent, Succedent}
use Rattle.spl_terms.specs.declared.clause.Spot.{Spot}
use Rattle.spl_terms.specs.declared.clause.Clause.{Clause}
use Rattle.spl_terms.specs.Clauses.{is_same, replace_in_atom, atoms_of, in_order}
use Rattle.spl_truth.specs.Truth.{entry, apply}
use Rattle.spl_truth.specs.Unifiers.{occurs}
use Rattle.proof_steps.specs.declared.step.Rule.TheVariants.{Resolve, Factor, Paramodulate}
use Rattle.proof_steps.specs.declared.step.Statement.{Statement}
use Rattle.proof_steps.specs.declared.step.Line.{Line}
use Rattle.proof_steps.specs.Steps.{states, numbered}
use Rattle.spl_truth.specs.Redundancy.{Maps, MapsApart, EachPart, Subsumes}
use Rattle.calculus.specs.Reductions.{unchanged, IsCondensation, ReducesBy, AreReductions, before_arrow}
use Rattle.calculus.specs.Coverage.{Covered, reduced}
use Rattle.calculus.specs.declared.note.Edit.{Edit}
use Rattle.calculus.specs.declared.note.HideNote.{HideNote}
use Rattle.calculus.specs.declared.note.Why.TheVariants.{Rewritten}
use Rattle.calculus.specs.Notes.{edited, IsJustified}
use Rattle.calculus.proofs.Words.{computes, function, predicate, x, y, clause, by, line}
use Rattle.calculus.specs.CoverageLaws.{among-covered}
use Rattle.calculus.specs.ReductionLaws.{IsStatedAs, chain-covered}

-- nothing is mapped into anything
nothing_maps : (h : ℕ → Term) (into : List Atom) → MapsApart h [] into
nothing_maps h into = record { place = λ k. k; same = λ k d e. cc; apart = λ k l m n e. e }

-- one atom is mapped to the one at this place
one_maps : (h : ℕ → Term) (d : Atom) (into : List Atom) (n : ℕ) → IsSomeAnd (slice_get into n) (λ e. is_same (replace_in_atom h d) e ≡ true) → MapsApart h (d ∷ []) into
one_maps h d into n there = record { place = λ k. n; same = same; apart = λ k l m n e. omega arith }
  where
    same : (k : ℕ) (e : Atom) → slice_get (d ∷ []) k ≡ Some e → IsSomeAnd (slice_get into n) (λ c. is_same (replace_in_atom h e) c ≡ true)
    same zero e is = (let same : d ≡ e = cc in rw same at there)
    same (suc k) e is = absurd (cc)

-- ---- subsumption: P(x) -> subsumes P(a) -> Q(b), with a for x

abbrev a : Term
a = function 0 []

abbrev b : Term
b = function 1 []

abbrev p : Term → Atom
p t = predicate 3 (t ∷ [])

abbrev q : Term → Atom
q t = predicate 4 (t ∷ [])

abbrev general : Clause
general = clause [] (p x ∷ []) []

abbrev special : Clause
special = clause [] (p a ∷ []) (q b ∷ [])

p_becomes : is_same (replace_in_atom (entry (a ∷ [])) (p x)) (p a) ≡ true
p_becomes = simp computes

general_maps : EachPart (MapsApart (entry (a ∷ []))) general special
general_maps Constraint = nothing_maps (entry (a ∷ [])) []
general_maps Antecedent = one_maps (entry (a ∷ [])) (p x) (p a ∷ []) 0 p_becomes
general_maps Succedent = nothing_maps (entry (a ∷ [])) (q b ∷ [])

pub example_subsumes : Subsumes general special
example_subsumes = record { by = entry (a ∷ []); each = general_maps }

-- the other way there is no place for the succedent
pub example_no_subsumption : Subsumes special general → ⊥
example_no_subsumption h = (h.each Succedent).same 0 (q b) refl

-- R(x, y), R(y, x) doesn't subsume R(x, x): one place is too few
abbrev r : Term → Term → Atom
r s t = predicate 5 (s ∷ t ∷ [])

only_place : (P : Atom → Type 0) (d : Atom) (n : ℕ) → IsSomeAnd (slice_get (d ∷ []) n) P → n ≡ 0
only_place P d zero h = refl
only_place P d (suc n) h = absurd h

pub example_places : Subsumes (clause [] [] (r x y ∷ r y x ∷ [])) (clause [] [] (r x x ∷ [])) → ⊥
example_places h =
    let maps = h.each Succedent in
    let first : maps.place 0 ≡ 0 = only_place _ (r x x) (maps.place 0) (maps.same 0 (r x y) refl) in
    let second : maps.place 1 ≡ 0 = only_place _ (r x x) (maps.place 1) (maps.same 1 (r y x) refl) in
    let bad : ◌≡◌ {A = ℕ} 0 1 = maps.apart 0 1 (omega arith) (omega arith) (first ∙ sym second) in
    omega arith

-- ---- condensation: P(x) or P(a), with a for x

abbrev loose : Clause
loose = clause [] [] (p x ∷ p a ∷ [])

condensed : in_order (apply (a ∷ []) loose) ≡ clause [] [] (p a ∷ [])
condensed = simp computes

a_stays : is_same (replace_in_atom (entry []) (p a)) (p a) ≡ true
a_stays = simp computes

condensed_maps : EachPart (MapsApart (entry [])) (clause [] [] (p a ∷ [])) loose
condensed_maps Constraint = nothing_maps (entry []) []
condensed_maps Antecedent = nothing_maps (entry []) []
condensed_maps Succedent = one_maps (entry []) (p a) (p x ∷ p a ∷ []) 1 a_stays

fewer_atoms : length (atoms_of (clause [] [] (p a ∷ []))) < length (atoms_of loose)
fewer_atoms = omega arith

pub example_condensation : IsCondensation 7 loose (record { rule = Factor (by (a ∷ [])); parents = 7 ∷ [] })
example_condensation = record {
  s = by (a ∷ []);
  step = refl;
  fewer = subst (λ d. length (atoms_of d) < length (atoms_of loose)) (sym condensed) fewer_atoms;
  subsumes = (let small : Subsumes (clause [] [] (p a ∷ [])) loose = record { by = entry []; each = condensed_maps } in subst (λ d. Subsumes d loose) (sym condensed) small);
}

-- ---- coverage by two reduction steps: P(b) -> Q(b), where a = b, P(a) and Q(b) are listed

abbrev equation : Clause
equation = clause [] [] (Equal a b ∷ [])

abbrev p_holds : Clause
p_holds = clause [] [] (p a ∷ [])

abbrev q_holds : Clause
q_holds = clause [] [] (q b ∷ [])

abbrev Listed : Clause → Type 0
Listed c = (c ≡ equation) ⊎ (c ≡ p_holds) ⊎ (c ≡ q_holds)

abbrev first_clause : Clause
first_clause = clause [] (p b ∷ []) (q b ∷ [])

abbrev second_clause : Clause
second_clause = clause [] (p a ∷ []) (q b ∷ [])

not_one : ◌≡◌ {A = ℕ} 2 1 → ⊥
not_one e = omega arith

no_variable : (v : ℕ) → occurs v a ≡ true → occurs v b ≡ true
no_variable v e = let none : occurs v a ≡ false = simp computes in absurd (false≢true (sym none ∙ e))

abbrev spot : Spot
spot = record { part = Antecedent; place = 0; path = 0 ∷ [] }

unchanged_first : (unchanged first_clause).terms ≡ []
unchanged_first = simp computes

unchanged_second : (unchanged second_clause).terms ≡ []
unchanged_second = simp computes

-- b is greater than a, so the equation rewrites b to a
rewrites : ReducesBy equation first_clause second_clause
rewrites = record {
  step = record { rule = Paramodulate 0 true spot (by []) (by []); parents = 2 ∷ 1 ∷ [] };
  reduces = (
    not_one,
    inl (record {
      equation = Equal a b;
      alone = refl;
      right = true;
      left_side = b;
      right_side = a;
      sides = refl;
      bound = no_variable;
      s = by [];
      falls = simp computes;
      spot = spot;
      step = ap (λ (s : List Term). record { rule = Paramodulate 0 true spot (by []) (by s); parents = 2 ∷ 1 ∷ [] }) (sym unchanged_first);
    }),
  );
  gives = simp computes;
}

-- P(a) resolves the antecedent away
replaces : ReducesBy p_holds second_clause q_holds
replaces = record {
  step = record { rule = Resolve 0 Antecedent 0 (by []) (by []); parents = 2 ∷ 1 ∷ [] };
  reduces = (not_one, inr (before_arrow Antecedent 0 (by []) refl (ap (λ (s : List Term). record { rule = Resolve 0 Antecedent 0 (by []) (by s); parents = 2 ∷ 1 ∷ [] }) (sym unchanged_second))));
  gives = simp computes;
}

pub example_covered : Covered Listed first_clause
example_covered = reduced (inl (record { by = equation; among = inl refl; reduces = rewrites })) (reduced (inl (record { by = p_holds; among = inr (inl refl); reduces = replaces })) (among-covered q_holds (inr (inr refl))))

-- the same as a chain of lines: clause 1 is reduced by clause 2 to line 5, and that by clause 3 to line 6
abbrev earlier : List Statement
earlier = states first_clause [] ∷ states equation [] ∷ states p_holds [] ∷ states q_holds [] ∷ []

abbrev line_5 : Line
line_5 = line (Paramodulate 0 true spot (by []) (by [])) (2 ∷ 1 ∷ []) second_clause

abbrev line_6 : Line
line_6 = line (Resolve 0 Antecedent 0 (by []) (by [])) (3 ∷ 5 ∷ []) q_holds

abbrev Reduces : ℕ → Clause → Type 0
Reduces m d = ((m ≡ 2) × (d ≡ equation)) ⊎ ((m ≡ 3) × (d ≡ p_holds))

not_five : ◌≡◌ {A = ℕ} 3 5 → ⊥
not_five e = omega arith

pub example_chain : AreReductions Reduces 5 1 first_clause (line_5 ∷ line_6 ∷ [])
unfolding rewrites
example_chain = (
  inl (record { number = 2; by = equation; among = inl (refl, refl); reduces = rewrites.reduces }),
  (
    inl (record { number = 3; by = p_holds; among = inr (refl, refl); reduces = (not_five, inr (before_arrow Antecedent 0 (by []) refl (ap (λ (s : List Term). record { rule = Resolve 0 Antecedent 0 (by []) (by s); parents = 3 ∷ 5 ∷ [] }) (sym unchanged_second)))) }),
    tt,
  ),
)

known : (m : ℕ) (d : Clause) → Reduces m d → IsStatedAs earlier m d × Listed d
known m d (inl h) = (([], (λ i. numbered earlier (h.0 i)) ∙ ap (λ x. Some (states x [])) (sym h.1)), inl h.1)
known m d (inr h) = (([], (λ i. numbered earlier (h.0 i)) ∙ ap (λ x. Some (states x [])) (sym h.1)), inr (inl h.1))

pub example_chain_covered : Covered Listed first_clause
example_chain_covered = chain-covered Reduces [] earlier 1 first_clause (line_5 ∷ line_6 ∷ []) known ([], refl) example_chain (simp computes, (simp computes, tt)) (among-covered q_holds (inr (inr refl)))

-- ---- notes

abbrev c : Term
c = function 2 []

-- P(b) is hidden: a = b, read from right to left, makes P(a) of it
abbrev ledger : List Statement
ledger = states (clause [] [] (Equal a b ∷ q c ∷ [])) [] ∷ states (clause [] [] (p b ∷ [])) [] ∷ states equation [] ∷ states (clause [] [] (q c ∷ [])) [] ∷ states (clause [] (Equal a b ∷ []) []) [] ∷ states p_holds [] ∷ []

abbrev edit : Edit
edit = record { equation = 3; subst = by []; right_to_left = true; spot = record { part = Succedent; place = 0; path = 0 ∷ [] } }

abbrev note : HideNote
note = record { hidden = 2; why = Rewritten 6 (by []) (edit ∷ []) }

edits_apply : edited ledger (clause [] [] (p b ∷ [])) (edit ∷ []) ≡ Some (record { now = p_holds; ever = clause [] [] (p b ∷ p a ∷ []) })
edits_apply = simp computes

a_there : list_any (is_same (replace_in_atom (entry []) (p a))) (p b ∷ p a ∷ []) ≡ true
a_there = simp computes

reduct_maps : EachPart (Maps (entry [])) p_holds (clause [] [] (p b ∷ p a ∷ []))
reduct_maps Constraint k d e = absurd (cc)
reduct_maps Antecedent k d e = absurd (cc)
reduct_maps Succedent zero d e = (let same : p a ≡ d = cc in subst (λ c. list_any (is_same (replace_in_atom (entry []) c)) (p b ∷ p a ∷ []) ≡ true) same a_there)
reduct_maps Succedent (suc k) d e = absurd (cc)

no_reason : Contains {X = ℕ} (6 ∷ 3 ∷ []) 2 → ⊥
no_reason (zero, h, e) = omega arith
no_reason (suc zero, h, e) = omega arith
no_reason (suc (suc k), h, e) = omega (arith, h)

pub example_note : IsJustified note ledger
example_note = record {
  hidden = states (clause [] [] (p b ∷ [])) [];
  found = refl;
  others = no_reason;
  reasoned = record { whole = record { now = p_holds; ever = clause [] [] (p b ∷ p a ∷ []) }; applied = edits_apply; maps = inl (record { reason = states p_holds []; found = refl; entries = simp computes; maps = reduct_maps }) };
}

-- P(b) -> P(a) is hidden: its antecedent becomes P(a), so what has stood there is a tautology, and the equation is enough
abbrev odd_ledger : List Statement
odd_ledger = states (clause [] (p b ∷ []) (p a ∷ [])) [] ∷ states equation [] ∷ []

abbrev odd_edit : Edit
odd_edit = record { equation = 2; subst = by []; right_to_left = true; spot = spot }

odd_applies : edited odd_ledger (clause [] (p b ∷ []) (p a ∷ [])) (odd_edit ∷ []) ≡ Some (record { now = clause [] (p a ∷ []) (p a ∷ []); ever = clause [] (p b ∷ p a ∷ []) (p a ∷ []) })
odd_applies = simp computes

no_odd_reason : Contains {X = ℕ} (2 ∷ 2 ∷ []) 1 → ⊥
no_odd_reason (zero, h, e) = omega arith
no_odd_reason (suc zero, h, e) = omega arith
no_odd_reason (suc (suc k), h, e) = omega (arith, h)

pub example_first_equation : IsJustified (record { hidden = 1; why = Rewritten 2 (by []) (odd_edit ∷ []) }) odd_ledger
example_first_equation = record {
  hidden = states (clause [] (p b ∷ []) (p a ∷ [])) [];
  found = refl;
  others = no_odd_reason;
  reasoned = record { whole = record { now = clause [] (p a ∷ []) (p a ∷ []); ever = clause [] (p b ∷ p a ∷ []) (p a ∷ []) }; applied = odd_applies; maps = inr (refl, simp computes) };
}

-- Q(c) is hidden by two edits at one place, where c = b and b = a: the second one finds what the first one left there
abbrev twice_ledger : List Statement
twice_ledger = states (clause [] [] (q c ∷ [])) [] ∷ states (clause [] [] (Equal c b ∷ [])) [] ∷ states (clause [] [] (Equal b a ∷ [])) [] ∷ states (clause [] [] (q a ∷ [])) [] ∷ []

abbrev edit_of : ℕ → Edit
edit_of equation = record { equation = equation; subst = by []; right_to_left = false; spot = record { part = Succedent; place = 0; path = 0 ∷ [] } }

twice_applies : edited twice_ledger (clause [] [] (q c ∷ [])) (edit_of 2 ∷ edit_of 3 ∷ []) ≡ Some (record { now = clause [] [] (q a ∷ []); ever = clause [] [] (q c ∷ q b ∷ q a ∷ []) })
twice_applies = simp computes

-- in the other order the first edit finds nothing to rewrite
pub example_edits_exchanged : edited twice_ledger (clause [] [] (q c ∷ [])) (edit_of 3 ∷ edit_of 2 ∷ []) ≡ None
example_edits_exchanged = simp computes

q_there : list_any (is_same (replace_in_atom (entry []) (q a))) (q c ∷ q b ∷ q a ∷ []) ≡ true
q_there = simp computes

twice_maps : EachPart (Maps (entry [])) (clause [] [] (q a ∷ [])) (clause [] [] (q c ∷ q b ∷ q a ∷ []))
twice_maps Constraint k d e = absurd (cc)
twice_maps Antecedent k d e = absurd (cc)
twice_maps Succedent zero d e = (let same : q a ≡ d = cc in subst (λ x. list_any (is_same (replace_in_atom (entry []) x)) (q c ∷ q b ∷ q a ∷ []) ≡ true) same q_there)
twice_maps Succedent (suc k) d e = absurd (cc)

no_twice_reason : Contains {X = ℕ} (4 ∷ 2 ∷ 3 ∷ []) 1 → ⊥
no_twice_reason (zero, h, e) = omega arith
no_twice_reason (suc zero, h, e) = omega arith
no_twice_reason (suc (suc zero), h, e) = omega arith
no_twice_reason (suc (suc (suc k)), h, e) = omega (arith, h)

pub example_two_edits : IsJustified (record { hidden = 1; why = Rewritten 4 (by []) (edit_of 2 ∷ edit_of 3 ∷ []) }) twice_ledger
example_two_edits = record {
  hidden = states (clause [] [] (q c ∷ [])) [];
  found = refl;
  others = no_twice_reason;
  reasoned = record {
    whole = record { now = clause [] [] (q a ∷ []); ever = clause [] [] (q c ∷ q b ∷ q a ∷ []) };
    applied = twice_applies;
    maps = inl (record { reason = states (clause [] [] (q a ∷ [])) []; found = refl; entries = simp computes; maps = twice_maps });
  };
}
