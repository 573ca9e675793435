-- What the lines of reduction steps state.
use Rattle.std.proofs.Common.{◌≡◌, inl, inr, ℕ, zero, suc, ◌+◌, ◌<◌, ◌≤◌, nat_lt, cond, not, arith, get_or, Bool, true, false, if◌then◌else◌, List, [], ◌∷◌, length, Option, Some, None, refl, sym, ap, subst, ◌∙◌}
use Rattle.std.specs.Prelude.{option_map, option_and_then, slice_get, MatchOption}
use Rattle.std.specs.List.{position, position_or_len}
use Rattle.std.proofs.lemmas.List.Quantifiers.{position-Some}
use Rattle.std.proofs.lemmas.Option.{slice_get-get_or}
use Rattle.std.proofs.lemmas.Bool.{eq-eqb, ltb-false}
use Rattle.spl_terms.specs.declared.term.Term.{Term, Var}
use Rattle.spl_terms.specs.declared.atom.Atom.{Atom}
use Rattle.spl_terms.specs.declared.clause.Part.TheVariants.{Antecedent}
use Rattle.spl_terms.specs.declared.clause.Clause.{Clause}
use Rattle.spl_terms.specs.Clauses.{at_lists, atoms_of, distinct, in_order, renumbered, replace_in}
use Rattle.spl_terms.specs.InOrder.{IsInOrder, variables}
use Rattle.spl_terms.specs.InOrderLaws.{different-distinct, distinct-different, in_order-IsInOrder, replace_in-itself}
use Rattle.spl_truth.specs.declared.replace.Subst.{Subst}
use Rattle.spl_truth.specs.Truth.{entry, apply}
use Rattle.spl_truth.specs.EntryLaws.{length-entries_below, entry-entries_below}
use Rattle.spl_truth.specs.Redundancy.{has_equal_sides, Subsumes}
use Rattle.dep_sets.specs.declared.deps.Assumption.{Assumption}
use Rattle.proof_steps.specs.declared.step.Statement.{Statement}
use Rattle.proof_steps.specs.declared.step.Line.{Line}
use Rattle.proof_steps.specs.declared.step.Rule.TheVariants.{Factor, Reflex}
use Rattle.proof_steps.specs.Steps.{when, has_entries, without, states, of_one, from_one, factored, reflexed, reflection, conclude}
use Rattle.calculus.specs.Reductions.{unchanged}
use Rattle.reductions.specs.Folding.{FoldsSomewhere}
use Rattle.reductions.proofs.Folded.{folded_fewer, folded_subsumes}
use Rattle.reductions.specs.Lines.{IsOwnReductionLine, HasNoOwnReduction, HasNoTrivialEquation, IsCondensed}

-- ---- answers that may be none

pub given_some : {X : Type 0} (N : Type 0) (S : X → Type 0) (o : Option X) (x : X) → o ≡ Some x → MatchOption o N S → S x
given_some N S o x e h = subst (λ o. MatchOption o N S) e h

pub given_none : {X : Type 0} (N : Type 0) (S : X → Type 0) (o : Option X) → o ≡ None → MatchOption o N S → N
given_none N S o e h = subst (λ o. MatchOption o N S) e h

-- ---- a clause that is left as it is

pub unchanged_entries : (e : Clause) → has_entries (unchanged e).terms e ≡ true
unchanged_entries e = eq-eqb _ _ (length-entries_below (variables e) Var)

pub unchanged_applied : (e : Clause) → apply (unchanged e).terms e ≡ e
unchanged_applied e = ap (λ (h : ℕ → Term). replace_in h e) (entry-entries_below (variables e) Var (λ v h. refl)) ∙ replace_in-itself e

-- ---- trivial equations

pub reflection_unchanged : (j : ℕ) (e : Clause) → reflection j (unchanged e).terms e ≡ reflexed j e
reflection_unchanged j e = (λ i. if unchanged_entries e i then reflexed j (unchanged_applied e i) else None)

pub reflexed_at : (j : ℕ) (e : Clause) (a : Atom) → slice_get e.antecedent j ≡ Some a → has_equal_sides a ≡ true → reflexed j e ≡ Some (in_order (without Antecedent j e))
reflexed_at j e a is equal = (λ i. option_and_then (λ b. when (has_equal_sides b) (in_order (without Antecedent j e))) (is i)) ∙ ap (λ t. when t (in_order (without Antecedent j e))) equal

pub reflexed_nowhere : (j : ℕ) (e : Clause) → ((a : Atom) → slice_get e.antecedent j ≡ Some a → has_equal_sides a ≡ false) → reflexed j e ≡ None
reflexed_nowhere j e h = by_option (slice_get e.antecedent j) refl
  where
    by_option : (o : Option Atom) → slice_get e.antecedent j ≡ o → option_and_then (λ b. when (has_equal_sides b) (in_order (without Antecedent j e))) o ≡ None
    by_option None is = refl
    by_option (Some a) is = ap (λ t. when t (in_order (without Antecedent j e))) (h a is)

pub trivial_line : (n : ℕ) (target : Statement) (j : ℕ) (a : Atom) → slice_get target.clause.antecedent j ≡ Some a → has_equal_sides a ≡ true → IsOwnReductionLine n target (record { step = record { rule = Reflex j (unchanged target.clause); parents = n ∷ [] }; stated = states (in_order (without Antecedent j target.clause)) target.deps })
trivial_line n target j a is equal = record {
  reduces = inr (record { j = j; step = refl });
  concludes = λ input earlier here. ap (of_one (from_one (reflection j (unchanged target.clause).terms))) here ∙ ap (option_map (λ c. states c target.deps)) (reflection_unchanged j target.clause ∙ reflexed_at j target.clause a is equal);
  ordered = in_order-IsInOrder (without Antecedent j target.clause);
}

no_position : (p : Atom → Bool) (xs : List Atom) → length xs ≤ position_or_len p xs → (k : ℕ) (a : Atom) → slice_get xs k ≡ Some a → p a ≡ false
no_position p [] low k a is = absurd (cc)
no_position p (x ∷ xs) low k a is = by_test (p x) refl low (no_position p xs)
  where
    by_test : (t : Bool) → p x ≡ t → length (x ∷ xs) ≤ cond (not t) (1 + position_or_len p xs) 0 → (length xs ≤ position_or_len p xs → (k : ℕ) (a : Atom) → slice_get xs k ≡ Some a → p a ≡ false) → p a ≡ false
    by_test true e low rest = absurd (omega (arith, low))
    by_test false e low rest = at k is
      where
        at : (k : ℕ) → slice_get (x ∷ xs) k ≡ Some a → p a ≡ false
        at zero is = (let same : x ≡ a = cc in ap p (sym same) ∙ e)
        at (suc k) is = rest (omega (arith, low)) k a is

pub no_trivial : (e : Clause) (xs : List Atom) → xs ≡ e.antecedent → position has_equal_sides xs ≡ None → HasNoTrivialEquation e
no_trivial e xs same none j = reflexed_nowhere j e (λ a is. no_position has_equal_sides xs past j a (ap (λ l. slice_get l j) same ∙ is))
  where
    by_test : (t : Bool) → nat_lt (position_or_len has_equal_sides xs) (length xs) ≡ t → cond t (Some (position_or_len has_equal_sides xs)) None ≡ None → length xs ≤ position_or_len has_equal_sides xs
    by_test true e h = absurd (cc)
    by_test false e h = ltb-false _ _ e

    past : length xs ≤ position_or_len has_equal_sides xs
    past = by_test (nat_lt (position_or_len has_equal_sides xs) (length xs)) refl none

pub trivial_made : (n : ℕ) (target : Statement) (xs : List Atom) (place : ℕ) (copied left clause : Clause) (deps : List Assumption) (s : Subst) (l : Line) → xs ≡ target.clause.antecedent → position has_equal_sides xs ≡ Some place → copied ≡ target.clause → left ≡ without Antecedent place copied → clause ≡ in_order left → deps ≡ target.deps → s ≡ unchanged target.clause → l ≡ record { step = record { rule = Reflex place s; parents = n ∷ [] }; stated = states clause deps } → IsOwnReductionLine n target l
trivial_made n target xs place copied left clause deps s l same found e_copied e_left e_clause e_deps e_s e =
    let whole : l ≡ record { step = record { rule = Reflex place (unchanged target.clause); parents = n ∷ [] }; stated = states (in_order (without Antecedent place target.clause)) target.deps } =
    e ∙ (λ i. record { step = record { rule = Reflex place (e_s i); parents = n ∷ [] }; stated = states ((e_clause ∙ ap in_order (e_left ∙ ap (without Antecedent place) e_copied)) i) (e_deps i) }) in
    subst (IsOwnReductionLine n target) (sym whole) (at xs same found)
  where
    at : (xs : List Atom) → xs ≡ target.clause.antecedent → position has_equal_sides xs ≡ Some place → IsOwnReductionLine n target (record { step = record { rule = Reflex place (unchanged target.clause); parents = n ∷ [] }; stated = states (in_order (without Antecedent place target.clause)) target.deps })
    at [] same found = absurd (cc)
    at (x ∷ xs) same found =
        let p = position-Some has_equal_sides (x ∷ xs) place x found in
        trivial_line n target place (get_or (x ∷ xs) place x) (ap (λ l. slice_get l place) (sym same) ∙ slice_get-get_or (x ∷ xs) place x p.0) p.1

-- ---- condensation

pub condensing_line : (n : ℕ) (target : Statement) (s : Subst) → has_entries s.terms target.clause ≡ true → length (atoms_of (in_order (apply s.terms target.clause))) < length (atoms_of target.clause) → Subsumes (in_order (apply s.terms target.clause)) target.clause → IsOwnReductionLine n target (record { step = record { rule = Factor s; parents = n ∷ [] }; stated = states (in_order (apply s.terms target.clause)) target.deps })
condensing_line n target s entries fewer sub = record {
  reduces = inl (record { s = s; step = refl; fewer = fewer; subsumes = sub });
  concludes = λ input earlier here. ap (of_one (from_one (factored s.terms))) here ∙ ap (option_map (λ c. states c target.deps)) (ap (λ t. if t then Some (in_order (apply s.terms target.clause)) else None) entries);
  ordered = in_order-IsInOrder (apply s.terms target.clause);
}

repeats_dropped : (c : Clause) → in_order (at_lists distinct c) ≡ in_order c
repeats_dropped c =
    let x = different-distinct (distinct c.constraint) (distinct-different c.constraint) in
    let y = different-distinct (distinct c.antecedent) (distinct-different c.antecedent) in
    let z = different-distinct (distinct c.succedent) (distinct-different c.succedent) in
    λ i. renumbered (record { constraint = x i; antecedent = y i; succedent = z i })

pub condensing_made : (n : ℕ) (target : Statement) (s : Subst) (made clause : Clause) (deps : List Assumption) (l : Line) → IsInOrder target.clause → (length s.terms ≡ variables target.clause) × FoldsSomewhere (entry s.terms) target.clause → made ≡ at_lists distinct (apply s.terms target.clause) → clause ≡ in_order made → deps ≡ target.deps → l ≡ record { step = record { rule = Factor s; parents = n ∷ [] }; stated = states clause deps } → IsOwnReductionLine n target l
condensing_made n target s made clause deps l o (as_many, (part, place, f)) e_made e_clause e_deps e =
    let whole : l ≡ record { step = record { rule = Factor s; parents = n ∷ [] }; stated = states (in_order (apply s.terms target.clause)) target.deps } =
    e ∙ (λ i. record { step = record { rule = Factor s; parents = n ∷ [] }; stated = states ((e_clause ∙ ap in_order e_made ∙ repeats_dropped (apply s.terms target.clause)) i) (e_deps i) }) in
    subst (IsOwnReductionLine n target) (sym whole)
    (condensing_line n target s (eq-eqb _ _ as_many) (folded_fewer target.clause o s.terms part place f) (folded_subsumes target.clause o s.terms part place f))

-- ---- neither

concluded_some : {A : Type 0} (o : Option Clause) (xs : List Assumption) (s : Statement) → option_map (λ c. states c xs) o ≡ Some s → o ≡ None → A
concluded_some None xs s e none = absurd (cc)
concluded_some (Some c) xs s e none = absurd (cc)

pub neither : (e : Clause) → HasNoTrivialEquation e → IsCondensed e → HasNoOwnReduction e
neither e no_trivial condensed e' r = elim r.reduces [
  | inl w ↦ (
      let g : of_one (from_one (factored w.s.terms)) (Some (states e [])) ≡ Some (states e' []) = ap (conclude [] (states e [] ∷ [])) (sym w.step) ∙ r.gives in
      by_test w.s.terms (has_entries w.s.terms e) refl w.fewer w.subsumes g
      )
  | inr w ↦ (
      let g : of_one (from_one (reflection w.j (unchanged e).terms)) (Some (states e [])) ≡ Some (states e' []) = ap (conclude [] (states e [] ∷ [])) (sym w.step) ∙ r.gives in
      concluded_some (reflection w.j (unchanged e).terms e) [] (states e' []) g (reflection_unchanged w.j e ∙ no_trivial w.j)
      )
]
  where
    by_test : (s : List Term) (b : Bool) → has_entries s e ≡ b → length (atoms_of (in_order (apply s e))) < length (atoms_of e) → Subsumes (in_order (apply s e)) e → option_map (λ c. states c []) (if has_entries s e then Some (in_order (apply s e)) else None) ≡ Some (states e' []) → ⊥
    by_test s true is fewer sub g = condensed s is fewer sub
    by_test s false is fewer sub g = concluded_some (if has_entries s e then Some (in_order (apply s e)) else None) [] (states e' []) g (ap (λ t. if t then Some (in_order (apply s e)) else None) is)

pub own_answer : (n : ℕ) (target : Statement) (made : Option Line) → HasNoTrivialEquation target.clause → MatchOption made (IsCondensed target.clause) (IsOwnReductionLine n target) → MatchOption made (HasNoOwnReduction target.clause) (IsOwnReductionLine n target)
own_answer n target None no_equation h = neither target.clause no_equation h
own_answer n target (Some l) no_equation h = h
