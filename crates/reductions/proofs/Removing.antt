-- Resolution by a clause of one atom: what is left, where the atom is there, and nothing, where it isn't.
use Rattle.std.proofs.Common.{◌≡◌, ◌⊎◌, inl, inr, ℕ, ◌<◌, Bool, true, false, ◌&&◌, if◌then◌else◌, List, [], ◌∷◌, length, Option, Some, None, refl, sym, ap, subst, ◌∙◌, append-nil}
use Rattle.std.specs.Prelude.{slice_get, option_map, MatchOption, IsSomeAnd}
use Rattle.std.specs.List.{list_any}
use Rattle.std.proofs.lemmas.Bool.{eq-eqb}
use Rattle.std.proofs.Math.Bool.{and-false}
use Rattle.std.proofs.lemmas.Option.{slice_get_within}
use Rattle.spl_terms.specs.declared.term.Term.{Term}
use Rattle.spl_terms.specs.declared.atom.Atom.{Atom}
use Rattle.spl_terms.specs.declared.clause.Part.{Part}
use Rattle.spl_terms.specs.declared.clause.Part.TheVariants.{Constraint, Antecedent, Succedent}
use Rattle.spl_terms.specs.declared.clause.Clause.{Clause}
use Rattle.spl_terms.specs.Clauses.{atom_terms, atoms_of, in_order, is_same, part_of, replace_in_atom}
use Rattle.spl_terms.specs.InOrder.{IsInOrder, variables}
use Rattle.spl_terms.specs.InOrderLaws.{in_order-IsInOrder}
use Rattle.spl_terms.specs.SameLaws.{same_turned}
use Rattle.spl_truth.specs.declared.replace.Subst.{Subst}
use Rattle.spl_truth.specs.Truth.{entry, apply}
use Rattle.spl_truth.specs.Unifiers.{HaveVariablesBelow}
use Rattle.dep_sets.specs.declared.deps.Assumption.{Assumption}
use Rattle.dep_sets.specs.Assumptions.{united}
use Rattle.proof_steps.specs.declared.step.Statement.{Statement}
use Rattle.proof_steps.specs.declared.step.Line.{Line}
use Rattle.proof_steps.specs.declared.step.Rule.TheVariants.{Resolve}
use Rattle.proof_steps.specs.Steps.{when, has_entries, without, joined, is_negative, both_same, may_resolve, resolvent, resolved, resolution, states, of_two, from_two}
use Rattle.calculus.specs.declared.kept.Kept.{Kept}
use Rattle.calculus.specs.Inferences.{clause_of}
use Rattle.calculus.specs.Reductions.{unchanged, before_arrow, after_arrow}
use Rattle.reductions.specs.Matched.{IsMatchedBy, IsMatched, single}
use Rattle.reductions.specs.Lines.{IsReductionLineBy, IsKeptBefore, IsKeptBehind, NothingIsReplaced}
use Rattle.reductions.proofs.Mapping.{in_order_below}
use Rattle.reductions.proofs.Members.{among_at}
use Rattle.reductions.proofs.Stating.{unchanged_entries, unchanged_applied}

-- ---- the one atom

single_there : (part : Part) (a : Atom) → slice_get (part_of (single part a) part) 0 ≡ Some a
single_there Constraint a = refl
single_there Antecedent a = refl
single_there Succedent a = refl

single_one : (part : Part) (a : Atom) → length (atoms_of (single part a)) ≡ 1
single_one Constraint a = refl
single_one Antecedent a = refl
single_one Succedent a = refl

pub single_below : (d : Clause) (part : Part) (a : Atom) (vars : ℕ) → d ≡ single part a → IsInOrder d → vars ≡ variables d → HaveVariablesBelow vars (atom_terms a)
single_below d part a vars is o e = subst (λ n. HaveVariablesBelow n (atom_terms a)) (sym e) (in_order_below d o part 0 a (ap (λ c. slice_get (part_of c part) 0) is ∙ single_there part a))

-- ---- resolution with the clause that is reduced as it is

module _ (e d : Clause) (s : List Term) where
  with_target : (i : ℕ) (part : Part) (j : ℕ) → has_entries s d ≡ true → resolution i part j s (unchanged e).terms d e ≡ resolved i part j (apply s d) e
  with_target i part j h = λ k. if h k && unchanged_entries e k then resolved i part j (apply s d) (unchanged_applied e k) else None

  of_target : (i : ℕ) (part : Part) (j : ℕ) → has_entries s d ≡ true → resolution i part j (unchanged e).terms s e d ≡ resolved i part j e (apply s d)
  of_target i part j h = λ k. if unchanged_entries e k && h k then resolved i part j (unchanged_applied e k) (apply s d) else None

no_resolution : (i : ℕ) (part : Part) (j : ℕ) (s t : List Term) (p q : Clause) → may_resolve i part j (apply s p) (apply t q) ≡ false → resolution i part j s t p q ≡ None
no_resolution i part j s t p q never = by_test (has_entries s p && has_entries t q)
  where
    by_test : (b : Bool) → (if b then resolved i part j (apply s p) (apply t q) else None) ≡ None
    by_test true = ap (λ b. when b (in_order (resolvent i part j (apply s p) (apply t q)))) never
    by_test false = refl

-- ---- the atom stands before the arrow

pub replaced_before : (e d : Clause) (a b : Atom) (s : List Term) (part : Part) (j : ℕ) → d ≡ single Succedent a → is_negative part ≡ true → has_entries s d ≡ true → slice_get (part_of e part) j ≡ Some b → IsMatchedBy (entry s) a b → resolution 0 part j s (unchanged e).terms d e ≡ Some (in_order (without part j e))
replaced_before e d a b s part j is negative h there same =
    with_target e d s 0 part j h
    ∙ (λ i. resolved 0 part j (apply s (is i)) e)
    ∙ (λ i. when (negative i && both_same (Some (replace_in_atom (entry s) a)) (there i)) (in_order (without part j e)))
    ∙ ap (λ t. when t (in_order (without part j e))) same

pub before_line : (n : ℕ) (target : Statement) (by : Kept) (a b : Atom) (part : Part) (j : ℕ) (s : Subst) → clause_of by ≡ single Succedent a → (n ≡ by.number → ⊥) → is_negative part ≡ true → slice_get (part_of target.clause part) j ≡ Some b → IsMatched (variables (clause_of by)) s.terms a b → IsReductionLineBy n target by (record { step = record { rule = Resolve 0 part j s (unchanged target.clause); parents = by.number ∷ n ∷ [] }; stated = states (in_order (without part j target.clause)) (united by.statement.deps target.deps) })
before_line n target by a b part j s is apart negative there m = record {
  reduces = ((λ e. apart (sym e)), inr (before_arrow part j s (ap (λ c. length (atoms_of c)) is ∙ single_one Succedent a) refl));
  concludes = λ input earlier here other.
      (λ i. of_two (from_two (resolution 0 part j s.terms (unchanged target.clause).terms)) (other i) (here i))
      ∙ ap (option_map (λ c. states c (united by.statement.deps target.deps))) (replaced_before target.clause (clause_of by) a b s.terms part j is negative (eq-eqb _ _ m.0) there m.1);
  ordered = in_order-IsInOrder (without part j target.clause);
}

-- ---- the atom stands behind the arrow

emptied : (part : Part) (a : Atom) (c : Clause) → is_negative part ≡ true → joined c (without part 0 (single part a)) ≡ c
emptied Constraint a c e = λ i. record { constraint = append-nil c.constraint i; antecedent = append-nil c.antecedent i; succedent = append-nil c.succedent i }
emptied Antecedent a c e = λ i. record { constraint = append-nil c.constraint i; antecedent = append-nil c.antecedent i; succedent = append-nil c.succedent i }
emptied Succedent a c e = absurd (cc)

applied_single : (s : List Term) (part : Part) (a : Atom) → apply s (single part a) ≡ single part (replace_in_atom (entry s) a)
applied_single s Constraint a = refl
applied_single s Antecedent a = refl
applied_single s Succedent a = refl

pub replaced_behind : (e d : Clause) (a b : Atom) (t : List Term) (part : Part) (i : ℕ) → d ≡ single part a → is_negative part ≡ true → has_entries t d ≡ true → slice_get e.succedent i ≡ Some b → IsMatchedBy (entry t) a b → resolution i part 0 (unchanged e).terms t e d ≡ Some (in_order (without Succedent i e))
replaced_behind e d a b t part i is negative h there same =
    let c = replace_in_atom (entry t) a in
    of_target e d t i part 0 h
    ∙ (λ k. resolved i part 0 e ((ap (apply t) is ∙ applied_single t part a) k))
    ∙ (λ k. when (negative k && both_same (there k) (single_there part c k)) (in_order (emptied part c (without Succedent i e) negative k)))
    ∙ ap (λ x. when x (in_order (without Succedent i e))) (same_turned c b same)

pub behind_line : (n : ℕ) (target : Statement) (by : Kept) (a b : Atom) (part : Part) (i : ℕ) (t : Subst) → clause_of by ≡ single part a → (n ≡ by.number → ⊥) → is_negative part ≡ true → slice_get target.clause.succedent i ≡ Some b → IsMatched (variables (clause_of by)) t.terms a b → IsReductionLineBy n target by (record { step = record { rule = Resolve i part 0 (unchanged target.clause) t; parents = n ∷ by.number ∷ [] }; stated = states (in_order (without Succedent i target.clause)) (united target.deps by.statement.deps) })
behind_line n target by a b part i t is apart negative there m = record {
  reduces = ((λ e. apart (sym e)), inr (after_arrow i part t (ap (λ c. length (atoms_of c)) is ∙ single_one part a) refl));
  concludes = λ input earlier here other.
      (λ k. of_two (from_two (resolution i part 0 (unchanged target.clause).terms t.terms)) (here k) (other k))
      ∙ ap (option_map (λ c. states c (united target.deps by.statement.deps))) (replaced_behind target.clause (clause_of by) a b t.terms part i is negative (eq-eqb _ _ m.0) there m.1);
  ordered = in_order-IsInOrder (without Succedent i target.clause);
}

-- ---- as the code makes them

there : (P : Atom → Type 0) (o : Option Atom) → IsSomeAnd o P → (b : Atom) × (o ≡ Some b) × P b
there P None h = absurd h
there P (Some b) h = (b, refl, h)

pub before_made : (n : ℕ) (target : Statement) (by : Kept) (a : Atom) (part : Part) (j vars : ℕ) (atoms : List Atom) (s t : Subst) (deps : List Assumption) (stated : Statement) (l : Line) → clause_of by ≡ single Succedent a → (n ≡ by.number → ⊥) → is_negative part ≡ true → vars ≡ variables (clause_of by) → atoms ≡ part_of target.clause part → IsSomeAnd (slice_get atoms j) (IsMatched vars s.terms a) → deps ≡ united by.statement.deps target.deps → stated ≡ states (in_order (without part j target.clause)) deps → t ≡ unchanged target.clause → l ≡ record { step = record { rule = Resolve 0 part j s t; parents = by.number ∷ n ∷ [] }; stated = stated } → IsReductionLineBy n target by l
before_made n target by a part j vars atoms s t deps stated l is apart negative e_vars e_atoms found e_deps e_stated e_t e =
    let f = there _ (slice_get atoms j) found in
    let whole = e ∙ (λ i. record { step = record { rule = Resolve 0 part j s (e_t i); parents = by.number ∷ n ∷ [] }; stated = (e_stated ∙ ap (states (in_order (without part j target.clause))) e_deps) i }) in
    subst (IsReductionLineBy n target by) (sym whole)
    (before_line n target by a f.0 part j s is apart negative (ap (λ l. slice_get l j) (sym e_atoms) ∙ f.1) (f.2.0 ∙ e_vars, f.2.1))

pub behind_made : (n : ℕ) (target : Statement) (by : Kept) (a : Atom) (part : Part) (i vars : ℕ) (atoms : List Atom) (s t : Subst) (deps : List Assumption) (stated : Statement) (l : Line) → clause_of by ≡ single part a → (n ≡ by.number → ⊥) → is_negative part ≡ true → vars ≡ variables (clause_of by) → atoms ≡ target.clause.succedent → IsSomeAnd (slice_get atoms i) (IsMatched vars t.terms a) → deps ≡ united target.deps by.statement.deps → stated ≡ states (in_order (without Succedent i target.clause)) deps → s ≡ unchanged target.clause → l ≡ record { step = record { rule = Resolve i part 0 s t; parents = n ∷ by.number ∷ [] }; stated = stated } → IsReductionLineBy n target by l
behind_made n target by a part i vars atoms s t deps stated l is apart negative e_vars e_atoms found e_deps e_stated e_s e =
    let f = there _ (slice_get atoms i) found in
    let whole = e ∙ (λ k. record { step = record { rule = Resolve i part 0 (e_s k) t; parents = n ∷ by.number ∷ [] }; stated = (e_stated ∙ ap (states (in_order (without Succedent i target.clause))) e_deps) k }) in
    subst (IsReductionLineBy n target by) (sym whole)
    (behind_line n target by a f.0 part i t is apart negative (ap (λ l. slice_get l i) (sym e_atoms) ∙ f.1) (f.2.0 ∙ e_vars, f.2.1))

-- ---- nothing

unmatched : (a : Atom) (g : List Term) (bs : List Atom) (k : ℕ) → ((h : ℕ → Term) → list_any (is_same (replace_in_atom h a)) bs ≡ true → ⊥) → both_same (Some (replace_in_atom (entry g) a)) (slice_get bs k) ≡ false
unmatched a g bs k never = by_option (slice_get bs k) refl
  where
    by_test : (b : Atom) (t : Bool) → is_same (replace_in_atom (entry g) a) b ≡ t → slice_get bs k ≡ Some b → is_same (replace_in_atom (entry g) a) b ≡ false
    by_test b true e is = absurd (never (entry g) (among_at (replace_in_atom (entry g) a) b bs k is e))
    by_test b false e is = e

    by_option : (o : Option Atom) → slice_get bs k ≡ o → both_same (Some (replace_in_atom (entry g) a)) o ≡ false
    by_option None is = refl
    by_option (Some b) is = by_test b (is_same (replace_in_atom (entry g) a) b) refl is

same_none : (o : Option Atom) → both_same o None ≡ false
same_none None = refl
same_none (Some a) = refl

unmatched_turned : (a : Atom) (g : List Term) (bs : List Atom) (k : ℕ) → ((h : ℕ → Term) → list_any (is_same (replace_in_atom h a)) bs ≡ true → ⊥) → both_same (slice_get bs k) (Some (replace_in_atom (entry g) a)) ≡ false
unmatched_turned a g bs k never = by_option (slice_get bs k) refl
  where
    by_test : (b : Atom) (t : Bool) → is_same b (replace_in_atom (entry g) a) ≡ t → slice_get bs k ≡ Some b → is_same b (replace_in_atom (entry g) a) ≡ false
    by_test b true e is = absurd (never (entry g) (among_at (replace_in_atom (entry g) a) b bs k is (same_turned b (replace_in_atom (entry g) a) e)))
    by_test b false e is = e

    by_option : (o : Option Atom) → slice_get bs k ≡ o → both_same o (Some (replace_in_atom (entry g) a)) ≡ false
    by_option None is = refl
    by_option (Some b) is = by_test b (is_same b (replace_in_atom (entry g) a)) refl is

-- an atom of the succedent
pub nothing_before : (e d : Clause) (a : Atom) → d ≡ single Succedent a → IsKeptBefore Constraint e a → IsKeptBefore Antecedent e a → NothingIsReplaced e d
nothing_before e d a is c_never a_never _ part j s = (
  no_resolution 0 part j s (unchanged e).terms d e ((λ i. may_resolve 0 part j (apply s (is i)) (unchanged_applied e i)) ∙ first part),
  no_resolution j part 0 (unchanged e).terms s e d ((λ i. may_resolve j part 0 (unchanged_applied e i) (apply s (is i))) ∙ second part),
)
  where
    first : (part : Part) → may_resolve 0 part j (apply s (single Succedent a)) e ≡ false
    first Constraint = unmatched a s e.constraint j c_never
    first Antecedent = unmatched a s e.antecedent j a_never
    first Succedent = refl

    second : (part : Part) → may_resolve j part 0 e (apply s (single Succedent a)) ≡ false
    second Constraint = same_none (slice_get e.succedent j)
    second Antecedent = same_none (slice_get e.succedent j)
    second Succedent = refl

-- an atom before the arrow
pub nothing_behind : (e d : Clause) (given : Part) (a : Atom) → d ≡ single given a → is_negative given ≡ true → IsKeptBehind e a → NothingIsReplaced e d
nothing_behind e d given a is negative never _ part j s = (
  no_resolution 0 part j s (unchanged e).terms d e ((λ i. may_resolve 0 part j (apply s (is i)) (unchanged_applied e i)) ∙ first given negative),
  no_resolution j part 0 (unchanged e).terms s e d ((λ i. may_resolve j part 0 (unchanged_applied e i) (apply s (is i))) ∙ second given part negative),
)
  where
    first : (given : Part) → is_negative given ≡ true → may_resolve 0 part j (apply s (single given a)) e ≡ false
    first Constraint n = and-false (is_negative part)
    first Antecedent n = and-false (is_negative part)
    first Succedent n = absurd (cc)

    second : (given part : Part) → is_negative given ≡ true → may_resolve j part 0 e (apply s (single given a)) ≡ false
    second Constraint Constraint n = unmatched_turned a s e.succedent j never
    second Constraint Antecedent n = same_none (slice_get e.succedent j)
    second Constraint Succedent n = refl
    second Antecedent Constraint n = same_none (slice_get e.succedent j)
    second Antecedent Antecedent n = unmatched_turned a s e.succedent j never
    second Antecedent Succedent n = refl
    second Succedent part n = absurd (cc)

pub left_of_arrow : (part : Part) → (part ≡ Constraint) ⊎ (part ≡ Antecedent) → is_negative part ≡ true
left_of_arrow part (inl e) = ap is_negative e
left_of_arrow part (inr e) = ap is_negative e

pub answer_before : (n : ℕ) (target : Statement) (by : Kept) (a : Atom) (o : Option Line) → clause_of by ≡ single Succedent a → IsKeptBefore Constraint target.clause a → MatchOption o (IsKeptBefore Antecedent target.clause a) (IsReductionLineBy n target by) → MatchOption o (NothingIsReplaced target.clause (clause_of by)) (IsReductionLineBy n target by)
answer_before n target by a None is c_never h = nothing_before target.clause (clause_of by) a is c_never h
answer_before n target by a (Some l) is c_never h = h

pub answer_behind : (n : ℕ) (target : Statement) (by : Kept) (given : Part) (a : Atom) (o : Option Line) → clause_of by ≡ single given a → is_negative given ≡ true → MatchOption o (IsKeptBehind target.clause a) (IsReductionLineBy n target by) → MatchOption o (NothingIsReplaced target.clause (clause_of by)) (IsReductionLineBy n target by)
answer_behind n target by given a None is negative h = nothing_behind target.clause (clause_of by) given a is negative h
answer_behind n target by given a (Some l) is negative h = h

-- a place that was found is one of the part
pub place_within : (atoms part : List Atom) (k : ℕ) (P : Atom → Type 0) → atoms ≡ part → IsSomeAnd (slice_get atoms k) P → k < length part
place_within atoms part k P e h = (let f = there P (slice_get atoms k) h in subst (λ l. k < length l) e (slice_get_within atoms k f.0 f.1))
