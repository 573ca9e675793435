-- What rewriting by an equation concludes, and that it concludes nothing.
use Rattle.std.proofs.Common.{◌≡◌, inl, inr, ℕ, Bool, true, false, ◌&&◌, if◌then◌else◌, List, [], ◌∷◌, Option, Some, None, refl, sym, ap, subst, ◌∙◌}
use Rattle.std.specs.Prelude.{slice_get, option_map, option_and_then, IsSome, MatchOption, IsSomeAnd}
use Rattle.std.proofs.lemmas.Bool.{eq-eqb, false≢true}
use Rattle.std.proofs.lemmas.Option.{none-some, same_Some}
use Rattle.spl_terms.specs.declared.term.Term.{Term}
use Rattle.spl_terms.specs.declared.atom.Atom.{Atom}
use Rattle.spl_terms.specs.declared.atom.Atom.TheVariants.{Holds, Equal}
use Rattle.spl_terms.specs.declared.clause.Part.TheVariants.{Succedent}
use Rattle.spl_terms.specs.declared.clause.Spot.{Spot}
use Rattle.spl_terms.specs.declared.clause.Clause.{Clause}
use Rattle.spl_terms.specs.Terms.{term_eq, replace}
use Rattle.spl_terms.specs.TermLaws.{term_eq-true, term_eq-refl}
use Rattle.spl_terms.specs.Clauses.{atom_terms, in_order, part_of, replace_in_atom}
use Rattle.spl_terms.specs.InOrder.{IsInOrder, variables}
use Rattle.spl_terms.specs.InOrderLaws.{in_order-IsInOrder}
use Rattle.spl_truth.specs.declared.replace.Subst.{Subst}
use Rattle.spl_truth.specs.Truth.{entry, apply, unit_clause}
use Rattle.spl_truth.specs.Orders.{is_greater}
use Rattle.spl_truth.specs.Unifiers.{HasVariablesBelow, HaveVariablesBelow}
use Rattle.dep_sets.specs.declared.deps.Assumption.{Assumption}
use Rattle.dep_sets.specs.Assumptions.{united}
use Rattle.proof_steps.specs.declared.step.Statement.{Statement}
use Rattle.proof_steps.specs.declared.step.Line.{Line}
use Rattle.proof_steps.specs.declared.step.Rule.TheVariants.{Paramodulate}
use Rattle.proof_steps.specs.Spots.{atom_at, term_under, with_term_at}
use Rattle.proof_steps.specs.Steps.{when, has_entries, without, joined, sides_of, rewritten, paramodulated, paramodulation, resolution, states, of_two, from_two, conclude}
use Rattle.calculus.specs.declared.kept.Kept.{Kept}
use Rattle.calculus.specs.Inferences.{clause_of}
use Rattle.calculus.specs.Reductions.{unchanged, before_arrow, after_arrow, ReducesBy}
use Rattle.reductions.specs.declared.judging.Rewrite.{Rewrite}
use Rattle.reductions.specs.declared.walking.Rewritten.{Rewritten}
use Rattle.reductions.specs.Lines.{IsReductionLineBy, HasNoReductionBy, NothingIsReplaced}
use Rattle.reductions.specs.Rewriting.{Covers, NeverFalls, IsEquation, IsReadingOf, IsIrreducibleClause, IsRewrittenAt, IsRewrittenIn, NothingIsRewrittenAs, NothingIsRewritten}
use Rattle.reductions.proofs.AtomMatches.{below_sides}
use Rattle.reductions.proofs.Mapping.{in_order_below}
use Rattle.reductions.proofs.Stating.{unchanged_entries, unchanged_applied}

-- ---- sides

pub sides_replaced : (g : ℕ → Term) (right : Bool) (a : Atom) (l r : Term) → sides_of right a ≡ Some (l, r) → sides_of right (replace_in_atom g a) ≡ Some (replace g l, replace g r)
sides_replaced g right (Holds p ts) l r e = absurd (none-some (l, r) e)
sides_replaced g false (Equal s t) l r e = (let same : (s, t) ≡ (l, r) = same_Some (s, t) (l, r) e in ap (λ (x : Term × Term). Some (replace g x.0, replace g x.1)) same)
sides_replaced g true (Equal s t) l r e = (let same : (t, s) ≡ (l, r) = same_Some (t, s) (l, r) e in ap (λ (x : Term × Term). Some (replace g x.0, replace g x.1)) same)

-- what paramodulation with an instance of the equation makes of the clause
module _ (right : Bool) (d : Clause) (l r : Term) (is : IsEquation right d l r) (s : List Term) (e : Clause) (spot : Spot) where
  abbrev made : Clause
  made = joined (without Succedent 0 (apply s d)) (with_term_at spot (replace (entry s) r) e)

  pub at_spot : paramodulated 0 right spot (apply s d) e ≡ option_and_then (λ u. when (term_eq u (replace (entry s) l)) (in_order made)) (option_and_then (term_under spot.path) (atom_at spot.part spot.place e))
  at_spot =
      let first : slice_get (apply s d).succedent 0 ≡ Some (replace_in_atom (entry s) is.equation) = ap (λ c. slice_get (apply s c).succedent 0) is.alone in
      ap (λ o. option_and_then (rewritten 0 spot (apply s d) e) (option_and_then (sides_of right) o)) first
      ∙ ap (option_and_then (rewritten 0 spot (apply s d) e)) (sides_replaced (entry s) right is.equation l r is.sides)

  pub paramodulated_there : (u : Term) → option_and_then (term_under spot.path) (atom_at spot.part spot.place e) ≡ Some u → replace (entry s) l ≡ u → paramodulated 0 right spot (apply s d) e ≡ Some (in_order made)
  paramodulated_there u there makes =
      at_spot
      ∙ ap (option_and_then (λ x. when (term_eq x (replace (entry s) l)) (in_order made))) there
      ∙ ap (λ t. when t (in_order made)) (ap (term_eq u) makes ∙ term_eq-refl u)

  pub paramodulated_nowhere : ((u : Term) → option_and_then (term_under spot.path) (atom_at spot.part spot.place e) ≡ Some u → replace (entry s) l ≡ u → ⊥) → paramodulated 0 right spot (apply s d) e ≡ None
  paramodulated_nowhere never = at_spot ∙ by_option (option_and_then (term_under spot.path) (atom_at spot.part spot.place e)) refl
    where
      by_test : (u : Term) (t : Bool) → term_eq u (replace (entry s) l) ≡ t → option_and_then (term_under spot.path) (atom_at spot.part spot.place e) ≡ Some u → when t (in_order made) ≡ None
      by_test u true same there = absurd (never u there (sym (term_eq-true u (replace (entry s) l) same)))
      by_test u false same there = refl

      by_option : (o : Option Term) → option_and_then (term_under spot.path) (atom_at spot.part spot.place e) ≡ o → option_and_then (λ u. when (term_eq u (replace (entry s) l)) (in_order made)) o ≡ None
      by_option None there = refl
      by_option (Some u) there = (let t = by_test u (term_eq u (replace (entry s) l)) refl there in t)

-- ---- a line

there : (P : Atom → Type 0) (o : Option Atom) → IsSomeAnd o P → (b : Atom) × (o ≡ Some b) × P b
there P None h = absurd h
there P (Some b) h = (b, refl, h)

module _ (right : Bool) (d e : Clause) (r : Rewrite) (reading : IsReadingOf right d r) (f : Rewritten) (found : IsRewrittenIn r e f) where
  abbrev spot_of : Spot
  spot_of = record { part = f.part; place = f.place; path = f.path.items }

  abbrev replaced : Clause
  replaced = made right d r.left.now r.right.now reading.is f.s.terms e spot_of

  found_there : (a : Atom) × (slice_get (part_of e f.part) f.place ≡ Some a) × IsRewrittenAt r a f.path.items f.s.terms
  found_there = there (λ a. IsRewrittenAt r a f.path.items f.s.terms) (slice_get (part_of e f.part) f.place) found

  pub concluded : paramodulated 0 right spot_of (apply f.s.terms d) e ≡ Some (in_order replaced)
  concluded =
      let x = found_there in
      paramodulated_there right d r.left.now r.right.now reading.is f.s.terms e spot_of x.2.term (ap (option_and_then (term_under f.path.items)) x.1 ∙ x.2.stands) x.2.rewrites.makes

  pub entries_fit : has_entries f.s.terms d ≡ true
  entries_fit = eq-eqb _ _ (found_there.2.rewrites.as_many ∙ reading.as_many)

  pub falls : is_greater (replace (entry f.s.terms) r.left.now) (replace (entry f.s.terms) r.right.now) ≡ true
  falls = (let x = found_there in ap (λ t. is_greater t (replace (entry f.s.terms) r.right.now)) x.2.rewrites.makes ∙ x.2.rewrites.falls)

pub rewriting_line : (n : ℕ) (target : Statement) (by : Kept) (right : Bool) (r : Rewrite) (f : Rewritten) → (n ≡ by.number → ⊥) → (reading : IsReadingOf right (clause_of by) r) → (found : IsRewrittenIn r target.clause f) → IsReductionLineBy n target by (record { step = record { rule = Paramodulate 0 right (spot_of right (clause_of by) target.clause r reading f found) f.s (unchanged target.clause); parents = by.number ∷ n ∷ [] }; stated = states (in_order (replaced right (clause_of by) target.clause r reading f found)) (united by.statement.deps target.deps) })
rewriting_line n target by right r f apart reading found = record {
  reduces = (
    (λ e. apart (sym e)),
    inl (record {
      equation = reading.is.equation;
      alone = reading.is.alone;
      right = right;
      left_side = r.left.now;
      right_side = r.right.now;
      sides = reading.is.sides;
      bound = reading.bound;
      s = f.s;
      falls = falls right (clause_of by) target.clause r reading f found;
      spot = spot_of right (clause_of by) target.clause r reading f found;
      step = refl;
    }),
  );
  concludes = λ input earlier here other.
      (λ i. of_two (from_two (paramodulation 0 right (spot_of right (clause_of by) target.clause r reading f found) f.s.terms (unchanged target.clause).terms)) (other i) (here i))
      ∙ ap (option_map (λ c. states c (united by.statement.deps target.deps)))
      ((λ i. if entries_fit right (clause_of by) target.clause r reading f found i && unchanged_entries target.clause i then paramodulated 0 right (spot_of right (clause_of by) target.clause r reading f found) (apply f.s.terms (clause_of by)) (unchanged_applied target.clause i) else None)
      ∙ concluded right (clause_of by) target.clause r reading f found);
  ordered = in_order-IsInOrder (replaced right (clause_of by) target.clause r reading f found);
}

pub some_made : (o : Option Clause) (c : Clause) → option_map in_order o ≡ Some c → IsSome o
some_made None c e = absurd (none-some c e)
some_made (Some x) c e = refl

module _ (n : ℕ) (target : Statement) (by : Kept) (right : Bool) (r : Rewrite) (f : Rewritten) (apart : n ≡ by.number → ⊥) (reading : IsReadingOf right (clause_of by) r) (found : IsRewrittenIn r target.clause f) (path : List ℕ) (equation copied : Clause) (o : Option Clause) (e_path : path ≡ f.path.items) (e_equation : equation ≡ apply f.s.terms (clause_of by)) (e_copied : copied ≡ target.clause) (e_o : option_map in_order o ≡ paramodulated 0 right (record { part = f.part; place = f.place; path = path }) equation copied) where
  made_there : option_map in_order o ≡ Some (in_order (replaced right (clause_of by) target.clause r reading f found))
  made_there = e_o ∙ (λ i. paramodulated 0 right (record { part = f.part; place = f.place; path = e_path i }) (e_equation i) (e_copied i)) ∙ concluded right (clause_of by) target.clause r reading f found

  pub is_made : IsSome o
  is_made = some_made o _ made_there

  pub rewriting_made : (made' clause : Clause) (deps : List Assumption) (t : Subst) (l : Line) → o ≡ Some made' → clause ≡ in_order made' → deps ≡ united by.statement.deps target.deps → t ≡ unchanged target.clause → l ≡ record { step = record { rule = Paramodulate 0 right (record { part = f.part; place = f.place; path = path }) f.s t; parents = by.number ∷ n ∷ [] }; stated = states clause deps } → IsReductionLineBy n target by l
  rewriting_made made' clause deps t l e_made e_clause e_deps e_t e =
      let same : clause ≡ in_order (replaced right (clause_of by) target.clause r reading f found) = e_clause ∙ same_Some _ _ (sym (ap (option_map in_order) e_made) ∙ made_there) in
      let whole = e ∙ (λ i. record { step = record { rule = Paramodulate 0 right (record { part = f.part; place = f.place; path = e_path i }) f.s (e_t i); parents = by.number ∷ n ∷ [] }; stated = states (same i) (e_deps i) }) in
      subst (IsReductionLineBy n target by) (sym whole) (rewriting_line n target by right r f apart reading found)

-- ---- nothing

no_paramodulation : (right : Bool) (spot : Spot) (s : List Term) (d e : Clause) → paramodulated 0 right spot (apply s d) e ≡ None → paramodulation 0 right spot s (unchanged e).terms d e ≡ None
no_paramodulation right spot s d e none = by_test (has_entries s d && has_entries (unchanged e).terms e)
  where
    by_test : (b : Bool) → (if b then paramodulated 0 right spot (apply s d) (apply (unchanged e).terms e) else None) ≡ None
    by_test true = ap (paramodulated 0 right spot (apply s d)) (unchanged_applied e) ∙ none
    by_test false = refl

one_atom : (a b : Atom) → unit_clause a ≡ unit_clause b → a ≡ b
one_atom a b e = same_Some a b (ap (λ (c : Clause). slice_get c.succedent 0) e)

module _ (right : Bool) (e d : Clause) (left_side right_side : Term) (is : IsEquation right d left_side right_side) where
  -- another reading of the same equation in the same direction has the same sides
  one_reading : (a : Atom) → d ≡ unit_clause a → (l r : Term) → sides_of right a ≡ Some (l, r) → ◌≡◌ {A = Term × Term} (l, r) (left_side, right_side)
  one_reading a alone l r sides = same_Some (l, r) (left_side, right_side) (sym sides ∙ ap (sides_of right) (one_atom a is.equation (sym alone ∙ is.alone)) ∙ is.sides)

  pub never_falls : (Covers left_side right_side → NeverFalls left_side right_side) → NothingIsRewrittenAs right e d
  never_falls never a alone l r sides covers s less spot =
      let both : ◌≡◌ {A = Term × Term} (l, r) (left_side, right_side) = one_reading a alone l r sides in
      let inside : Covers left_side right_side = subst (λ (x : Term × Term). Covers x.0 x.1) both covers in
      let greater : is_greater (replace (entry s) left_side) (replace (entry s) right_side) ≡ true = subst (λ (x : Term × Term). is_greater (replace (entry s) x.0) (replace (entry s) x.1) ≡ true) both less in
      absurd (false≢true (sym (never inside (entry s)) ∙ greater))

  pub irreducible_nothing : (x : Rewrite) → x.left.now ≡ left_side → x.right.now ≡ right_side → IsIrreducibleClause x e → NothingIsRewrittenAs right e d
  irreducible_nothing x e_left e_right none a alone l r sides covers s less spot =
      let both : ◌≡◌ {A = Term × Term} (l, r) (left_side, right_side) = one_reading a alone l r sides in
      let greater : is_greater (replace (entry s) left_side) (replace (entry s) right_side) ≡ true = subst (λ (y : Term × Term). is_greater (replace (entry s) y.0) (replace (entry s) y.1) ≡ true) both less in
      no_paramodulation right spot s d e (paramodulated_nowhere right d left_side right_side is s e spot (λ u there makes. at (atom_at spot.part spot.place e) refl u there makes greater))
    where
      at : (o : Option Atom) → atom_at spot.part spot.place e ≡ o → (u : Term) → option_and_then (term_under spot.path) (atom_at spot.part spot.place e) ≡ Some u → replace (entry s) left_side ≡ u → is_greater (replace (entry s) left_side) (replace (entry s) right_side) ≡ true → ⊥
      at None is' u there makes greater = none-some u (sym (ap (option_and_then (term_under spot.path)) is') ∙ there)
      at (Some b) is' u there makes greater =
          none spot.part spot.place b is' spot.path u (sym (ap (option_and_then (term_under spot.path)) is') ∙ there) (entry s)
          (ap (replace (entry s)) e_left ∙ makes)
          ((λ i. is_greater (sym makes i) (replace (entry s) (e_right i))) ∙ greater)

pub no_equation : (e d : Clause) → ((l r : Term) → d ≡ unit_clause (Equal l r) → ⊥) → NothingIsRewritten e d
no_equation e d never right a alone l r sides covers s greater spot = absurd (at right a alone sides)
  where
    at : (right : Bool) (a : Atom) → d ≡ unit_clause a → sides_of right a ≡ Some (l, r) → ⊥
    at right (Holds p ts) alone sides = none-some (l, r) sides
    at right (Equal s t) alone sides = never s t alone

pub both_directions : (e d : Clause) → NothingIsRewrittenAs false e d → NothingIsRewrittenAs true e d → NothingIsRewritten e d
both_directions e d forth back false = forth
both_directions e d forth back true = back

pub answer_back : (n : ℕ) (target : Statement) (by : Kept) (o : Option Line) → NothingIsRewrittenAs false target.clause (clause_of by) → MatchOption o (NothingIsRewrittenAs true target.clause (clause_of by)) (IsReductionLineBy n target by) → MatchOption o (NothingIsRewritten target.clause (clause_of by)) (IsReductionLineBy n target by)
answer_back n target by None forth h = both_directions target.clause (clause_of by) forth h
answer_back n target by (Some l) forth h = h

-- ---- neither replaced nor rewritten

some_concluded : (o : Option Clause) (xs : List Assumption) (s : Statement) → option_map (λ c. states c xs) o ≡ Some s → o ≡ None → ⊥
some_concluded None xs s e none = none-some s e
some_concluded (Some c) xs s e none = none-some c (sym none)

pub nothing_reduces : (e d : Clause) → NothingIsReplaced e d → NothingIsRewritten e d → (e' : Clause) → ReducesBy d e e' → ⊥
nothing_reduces e d no_replacement no_rewriting e' h = elim h.reduces.1 [
  | inl w ↦ some_concluded (paramodulation 0 w.right w.spot w.s.terms (unchanged e).terms d e) (united [] []) (states e' [])
      (ap (conclude [] (states e [] ∷ states d [] ∷ [])) (sym w.step) ∙ h.gives)
      (no_rewriting w.right w.equation w.alone w.left_side w.right_side w.sides w.bound w.s.terms w.falls w.spot)
  | inr w ↦ elim w [
    | before_arrow part j s one is ↦ some_concluded (resolution 0 part j s.terms (unchanged e).terms d e) (united [] []) (states e' [])
        (ap (conclude [] (states e [] ∷ states d [] ∷ [])) (sym is) ∙ h.gives)
        (no_replacement one part j s.terms).0
    | after_arrow i part t one is ↦ some_concluded (resolution i part 0 (unchanged e).terms t.terms e d) (united [] []) (states e' [])
        (ap (conclude [] (states e [] ∷ states d [] ∷ [])) (sym is) ∙ h.gives)
        (no_replacement one part i t.terms).1
  ]
]

pub answer_by : (n : ℕ) (target : Statement) (by : Kept) (o : Option Line) → NothingIsReplaced target.clause (clause_of by) → MatchOption o (NothingIsRewritten target.clause (clause_of by)) (IsReductionLineBy n target by) → MatchOption o (HasNoReductionBy n target.clause by) (IsReductionLineBy n target by)
answer_by n target by None no_replacement h = inr (nothing_reduces target.clause (clause_of by) no_replacement h)
answer_by n target by (Some l) no_replacement h = h

-- ---- sides of a clause in order

pub side_below : (right : Bool) (d : Clause) (l r : Term) (vars : ℕ) → IsEquation right d l r → IsInOrder d → vars ≡ variables d → HasVariablesBelow vars l
side_below right d l r vars is o e = subst (λ n. HasVariablesBelow n l) (sym e) (at right is.equation (in_order_below d o Succedent 0 is.equation (ap (λ c. slice_get c.succedent 0) is.alone)) is.sides)
  where
    at : (right : Bool) (a : Atom) → HaveVariablesBelow (variables d) (atom_terms a) → sides_of right a ≡ Some (l, r) → HasVariablesBelow (variables d) l
    at right (Holds p ts) below sides = absurd (none-some (l, r) sides)
    at false (Equal s t) below sides = (let both : (s, t) ≡ (l, r) = same_Some (s, t) (l, r) sides in subst (HasVariablesBelow (variables d)) (ap (λ (x : Term × Term). x.0) both) (below_sides (variables d) (Equal s t) s t refl below).0)
    at true (Equal s t) below sides = (let both : (t, s) ≡ (l, r) = same_Some (t, s) (l, r) sides in subst (HasVariablesBelow (variables d)) (ap (λ (x : Term × Term). x.0) both) (below_sides (variables d) (Equal s t) s t refl below).1)
