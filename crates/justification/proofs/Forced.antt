-- Facts that hold wherever finitely many ground instances of clauses, and axioms of equality, are true; among them,
-- that equal terms may take each other's place as one argument of an atom.
use Rattle.std.proofs.Common.{◌≡◌, inr, Bool, true, false, not, ◌&&◌, ◌||◌, List, [], ◌∷◌, ◌++◌, All, refl, sym, ◌∙◌}
use Rattle.std.specs.Cmp.{both_ways}
use Rattle.std.specs.List.{list_all, list_any}
use Rattle.std.proofs.lemmas.List.Folds.{list_all-append}
use Rattle.std.proofs.lemmas.List.Elements.{All-nil, All-cons, All-append}
use Rattle.spl_terms.specs.declared.term.Symbol.{Symbol}
use Rattle.spl_terms.specs.declared.term.Term.{Term, App}
use Rattle.spl_terms.specs.declared.atom.Atom.{Atom}
use Rattle.spl_terms.specs.declared.atom.Atom.TheVariants.{Holds, Equal}
use Rattle.spl_terms.specs.declared.clause.Clause.{Clause}
use Rattle.spl_terms.specs.Terms.{is_ground_term}
use Rattle.spl_terms.specs.Clauses.{atom_eq}
use Rattle.spl_truth.specs.Truth.{is_ground_atom, is_ground, Axiom, reflexive, transitive, in_function, in_predicate, axiom_clause, IsUsable, truth, holds, FollowsAt}
use Rattle.std.proofs.lemmas.Bool.{and_parts}
use Rattle.spl_terms.specs.SameLaws.{flipped}
use Rattle.spl_truth.specs.SymmetryLaws.{flips, flips-force, flips-usable}
use Rattle.spl_truth.specs.TruthLaws.{carries-forces, carries-ground}

-- the fact holds under each assignment that makes these ground instances of the clauses, and axioms, true; where there
-- are no clauses, axioms alone are listed
pub record Forced (clauses : List Clause) (Fact : (Atom → Bool) → Type 0) : Type 0 where
  pub listed : List Clause
  pub usable : All (IsUsable clauses) listed
  pub forces : (assignment : List Atom) → list_all (holds assignment) listed ≡ true → Fact (λ a. list_any (atom_eq a) assignment)

-- what a single axiom says, of one premise and of two
one_says : (x z : Bool) → ((false || (not x || false)) || (z || false)) ≡ true → x ≡ true → z ≡ true
one_says true true r e = refl
one_says true false r e = absurd (cc)
one_says false z r e = absurd (cc)

two_say : (x y z : Bool) → ((false || (not x || (not y || false))) || (z || false)) ≡ true → x ≡ true → y ≡ true → z ≡ true
two_say true true true r e f = refl
two_say true true false r e f = absurd (cc)
two_say true false z r e f = absurd (cc)
two_say false y z r e f = absurd (cc)

just_says : (z : Bool) → ((false || false) || (z || false)) ≡ true → z ≡ true
just_says true e = refl
just_says false e = absurd (cc)

module _ (clauses : List Clause) where
  pub forced_always : {Fact : (Atom → Bool) → Type 0} → ((b : Atom → Bool) → Fact b) → Forced clauses Fact
  forced_always always = record { listed = []; usable = All-nil (IsUsable clauses); forces = λ assignment e. always (λ a. list_any (atom_eq a) assignment) }

  pub forced_then : {One Other : (Atom → Bool) → Type 0} → Forced clauses One → ((b : Atom → Bool) → One b → Other b) → Forced clauses Other
  forced_then f h = record { listed = f.listed; usable = f.usable; forces = λ assignment e. h (λ a. list_any (atom_eq a) assignment) (f.forces assignment e) }

  pub forced_both : {One Other : (Atom → Bool) → Type 0} → Forced clauses One → Forced clauses Other → Forced clauses (λ b. One b × Other b)
  forced_both f g = record {
    listed = f.listed ++ g.listed;
    usable = All-append (IsUsable clauses) f.listed g.listed f.usable g.usable;
    forces = λ assignment e. let p = and_parts _ _ (sym (list_all-append (holds assignment) f.listed g.listed) ∙ e) in (f.forces assignment p.0, g.forces assignment p.1);
  }

  pub forced_axiom : (a : Axiom) → is_ground (axiom_clause a) ≡ true → Forced clauses (λ b. truth b (axiom_clause a) ≡ true)
  forced_axiom a ground = record {
    listed = axiom_clause a ∷ [];
    usable = All-cons (IsUsable clauses) (axiom_clause a) [] (inr (a, refl, ground)) (All-nil (IsUsable clauses));
    forces = λ assignment e. (and_parts _ _ e).0;
  }

  -- a ground clause that follows is forced, and the other way round
  pub forced_clause : (d : Clause) → FollowsAt clauses d → Forced clauses (λ b. truth b d ≡ true)
  forced_clause d f = record { listed = f.listed; usable = f.usable; forces = f.forces }

  pub follows_forced : (d : Clause) → Forced clauses (λ b. truth b d ≡ true) → FollowsAt clauses d
  follows_forced d f = record { listed = f.listed; usable = f.usable; forces = f.forces }

  -- ---- equality of ground terms

  -- a ground term is equal to itself
  pub equal_itself : (t : Term) → is_ground_term t ≡ true → Forced clauses (λ b. b (Equal t t) ≡ true)
  equal_itself t h = forced_then (forced_axiom (reflexive t) (λ i. (h i && (h i && true)) && true)) (λ b. just_says (b (Equal t t)))

  -- an equation is as true as with its sides exchanged
  pub equally_turned : (a : Atom) → is_ground_atom a ≡ true → Forced clauses (λ b. b a ≡ b (flipped a))
  equally_turned a h = record { listed = flips a; usable = flips-usable clauses a h; forces = λ assignment. flips-force (λ a. list_any (atom_eq a) assignment) a }

  pub equal_turned : (s t : Term) → is_ground_term s ≡ true → is_ground_term t ≡ true → Forced clauses (λ b. b (Equal s t) ≡ true → b (Equal t s) ≡ true)
  equal_turned s t hs ht = forced_then (equally_turned (Equal s t) (λ i. hs i && (ht i && true))) (λ b h e. sym h ∙ e)

  pub equal_joined : (s t u : Term) → is_ground_term s ≡ true → is_ground_term t ≡ true → is_ground_term u ≡ true → Forced clauses (λ b. b (Equal s t) ≡ true → b (Equal t u) ≡ true → b (Equal s u) ≡ true)
  equal_joined s t u hs ht hu =
      forced_then (forced_axiom (transitive s t u) (λ i. (hs i && (ht i && true)) && ((ht i && (hu i && true)) && ((hs i && (hu i && true)) && true))))
      (λ b. two_say (b (Equal s t)) (b (Equal t u)) (b (Equal s u)))

  -- ---- where s = t, s may take the place of t

  pub equal_in_function : (f : Symbol) (before : List Term) (s t : Term) (after : List Term) → is_ground_term s ≡ true → is_ground_term t ≡ true → is_ground_term (App f (before ++ s ∷ after)) ≡ true → is_ground_term (App f (before ++ t ∷ after)) ≡ true →
      Forced clauses (λ b. b (Equal s t) ≡ true → b (Equal (App f (before ++ s ∷ after)) (App f (before ++ t ∷ after))) ≡ true)
  equal_in_function f before s t after hs ht one other =
      forced_then (forced_axiom (in_function f before s t after) (λ i. (hs i && (ht i && true)) && ((one i && (other i && true)) && true)))
      (λ b. one_says (b (Equal s t)) (b (Equal (App f (before ++ s ∷ after)) (App f (before ++ t ∷ after)))))

  pub equal_in_predicate : (p : Symbol) (before : List Term) (s t : Term) (after : List Term) → is_ground_term s ≡ true → is_ground_term t ≡ true → is_ground_atom (Holds p (before ++ s ∷ after)) ≡ true → is_ground_atom (Holds p (before ++ t ∷ after)) ≡ true →
      Forced clauses (λ b. b (Equal s t) ≡ true → b (Holds p (before ++ s ∷ after)) ≡ b (Holds p (before ++ t ∷ after)))
  equal_in_predicate p before s t after hs ht ground_one ground_other =
      let one : Atom = Holds p (before ++ s ∷ after) in
      let other : Atom = Holds p (before ++ t ∷ after) in
      let there = forced_axiom (in_predicate p before s t after) (carries-ground (Equal s t) one other (λ i. hs i && (ht i && true)) ground_one ground_other) in
      let back = forced_axiom (in_predicate p before t s after) (carries-ground (Equal t s) other one (λ i. ht i && (hs i && true)) ground_other ground_one) in
      forced_then (forced_both (equal_turned s t hs ht) (forced_both there back))
      (λ b h e. both_ways (b one) (b other) (carries-forces b (Equal s t) one other h.1.0 e) (carries-forces b (Equal t s) other one h.1.1 (h.0 e)))

  pub equal_on_left : (s t u : Term) → is_ground_term s ≡ true → is_ground_term t ≡ true → is_ground_term u ≡ true → Forced clauses (λ b. b (Equal s t) ≡ true → b (Equal s u) ≡ b (Equal t u))
  equal_on_left s t u hs ht hu =
      forced_then (forced_both (equal_turned s t hs ht) (forced_both (equal_joined t s u ht hs hu) (equal_joined s t u hs ht hu)))
      (λ b h e. both_ways (b (Equal s u)) (b (Equal t u)) (h.1.0 (h.0 e)) (h.1.1 e))

  pub equal_on_right : (u s t : Term) → is_ground_term u ≡ true → is_ground_term s ≡ true → is_ground_term t ≡ true → Forced clauses (λ b. b (Equal s t) ≡ true → b (Equal u s) ≡ b (Equal u t))
  equal_on_right u s t hu hs ht =
      forced_then (forced_both (equal_turned s t hs ht) (forced_both (equal_joined u s t hu hs ht) (equal_joined u t s hu ht hs)))
      (λ b h e. both_ways (b (Equal u s)) (b (Equal u t)) (λ k. h.1.0 k e) (λ k. h.1.1 k (h.0 e)))
