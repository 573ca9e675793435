-- Terms that an equation rewrites, on the way through a clause.
use Rattle.std.proofs.Common.{◌≡◌, ℕ, zero, suc, ◌+◌, ◌-◌, ◌<◌, ◌≤◌, nat_lt, Bool, true, false, List, [], ◌∷◌, ◌++◌, length, take, Option, Some, None, get_or, refl, sym, ap, subst, ◌∙◌, arith, append_assoc, length-append}
use Rattle.std.specs.Prelude.{slice_get, option_and_then, MatchOption}
use Rattle.std.proofs.lemmas.Bool.{false≢true, ltb-true, ltb-false}
use Rattle.std.proofs.lemmas.Option.{slice_get-get_or, slice_get_within, none-some, same_Some}
use Rattle.spl_terms.specs.declared.term.Symbol.{Symbol}
use Rattle.spl_terms.specs.declared.term.Term.{Term, Var, App}
use Rattle.spl_terms.specs.declared.term.Term.TheViews.{outs-Var, outs-App}
use Rattle.spl_terms.specs.declared.atom.Atom.{Atom}
use Rattle.spl_terms.specs.declared.atom.Atom.TheVariants.{Holds}
use Rattle.spl_terms.specs.declared.clause.Part.TheVariants.{Constraint, Antecedent, Succedent}
use Rattle.spl_terms.specs.declared.clause.Clause.{Clause}
use Rattle.spl_terms.specs.Terms.{replace}
use Rattle.spl_terms.specs.Clauses.{atom_terms}
use Rattle.spl_truth.specs.declared.replace.Subst.{Subst}
use Rattle.spl_truth.specs.Truth.{entry}
use Rattle.spl_truth.specs.Matching.{IsMatcher, HasNoMatcher}
use Rattle.spl_truth.specs.Orders.{is_greater}
use Rattle.spl_truth.specs.OrderLaws.{is_greater-Var}
use Rattle.spl_truth.specs.OccurrenceLaws.{agree, agreed}
use Rattle.proof_steps.specs.Spots.{arguments_step, arguments_of, subterm, term_under}
use Rattle.reductions.specs.declared.judging.Rewrite.{Rewrite}
use Rattle.reductions.specs.declared.walking.Rewritten.{Rewritten}
use Rattle.reductions.specs.Rewriting.{IsJudged, Rewrites, IsNotRewritten, IsIrreducible, IsReached, IsReachedFrom, AreIrreducible, IsIrreducibleAtom, IsRewrittenAt, AreIrreducibleAtoms, IsIrreducibleClause, IsRewrittenIn}

-- ---- one term

module _ (r : Rewrite) (j : IsJudged r) (u : Term) where
  pub unmatched : HasNoMatcher r.left.now u → IsNotRewritten r u
  unmatched none g makes falls = none g makes

  module _ (s : Subst) (m : IsMatcher r.vars r.left.now u s.terms) where
    pub rewritten : is_greater u (replace (entry s.terms) r.right.now) ≡ true → Rewrites r u s.terms
    rewritten falls = record { as_many = m.as_many; makes = m.makes; falls = falls }

    pub rewritten_always : r.always ≡ true → Rewrites r u s.terms
    rewritten_always e = rewritten (subst (λ t. is_greater t (replace (entry s.terms) r.right.now) ≡ true) m.makes (j.always e (entry s.terms)))

    -- all maps that make the term of the left side make the same of the right side
    pub not_rewritten : is_greater u (replace (entry s.terms) r.right.now) ≡ false → IsNotRewritten r u
    not_rewritten never g makes falls =
        let same : replace g r.right.now ≡ replace (entry s.terms) r.right.now = agree g (entry s.terms) r.right.now (λ v o. agreed g (entry s.terms) r.left.now (makes ∙ sym m.makes) v (j.bound v o)) in
        false≢true (sym never ∙ ap (is_greater u) (sym same) ∙ falls)

-- a variable isn't rewritten
variable_stays : (r : Rewrite) (v : ℕ) → IsNotRewritten r (Var v)
variable_stays r v g makes falls = false≢true (sym (is_greater-Var v (replace g r.right.now)) ∙ falls)

-- ---- subterms

arguments-Var : (v : ℕ) → arguments_of (Var v) ≡ []
arguments-Var v = ap arguments_step (outs-Var v)

arguments-App : (f : Symbol) (ts : List Term) → arguments_of (App f ts) ≡ ts
arguments-App f ts = ap arguments_step (outs-App f ts)

pub irreducible-Var : (r : Rewrite) (t : Term) (v : ℕ) → t ≡ Var v → IsIrreducible r t
irreducible-Var r t v is [] u e = (let same : u ≡ Var v = sym (same_Some t u e) ∙ is in subst (IsNotRewritten r) (sym same) (variable_stays r v))
irreducible-Var r t v is (k ∷ path) u e =
    let none : option_and_then (subterm path) (slice_get (arguments_of t) k) ≡ None = ap (λ x. option_and_then (subterm path) (slice_get (arguments_of x) k)) is ∙ ap (λ l. option_and_then (subterm path) (slice_get l k)) (arguments-Var v) in
    absurd (none-some u (sym none ∙ e))

-- what follows an option that is known
followed : {X Y : Type 0} (f : X → Option Y) (o : Option X) (y : Y) → option_and_then f o ≡ Some y → (x : X) × (o ≡ Some x) × (f x ≡ Some y)
followed f None y e = absurd (none-some y e)
followed f (Some x) y e = (x, refl, e)

pub irreducible-App : (r : Rewrite) (t : Term) (f : Symbol) (ts sl : List Term) → t ≡ App f ts → sl ≡ ts → IsNotRewritten r t → AreIrreducible r sl → IsIrreducible r t
irreducible-App r t f ts sl is same root each [] u e = subst (IsNotRewritten r) (same_Some t u e) root
irreducible-App r t f ts sl is same root each (k ∷ path) u e =
    let there : option_and_then (subterm path) (slice_get sl k) ≡ Some u = ap (λ l. option_and_then (subterm path) (slice_get l k)) (same ∙ sym (arguments-App f ts) ∙ ap arguments_of (sym is)) ∙ e in
    let x = followed (subterm path) (slice_get sl k) u there in
    each k x.0 x.1 path u x.2

module _ (r : Rewrite) (t : Term) (f : Symbol) (ts sl : List Term) (is : t ≡ App f ts) (same : sl ≡ ts) (old new : List ℕ) where
  reached_below : (s : Subst) → IsReached r sl old new s.terms → IsReachedFrom r t old new s.terms
  reached_below s h = record {
    rest = h.place ∷ h.rest;
    term = h.term;
    path = h.path;
    stands = ap (λ l. option_and_then (subterm h.rest) (slice_get l h.place)) (ap arguments_of is ∙ arguments-App f ts ∙ sym same) ∙ h.stands;
    rewrites = h.rewrites;
  }

  pub from_arguments : (o : Option Subst) → IsNotRewritten r t → MatchOption o (AreIrreducible r sl) (λ s. IsReached r sl old new s.terms) → MatchOption o (IsIrreducible r t) (λ s. IsReachedFrom r t old new s.terms)
  from_arguments None root h = irreducible-App r t f ts sl is same root h
  from_arguments (Some s) root h = reached_below s h

-- ---- one argument after another

pub reached_at : (r : Rewrite) (terms : List Term) (k : ℕ) (t : Term) (old mid new : List ℕ) (s : Subst) → slice_get terms k ≡ Some t → mid ≡ old ++ k ∷ [] → IsReachedFrom r t mid new s.terms → IsReached r terms old new s.terms
reached_at r terms k t old mid new s is e h = record {
  place = k;
  rest = h.rest;
  term = h.term;
  path = h.path ∙ ap (λ l. l ++ h.rest) e ∙ append_assoc old (k ∷ []) h.rest;
  stands = ap (option_and_then (subterm h.rest)) is ∙ h.stands;
  rewrites = h.rewrites;
}

pub here : {X : Type 0} (xs : List X) (k : ℕ) (x : X) → k < length xs → x ≡ get_or xs k x → slice_get xs k ≡ Some x
here xs k x low is = slice_get-get_or xs k x low ∙ ap Some (sym is)

-- what holds at each place below one, and at that one, holds at each place below the next
pub one_more : {X : Type 0} (P : X → Type 0) (xs : List X) (n : ℕ) (x : X) → slice_get xs n ≡ Some x → P x → ((k : ℕ) (y : X) → k < n → slice_get xs k ≡ Some y → P y) → (k : ℕ) (y : X) → k < n + 1 → slice_get xs k ≡ Some y → P y
one_more P xs n x is h before k y low there = by_test (nat_lt k n) refl
  where
    by_test : (b : Bool) → nat_lt k n ≡ b → P y
    by_test true e = before k y (ltb-true k n e) there
    by_test false e = (
        let past = ltb-false k n e in
        let same : k ≡ n = omega (arith, past, low) in
        let equal : x ≡ y = same_Some x y (sym is ∙ ap (slice_get xs) (sym same) ∙ there) in
        subst P equal h
        )

pub at_each : {X : Type 0} (P : X → Type 0) (xs : List X) (n : ℕ) → length xs ≤ n → ((k : ℕ) (y : X) → k < n → slice_get xs k ≡ Some y → P y) → (k : ℕ) (y : X) → slice_get xs k ≡ Some y → P y
at_each P xs n past h k y is = h k y (omega (arith, past, slice_get_within xs k y is)) is

-- a path without its last place
pub one_less : (before : List ℕ) (last n : ℕ) (old : List ℕ) → old ≡ before ++ last ∷ [] → n ≡ length old → take (n - 1) old ≡ before
one_less before last n old e f =
    let count : n - 1 ≡ length before = omega (arith, f, ap length e, length-append before (last ∷ [])) in
    (λ i. take (count i) (e i)) ∙ front before
  where
    front : (xs : List ℕ) → take (length xs) (xs ++ last ∷ []) ≡ xs
    front [] = refl
    front (x ∷ xs) = ap (λ l. x ∷ l) (front xs)

-- ---- atoms

pub irreducible-Holds : (r : Rewrite) (a : Atom) (p : Symbol) (ts sl : List Term) → a ≡ Holds p ts → sl ≡ ts → AreIrreducible r sl → IsIrreducibleAtom r a
irreducible-Holds r a p ts sl is same each [] u e = absurd (none-some u e)
irreducible-Holds r a p ts sl is same each (k ∷ path) u e =
    let x = followed (subterm path) (slice_get sl k) u (ap (λ l. option_and_then (subterm path) (slice_get l k)) (same ∙ ap atom_terms (sym is)) ∙ e) in
    each k x.0 x.1 path u x.2

-- the atom has these terms
module _ (r : Rewrite) (a : Atom) (ts : List Term) (is : atom_terms a ≡ ts) where
  irreducible_terms : AreIrreducible r ts → IsIrreducibleAtom r a
  irreducible_terms each [] u e = absurd (none-some u e)
  irreducible_terms each (k ∷ path) u e =
      let x = followed (subterm path) (slice_get ts k) u (ap (λ l. option_and_then (subterm path) (slice_get l k)) (sym is) ∙ e) in
      each k x.0 x.1 path u x.2

  reached_terms : (path : List ℕ) (s : Subst) → IsReached r ts [] path s.terms → IsRewrittenAt r a path s.terms
  reached_terms path s h = record {
    term = h.term;
    stands = ap (λ p. term_under p a) h.path ∙ ap (λ l. option_and_then (subterm h.rest) (slice_get l h.place)) is ∙ h.stands;
    rewrites = h.rewrites;
  }

  pub from_terms : (old path : List ℕ) (o : Option Subst) → old ≡ [] → MatchOption o (AreIrreducible r ts) (λ s. IsReached r ts old path s.terms) → MatchOption o (IsIrreducibleAtom r a) (λ s. IsRewrittenAt r a path s.terms)
  from_terms old path None e h = irreducible_terms h
  from_terms old path (Some s) e h = reached_terms path s (subst (λ p. IsReached r ts p path s.terms) e h)

-- the two sides of an equation
pub both_sides : (r : Rewrite) (l t : Term) → IsIrreducible r l → IsIrreducible r t → AreIrreducible r (l ∷ t ∷ [])
both_sides r l t first second zero x e = subst (IsIrreducible r) (same_Some l x e) first
both_sides r l t first second (suc zero) x e = subst (IsIrreducible r) (same_Some t x e) second
both_sides r l t first second (suc (suc k)) x e = absurd (none-some x e)

-- ---- parts

pub three_parts : (r : Rewrite) (e : Clause) → AreIrreducibleAtoms r e.constraint → AreIrreducibleAtoms r e.antecedent → AreIrreducibleAtoms r e.succedent → IsIrreducibleClause r e
three_parts r e x y z Constraint = x
three_parts r e x y z Antecedent = y
three_parts r e x y z Succedent = z

pub answer_parts : (r : Rewrite) (e : Clause) (o : Option Rewritten) → AreIrreducibleAtoms r e.constraint → AreIrreducibleAtoms r e.antecedent → MatchOption o (AreIrreducibleAtoms r e.succedent) (IsRewrittenIn r e) → MatchOption o (IsIrreducibleClause r e) (IsRewrittenIn r e)
answer_parts r e None x y h = three_parts r e x y h
answer_parts r e (Some f) x y h = h
