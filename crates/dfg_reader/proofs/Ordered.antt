-- The clauses of a problem are in order: repeated atoms are dropped, and there is no variable.
use Rattle.std.proofs.Common.{◌≡◌, ℕ, zero, suc, ◌-◌, inl, inr, Bool, true, false, cond, List, [], ◌∷◌, ◌++◌, map, fold, Result, Ok, Err, IfOk, refl, sym, ap, subst, ◌∙◌}
use Rattle.std.proofs.lemmas.List.{map-append}
use Rattle.std.proofs.lemmas.List.Sums.{fold-append}
use Rattle.std.specs.Bool.{⊤}
use Rattle.std.specs.List.{list_any, flat_map, AllByRecursion}
use Rattle.spl_terms.specs.declared.term.Term.{Term, Var, App}
use Rattle.spl_terms.specs.declared.atom.Atom.{Atom}
use Rattle.spl_terms.specs.declared.atom.Atom.TheVariants.{Holds}
use Rattle.spl_terms.specs.declared.clause.Part.{Part}
use Rattle.spl_terms.specs.declared.clause.Part.TheVariants.{Constraint, Antecedent, Succedent}
use Rattle.spl_terms.specs.declared.clause.Clause.{Clause}
use Rattle.spl_terms.specs.Terms.{replace_step, replace}
use Rattle.spl_terms.specs.Clauses.{is_same, added, distinct, with_atom, at_lists, replace_in_atom, replace_in, number_in, renumbered, in_order}
use Rattle.spl_terms.specs.TermLaws.{fold-App}
use Rattle.spl_symbols.specs.Symbols.{Declared}
use Rattle.dfg_tokens.specs.declared.token.Token.{Token}
use Rattle.dfg_reader.specs.declared.fault.InputError.{InputError}
use Rattle.dfg_reader.specs.declared.formula.Formula.{Formula, True, False, Not, Or, Formula-F, out-Formula}
use Rattle.dfg_reader.specs.declared.formula.Formula as formulas
use Rattle.dfg_reader.specs.declared.formula.Formula.TheOpen as layer
use Rattle.dfg_reader.specs.declared.formula.Formula.TheViews.{outs-True, outs-False, outs-Atom, outs-Not, outs-Or}
use Rattle.dfg_reader.specs.declared.problem.Role.TheVariants as roles
use Rattle.dfg_reader.specs.declared.problem.Entry.{Entry}
use Rattle.dfg_reader.specs.declared.problem.Problem.{Problem}
use Rattle.dfg_reader.specs.GroundClauses.{is_true_literal, negated_part, with_negated, with_layer, with_literal, no_literals, literals, literals_in, clause_of_literals, role_clauses, entry_clauses, clauses, AreInOrder}
use Rattle.dfg_reader.specs.Grammar.{term, atom, unsigned, literal, body, clause, IsWritten}
use Rattle.dfg_reader.proofs.Kept.{all-append}
use Rattle.dfg_reader.proofs.Phrases.{arguments_hold, separated_hold, entries_hold}

-- ---- terms without variables stay as they are

all_mapped : {X : Type 0} (f : X → X) (xs : List X) → AllByRecursion (λ x. f x ≡ x) xs → map f xs ≡ xs
all_mapped f [] all = refl
all_mapped f (x ∷ xs) all = λ i. all.0 i ∷ all_mapped f xs all.1 i

module _ (h : ℕ → Term) where
  abbrev StaysTerm : Term → Type 0
  StaysTerm t = replace h t ≡ t

  module _ (bytes : List ℕ) (symbols : List Declared) where
    term_stays : (depth : ℕ) (t : Term) (ts rest : List Token) → term bytes symbols depth t ts rest → StaysTerm t
    unfolding term
    term_stays zero t ts rest p = absurd p
    term_stays (suc depth) t ts rest p =
        let args = arguments_hold (term bytes symbols depth) StaysTerm (term_stays depth) p.1 p.3.0 rest p.3.2 in
        subst StaysTerm (sym p.2) (fold-App (replace_step h) p.0 p.1 ∙ ap (App p.0) (all_mapped (replace h) p.1 args))

  abbrev StaysAtom : Atom → Type 0
  StaysAtom a = replace_in_atom h a ≡ a

  atom_stays : (bytes : List ℕ) (symbols : List Declared) (depth : ℕ) (a : Atom) (ts rest : List Token) → atom bytes symbols depth a ts rest → StaysAtom a
  atom_stays bytes symbols depth a ts rest p =
      let args = arguments_hold (term bytes symbols (depth - 1)) StaysTerm (term_stays bytes symbols (depth - 1)) p.1 p.3.0 rest p.3.2 in
      subst StaysAtom (sym p.2) (ap (Holds p.0) (all_mapped (replace h) p.1 args))

  -- ---- literals

  abbrev StaysInner : Formula-F Formula → Type 0
  StaysInner (layer.Atom a) = StaysAtom a
  StaysInner _ = ⊤

  abbrev StaysLayer : Formula-F Formula → Type 0
  StaysLayer (layer.Atom a) = StaysAtom a
  StaysLayer (layer.Not f) = StaysInner (out-Formula f)
  StaysLayer _ = ⊤

  abbrev StaysLiteral : Formula → Type 0
  StaysLiteral f = StaysLayer (out-Formula f)

  abbrev StaysUnsigned : Formula → Type 0
  StaysUnsigned f = StaysLayer (out-Formula f) × StaysInner (out-Formula f) × (literals f ≡ f ∷ [])

  true_stays : StaysUnsigned True
  true_stays = (subst StaysLayer (sym outs-True) tt, subst StaysInner (sym outs-True) tt, ap (literals_in True) outs-True)

  false_stays : StaysUnsigned False
  false_stays = (subst StaysLayer (sym outs-False) tt, subst StaysInner (sym outs-False) tt, ap (literals_in False) outs-False)

  lone_stays : (a : Atom) → StaysAtom a → StaysUnsigned (formulas.Atom a)
  lone_stays a s = (subst StaysLayer (sym (outs-Atom a)) s, subst StaysInner (sym (outs-Atom a)) s, ap (literals_in (formulas.Atom a)) (outs-Atom a))

  unsigned_stays : (bytes : List ℕ) (symbols : List Declared) (depth : ℕ) (f : Formula) (ts rest : List Token) → unsigned bytes symbols depth f ts rest → StaysUnsigned f
  unsigned_stays bytes symbols depth f ts rest (inl p) = subst StaysUnsigned (sym p.0) true_stays
  unsigned_stays bytes symbols depth f ts rest (inr (inl p)) = subst StaysUnsigned (sym p.0) false_stays
  unsigned_stays bytes symbols depth f ts rest (inr (inr p)) = subst StaysUnsigned (sym p.1) (lone_stays p.0 (atom_stays bytes symbols depth p.0 ts rest p.2))

  abbrev StaysOne : Formula → Type 0
  StaysOne f = StaysLiteral f × (literals f ≡ f ∷ [])

  negation_stays : (f : Formula) → StaysInner (out-Formula f) → StaysOne (Not f)
  negation_stays f s = (subst StaysLayer (sym (outs-Not f)) s, ap (literals_in (Not f)) (outs-Not f))

  literal_stays : (bytes : List ℕ) (symbols : List Declared) (depth : ℕ) (f : Formula) (ts rest : List Token) → literal bytes symbols depth f ts rest → StaysOne f
  literal_stays bytes symbols depth f ts rest (inl p) = let s = unsigned_stays bytes symbols depth f ts rest p in (s.0, s.2)
  literal_stays bytes symbols depth f ts rest (inr p) =
      let inner = p.2.2 in
      subst StaysOne (sym p.1) (negation_stays p.0 (unsigned_stays bytes symbols (depth - 1) p.0 inner.0 inner.2.0 inner.2.1).1)

  abbrev StaysBody : Formula → Type 0
  StaysBody f = AllByRecursion StaysLiteral (literals f)

  body_stays : (bytes : List ℕ) (symbols : List Declared) (f : Formula) (ts rest : List Token) → body bytes symbols f ts rest → StaysBody f
  body_stays bytes symbols f ts rest (inl p) = let s = literal_stays bytes symbols 1000 f ts rest p in subst (AllByRecursion StaysLiteral) (sym s.1) (s.0, tt)
  body_stays bytes symbols f ts rest (inr p) =
      let inner = p.2.2 in
      let all = separated_hold (literal bytes symbols 999) StaysLiteral (λ g us after q. (literal_stays bytes symbols 999 g us after q).0) p.0 inner.0 inner.2.0 inner.2.1 in
      subst StaysBody (sym p.1) (subst (AllByRecursion StaysLiteral) (sym (ap (literals_in (Or p.0)) (outs-Or p.0))) all)

  -- ---- entries

  abbrev StaysEntry : Entry → Type 0
  StaysEntry e = StaysBody e.formula

  abbrev StayEntries : List Entry → Type 0
  StayEntries = AllByRecursion StaysEntry

  clause_stays : (bytes : List ℕ) (symbols : List Declared) (e : Entry) (ts rest : List Token) → clause bytes symbols e ts rest → StaysEntry e
  clause_stays bytes symbols e ts rest p =
      let opened = p.2.2.1 in
      let labelled = opened.2.1 in
      body_stays bytes symbols e.formula opened.0 labelled.0 labelled.1

  problem_stays : (bytes : List ℕ) (p : Problem) → IsWritten bytes p → StayEntries p.entries
  problem_stays bytes p w = entries_hold bytes p StaysEntry (clause_stays bytes p.signature) w

  -- ---- clauses

  abbrev StaysClause : Clause → Type 0
  StaysClause c = replace_in h c ≡ c

  stays-added : (atoms : List Atom) (a : Atom) → map (replace_in_atom h) atoms ≡ atoms → StaysAtom a → map (replace_in_atom h) (added atoms a) ≡ added atoms a
  stays-added atoms a all one = by_cases (list_any (λ b. is_same a b) atoms)
    where
      by_cases : (b : Bool) → map (replace_in_atom h) (cond b atoms (atoms ++ a ∷ [])) ≡ cond b atoms (atoms ++ a ∷ [])
      by_cases true = all
      by_cases false = map-append (replace_in_atom h) atoms (a ∷ []) ∙ λ i. all i ++ one i ∷ []

  with_atom-stays : (c : Clause) (part : Part) (a : Atom) → StaysClause c → StaysAtom a → StaysClause (with_atom c part a)
  with_atom-stays c Constraint a s one = λ i. record { constraint = stays-added c.constraint a (ap (λ (d : Clause). d.constraint) s) one i; antecedent = (s i).antecedent; succedent = (s i).succedent }
  with_atom-stays c Antecedent a s one = λ i. record { constraint = (s i).constraint; antecedent = stays-added c.antecedent a (ap (λ (d : Clause). d.antecedent) s) one i; succedent = (s i).succedent }
  with_atom-stays c Succedent a s one = λ i. record { constraint = (s i).constraint; antecedent = (s i).antecedent; succedent = stays-added c.succedent a (ap (λ (d : Clause). d.succedent) s) one i }

  with_negated-stays : (c : Clause) (l : Formula-F Formula) → StaysClause c → StaysInner l → StaysClause (with_negated c l)
  with_negated-stays c (layer.Atom a) s one = with_atom-stays c (negated_part a) a s one
  with_negated-stays c layer.True s one = s
  with_negated-stays c layer.False s one = s
  with_negated-stays c (layer.Not f) s one = s
  with_negated-stays c (layer.And fs) s one = s
  with_negated-stays c (layer.Or fs) s one = s
  with_negated-stays c (layer.Implies f g) s one = s
  with_negated-stays c (layer.Equiv f g) s one = s
  with_negated-stays c (layer.Forall n f) s one = s
  with_negated-stays c (layer.Exists n f) s one = s

  with_layer-stays : (c : Clause) (l : Formula-F Formula) → StaysClause c → StaysLayer l → StaysClause (with_layer c l)
  with_layer-stays c (layer.Atom a) s one = with_atom-stays c Succedent a s one
  with_layer-stays c (layer.Not f) s one = with_negated-stays c (out-Formula f) s one
  with_layer-stays c layer.True s one = s
  with_layer-stays c layer.False s one = s
  with_layer-stays c (layer.And fs) s one = s
  with_layer-stays c (layer.Or fs) s one = s
  with_layer-stays c (layer.Implies f g) s one = s
  with_layer-stays c (layer.Equiv f g) s one = s
  with_layer-stays c (layer.Forall n f) s one = s
  with_layer-stays c (layer.Exists n f) s one = s

  fold-stays : (c : Clause) (fs : List Formula) → StaysClause c → AllByRecursion StaysLiteral fs → StaysClause (fold with_literal c fs)
  fold-stays c [] s all = s
  fold-stays c (f ∷ fs) s all = fold-stays (with_literal c f) fs (with_layer-stays c (out-Formula f) s all.0) all.1

-- ---- no repeated atoms

abbrev IsDistinct : List Atom → Type 0
IsDistinct atoms = distinct atoms ≡ atoms

added-twice : (atoms : List Atom) (a : Atom) → IsDistinct atoms → IsDistinct (added atoms a)
added-twice atoms a d = by_cases (list_any (λ b. is_same a b) atoms) refl
  where
    by_cases : (b : Bool) → list_any (λ b. is_same a b) atoms ≡ b → distinct (cond b atoms (atoms ++ a ∷ [])) ≡ cond b atoms (atoms ++ a ∷ [])
    by_cases true e = d
    by_cases false e = fold-append added [] atoms (a ∷ []) ∙ ap (λ xs. added xs a) d ∙ rw e refl

abbrev HasDistinct : Clause → Type 0
HasDistinct c = at_lists distinct c ≡ c

with_atom-distinct : (c : Clause) (part : Part) (a : Atom) → HasDistinct c → HasDistinct (with_atom c part a)
with_atom-distinct c Constraint a s = λ i. record { constraint = added-twice c.constraint a (ap (λ (d : Clause). d.constraint) s) i; antecedent = (s i).antecedent; succedent = (s i).succedent }
with_atom-distinct c Antecedent a s = λ i. record { constraint = (s i).constraint; antecedent = added-twice c.antecedent a (ap (λ (d : Clause). d.antecedent) s) i; succedent = (s i).succedent }
with_atom-distinct c Succedent a s = λ i. record { constraint = (s i).constraint; antecedent = (s i).antecedent; succedent = added-twice c.succedent a (ap (λ (d : Clause). d.succedent) s) i }

with_negated-distinct : (c : Clause) (l : Formula-F Formula) → HasDistinct c → HasDistinct (with_negated c l)
with_negated-distinct c (layer.Atom a) s = with_atom-distinct c (negated_part a) a s
with_negated-distinct c layer.True s = s
with_negated-distinct c layer.False s = s
with_negated-distinct c (layer.Not f) s = s
with_negated-distinct c (layer.And fs) s = s
with_negated-distinct c (layer.Or fs) s = s
with_negated-distinct c (layer.Implies f g) s = s
with_negated-distinct c (layer.Equiv f g) s = s
with_negated-distinct c (layer.Forall n f) s = s
with_negated-distinct c (layer.Exists n f) s = s

with_layer-distinct : (c : Clause) (l : Formula-F Formula) → HasDistinct c → HasDistinct (with_layer c l)
with_layer-distinct c (layer.Atom a) s = with_atom-distinct c Succedent a s
with_layer-distinct c (layer.Not f) s = with_negated-distinct c (out-Formula f) s
with_layer-distinct c layer.True s = s
with_layer-distinct c layer.False s = s
with_layer-distinct c (layer.And fs) s = s
with_layer-distinct c (layer.Or fs) s = s
with_layer-distinct c (layer.Implies f g) s = s
with_layer-distinct c (layer.Equiv f g) s = s
with_layer-distinct c (layer.Forall n f) s = s
with_layer-distinct c (layer.Exists n f) s = s

fold-distinct : (c : Clause) (fs : List Formula) → HasDistinct c → HasDistinct (fold with_literal c fs)
fold-distinct c [] s = s
fold-distinct c (f ∷ fs) s = fold-distinct (with_literal c f) fs (with_layer-distinct c (out-Formula f) s)

-- ---- in order

abbrev IsInOrder : Clause → Type 0
IsInOrder c = in_order c ≡ c

literals_in_order : (fs : List Formula) → ((h : ℕ → Term) → AllByRecursion (StaysLiteral h) fs) → IsInOrder (fold with_literal no_literals fs)
literals_in_order fs all =
    let c = fold with_literal no_literals fs in
    let h : ℕ → Term = λ v. Var (number_in c v) in
    ap renumbered (fold-distinct no_literals fs refl) ∙ fold-stays h no_literals fs refl (all h)

all_in_order : (fs : List Formula) → ((h : ℕ → Term) → AllByRecursion (StaysLiteral h) fs) → AllByRecursion IsInOrder (clause_of_literals fs)
all_in_order fs all = by_cases (list_any is_true_literal fs)
  where
    by_cases : (b : Bool) → AllByRecursion IsInOrder (cond b [] (fold with_literal no_literals fs ∷ []))
    by_cases true = tt
    by_cases false = (literals_in_order fs all, tt)

entry_in_order : (e : Entry) → ((h : ℕ → Term) → StaysEntry h e) → AllByRecursion IsInOrder (entry_clauses e)
entry_in_order e all = by_role e.role
  where
    by_role : (r : _) → AllByRecursion IsInOrder (role_clauses r e.formula)
    by_role roles.Clause = all_in_order (literals e.formula) all
    by_role roles.Axiom = tt
    by_role roles.Conjecture = tt

entries_in_order : (es : List Entry) → ((h : ℕ → Term) → StayEntries h es) → AllByRecursion IsInOrder (clauses es)
unfolding clauses
entries_in_order [] all = tt
entries_in_order (e ∷ es) all = all-append IsInOrder (entry_clauses e) (flat_map entry_clauses es) (entry_in_order e (λ h. (all h).0)) (entries_in_order es (λ h. (all h).1))

at_place : (cs : List Clause) → AllByRecursion IsInOrder cs → AreInOrder cs
at_place [] all k c e = absurd cc
at_place (d ∷ cs) all zero c e = let same : d ≡ c = cc in subst IsInOrder same all.0
at_place (d ∷ cs) all (suc k) c e = at_place cs all.1 k c e

in_order-problem : (bytes : List ℕ) (p : Problem) → IsWritten bytes p → AreInOrder (clauses p.entries)
in_order-problem bytes p w = at_place (clauses p.entries) (entries_in_order p.entries (λ h. problem_stays h bytes p w))

pub in_order-read : (bytes : List ℕ) (r : Result Problem InputError) → IfOk r (λ p. IsWritten bytes p) → IfOk r (λ p. AreInOrder (clauses p.entries))
in_order-read bytes (Ok p) w = in_order-problem bytes p w
in_order-read bytes (Err e) w = tt
