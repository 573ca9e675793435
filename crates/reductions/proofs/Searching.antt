-- Searches that come one after another, and one step of the search for a mapping.
use Rattle.std.proofs.Common.{◌≡◌, ◌⊎◌, inl, inr, ℕ, zero, suc, ◌<◌, Bool, true, false, List, [], ◌∷◌, ◌++◌, length, get_or, Some, refl, sym, ap, subst, ◌∙◌, arith}
use Rattle.std.specs.List.{list_any, flat_map}
use Rattle.std.proofs.lemmas.Bool.{or_cases, or_left, or_right, false≢true}
use Rattle.std.proofs.lemmas.List.Elements.{recursion_from_All}
use Rattle.std.proofs.lemmas.List.Folds.{list_any-append}
use Rattle.spl_terms.specs.declared.term.Symbol.{Symbol}
use Rattle.spl_terms.specs.declared.term.Term.{Term}
use Rattle.spl_terms.specs.declared.atom.Atom.{Atom}
use Rattle.spl_terms.specs.declared.atom.Atom.TheVariants.{Holds}
use Rattle.spl_terms.specs.Terms.{term_variables}
use Rattle.spl_terms.specs.Clauses.{is_same, replace_in_atom}
use Rattle.spl_terms.specs.SameLaws.{flipped, same_cases, same_self, same_flipped}
use Rattle.spl_truth.specs.Unifiers.{occurs, HaveVariablesBelow}
use Rattle.spl_truth.specs.OccurrenceLaws.{any-variables, any_of_all}
use Rattle.unify.specs.Bindings.{bound_to}
use Rattle.unify.specs.Matches.{Agrees, IsFound, FoundOrNot, IsExtended}
use Rattle.reductions.specs.Folding.{turned_if, AreBoundBelow, AreSought, AreRestored, Searched}

-- ---- one search, in other words

module _ (asked asked' : (ℕ → Term) → Type 0) (old new : ℕ × List (ℕ × Term)) where
  pub found_in : (ok : Bool) → ok ≡ true → ((g : ℕ → Term) → asked g → asked' g) → Searched asked old new ok → AreSought asked' old new
  found_in ok e to h =
      let f : AreSought asked old new = subst (Searched asked old new) e h in
      record { onward = λ g a. let m = f.onward g a in (m.0, to g m.1); bound = f.bound; as_many = f.as_many }

  pub nothing_in : (ok : Bool) → ok ≡ false → ((g : ℕ → Term) → asked' g → asked g) → Searched asked old new ok → AreRestored asked' old new
  nothing_in ok e from h =
      let f : AreRestored asked old new = subst (Searched asked old new) e h in
      record { none = λ g a x. f.none g a (from g x); restored = f.restored }

  pub same_search : (ok : Bool) → ((g : ℕ → Term) → asked g → asked' g) → ((g : ℕ → Term) → asked' g → asked g) → Searched asked old new ok → Searched asked' old new ok
  same_search true to from h = found_in true refl to h
  same_search false to from h = nothing_in false refl from h

-- ---- two searches, the second where the first finds nothing

module _ (one other whole : (ℕ → Term) → Type 0) (old mid new : ℕ × List (ℕ × Term)) (first : AreRestored one old mid) where
  pub found_after : ((g : ℕ → Term) → other g → whole g) → AreSought other mid new → AreSought whole old new
  found_after to h = record {
    onward = λ g a. let m = h.onward g a in (subst (λ (b : ℕ × List (ℕ × Term)). Agrees g b.1) first.restored m.0, to g m.1);
    bound = h.bound;
    as_many = h.as_many ∙ ap (λ (b : ℕ × List (ℕ × Term)). b.0) first.restored;
  }

  pub nothing_after : ((g : ℕ → Term) → whole g → one g ⊎ other g) → AreRestored other mid new → AreRestored whole old new
  nothing_after split h = record {
    none = λ g a x. elim (split g x) [
      | inl p ↦ first.none g a p
      | inr q ↦ h.none g (subst (λ (b : ℕ × List (ℕ × Term)). Agrees g b.1) (sym first.restored) a) q
    ];
    restored = h.restored ∙ first.restored;
  }

  pub then_search : (ok : Bool) → ((g : ℕ → Term) → other g → whole g) → ((g : ℕ → Term) → whole g → one g ⊎ other g) → Searched other mid new ok → Searched whole old new ok
  then_search true to split h = found_after to h
  then_search false to split h = nothing_after split h

-- at first nothing was looked for
pub nothing_yet : (asked : (ℕ → Term) → Type 0) (old : ℕ × List (ℕ × Term)) → ((g : ℕ → Term) → asked g → ⊥) → AreRestored asked old old
nothing_yet asked old never = record { none = λ g a x. never g x; restored = refl }

-- ---- what was bound

occurs_low : (vars : ℕ) (ts : List Term) → HaveVariablesBelow vars ts → (v : ℕ) → list_any (occurs v) ts ≡ true → v < vars
occurs_low vars ts h v o = any_of_all vars v (flat_map term_variables ts) (recursion_from_All (λ v. v < vars) _ h) (any-variables v ts ∙ o)

pub bound_after : (vars vars' : ℕ) (asked : (ℕ → Term) → Type 0) (ts : List Term) (old new : List (ℕ × Term)) (ok : Bool) → vars' ≡ vars → ok ≡ true → HaveVariablesBelow vars ts → FoundOrNot asked (λ v. list_any (occurs v) ts) old new ok → AreBoundBelow vars old → AreBoundBelow vars' new
bound_after vars vars' asked ts old new ok same e low h before = subst (λ n. AreBoundBelow n new) (sym same) (λ v t here. by_test v t here (list_any (occurs v) ts) refl)
  where
    found : IsFound asked (λ v. list_any (occurs v) ts) old new
    found = subst (FoundOrNot asked (λ v. list_any (occurs v) ts) old new) e h

    by_test : (v : ℕ) (t : Term) → bound_to new v ≡ Some t → (b : Bool) → list_any (occurs v) ts ≡ b → v < vars
    by_test v t here true o = occurs_low vars ts low v o
    by_test v t here false o = before v t (sym (found.others v o) ∙ here)

pub bindings_undone : (old mid new : ℕ × List (ℕ × Term)) (n : ℕ) → IsExtended old mid → n ≡ length old.1 → ((more before : List (ℕ × Term)) → mid.1 ≡ more ++ before → length before ≡ n → new ≡ (mid.0, before)) → new ≡ old
bindings_undone old mid new n grown count h = h grown.more old.1 grown.made (sym count) ∙ (λ i. (grown.as_many i, old.1))

-- ---- one atom, and then the others

module _ (becomes others : (ℕ → Term) → Type 0) (inside : ℕ → Bool) (old mid : ℕ × List (ℕ × Term)) (matched : Bool) (h : FoundOrNot becomes inside old.1 mid.1 matched) where
  pub not_matched : (new : ℕ × List (ℕ × Term)) → matched ≡ false → new ≡ old → AreRestored (λ g. becomes g × others g) old new
  not_matched new e back = record { none = λ g a x. (subst (FoundOrNot becomes inside old.1 mid.1) e h) g a x.0; restored = back }

  module _ (yes' : matched ≡ true) (as_many : mid.0 ≡ old.0) where
    matched_found : IsFound becomes inside old.1 mid.1
    matched_found = subst (FoundOrNot becomes inside old.1 mid.1) yes' h

    pub others_found : (new : ℕ × List (ℕ × Term)) (ok : Bool) → ok ≡ true → Searched others mid new ok → AreSought (λ g. becomes g × others g) old new
    others_found new ok e k =
        let f : AreSought others mid new = subst (Searched others mid new) e k in
        record {
          onward = λ g a. let m = f.onward g a in (matched_found.old_kept g m.0, (matched_found.done g m.0, m.1));
          bound = f.bound;
          as_many = f.as_many ∙ as_many;
        }

    pub others_nowhere : (last new : ℕ × List (ℕ × Term)) (ok : Bool) → ok ≡ false → Searched others mid last ok → new ≡ old → AreRestored (λ g. becomes g × others g) old new
    others_nowhere last new ok e k back =
        let f : AreRestored others mid last = subst (Searched others mid last) e k in
        record { none = λ g a x. f.none g (matched_found.onward g a x.0) x.1; restored = back }

-- ---- one way or the other

pub turned_same : (turned : Bool) (a b : Atom) → turned_if turned a ≡ b → is_same a b ≡ true
turned_same true a b e = subst (λ x. is_same a x ≡ true) e (same_flipped a)
turned_same false a b e = subst (λ x. is_same a x ≡ true) e (same_self a)

module _ (others : (ℕ → Term) → Type 0) (a b : Atom) where
  abbrev pub Straight : (ℕ → Term) → Type 0
  Straight g = (turned_if false (replace_in_atom g a) ≡ b) × others g

  abbrev pub Turned : (ℕ → Term) → Type 0
  Turned g = (turned_if true (replace_in_atom g a) ≡ b) × others g

  abbrev pub Same : (ℕ → Term) → Type 0
  Same g = (is_same (replace_in_atom g a) b ≡ true) × others g

  pub from_straight : (g : ℕ → Term) → Straight g → Same g
  from_straight g x = (turned_same false (replace_in_atom g a) b x.0, x.1)

  pub from_turned : (g : ℕ → Term) → Turned g → Same g
  from_turned g x = (turned_same true (replace_in_atom g a) b x.0, x.1)

  pub either_way : (g : ℕ → Term) → Same g → Straight g ⊎ Turned g
  either_way g x = elim (same_cases (replace_in_atom g a) b x.0) [
    | inl e ↦ inl (e, x.1)
    | inr e ↦ inr (e, x.1)
  ]

  -- an atom that is no equation has no sides to exchange
  pub one_way : (p : Symbol) (ts : List Term) → a ≡ Holds p ts → (g : ℕ → Term) → Same g → Straight g
  one_way p ts is g x = elim (same_cases (replace_in_atom g a) b x.0) [
    | inl e ↦ (e, x.1)
    | inr e ↦ (ap (replace_in_atom g) is ∙ ap (λ y. flipped (replace_in_atom g y)) (sym is) ∙ e, x.1)
  ]

-- ---- one target after another

module _ (others : (ℕ → Term) → Type 0) (a : Atom) where
  abbrev pub Among : List Atom → (ℕ → Term) → Type 0
  Among bs g = (list_any (is_same (replace_in_atom g a)) bs ≡ true) × others g

  pub among_end : (bs : List Atom) (b : Atom) (g : ℕ → Term) → Among (bs ++ b ∷ []) g → Among bs g ⊎ Same others a b g
  among_end bs b g x = elim (or_cases _ _ (sym (list_any-append (is_same (replace_in_atom g a)) bs (b ∷ [])) ∙ x.0)) [
    | inl e ↦ inl (e, x.1)
    | inr e ↦ inr (elim (or_cases _ _ e) [ inl f ↦ (f, x.1) | inr f ↦ absurd (false≢true f) ])
  ]

  pub among_left : (bs cs : List Atom) (g : ℕ → Term) → Among bs g → Among (bs ++ cs) g
  among_left bs cs g x = (list_any-append (is_same (replace_in_atom g a)) bs cs ∙ or_left _ _ x.0, x.1)

  pub among_right : (bs cs : List Atom) (g : ℕ → Term) → Among cs g → Among (bs ++ cs) g
  among_right bs cs g x = (list_any-append (is_same (replace_in_atom g a)) bs cs ∙ or_right (list_any (is_same (replace_in_atom g a)) bs) _ x.0, x.1)

  pub among_either : (bs cs : List Atom) (g : ℕ → Term) → Among (bs ++ cs) g → Among bs g ⊎ Among cs g
  among_either bs cs g x = elim (or_cases _ _ (sym (list_any-append (is_same (replace_in_atom g a)) bs cs) ∙ x.0)) [
    | inl e ↦ inl (e, x.1)
    | inr e ↦ inr (e, x.1)
  ]

  pub among_here : (bs : List Atom) (k : ℕ) (b : Atom) → k < length bs → b ≡ get_or bs k b → (g : ℕ → Term) → Same others a b g → Among bs g
  among_here [] k b low is g x = absurd (omega (arith, low))
  among_here (c ∷ bs) zero b low is g x = (or_left _ _ (ap (is_same (replace_in_atom g a)) (sym is) ∙ x.0), x.1)
  among_here (c ∷ bs) (suc k) b low is g x = (or_right (is_same (replace_in_atom g a) c) _ (among_here bs k b (omega (arith, low)) is g x).0, x.1)

-- ---- targets in two pieces

pub in_pieces : (others : (ℕ → Term) → Type 0) (a : Atom) (before behind whole : List Atom) (old mid new : ℕ × List (ℕ × Term)) (first second : Bool) → before ++ behind ≡ whole → first ≡ false → Searched (Among others a before) old mid first → Searched (Among others a behind) mid new second → Searched (Among others a whole) old new second
in_pieces others a before behind whole old mid new first second is e h k =
    let nowhere : AreRestored (Among others a before) old mid = subst (Searched (Among others a before) old mid) e h in
    subst (λ l. Searched (Among others a l) old new second) is
    (then_search (Among others a before) (Among others a behind) (Among others a (before ++ behind)) old mid new nowhere second (among_right others a before behind) (among_either others a before behind) k)

-- ---- three places to look

pub in_three : (one two three whole : (ℕ → Term) → Type 0) (a b c d : ℕ × List (ℕ × Term)) (p q r : Bool) → p ≡ false → q ≡ false → ((g : ℕ → Term) → three g → whole g) → ((g : ℕ → Term) → whole g → (one g ⊎ two g) ⊎ three g) → Searched one a b p → Searched two b c q → Searched three c d r → Searched whole a d r
in_three one two three whole a b c d p q r e f to split h k l =
    let first : AreRestored one a b = subst (Searched one a b) e h in
    let second : AreRestored two b c = subst (Searched two b c) f k in
    then_search (λ g. one g ⊎ two g) three whole a c d (nothing_after one two (λ g. one g ⊎ two g) a b c first (λ g x. x) second) r to split l
