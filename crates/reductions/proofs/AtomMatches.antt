-- What matching two terms, or two atoms, finds.
use Rattle.std.proofs.Common.{◌≡◌, ℕ, ◌<◌, Bool, true, false, ◌||◌, List, [], ◌∷◌, ◌++◌, map, refl, sym, ap, subst, ◌∙◌, append_assoc}
use Rattle.std.specs.List.{list_any, AllByRecursion}
use Rattle.std.proofs.lemmas.List.Elements.{recursion_from_All, All-from_recursion}
use Rattle.std.proofs.lemmas.Bool.{or_parts}
use Rattle.std.proofs.Math.Bool.{or-false}
use Rattle.spl_terms.specs.declared.term.Symbol.{Symbol}
use Rattle.spl_terms.specs.declared.term.Term.{Term}
use Rattle.spl_terms.specs.declared.atom.Atom.{Atom}
use Rattle.spl_terms.specs.declared.atom.Atom.TheVariants.{Holds, Equal}
use Rattle.spl_terms.specs.Terms.{symbol_eq, term_variables, replace}
use Rattle.spl_terms.specs.Clauses.{atom_terms, replace_in_atom}
use Rattle.spl_terms.specs.TermLaws.{symbol_eq-true, symbol_eq-refl}
use Rattle.spl_truth.specs.Unifiers.{occurs, HasVariablesBelow, HaveVariablesBelow}
use Rattle.unify.specs.Matches.{IsFound, FoundOrNot, IsExtended}
use Rattle.reductions.specs.Folding.{turned_if}

-- ---- bindings that grow twice

pub grown_twice : (a b c : ℕ × List (ℕ × Term)) → IsExtended a b → IsExtended b c → IsExtended a c
grown_twice a b c h k = record {
  as_many = k.as_many ∙ h.as_many;
  more = k.more ++ h.more;
  made = k.made ∙ ap (λ l. k.more ++ l) h.made ∙ sym (append_assoc k.more h.more a.1);
}

-- ---- one after the other

pub then_found : (one other : (ℕ → Term) → Type 0) (inside inside' : ℕ → Bool) (old mid new : List (ℕ × Term)) (first second : Bool) → first ≡ true → FoundOrNot one inside old mid first → FoundOrNot other inside' mid new second → FoundOrNot (λ g. one g × other g) (λ v. inside v || inside' v) old new second
then_found one other inside inside' old mid new first true e h k =
    let f : IsFound one inside old mid = subst (FoundOrNot one inside old mid) e h in
    record {
      onward = λ g a is. k.onward g (f.onward g a is.0) is.1;
      old_kept = λ g a. f.old_kept g (k.old_kept g a);
      done = λ g a. (f.done g (k.old_kept g a), k.done g a);
      others = λ v out. let p = or_parts _ _ out in k.others v p.1 ∙ f.others v p.0;
    }
then_found one other inside inside' old mid new first false e h k =
    let f : IsFound one inside old mid = subst (FoundOrNot one inside old mid) e h in
    λ g a is. k g (f.onward g a is.0) is.1

pub not_found_first : (one other : (ℕ → Term) → Type 0) (inside inside' : ℕ → Bool) (old new : List (ℕ × Term)) (first : Bool) → first ≡ false → FoundOrNot one inside old new first → FoundOrNot (λ g. one g × other g) (λ v. inside v || inside' v) old new false
not_found_first one other inside inside' old new first e h = let f : FoundOrNot one inside old new false = subst (FoundOrNot one inside old new) e h in λ g a is. f g a is.0

-- ---- the same, in other words

in_other_words : (asked asked' : (ℕ → Term) → Type 0) (inside inside' : ℕ → Bool) (old new : List (ℕ × Term)) (ok : Bool) → ((g : ℕ → Term) → asked g → asked' g) → ((g : ℕ → Term) → asked' g → asked g) → ((v : ℕ) → inside' v ≡ inside v) → FoundOrNot asked inside old new ok → FoundOrNot asked' inside' old new ok
in_other_words asked asked' inside inside' old new true to from same h = record {
  onward = λ g a is. h.onward g a (from g is);
  old_kept = h.old_kept;
  done = λ g a. to g (h.done g a);
  others = λ v out. h.others v (sym (same v) ∙ out);
}
in_other_words asked asked' inside inside' old new false to from same h = λ g a is. h g a (from g is)

turned_holds : (turned : Bool) (p : Symbol) (ts : List Term) → turned_if turned (Holds p ts) ≡ Holds p ts
turned_holds true p ts = refl
turned_holds false p ts = refl

pub matched_holds : (a b : Atom) (p q : Symbol) (ss ts sl sl' : List Term) (turned : Bool) (old new : List (ℕ × Term)) (same ok : Bool) → a ≡ Holds p ss → b ≡ Holds q ts → same ≡ symbol_eq p q → same ≡ true → sl ≡ ss → sl' ≡ ts → FoundOrNot (λ g. map (replace g) sl ≡ sl') (λ v. list_any (occurs v) sl) old new ok → FoundOrNot (λ g. turned_if turned (replace_in_atom g a) ≡ b) (λ v. list_any (occurs v) (atom_terms a)) old new ok
matched_holds a b p q ss ts sl sl' turned old new same ok is is' test e one other h =
    let alike : p ≡ q = symbol_eq-true p q (sym test ∙ e) in
    let made : (g : ℕ → Term) → turned_if turned (replace_in_atom g a) ≡ Holds p (map (replace g) ss) = λ g. ap (λ x. turned_if turned (replace_in_atom g x)) is ∙ turned_holds turned p (map (replace g) ss) in
    in_other_words _ _ _ _ old new ok
    (λ g x. made g ∙ (λ i. Holds (alike i) ((ap (map (replace g)) (sym one) ∙ x ∙ other) i)) ∙ sym is')
    (λ g x. ap (map (replace g)) one ∙ arguments p q _ _ (sym (made g) ∙ x ∙ is') ∙ sym other)
    (λ v. ap (λ x. list_any (occurs v) (atom_terms x)) is ∙ ap (list_any (occurs v)) (sym one))
    h
  where
    arguments : (p q : Symbol) (ss ts : List Term) → Holds p ss ≡ Holds q ts → ss ≡ ts
    arguments p q ss ts e = cc

-- predicates that differ
pub other_predicates : (a b : Atom) (p q : Symbol) (ss ts : List Term) (turned : Bool) (old new : List (ℕ × Term)) (same : Bool) → a ≡ Holds p ss → b ≡ Holds q ts → same ≡ symbol_eq p q → same ≡ false → FoundOrNot (λ g. turned_if turned (replace_in_atom g a) ≡ b) (λ v. list_any (occurs v) (atom_terms a)) old new false
other_predicates a b p q ss ts turned old new same is is' test e = λ g _ x.
    (
    let made : Holds p (map (replace g) ss) ≡ Holds q ts = sym (ap (λ x. turned_if turned (replace_in_atom g x)) is ∙ turned_holds turned p (map (replace g) ss)) ∙ x ∙ is' in
    let alike : p ≡ q = heads p q _ _ made in
    let both : true ≡ false = sym (ap (symbol_eq p) (sym alike) ∙ symbol_eq-refl p) ∙ sym test ∙ e in
    absurd (cc)
    )
  where
    heads : (p q : Symbol) (ss ts : List Term) → Holds p ss ≡ Holds q ts → p ≡ q
    heads p q ss ts e = cc

module _ (a b : Atom) (s t u v : Term) (is : a ≡ Equal s t) (is' : b ≡ Equal u v) (old new : List (ℕ × Term)) (ok : Bool) where
  inside_both : (w : ℕ) → list_any (occurs w) (atom_terms a) ≡ (occurs w s || occurs w t)
  inside_both w = ap (λ x. list_any (occurs w) (atom_terms x)) is ∙ ap (λ b. occurs w s || b) (or-false (occurs w t))

  sides : (s t u v : Term) → Equal s t ≡ Equal u v → (s ≡ u) × (t ≡ v)
  sides s t u v e = (cc, cc)

  pub matched_sides : FoundOrNot (λ g. (replace g s ≡ u) × (replace g t ≡ v)) (λ w. occurs w s || occurs w t) old new ok → FoundOrNot (λ g. turned_if false (replace_in_atom g a) ≡ b) (λ w. list_any (occurs w) (atom_terms a)) old new ok
  matched_sides h =
      in_other_words _ _ _ _ old new ok
      (λ g x. ap (replace_in_atom g) is ∙ (λ i. Equal (x.0 i) (x.1 i)) ∙ sym is')
      (λ g x. sides _ _ _ _ (sym (ap (replace_in_atom g) is) ∙ x ∙ is'))
      inside_both
      h

  pub matched_turned : FoundOrNot (λ g. (replace g s ≡ v) × (replace g t ≡ u)) (λ w. occurs w s || occurs w t) old new ok → FoundOrNot (λ g. turned_if true (replace_in_atom g a) ≡ b) (λ w. list_any (occurs w) (atom_terms a)) old new ok
  matched_turned h =
      in_other_words _ _ _ _ old new ok
      (λ g x. ap (λ y. turned_if true (replace_in_atom g y)) is ∙ (λ i. Equal (x.1 i) (x.0 i)) ∙ sym is')
      (λ g x. let p = sides _ _ _ _ (sym (ap (λ y. turned_if true (replace_in_atom g y)) is) ∙ x ∙ is') in (p.1, p.0))
      inside_both
      h

-- ---- variables below a number

all_left : (n : ℕ) (xs ys : List ℕ) → AllByRecursion (λ v. v < n) (xs ++ ys) → AllByRecursion (λ v. v < n) xs
all_left n [] ys h = tt
all_left n (x ∷ xs) ys h = (h.0, all_left n xs ys h.1)

all_right : (n : ℕ) (xs ys : List ℕ) → AllByRecursion (λ v. v < n) (xs ++ ys) → AllByRecursion (λ v. v < n) ys
all_right n [] ys h = h
all_right n (x ∷ xs) ys h = all_right n xs ys h.1

pub below_sides : (n : ℕ) (a : Atom) (s t : Term) → a ≡ Equal s t → HaveVariablesBelow n (atom_terms a) → HasVariablesBelow n s × HasVariablesBelow n t
below_sides n a s t is h =
    let all = recursion_from_All (λ v. v < n) _ (subst (λ x. HaveVariablesBelow n (atom_terms x)) is h) in
    let right = all_right n (term_variables s) (term_variables t ++ []) all in
    (All-from_recursion _ _ (all_left n (term_variables s) (term_variables t ++ []) all), All-from_recursion _ _ (all_left n (term_variables t) [] right))
