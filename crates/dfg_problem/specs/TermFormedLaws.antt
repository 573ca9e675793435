-- Laws with their proofs, not definitions that a reader must believe: of terms and atoms that are written the variables are bound, and the symbols are declared.
use Rattle.std.proofs.Common.{◌≡◌, ◌⊎◌, inl, inr, ℕ, zero, suc, Bool, true, false, ◌&&◌, ◌==◌, if◌then◌else◌, List, [], ◌∷◌, length, map, slice_get, Option, Some, None, refl, sym, subst, ap, ◌∙◌}
use Rattle.std.specs.Prelude.{⊤}
use Rattle.std.specs.List.{list_all, flat_map, AllByRecursion}
use Rattle.std.specs.Str.{bytes_eq}
use Rattle.std.proofs.lemmas.Bool.{false≢true, eq-eqb, eqb-true, or_cases, or_left, or_right, and_from}
use Rattle.std.proofs.lemmas.List.{length-map}
use Rattle.std.proofs.lemmas.List.Folds.{list_any-append}
use Rattle.std.proofs.lemmas.Option.{none-some, same_Some}
use Rattle.spl_terms.specs.declared.term.Kind.{Kind}
use Rattle.spl_terms.specs.declared.term.Kind.TheVariants as kinds
use Rattle.spl_terms.specs.declared.term.Symbol.{Symbol}
use Rattle.spl_terms.specs.declared.term.Term.{Term, Var, App}
use Rattle.spl_terms.specs.declared.atom.Atom.{Atom}
use Rattle.spl_terms.specs.declared.atom.Atom.TheVariants.{Holds, Equal}
use Rattle.spl_terms.specs.Terms.{kind_eq, term_variables}
use Rattle.spl_terms.specs.Clauses.{atom_variables}
use Rattle.spl_terms.specs.TermLaws.{fold-Var, fold-App, term_variables-Var, term_variables-App}
use Rattle.spl_symbols.specs.Symbols.{Declared}
use Rattle.spl_symbols.specs.OfSignature.{fits_place, declares, is_declared, term_of_step, is_term_of, is_atom_of}
use Rattle.formulas.specs.Bindings.{is_member}
use Rattle.dfg_tokens.specs.declared.token.Token.{Token}
use Rattle.dfg_terms.specs.declared.symbols.Place.TheVariants as places
use Rattle.dfg_terms.specs.Scopes.{Binding, bound_from, bound}
use Rattle.dfg_terms.specs.Symbols.{misfit}
use Rattle.dfg_terms.specs.Phrases.{Phrase, each, each_behind_comma, comma_separated, arguments}
use Rattle.dfg_terms.specs.Grammar.{names, IsSymbol, application, term, atom}

-- ---- what holds of each phrase in a row

module _ {X : Type 0} (P : X → Phrase) (Q : X → Type 0) (law : (x : X) (ts rest : List Token) → P x ts rest → Q x) where
  pub each_holds : (xs : List X) (ts rest : List Token) → each P xs ts rest → AllByRecursion Q xs
  each_holds [] ts rest p = tt
  each_holds (x ∷ xs) ts rest p = (law x ts p.0 p.1, each_holds xs p.0 rest p.2)

  pub behind_hold : (xs : List X) (ts rest : List Token) → each_behind_comma P xs ts rest → AllByRecursion Q xs
  behind_hold [] ts rest p = tt
  behind_hold (x ∷ xs) ts rest p = let q = p.2 in (law x p.0 q.0 q.1, behind_hold xs q.0 rest q.2)

  pub separated_hold : (xs : List X) (ts rest : List Token) → comma_separated P xs ts rest → AllByRecursion Q xs
  separated_hold [] ts rest p = absurd p
  separated_hold (x ∷ xs) ts rest p = (law x ts p.0 p.1, behind_hold xs p.0 rest p.2)

  pub arguments_hold : (xs : List X) (ts rest : List Token) → arguments P xs ts rest → AllByRecursion Q xs
  arguments_hold [] ts rest p = tt
  arguments_hold (x ∷ xs) ts rest p = separated_hold (x ∷ xs) p.0 p.2.0 p.2.1

-- ---- bound names

abbrev pub numbers_of : List Binding → List ℕ
numbers_of = map (λ b. b.number)

bound_known : (name : List ℕ) (n : ℕ) (bs : List Binding) (known : Option ℕ) → bound_from known name bs ≡ Some n → (known ≡ Some n) ⊎ (is_member n (numbers_of bs) ≡ true)
bound_known name n [] known e = inl e
bound_known name n (b ∷ bs) known e = by_name (bytes_eq name b.name) (bound_known name n bs (if bytes_eq name b.name then Some b.number else known) e)
  where
    by_name : (same : Bool) → ((if same then Some b.number else known) ≡ Some n) ⊎ (is_member n (numbers_of bs) ≡ true) → (known ≡ Some n) ⊎ (is_member n (numbers_of (b ∷ bs)) ≡ true)
    by_name true (inl h) = inr (or_left (n == b.number) (is_member n (numbers_of bs)) (eq-eqb n b.number (sym (same_Some b.number n h))))
    by_name false (inl h) = inl h
    by_name same (inr m) = inr (or_right (n == b.number) (is_member n (numbers_of bs)) m)

bound_is_known : (name : List ℕ) (n : ℕ) (scope : List Binding) → bound name scope ≡ Some n → is_member n (numbers_of scope) ≡ true
unfolding bound
bound_is_known name n scope e = elim (bound_known name n scope None e) [
  | inl h ↦ absurd (none-some n h)
  | inr m ↦ m
]

-- ---- declared symbols

kind_self : (k : Kind) → kind_eq k k ≡ true
kind_self kinds.Function = refl
kind_self kinds.Predicate = refl
kind_self kinds.Sort = refl

module _ (symbols : List Declared) where
  pub is_declared_so : (in_term : Bool) (s : Symbol) (count : ℕ) (name : List ℕ) → fits_place in_term s.kind ≡ true → slice_get symbols s.number ≡ Some (record { name = name; arity = count; kind = s.kind }) → is_declared symbols in_term s count ≡ true
  is_declared_so in_term s count name fits e =
      and_from (fits_place in_term s.kind) (declares (slice_get symbols s.number) s.kind count) fits
      (ap (λ d. declares d s.kind count) e ∙ and_from (kind_eq s.kind s.kind) (count == count) (kind_self s.kind) (eq-eqb count count refl))

  in_terms : (k : Kind) → misfit places.Term k ≡ None → fits_place true k ≡ true
  in_terms kinds.Function e = refl
  in_terms kinds.Predicate e = absurd cc
  in_terms kinds.Sort e = absurd cc

  in_atoms : (k : Kind) → misfit places.Atom k ≡ None → fits_place false k ≡ true
  in_atoms kinds.Function e = absurd cc
  in_atoms kinds.Predicate e = refl
  in_atoms kinds.Sort e = refl

  of_terms : (f : Symbol) (count : ℕ) (name : List ℕ) → IsSymbol symbols places.Term f count name → is_declared symbols true f count ≡ true
  of_terms f count name is = is_declared_so true f count name (in_terms f.kind is.0) is.1

  pub of_atoms : (p : Symbol) (count : ℕ) (name : List ℕ) → IsSymbol symbols places.Atom p count name → is_declared symbols false p count ≡ true
  of_atoms p count name is = is_declared_so false p count name (in_atoms p.kind is.0) is.1

  -- ---- terms

  -- its variables are among those that are known, and its symbols are declared
  pub record TermFits (known : List ℕ) (t : Term) : Type 0 where
    pub variables : (v : ℕ) → is_member v (term_variables t) ≡ true → is_member v known ≡ true
    pub declared : is_term_of symbols t ≡ true

  pub all_known : (known : List ℕ) (ts : List Term) → AllByRecursion (TermFits known) ts → (v : ℕ) → is_member v (flat_map term_variables ts) ≡ true → is_member v known ≡ true
  all_known known [] fit v m = absurd (false≢true m)
  all_known known (t ∷ ts) fit v m = elim (or_cases (is_member v (term_variables t)) (is_member v (flat_map term_variables ts)) (sym (list_any-append (λ w. v == w) (term_variables t) (flat_map term_variables ts)) ∙ m)) [
    | inl h ↦ fit.0.variables v h
    | inr h ↦ all_known known ts fit.1 v h
  ]

  pub all_declared : (known : List ℕ) (ts : List Term) → AllByRecursion (TermFits known) ts → list_all (is_term_of symbols) ts ≡ true
  all_declared known [] fit = refl
  all_declared known (t ∷ ts) fit = and_from (is_term_of symbols t) (list_all (is_term_of symbols) ts) fit.0.declared (all_declared known ts fit.1)

  each_of : (ts : List Term) → list_all (λ b. b) (map (is_term_of symbols) ts) ≡ list_all (is_term_of symbols) ts
  each_of [] = refl
  each_of (t ∷ ts) = ap (λ b. is_term_of symbols t && b) (each_of ts)

  pub variable_fits : (known : List ℕ) (n : ℕ) → is_member n known ≡ true → TermFits known (Var n)
  variable_fits known n m = record {
    variables = λ v h. elim (or_cases (v == n) false (sym (ap (is_member v) (term_variables-Var n)) ∙ h)) [
      | inl e ↦ ap (λ k. is_member k known) (eqb-true v n e) ∙ m
      | inr e ↦ absurd (false≢true e)
    ];
    declared = fold-Var (term_of_step symbols) n;
  }

  application_fits : (known : List ℕ) (f : Symbol) (ts : List Term) → is_declared symbols true f (length ts) ≡ true → AllByRecursion (TermFits known) ts → TermFits known (App f ts)
  application_fits known f ts is fit = record {
    variables = λ v h. all_known known ts fit v (sym (ap (is_member v) (term_variables-App f ts)) ∙ h);
    declared = fold-App (term_of_step symbols) f ts
        ∙ and_from (is_declared symbols true f (length (map (is_term_of symbols) ts))) (list_all (λ b. b) (map (is_term_of symbols) ts))
        (ap (is_declared symbols true f) (length-map ts (is_term_of symbols)) ∙ is) (each_of ts ∙ all_declared known ts fit);
  }

  -- ---- atoms

  pub record AtomFits (known : List ℕ) (a : Atom) : Type 0 where
    pub variables : (v : ℕ) → is_member v (atom_variables a) ≡ true → is_member v known ≡ true
    pub declared : is_atom_of symbols a ≡ true

  pub predicate_fits : (known : List ℕ) (p : Symbol) (ts : List Term) → is_declared symbols false p (length ts) ≡ true → AllByRecursion (TermFits known) ts → AtomFits known (Holds p ts)
  predicate_fits known p ts is fit = record {
    variables = all_known known ts fit;
    declared = and_from (is_declared symbols false p (length ts)) (list_all (is_term_of symbols) ts) is (all_declared known ts fit);
  }

  equation_fits : (known : List ℕ) (s t : Term) → TermFits known s → TermFits known t → AtomFits known (Equal s t)
  equation_fits known s t p q = record {
    variables = all_known known (s ∷ t ∷ []) (p, (q, tt));
    declared = and_from (is_term_of symbols s) (is_term_of symbols t) p.declared q.declared;
  }

  -- ---- as they are written

  module _ (bytes : List ℕ) (scope : List Binding) where
    pub term_fits : (depth : ℕ) (t : Term) (ts rest : List Token) → term bytes symbols (names bytes scope) depth t ts rest → TermFits (numbers_of scope) t
    unfolding term
    term_fits zero t ts rest p = absurd p
    term_fits (suc depth) t ts rest (inl p) =
        let name = p.2.1 in
        subst (TermFits (numbers_of scope)) (sym p.1) (variable_fits (numbers_of scope) p.0 (bound_is_known name.0 p.0 scope name.2))
    term_fits (suc depth) t ts rest (inr p) =
        let a = p.3 in
        let is = a.1.1 in
        subst (TermFits (numbers_of scope)) (sym p.2)
        (application_fits (numbers_of scope) p.0 p.1 (of_terms p.0 (length p.1) is.0 is.1) (arguments_hold (term bytes symbols (names bytes scope) depth) (TermFits (numbers_of scope)) (term_fits depth) p.1 a.0 rest a.2))

    pub application_of : (depth : ℕ) (p : Symbol) (args : List Term) (ts rest : List Token) → application bytes symbols places.Atom (λ t. ⊤) (term bytes symbols (names bytes scope) depth) p args ts rest → AtomFits (numbers_of scope) (Holds p args)
    application_of depth p args ts rest a =
        let is = a.1.1 in
        predicate_fits (numbers_of scope) p args (of_atoms p (length args) is.0 is.1) (arguments_hold (term bytes symbols (names bytes scope) depth) (TermFits (numbers_of scope)) (term_fits depth) args a.0 rest a.2)

    pub atom_fits : (depth : ℕ) (a : Atom) (ts rest : List Token) → atom bytes symbols places.Atom (term bytes symbols (names bytes scope) depth) a ts rest → AtomFits (numbers_of scope) a
    atom_fits depth a ts rest (inl p) =
        let inner = p.4.2.2.1 in
        let behind = inner.2 in
        subst (AtomFits (numbers_of scope)) (sym p.2) (equation_fits (numbers_of scope) p.0 p.1 (term_fits depth p.0 p.4.2.0 inner.0 inner.1) (term_fits depth p.1 behind.0 p.4.2.2.0 behind.2))
    atom_fits depth a ts rest (inr p) = subst (AtomFits (numbers_of scope)) (sym p.2) (application_of depth p.0 p.1 ts rest p.3)
