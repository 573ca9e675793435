-- Where the list of equations leads, by what the code does with its first equation.
use Rattle.std.proofs.Common.{◌≡◌, ℕ, ◌≤◌, ◌<◌, Bool, true, false, ◌&&◌, ◌==◌, if◌then◌else◌, eq-eqb, List, [], ◌∷◌, ◌++◌, length, map, Option, Some, None, refl, sym, ap, subst, ◌∙◌, arith}
use Rattle.std.specs.List.{zip}
use Rattle.std.proofs.lemmas.Bool.{eqb-true, false≢true, and_parts}
use Rattle.std.proofs.lemmas.List.{length-map}
use Rattle.std.proofs.lemmas.List.Sums.{sum_by-cons}
use Rattle.spl_terms.specs.declared.term.Symbol.{Symbol}
use Rattle.spl_terms.specs.declared.term.Term.{Term, Var, App, out-Term}
use Rattle.spl_terms.specs.declared.term.Term.TheViews.{outs-Var, outs-App}
use Rattle.spl_terms.specs.Terms.{symbol_eq, term_eq, terms_eq, term_symbols, replace}
use Rattle.spl_terms.specs.TermLaws.{symbol_eq-true, term_symbols-positive, term_eq-true, term_eq-refl, term_eq-App-App, terms_eq-same}
use Rattle.spl_truth.specs.Unifiers.{occurs, single, bind, Action, trivial, eliminate, decompose, clash, action_of_variable, action_apart, action, Leads, ends, skips, binds, splits, fails, left_symbols}
use Rattle.spl_truth.specs.InstanceLaws.{replace-replace, symbols-replace-App}
use Rattle.spl_truth.specs.OccurrenceLaws.{no_application, occurs-self}
use Rattle.spl_truth.specs.BindingLaws.{left-append, left-cons, unbound_below, bind_fewer}
use Rattle.unify.specs.declared.unifying.Progress.{Progress}
use Rattle.unify.specs.declared.unifying.Progress.TheVariants.{Reduced, Bound, Failed}
use Rattle.unify.specs.Below.{IsBelow, EquationsBelow}
use Rattle.unify.specs.Bindings.{bound_to, substitution, IsFree, IsTriangular}
use Rattle.unify.specs.Solving.{Onward, IsOneMore, Eliminated, Progressed}
use Rattle.unify.proofs.BelowLemmas.{arguments_below, zip_below}
use Rattle.unify.proofs.TriangularLemmas.{under, can_bind, stands, idempotent_at, stays_variable, was_variable, at_arguments, size, sizes}

-- ---- lists of equations that are the same with the bindings applied

abbrev pub Alike : (ℕ → Term) → List (Term × Term) → List (Term × Term) → Type 0
Alike s [] [] = Unit {0}
Alike s [] (f ∷ fs) = ⊥
Alike s (e ∷ es) [] = ⊥
Alike s (e ∷ es) (f ∷ fs) = (replace s e.0 ≡ replace s f.0) × (replace s e.1 ≡ replace s f.1) × Alike s es fs

alike_self : (s : ℕ → Term) (es : List (Term × Term)) → Alike s es es
alike_self s [] = tt
alike_self s (e ∷ es) = (refl, refl, alike_self s es)

alike-append : (s : ℕ → Term) (more es fs : List (Term × Term)) → Alike s es fs → Alike s (more ++ es) (more ++ fs)
alike-append s [] es fs h = h
alike-append s (m ∷ more) es fs h = (refl, refl, alike-append s more es fs h)

alike_bound : (s : ℕ → Term) (v : ℕ) (t : Term) (es fs : List (Term × Term)) → Alike s es fs → Alike (bind v t s) es fs
alike_bound s v t [] [] h = tt
alike_bound s v t [] (f ∷ fs) h = h
alike_bound s v t (e ∷ es) [] h = h
alike_bound s v t (e ∷ es) (f ∷ fs) h = (at e.0 f.0 h.0, at e.1 f.1 h.1, alike_bound s v t es fs h.2)
  where
    at : (x y : Term) → replace s x ≡ replace s y → replace (bind v t s) x ≡ replace (bind v t s) y
    at x y same = sym (replace-replace (single v t) s x) ∙ ap (replace (single v t)) same ∙ replace-replace (single v t) s y

alike_action : (s : ℕ → Term) (e f : Term × Term) (x : Action) → replace s e.0 ≡ replace s f.0 → replace s e.1 ≡ replace s f.1 → action (replace s e.0) (replace s e.1) ≡ x → action (replace s f.0) (replace s f.1) ≡ x
alike_action s e f x p q is = let p' = sym p in let q' = sym q in (λ i. action (p' i) (q' i)) ∙ is

-- they lead to the same
alike_leads : (s : ℕ → Term) (es : List (Term × Term)) (r : Option (ℕ → Term)) → Leads s es r → (fs : List (Term × Term)) → Alike s es fs → Leads s fs r
alike_leads _ _ _ (ends s) [] h = ends s
alike_leads _ _ _ (ends s) (f ∷ fs) h = absurd h
alike_leads _ _ _ (skips s e es r is on) [] h = absurd h
alike_leads _ _ _ (skips s e es r is on) (f ∷ fs) h = skips s f fs r (alike_action s e f trivial h.0 h.1 is) (alike_leads s es r on fs h.2)
alike_leads _ _ _ (binds s e es r v t is on) [] h = absurd h
alike_leads _ _ _ (binds s e es r v t is on) (f ∷ fs) h = binds s f fs r v t (alike_action s e f (eliminate v t) h.0 h.1 is) (alike_leads (bind v t s) es r on fs (alike_bound s v t es fs h.2))
alike_leads _ _ _ (splits s e es r more is on) [] h = absurd h
alike_leads _ _ _ (splits s e es r more is on) (f ∷ fs) h = splits s f fs r more (alike_action s e f (decompose more) h.0 h.1 is) (alike_leads s (more ++ es) r on (more ++ fs) (alike-append s more es fs h.2))
alike_leads _ _ _ (fails s e es is) [] h = absurd h
alike_leads _ _ _ (fails s e es is) (f ∷ fs) h = fails s f fs (alike_action s e f clash h.0 h.1 is)

-- ---- equations with equal sides

pub equal_sides : (a b : Term) → a ≡ b → action a b ≡ trivial
equal_sides a b e = ap (λ c. if c then trivial else action_apart a b (out-Term a) (out-Term b)) (ap (term_eq a) (sym e) ∙ term_eq-refl a)

abbrev asks : Action → Bool
asks trivial = false
asks (eliminate v t) = true
asks (decompose es) = true
asks clash = true

nothing_asked : (s : ℕ → Term) (e f : Term × Term) (x : Action) → f ≡ e → replace s e.0 ≡ replace s e.1 → action (replace s f.0) (replace s f.1) ≡ x → asks x ≡ false
nothing_asked s e f x q same is = ap asks (sym is ∙ ap (λ (g : Term × Term). action (replace s g.0) (replace s g.1)) q ∙ equal_sides (replace s e.0) (replace s e.1) same)

-- where the first equation asks for nothing, the rest leads where the whole does
skipped : (s : ℕ → Term) (l : List (Term × Term)) (r : Option (ℕ → Term)) → Leads s l r → (e : Term × Term) (es : List (Term × Term)) → l ≡ e ∷ es → replace s e.0 ≡ replace s e.1 → Leads s es r
skipped _ _ _ (ends s) e es p same = absurd (cc)
skipped _ _ _ (skips s f fs r is on) e es p same = let q : fs ≡ es = cc in subst (λ k. Leads s k r) q on
skipped _ _ _ (binds s f fs r v t is on) e es p same = absurd (false≢true (sym (nothing_asked s e f (eliminate v t) (let q : f ≡ e = cc in q) same is)))
skipped _ _ _ (splits s f fs r more is on) e es p same = absurd (false≢true (sym (nothing_asked s e f (decompose more) (let q : f ≡ e = cc in q) same is)))
skipped _ _ _ (fails s f fs is) e es p same = absurd (false≢true (sym (nothing_asked s e f clash (let q : f ≡ e = cc in q) same is)))

skipped_all : (s : ℕ → Term) (r : Option (ℕ → Term)) (es : List (Term × Term)) (ss ts : List Term) → map (replace s) ss ≡ map (replace s) ts → Leads s (zip ss ts ++ es) r → Leads s es r
skipped_all s r es [] ts same h = h
skipped_all s r es (x ∷ ss) [] same h = h
skipped_all s r es (x ∷ ss) (y ∷ ts) same h =
    let one : replace s x ≡ replace s y = cc in
    let rest : map (replace s) ss ≡ map (replace s) ts = cc in
    skipped_all s r es ss ts rest (skipped s _ r h (x, y) (zip ss ts ++ es) refl one)

-- ---- two applications

action-App-App : (f g : Symbol) (ss ts : List Term) → action (App f ss) (App g ts) ≡ (if symbol_eq f g && terms_eq ss ts then trivial else (if symbol_eq f g && (length ss == length ts) then decompose (zip ss ts) else clash))
action-App-App f g ss ts =
    let p = term_eq-App-App f ss g ts in
    let q = outs-App f ss in
    let r = outs-App g ts in
    λ i. if p i then trivial else action_apart (App f ss) (App g ts) (q i) (r i)

same_length : (f g : Symbol) (ss ts : List Term) (a b : Bool) → symbol_eq f g ≡ a → terms_eq ss ts ≡ b → (a && (length ss == length ts)) ≡ false → (a && b) ≡ false
same_length f g ss ts true true p q e = absurd (false≢true (sym e ∙ eq-eqb _ _ (ap length (terms_eq-same ss ts q))))
same_length f g ss ts true false p q e = refl
same_length f g ss ts false b p q e = refl

-- other heads, or not as many arguments
pub apart_applications : (f g : Symbol) (ss ts : List Term) → (symbol_eq f g && (length ss == length ts)) ≡ false → action (App f ss) (App g ts) ≡ clash
apart_applications f g ss ts e =
    let p = same_length f g ss ts (symbol_eq f g) (terms_eq ss ts) refl refl e in
    action-App-App f g ss ts
    ∙ ap (λ b. if b then trivial else (if symbol_eq f g && (length ss == length ts) then decompose (zip ss ts) else clash)) p
    ∙ ap (λ b. if b then decompose (zip ss ts) else clash) e

alike_zip : (s : ℕ → Term) → ((t : Term) → replace s (replace s t) ≡ replace s t) → (ss ts : List Term) (es : List (Term × Term)) → Alike s (zip ss ts ++ es) (zip (map (replace s) ss) (map (replace s) ts) ++ es)
alike_zip s twice [] ts es = alike_self s es
alike_zip s twice (x ∷ ss) [] es = alike_self s es
alike_zip s twice (x ∷ ss) (y ∷ ts) es = (sym (twice x), sym (twice y), alike_zip s twice ss ts es)

-- the equations of the arguments lead where the equation of the applications does
pub split_leads : (s : ℕ → Term) → ((t : Term) → replace s (replace s t) ≡ replace s t) → (a b : Term) (f g : Symbol) (ss ts : List Term) → replace s a ≡ App f (map (replace s) ss) → replace s b ≡ App g (map (replace s) ts) → symbol_eq f g ≡ true → length ss ≡ length ts → (es : List (Term × Term)) (r : Option (ℕ → Term)) → Leads s (zip ss ts ++ es) r → Leads s ((a, b) ∷ es) r
split_leads s twice a b f g ss ts p q heads many es r h = by_test (terms_eq (map (replace s) ss) (map (replace s) ts)) refl
  where
    by_test : (c : Bool) → terms_eq (map (replace s) ss) (map (replace s) ts) ≡ c → Leads s ((a, b) ∷ es) r
    by_test true e =
        let same : map (replace s) ss ≡ map (replace s) ts = terms_eq-same _ _ e in
        let head : f ≡ g = symbol_eq-true f g heads in
        let equal : replace s a ≡ replace s b = p ∙ (λ i. App (head i) (same i)) ∙ sym q in
        skips s (a, b) es r (equal_sides _ _ equal) (skipped_all s r es ss ts same h)
    by_test false e =
        let long : (length (map (replace s) ss) == length (map (replace s) ts)) ≡ true = eq-eqb _ _ (length-map ss (replace s) ∙ many ∙ sym (length-map ts (replace s))) in
        let one : (symbol_eq f g && terms_eq (map (replace s) ss) (map (replace s) ts)) ≡ false = rw (heads, e) in
        let two : (symbol_eq f g && (length (map (replace s) ss) == length (map (replace s) ts))) ≡ true = rw (heads, long) in
        splits s (a, b) es r (zip (map (replace s) ss) (map (replace s) ts))
        ((λ i. action (p i) (q i))
        ∙ action-App-App f g (map (replace s) ss) (map (replace s) ts)
        ∙ ap (λ c. if c then trivial else (if symbol_eq f g && (length (map (replace s) ss) == length (map (replace s) ts)) then decompose (zip (map (replace s) ss) (map (replace s) ts)) else clash)) one
        ∙ ap (λ c. if c then decompose (zip (map (replace s) ss) (map (replace s) ts)) else clash) two)
        (alike_leads s (zip ss ts ++ es) r h (zip (map (replace s) ss) (map (replace s) ts) ++ es) (alike_zip s twice ss ts es))

-- ---- a variable

-- the left side is the variable v, the right side is another term
action_left : (v : ℕ) (b : Term) → (Var v ≡ b → ⊥) → action (Var v) b ≡ action_of_variable v b
action_left v b differ = by_test (term_eq (Var v) b) refl
  where
    by_test : (c : Bool) → term_eq (Var v) b ≡ c → action (Var v) b ≡ action_of_variable v b
    by_test true e = absurd (differ (term_eq-true _ _ e))
    by_test false e = ap (λ c. if c then trivial else action_apart (Var v) b (out-Term (Var v)) (out-Term b)) e ∙ ap (λ x. action_apart (Var v) b x (out-Term b)) (outs-Var v)

-- the left side is an application, the right side is the variable v
action_right : (v : ℕ) (f : Symbol) (ss : List Term) → action (App f ss) (Var v) ≡ action_of_variable v (App f ss)
action_right v f ss = by_test (term_eq (App f ss) (Var v)) refl
  where
    by_test : (c : Bool) → term_eq (App f ss) (Var v) ≡ c → action (App f ss) (Var v) ≡ action_of_variable v (App f ss)
    by_test true e = absurd (no_application v f ss (term_eq-true _ _ e))
    by_test false e = ap (λ c. if c then trivial else action_apart (App f ss) (Var v) (out-Term (App f ss)) (out-Term (Var v))) e ∙ (let p = outs-App f ss in let q = outs-Var v in λ i. action_apart (App f ss) (Var v) (p i) (q i))

apart_from : (v : ℕ) (b : Term) → occurs v b ≡ false → Var v ≡ b → ⊥
apart_from v b apart e = false≢true (sym apart ∙ ap (occurs v) (sym e) ∙ occurs-self v)

pub binds_left : (s : ℕ → Term) (a b : Term) (v : ℕ) (u : Term) → replace s a ≡ Var v → replace s b ≡ u → occurs v u ≡ false → (es : List (Term × Term)) (r : Option (ℕ → Term)) → Leads (bind v u s) es r → Leads s ((a, b) ∷ es) r
binds_left s a b v u p q apart es r = binds s (a, b) es r v u ((λ i. action (p i) (q i)) ∙ action_left v u (apart_from v u apart) ∙ ap (λ c. if c then clash else eliminate v u) apart)

pub binds_right : (s : ℕ → Term) (a b : Term) (v : ℕ) (f : Symbol) (ss : List Term) → replace s a ≡ App f ss → replace s b ≡ Var v → occurs v (App f ss) ≡ false → (es : List (Term × Term)) (r : Option (ℕ → Term)) → Leads (bind v (App f ss) s) es r → Leads s ((a, b) ∷ es) r
binds_right s a b v f ss p q apart es r = binds s (a, b) es r v (App f ss) ((λ i. action (p i) (q i)) ∙ action_right v f ss ∙ ap (λ c. if c then clash else eliminate v (App f ss)) apart)

pub fails_left : (s : ℕ → Term) (a b : Term) (v : ℕ) (u : Term) → replace s a ≡ Var v → replace s b ≡ u → (Var v ≡ u → ⊥) → occurs v u ≡ true → (es : List (Term × Term)) → Leads s ((a, b) ∷ es) None
fails_left s a b v u p q differ there es = fails s (a, b) es ((λ i. action (p i) (q i)) ∙ action_left v u differ ∙ ap (λ c. if c then clash else eliminate v u) there)

pub fails_right : (s : ℕ → Term) (a b : Term) (v : ℕ) (f : Symbol) (ss : List Term) → replace s a ≡ App f ss → replace s b ≡ Var v → occurs v (App f ss) ≡ true → (es : List (Term × Term)) → Leads s ((a, b) ∷ es) None
fails_right s a b v f ss p q there es = fails s (a, b) es ((λ i. action (p i) (q i)) ∙ action_right v f ss ∙ ap (λ c. if c then clash else eliminate v (App f ss)) there)

-- ---- what the code answers for one equation

zip_symbols : (made : List (ℕ × Term)) (ss ts : List Term) → left_symbols (substitution made) (zip ss ts) ≤ sizes made ss
zip_symbols made [] ts = omega arith
zip_symbols made (x ∷ ss) [] = omega arith
zip_symbols made (x ∷ ss) (y ∷ ts) =
    omega (arith, zip_symbols made ss ts, sum_by-cons (λ (p : Term × Term). term_symbols (replace (substitution made) p.0)) (x, y) (zip ss ts), sum_by-cons (size made) x ss)

-- left and right stand for the sides l and r of the first equation
module _ (vars : ℕ) (made : List (ℕ × Term)) (tri : IsTriangular vars made) (l r left right : Term) (es : List (Term × Term)) (is_l : replace (substitution made) left ≡ replace (substitution made) l) (is_r : replace (substitution made) right ≡ replace (substitution made) r) (free_l : IsFree made left) (free_r : IsFree made right) (below_l : IsBelow vars left) (below_r : IsBelow vars right) (below : EquationsBelow vars es) where
  fewer_by_one : left_symbols (substitution made) es < left_symbols (substitution made) ((l, r) ∷ es)
  fewer_by_one = omega (arith, left-cons (substitution made) (l, r) es, term_symbols-positive (replace (substitution made) l))

  pub same_variable : (v : ℕ) → left ≡ Var v → right ≡ Var v → Progressed vars Reduced made ((l, r) ∷ es) made es
  same_variable v p q = record {
    is = refl;
    below = below;
    onward = λ o h. skips (substitution made) (l, r) es o (equal_sides _ _ (sym is_l ∙ ap (replace (substitution made)) (p ∙ sym q) ∙ is_r)) h;
    fewer = fewer_by_one;
  }

  lengthened : (v : ℕ) (t : Term) (made' : List (ℕ × Term)) → v < vars → IsBelow vars t → IsFree made t → bound_to made v ≡ None → occurs v (replace (substitution made) t) ≡ false → made' ≡ (v, t) ∷ made → ((o : Option (ℕ → Term)) → Leads (substitution ((v, t) ∷ made)) es o → Leads (substitution made) ((l, r) ∷ es) o) → IsOneMore vars made ((l, r) ∷ es) made' es
  lengthened v t made' lt below_t free_t unbound apart is onward = record {
    binding = (v, t);
    is = is;
    triangular = subst (IsTriangular vars) (sym is) (lt, below_t, apart, unbound, free_t, tri);
    below = below;
    onward = λ o h. onward o (subst (λ m. Leads (substitution m) es o) is h);
  }

  pub variable_left : (v : ℕ) → left ≡ Var v → v < vars
  variable_left v p = below_l v (ap (occurs v) p ∙ occurs-self v)

  pub variable_right : (v : ℕ) → right ≡ Var v → v < vars
  variable_right v q = below_r v (ap (occurs v) q ∙ occurs-self v)

  pub left_eliminated : (v : ℕ) → left ≡ Var v → (right ≡ Var v → ⊥) → (progress : Progress) (made' : List (ℕ × Term)) → Eliminated progress v right made made' → Progressed vars progress made ((l, r) ∷ es) made' es
  left_eliminated v p differ Reduced made' h = absurd h
  left_eliminated v p differ Bound made' h = lengthened v right made' (variable_left v p) below_r free_r (free_l v p) h.0 h.1
      (binds_left (substitution made) l r v (replace (substitution made) right) (sym is_l ∙ stays_variable vars made tri left v p free_l) (sym is_r) h.0 es)
  left_eliminated v p differ Failed made' h =
      fails_left (substitution made) l r v (replace (substitution made) right) (sym is_l ∙ stays_variable vars made tri left v p free_l) (sym is_r)
      (λ e. differ (was_variable vars made tri right v free_r (sym e))) h es

  pub right_eliminated : (v : ℕ) (f : Symbol) (ss : List Term) → left ≡ App f ss → right ≡ Var v → (progress : Progress) (made' : List (ℕ × Term)) → Eliminated progress v left made made' → Progressed vars progress made ((l, r) ∷ es) made' es
  right_eliminated v f ss p q Reduced made' h = absurd h
  right_eliminated v f ss p q Bound made' h =
      let args = at_arguments made left f ss p in
      lengthened v left made' (variable_right v q) below_l free_l (free_r v q) h.0 h.1
      (λ o k. binds_right (substitution made) l r v f (map (replace (substitution made)) ss) (sym is_l ∙ args) (sym is_r ∙ stays_variable vars made tri right v q free_r) (ap (occurs v) (sym args) ∙ h.0) es o (subst (λ u. Leads (bind v u (substitution made)) es o) args k))
  right_eliminated v f ss p q Failed made' h =
      let args = at_arguments made left f ss p in
      fails_right (substitution made) l r v f (map (replace (substitution made)) ss) (sym is_l ∙ args) (sym is_r ∙ stays_variable vars made tri right v q free_r) (ap (occurs v) (sym args) ∙ h) es

  pub heads_apart : (f g : Symbol) (ss ts sl tl : List Term) → left ≡ App f ss → right ≡ App g ts → sl ≡ ss → tl ≡ ts → (same : Bool) → same ≡ (symbol_eq f g && (length sl == length tl)) → same ≡ false → Leads (substitution made) ((l, r) ∷ es) None
  heads_apart f g ss ts sl tl p q a b same is differ =
      let long : (length (map (replace (substitution made)) ss) == length (map (replace (substitution made)) ts)) ≡ (length sl == length tl) = (λ i. length-map ss (replace (substitution made)) i == length-map ts (replace (substitution made)) i) ∙ sym (λ i. length (a i) == length (b i)) in
      let args = at_arguments made left f ss p in
      let others = at_arguments made right g ts q in
      fails (substitution made) (l, r) es
      ((λ i. action ((sym is_l ∙ args) i) ((sym is_r ∙ others) i))
      ∙ apart_applications f g (map (replace (substitution made)) ss) (map (replace (substitution made)) ts) (ap (λ c. symbol_eq f g && c) long ∙ sym is ∙ differ))

  pub arguments_split : (f g : Symbol) (ss ts sl tl : List Term) (es' : List (Term × Term)) → left ≡ App f ss → right ≡ App g ts → sl ≡ ss → tl ≡ ts → (same : Bool) → same ≡ (symbol_eq f g && (length sl == length tl)) → same ≡ true → es' ≡ zip sl tl ++ es → Progressed vars Reduced made ((l, r) ∷ es) made es'
  arguments_split f g ss ts sl tl es' p q a b same is yes' made_es =
      let t : (symbol_eq f g ≡ true) × ((length sl == length tl) ≡ true) = and_parts _ _ (sym is ∙ yes') in
      let many : length ss ≡ length ts = ap length (sym a) ∙ eqb-true _ _ t.1 ∙ ap length b in
      let whole : es' ≡ zip ss ts ++ es = made_es ∙ (λ i. zip (a i) (b i) ++ es) in
      record {
        is = refl;
        below = subst (EquationsBelow vars) (sym whole) (zip_below vars ss ts es (arguments_below vars left f ss p below_l) (arguments_below vars right g ts q below_r) below);
        onward = λ o h. split_leads (substitution made) (idempotent_at vars made tri) l r f g ss ts (sym is_l ∙ at_arguments made left f ss p) (sym is_r ∙ at_arguments made right g ts q) t.0 many es o (subst (λ k. Leads (substitution made) k o) whole h);
        fewer = omega (arith, ap (left_symbols (substitution made)) whole, left-append (substitution made) (zip ss ts) es, left-cons (substitution made) (l, r) es, zip_symbols made ss ts, ap term_symbols (sym is_l), ap (size made) p, symbols-replace-App (substitution made) f ss);
      }

-- ---- up to the next binding, and the whole

pub settled_bound : (vars vars' : ℕ) (made made' new : List (ℕ × Term)) (whole now more es : List (Term × Term)) (e : Term × Term) → vars ≡ vars' → made ≡ made' → Onward made' whole made now → now ≡ e ∷ more → IsOneMore vars made (e ∷ more) new es → IsOneMore vars' made' whole new es
settled_bound vars vars' made made' new whole now more es e p q on popped h = record {
  binding = h.binding;
  is = h.is ∙ ap (λ m. h.binding ∷ m) q;
  triangular = subst (λ n. IsTriangular n new) p h.triangular;
  below = subst (λ n. EquationsBelow n es) p h.below;
  onward = λ o k. on o (subst (λ l. Leads (substitution made) l o) (sym popped) (h.onward o k));
}

pub none_left : (made made' : List (ℕ × Term)) (whole now : List (Term × Term)) → made ≡ made' → Onward made' whole made now → now ≡ [] → (made ≡ made') × Leads (substitution made') whole (Some (substitution made'))
none_left made made' whole now q on e =
    let q' : substitution made ≡ substitution made' = ap substitution q in
    (q, on (Some (substitution made')) (subst (λ l. Leads (substitution made) l (Some (substitution made'))) (sym e) (subst (λ s. Leads (substitution made) [] (Some s)) q' (ends (substitution made)))))

pub fewer_unbound : (vars : ℕ) (made made' : List (ℕ × Term)) (es es' : List (Term × Term)) → IsTriangular vars made → IsOneMore vars made es made' es' → unbound_below vars (substitution made') < unbound_below vars (substitution made)
fewer_unbound vars made made' es es' tri h =
    let t : IsTriangular vars (h.binding ∷ made) = subst (IsTriangular vars) h.is h.triangular in
    let k = stands vars made tri in
    let can = can_bind vars made h.binding.0 h.binding.1 k.0 k.1 t.0 t.1 t.2 t.3 in
    omega (arith, ap (λ m. unbound_below vars (substitution m)) h.is, bind_fewer vars (under vars) (substitution made) h.binding.0 (replace (substitution made) h.binding.1) k.0 can t.0)
