-- Laws with their proofs, not definitions that a reader must believe: induction over terms, and the equations of the folds.
use Rattle.std.proofs.lemmas.Bool.{eqb-true, false≢true, and_parts, and_from}
use Rattle.std.proofs.Common.{eq-eqb, ◌≡◌, ℕ, ◌+◌, ◌<◌, Bool, true, false, ◌&&◌, ◌==◌, List, [], ◌∷◌, ◌++◌, map, sum, arith, refl, sym, subst, ap, ◌∙◌}
use Rattle.std.specs.List.{flat_map, concat, list_all}
use Rattle.spl_terms.specs.declared.term.Symbol.{Symbol}
use Rattle.spl_terms.specs.declared.term.Kind.{Kind}
use Rattle.spl_terms.specs.declared.term.Kind.TheVariants.{Function, Predicate, Sort}
use Rattle.spl_terms.specs.declared.term.Term.{Term, Var, App}
use Rattle.spl_terms.specs.declared.term.Term.TheOpen.{Term-F}
use Rattle.spl_terms.specs.declared.term.Term.TheOpen as open_term
use Rattle.spl_terms.specs.declared.term.Term.TheViews.{roll-Term, rolls-Var, rolls-App, outs-Var, outs-App}
use Rattle.spl_terms.specs.declared.term.Term.TheFolds.{map-Term, fold-Term, fold-roll-Term, ind-Term}
use Rattle.spl_terms.specs.Terms.{symbols_step, term_symbols, variables_step, term_variables, ground_step, is_ground_term, replace_step, replace, all_pass, is_variable, is_application, equal_step, term_eq, terms_eq, symbol_eq, kind_eq}

-- each element of the list
abbrev pub Each : (Term → Type 0) → List Term → Type 0
Each P [] = Unit {0}
Each P (t ∷ ts) = P t × Each P ts

firsts : (P : Term → Type 0) (es : List ((t : Term) × P t)) → Each P (map (λ e. e.0) es)
firsts P [] = tt
firsts P (e ∷ es) = (e.1, firsts P es)

layer : (P : Term → Type 0) → ((v : ℕ) → P (Var v)) → ((f : Symbol) (ts : List Term) → Each P ts → P (App f ts)) → (y : Term-F ((t : Term) × P t)) → P (roll-Term (map-Term ((t : Term) × P t) Term (λ e. e.0) y))
layer P at_var at_app (open_term.Var v) = subst P (sym (rolls-Var v)) (at_var v)
layer P at_var at_app (open_term.App f es) = subst P (sym (rolls-App f (map (λ e. e.0) es))) (at_app f _ (firsts P es))

-- what holds of variables, and of an application where it holds of the arguments, holds of each term
pub term_induction : (P : Term → Type 0) → ((v : ℕ) → P (Var v)) → ((f : Symbol) (ts : List Term) → Each P ts → P (App f ts)) → (t : Term) → P t
term_induction P at_var at_app = ind-Term P (λ x y is. subst (λ z. P (roll-Term z)) is (layer P at_var at_app y))

-- ---- the two equations of each fold

pub fold-Var : {A : Type 0} (step : Term-F A → A) (v : ℕ) → fold-Term A step (Var v) ≡ step (open_term.Var v)
fold-Var {A} step v = ap (fold-Term A step) (sym (rolls-Var v)) ∙ fold-roll-Term A step (open_term.Var v)

pub fold-App : {A : Type 0} (step : Term-F A → A) (f : Symbol) (ts : List Term) → fold-Term A step (App f ts) ≡ step (open_term.App f (map (fold-Term A step) ts))
fold-App {A} step f ts = ap (fold-Term A step) (sym (rolls-App f ts)) ∙ fold-roll-Term A step (open_term.App f ts)

pub term_symbols-Var : (v : ℕ) → term_symbols (Var v) ≡ 1
term_symbols-Var v = fold-Var symbols_step v

pub term_symbols-App : (f : Symbol) (ts : List Term) → term_symbols (App f ts) ≡ sum (map term_symbols ts) + 1
term_symbols-App f ts = fold-App symbols_step f ts

pub term_symbols-positive : (t : Term) → 0 < term_symbols t
term_symbols-positive = term_induction (λ t. 0 < term_symbols t) (λ v. omega (arith, term_symbols-Var v)) (λ f ts each. omega (arith, term_symbols-App f ts))

pub term_variables-Var : (v : ℕ) → term_variables (Var v) ≡ v ∷ []
term_variables-Var v = fold-Var variables_step v

concat-map : (ts : List Term) → concat (map term_variables ts) ≡ flat_map term_variables ts
concat-map [] = refl
concat-map (t ∷ ts) = ap (λ l. term_variables t ++ l) (concat-map ts)

pub term_variables-App : (f : Symbol) (ts : List Term) → term_variables (App f ts) ≡ flat_map term_variables ts
term_variables-App f ts = fold-App variables_step f ts ∙ concat-map ts

pub ground-Var : (v : ℕ) → is_ground_term (Var v) ≡ false
ground-Var v = fold-Var ground_step v

all-map : (ts : List Term) → list_all (λ b. b) (map is_ground_term ts) ≡ list_all is_ground_term ts
all-map [] = refl
all-map (t ∷ ts) = ap (λ b. is_ground_term t && b) (all-map ts)

pub ground-App : (f : Symbol) (ts : List Term) → is_ground_term (App f ts) ≡ list_all is_ground_term ts
ground-App f ts = fold-App ground_step f ts ∙ all-map ts

pub replace-Var : (h : ℕ → Term) (v : ℕ) → replace h (Var v) ≡ h v
replace-Var h v = fold-Var (replace_step h) v

pub replace-App : (h : ℕ → Term) (f : Symbol) (ts : List Term) → replace h (App f ts) ≡ App f (map (replace h) ts)
replace-App h f ts = fold-App (replace_step h) f ts

-- ---- equality of terms

all_pass-map : (ss ts : List Term) → all_pass (map term_eq ss) ts ≡ terms_eq ss ts
all_pass-map [] [] = refl
all_pass-map [] (t ∷ ts) = refl
all_pass-map (s ∷ ss) [] = refl
all_pass-map (s ∷ ss) (t ∷ ts) = ap (λ b. term_eq s t && b) (all_pass-map ss ts)

pub term_eq-Var-Var : (v w : ℕ) → term_eq (Var v) (Var w) ≡ (v == w)
term_eq-Var-Var v w = ap (λ (h : Term → Bool). h (Var w)) (fold-Var equal_step v) ∙ ap (is_variable v) (outs-Var w)

pub term_eq-Var-App : (v : ℕ) (g : Symbol) (ts : List Term) → term_eq (Var v) (App g ts) ≡ false
term_eq-Var-App v g ts = ap (λ (h : Term → Bool). h (App g ts)) (fold-Var equal_step v) ∙ ap (is_variable v) (outs-App g ts)

pub term_eq-App-Var : (f : Symbol) (ss : List Term) (w : ℕ) → term_eq (App f ss) (Var w) ≡ false
term_eq-App-Var f ss w = ap (λ (h : Term → Bool). h (Var w)) (fold-App equal_step f ss) ∙ ap (is_application f (map term_eq ss)) (outs-Var w)

pub term_eq-App-App : (f : Symbol) (ss : List Term) (g : Symbol) (ts : List Term) → term_eq (App f ss) (App g ts) ≡ (symbol_eq f g && terms_eq ss ts)
term_eq-App-App f ss g ts =
    ap (λ (h : Term → Bool). h (App g ts)) (fold-App equal_step f ss)
    ∙ ap (is_application f (map term_eq ss)) (outs-App g ts)
    ∙ ap (λ b. symbol_eq f g && b) (all_pass-map ss ts)

-- ---- equality of symbols

kind_eq-refl : (k : Kind) → kind_eq k k ≡ true
kind_eq-refl Function = refl
kind_eq-refl Predicate = refl
kind_eq-refl Sort = refl

kind_eq-true : (k l : Kind) → kind_eq k l ≡ true → k ≡ l
kind_eq-true Function Function e = refl
kind_eq-true Predicate Predicate e = refl
kind_eq-true Sort Sort e = refl
kind_eq-true Function Predicate e = absurd (false≢true e)
kind_eq-true Function Sort e = absurd (false≢true e)
kind_eq-true Predicate Function e = absurd (false≢true e)
kind_eq-true Predicate Sort e = absurd (false≢true e)
kind_eq-true Sort Function e = absurd (false≢true e)
kind_eq-true Sort Predicate e = absurd (false≢true e)

pub symbol_eq-refl : (f : Symbol) → symbol_eq f f ≡ true
symbol_eq-refl f = ap (λ b. b && kind_eq f.kind f.kind) (eq-eqb f.number f.number refl) ∙ kind_eq-refl f.kind

pub symbol_eq-true : (f g : Symbol) → symbol_eq f g ≡ true → f ≡ g
symbol_eq-true f g e =
    let p : (f.number == g.number) ≡ true × kind_eq f.kind g.kind ≡ true = and_parts _ _ e in
    let n : f.number ≡ g.number = eqb-true f.number g.number p.0 in
    let k : f.kind ≡ g.kind = kind_eq-true f.kind g.kind p.1 in
    λ i. record { number = n i; kind = k i }

-- ---- equality of terms is equality of trees

terms_eq-true : (ss : List Term) → Each (λ s. (t : Term) → term_eq s t ≡ true → s ≡ t) ss → (ts : List Term) → terms_eq ss ts ≡ true → ss ≡ ts
terms_eq-true [] each [] e = refl
terms_eq-true [] each (t ∷ ts) e = absurd (false≢true e)
terms_eq-true (s ∷ ss) each [] e = absurd (false≢true e)
terms_eq-true (s ∷ ss) each (t ∷ ts) e =
    let p : (term_eq s t ≡ true) × (terms_eq ss ts ≡ true) = and_parts _ _ e in
    let h : s ≡ t = each.0 t p.0 in
    let r : ss ≡ ts = terms_eq-true ss each.1 ts p.1 in
    λ i. h i ∷ r i

pub term_eq-true : (s t : Term) → term_eq s t ≡ true → s ≡ t
term_eq-true =
    term_induction (λ s. (t : Term) → term_eq s t ≡ true → s ≡ t)
    (λ v. term_induction (λ t. term_eq (Var v) t ≡ true → Var v ≡ t)
    (λ w e. ap Var (eqb-true v w (sym (term_eq-Var-Var v w) ∙ e)))
    (λ g ts _ e. absurd (false≢true (sym (term_eq-Var-App v g ts) ∙ e))))
    (λ f ss each. term_induction (λ t. term_eq (App f ss) t ≡ true → App f ss ≡ t)
    (λ w e. absurd (false≢true (sym (term_eq-App-Var f ss w) ∙ e)))
    (λ g ts _ e.
    let p : (symbol_eq f g ≡ true) × (terms_eq ss ts ≡ true) = and_parts _ _ (sym (term_eq-App-App f ss g ts) ∙ e) in
    let h : f ≡ g = symbol_eq-true f g p.0 in
    let r : ss ≡ ts = terms_eq-true ss each ts p.1 in
    λ i. App (h i) (r i)))

pub terms_eq-same : (ss ts : List Term) → terms_eq ss ts ≡ true → ss ≡ ts
terms_eq-same [] [] e = refl
terms_eq-same [] (t ∷ ts) e = absurd (false≢true e)
terms_eq-same (s ∷ ss) [] e = absurd (false≢true e)
terms_eq-same (s ∷ ss) (t ∷ ts) e =
    let p : (term_eq s t ≡ true) × (terms_eq ss ts ≡ true) = and_parts _ _ e in
    let h : s ≡ t = term_eq-true s t p.0 in
    let r : ss ≡ ts = terms_eq-same ss ts p.1 in
    λ i. h i ∷ r i

all_refl : (ts : List Term) → Each (λ t. term_eq t t ≡ true) ts → terms_eq ts ts ≡ true
all_refl [] each = refl
all_refl (t ∷ ts) each = and_from (term_eq t t) (terms_eq ts ts) each.0 (all_refl ts each.1)

pub term_eq-refl : (t : Term) → term_eq t t ≡ true
term_eq-refl =
    term_induction (λ t. term_eq t t ≡ true)
    (λ v. term_eq-Var-Var v v ∙ eq-eqb v v refl)
    (λ f ts each. term_eq-App-App f ts f ts ∙ ap (λ b. b && terms_eq ts ts) (symbol_eq-refl f) ∙ all_refl ts each)

pub terms_eq-refl : (ts : List Term) → terms_eq ts ts ≡ true
terms_eq-refl [] = refl
terms_eq-refl (t ∷ ts) = and_from (term_eq t t) (terms_eq ts ts) (term_eq-refl t) (terms_eq-refl ts)

-- ---- each variable replaced by itself

replaced_each : (ts : List Term) → Each (λ t. replace (λ v. Var v) t ≡ t) ts → map (replace (λ v. Var v)) ts ≡ ts
replaced_each [] each = refl
replaced_each (t ∷ ts) each = λ i. each.0 i ∷ replaced_each ts each.1 i

pub replace-itself : (t : Term) → replace (λ v. Var v) t ≡ t
replace-itself =
    term_induction (λ t. replace (λ v. Var v) t ≡ t)
    (λ v. replace-Var (λ v. Var v) v)
    (λ f ts each. replace-App (λ v. Var v) f ts ∙ ap (App f) (replaced_each ts each))

pub replace_all-itself : (ts : List Term) → map (replace (λ v. Var v)) ts ≡ ts
replace_all-itself [] = refl
replace_all-itself (t ∷ ts) = λ i. replace-itself t i ∷ replace_all-itself ts i

-- two applications that are the same as far as tests of their symbols and arguments say
pub equal_apps : (s t : Term) (f g : Symbol) (ss ts as' bs : List Term) (q r : Bool) → s ≡ App f ss → t ≡ App g ts → q ≡ symbol_eq f g → q ≡ true → as' ≡ ss → bs ≡ ts → r ≡ terms_eq as' bs → r ≡ term_eq s t
equal_apps s t f g ss ts as' bs q r left right is here first second tested =
    tested ∙ (λ i. terms_eq (first i) (second i)) ∙ ap (λ b. b && terms_eq ss ts) (sym (sym is ∙ here)) ∙ sym (term_eq-App-App f ss g ts) ∙ (λ i. term_eq (sym left i) (sym right i))
