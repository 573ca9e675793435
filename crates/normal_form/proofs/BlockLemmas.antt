-- Blocks of quantified variables.
use Rattle.std.proofs.Common.{◌≡◌, ◌⊎◌, inl, inr, ℕ, zero, suc, ◌+◌, ◌-◌, ◌<◌, ◌≤◌, Bool, true, false, ◌&&◌, ◌==◌, nat_le, nat_lt, if◌then◌else◌, List, [], ◌∷◌, ◌++◌, map, arith, refl, sym, ap, ◌∙◌, append_assoc, append-nil}
use Rattle.std.proofs.lemmas.Grind.{fold-append}
use Rattle.std.proofs.lemmas.List.Concat.{flat_map-append}
use Rattle.std.proofs.lemmas.Bool.{cases_lt, cases_eq, lt-ltb, le-ltb, le-leb, lt-leb, eq-eqb, ne_eqb, eqb-true, and_parts, leb-true, ltb-true}
use Rattle.spl_terms.specs.declared.term.Term.{Term, Var, App}
use Rattle.spl_terms.specs.declared.term.Kind.TheVariants.{Function}
use Rattle.formulas.specs.declared.tree.Tree.{Tree}
use Rattle.formulas.specs.Trees.{foralls, exists}
use Rattle.formulas.specs.Negations.{Form, for_all, for_some, signed_form}
use Rattle.formulas.specs.FormLaws.{form-Forall, form-Exists}
use Rattle.normal_form.specs.declared.scope.Block.{Block}
use Rattle.normal_form.specs.Skolem.{Place, with_variable, with_skolem, skolem_arguments}
use Rattle.normal_form.specs.Choices.{literals_chosen}
use Rattle.normal_form.specs.Blocks.{with_block, term_in, is_universal, scope_in, place_below, for_each, for_any, with_variables, with_skolems, universal_block, existential_block}
use Rattle.formulas.specs.Bindings.{numbers_from}
use Rattle.normal_form.proofs.Blocks.{same_arguments}

pub last_block : (outer : List Block) (b : Block) (v : ℕ) → term_in (outer ++ b ∷ []) v ≡ with_block (term_in outer) b v
last_block outer b v = ap (λ h. h v) (fold-append with_block Var outer (b ∷ []))

-- ---- the forms of a block

pub form-foralls : (first count : ℕ) (t : Tree) → signed_form (foralls first count t) true ≡ for_each first count (signed_form t true)
form-foralls first zero t = refl
form-foralls first (suc count) t = form-Forall first (foralls (suc first) count t) true ∙ ap (for_all first) (form-foralls (suc first) count t)

pub form-not_foralls : (first count : ℕ) (t : Tree) → signed_form (foralls first count t) false ≡ for_any first count (signed_form t false)
form-not_foralls first zero t = refl
form-not_foralls first (suc count) t = form-Forall first (foralls (suc first) count t) false ∙ ap (for_some first) (form-not_foralls (suc first) count t)

pub form-exists : (first count : ℕ) (t : Tree) → signed_form (exists first count t) true ≡ for_any first count (signed_form t true)
form-exists first zero t = refl
form-exists first (suc count) t = form-Exists first (exists (suc first) count t) true ∙ ap (for_some first) (form-exists (suc first) count t)

pub form-not_exists : (first count : ℕ) (t : Tree) → signed_form (exists first count t) false ≡ for_each first count (signed_form t false)
form-not_exists first zero t = refl
form-not_exists first (suc count) t = form-Exists first (exists (suc first) count t) false ∙ ap (for_all first) (form-not_exists (suc first) count t)

-- ---- the list at a place of a block's form is that of the part, behind the quantifiers

pub chosen-for_each : (first count : ℕ) (f : Form) (p : Place) (k : ℕ) → literals_chosen (for_each first count f) p k ≡ literals_chosen f (with_variables first count p) k
chosen-for_each first zero f p k = refl
chosen-for_each first (suc count) f p k = chosen-for_each (suc first) count f (with_variable first p) k

pub chosen-for_any : (first count : ℕ) (f : Form) (p : Place) (k : ℕ) → literals_chosen (for_any first count f) p k ≡ literals_chosen f (with_skolems first count f p) k
chosen-for_any first zero f p k = refl
chosen-for_any first (suc count) f p k = chosen-for_any (suc first) count f (with_skolem first (for_any first (suc count) f) p) k

-- ---- a universal block

abbrev in_block : ℕ → ℕ → ℕ → Bool
in_block first count v = nat_le first v && nat_lt (v - first) count

-- one more variable in front
in_longer : (first count v : ℕ) (a b : Term) → (if in_block (suc first) count v then a else (if v == first then a else b)) ≡ (if in_block first (suc count) v then a else b)
in_longer first count v a b = at_number (cases_lt v first) (cases_eq v first) (cases_lt (v - suc first) count)
  where
    at_number : (v < first) ⊎ (first ≤ v) → (v ≡ first) ⊎ (v ≡ first → ⊥) → (v - suc first < count) ⊎ (count ≤ v - suc first) →
        (if in_block (suc first) count v then a else (if v == first then a else b)) ≡ (if in_block first (suc count) v then a else b)
    at_number (inl less) eq far =
        (λ i. if (lt-leb (suc first) v (omega arith) i && nat_lt (v - suc first) count) then a else (if ne_eqb v first (λ e. omega arith) i then a else b))
        ∙ sym (λ i. if (lt-leb first v less i && nat_lt (v - first) (suc count)) then a else b)
    at_number (inr more) (inl same) far =
        (λ i. if (lt-leb (suc first) v (omega arith) i && nat_lt (v - suc first) count) then a else (if eq-eqb v first same i then a else b))
        ∙ sym (λ i. if (le-leb first v more i && lt-ltb (v - first) (suc count) (omega arith) i) then a else b)
    at_number (inr more) (inr other) (inl near) =
        (λ i. if (le-leb (suc first) v (omega arith) i && lt-ltb (v - suc first) count near i) then a else (if v == first then a else b))
        ∙ sym (λ i. if (le-leb first v more i && lt-ltb (v - first) (suc count) (omega arith) i) then a else b)
    at_number (inr more) (inr other) (inr past) =
        (λ i. if (le-leb (suc first) v (omega arith) i && le-ltb (v - suc first) count past i) then a else (if ne_eqb v first other i then a else b))
        ∙ sym (λ i. if (le-leb first v more i && le-ltb (v - first) (suc count) (omega arith) i) then a else b)

and-false : (b : Bool) → (b && false) ≡ false
and-false true = refl
and-false false = refl

in_nothing : (first v : ℕ) → in_block first 0 v ≡ false
in_nothing first v = ap (λ b. nat_le first v && b) (le-ltb (v - first) 0 (omega arith)) ∙ and-false (nat_le first v)

variable_itself : (first v : ℕ) (t : Term) (b : Bool) → (v == first) ≡ b → (if b then Var first else t) ≡ (if b then Var v else t)
variable_itself first v t true e = ap Var (sym (eqb-true v first e))
variable_itself first v t false e = refl

variables_term : (first count : ℕ) (p : Place) (v : ℕ) → (with_variables first count p).term_of v ≡ (if in_block first count v then Var v else p.term_of v)
variables_term first zero p v = ap (λ b. if b then Var v else p.term_of v) (sym (in_nothing first v))
variables_term first (suc count) p v =
    variables_term (suc first) count (with_variable first p) v
    ∙ ap (λ t. if in_block (suc first) count v then Var v else t) (variable_itself first v (p.term_of v) (v == first) refl)
    ∙ in_longer first count v (Var v) (p.term_of v)

variables_scope : (first count : ℕ) (p : Place) → (with_variables first count p).scope ≡ p.scope ++ numbers_from first count
variables_scope first zero p = sym (append-nil p.scope)
variables_scope first (suc count) p = variables_scope (suc first) count (with_variable first p) ∙ append_assoc p.scope (first ∷ []) (numbers_from (suc first) count)

variables_symbols : (first count : ℕ) (p : Place) → (with_variables first count p).symbols ≡ p.symbols
variables_symbols first zero p = refl
variables_symbols first (suc count) p = variables_symbols (suc first) count (with_variable first p)

same_place : (p q : Place) → ((v : ℕ) → p.term_of v ≡ q.term_of v) → p.scope ≡ q.scope → p.symbols ≡ q.symbols → p ≡ q
same_place p q t s n = λ i. record { term_of = λ v. t v i; scope = s i; symbols = n i }

-- the place behind a universal quantifier is that of the blocks with its block
pub place-universal : (blocks : List Block) (first count next : ℕ) → place_below (blocks ++ universal_block first count ∷ []) next ≡ with_variables first count (place_below blocks next)
place-universal blocks first count next =
    same_place (place_below (blocks ++ universal_block first count ∷ []) next) (with_variables first count (place_below blocks next))
    (λ v. last_block blocks (universal_block first count) v ∙ sym (variables_term first count (place_below blocks next) v))
    (flat_map-append (λ b. if is_universal b then numbers_from b.first b.count else []) blocks (universal_block first count ∷ [])
    ∙ ap (λ l. scope_in blocks ++ l) (append-nil (numbers_from first count))
    ∙ sym (variables_scope first count (place_below blocks next)))
    (sym (variables_symbols first count (place_below blocks next)))

-- ---- an existential block

abbrev skolem : ℕ → List ℕ → Term
skolem number args = App (record { number = number; kind = Function }) (map Var args)

when_true : (b : Bool) (s t u : Term) → (b ≡ true → s ≡ t) → (if b then s else u) ≡ (if b then t else u)
when_true true s t u h = h refl
when_true false s t u h = refl

in_parts : (first count v : ℕ) → in_block first count v ≡ true → (first ≤ v) × (v - first < count)
in_parts first count v h =
    let p = and_parts (nat_le first v) (nat_lt (v - first) count) h in
    (leb-true first v p.0, ltb-true (v - first) count p.1)

own_term : (first v n : ℕ) (args : List ℕ) (t : Term) (b : Bool) → (v == first) ≡ b → (if b then skolem n args else t) ≡ (if b then skolem (n + (v - first)) args else t)
own_term first v n args t true e = let same : v ≡ first = eqb-true v first e in ap (λ (k : ℕ). skolem k args) (let f : n ≡ n + (v - first) = omega arith in f)
own_term first v n args t false e = refl

skolems_term : (first count : ℕ) (f : Form) (p : Place) (args : List ℕ) → skolem_arguments (for_any first count f) p ≡ args → (v : ℕ) → (with_skolems first count f p).term_of v ≡ (if in_block first count v then skolem (p.symbols + (v - first)) args else p.term_of v)
skolems_term first zero f p args e v = ap (λ b. if b then skolem (p.symbols + (v - first)) args else p.term_of v) (sym (in_nothing first v))
skolems_term first (suc count) f p args e v =
    skolems_term (suc first) count f (with_skolem first (for_any first (suc count) f) p) args (same_arguments first (for_any (suc first) count f) p ∙ e) v
    ∙ ap (λ as'. if in_block (suc first) count v then skolem (p.symbols + 1 + (v - suc first)) args else (if v == first then skolem p.symbols as' else p.term_of v)) e
    ∙ when_true (in_block (suc first) count v) (skolem (p.symbols + 1 + (v - suc first)) args) (skolem (p.symbols + (v - first)) args) (if v == first then skolem p.symbols args else p.term_of v)
    (λ h. (let q = in_parts (suc first) count v h in ap (λ (k : ℕ). skolem k args) (let g : p.symbols + 1 + (v - suc first) ≡ p.symbols + (v - first) = omega (arith, q.0) in g)))
    ∙ ap (λ t. if in_block (suc first) count v then skolem (p.symbols + (v - first)) args else t) (own_term first v p.symbols args (p.term_of v) (v == first) refl)
    ∙ in_longer first count v (skolem (p.symbols + (v - first)) args) (p.term_of v)

skolems_scope : (first count : ℕ) (f : Form) (p : Place) → (with_skolems first count f p).scope ≡ p.scope
skolems_scope first zero f p = refl
skolems_scope first (suc count) f p = skolems_scope (suc first) count f (with_skolem first (for_any first (suc count) f) p)

skolems_symbols : (first count : ℕ) (f : Form) (p : Place) → (with_skolems first count f p).symbols ≡ p.symbols + count
skolems_symbols first zero f p = let e : p.symbols ≡ p.symbols + 0 = omega arith in e
skolems_symbols first (suc count) f p = skolems_symbols (suc first) count f (with_skolem first (for_any first (suc count) f) p) ∙ (let e : p.symbols + 1 + count ≡ p.symbols + suc count = omega arith in e)

-- the place behind an existential quantifier is that of the blocks with its block, and with its symbols
pub place-existential : (blocks : List Block) (first count next : ℕ) (f : Form) → place_below (blocks ++ existential_block first count f (place_below blocks next) ∷ []) (next + count) ≡ with_skolems first count f (place_below blocks next)
place-existential blocks first count next f =
    let p : Place = place_below blocks next in
    let b : Block = existential_block first count f p in
    let args : List ℕ = skolem_arguments (for_any first count f) p in
    same_place (place_below (blocks ++ b ∷ []) (next + count)) (with_skolems first count f p)
    (λ v. last_block blocks b v ∙ sym (skolems_term first count f p args refl v))
    (flat_map-append (λ c. if is_universal c then numbers_from c.first c.count else []) blocks (b ∷ []) ∙ append-nil (scope_in blocks) ∙ sym (skolems_scope first count f p))
    (sym (skolems_symbols first count f p))
