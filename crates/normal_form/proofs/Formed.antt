-- Lists of clauses, origins and Skolem symbols, formula by formula.
use Rattle.std.proofs.Common.{◌≡◌, ℕ, zero, suc, ◌+◌, ◌<◌, ◌≤◌, Bool, true, false, nat_lt, min, if◌then◌else◌, List, [], ◌∷◌, ◌++◌, length, map, take, drop, get_or, slice_get, Option, None, Some, Err, replicate, refl, sym, subst, ap, ◌∙◌, arith, append_assoc, length-append}
use Rattle.std.specs.Option.{option_or}
use Rattle.std.specs.List.{AllByRecursion}
use Rattle.spl_terms.specs.InOrder.{IsInOrder}
use Rattle.spl_terms.specs.InOrderLaws.{in_order-IsInOrder}
use Rattle.std.proofs.lemmas.Bool.{lt-ltb, le-ltb, ltb-false}
use Rattle.std.proofs.lemmas.Option.{none-some, same_Some}
use Rattle.spl_terms.specs.declared.clause.Clause.{Clause}
use Rattle.spl_terms.specs.Clauses.{clause_symbols}
use Rattle.spl_symbols.specs.Symbols.{Declared}
use Rattle.spl_symbols.specs.Skolems.{HasSkolems, skolem_symbol}
use Rattle.formulas.specs.declared.tree.Tree.{Tree}
use Rattle.formulas.specs.declared.entry.Entry.{Entry}
use Rattle.formulas.specs.Entries.{stands, with_sign, entry_formula}
use Rattle.formulas.specs.Negations.{Form, form, signed_form}
use Rattle.formulas.specs.FormLaws.{form-Not}
use Rattle.formulas.specs.Counts.{clause_count, existentials}
use Rattle.normal_form.specs.declared.forming.Forming.{Forming}
use Rattle.normal_form.specs.declared.error.FormError.{FormError}
use Rattle.normal_form.specs.declared.error.FormError.TheVariants.{Many, Symbols, Big, Memory}
use Rattle.normal_form.specs.Skolem.{matrix, start}
use Rattle.normal_form.specs.Choices.{arities}
use Rattle.normal_form.specs.NormalForm.{clauses_of_form, normal_form}
use Rattle.normal_form.specs.ClauseSets.{all_arities, origins_from, first_big, form_refusal, first_refusal, IsRefused, HasFormed}
use Rattle.normal_form.specs.Clausal.{Literal, literal_lists, atoms_where, stands_in_constraint, stands_left, stands_right, clause_from}
use Rattle.normal_form.proofs.Choosing.{counted}

-- ---- the item at a place of a list

pub dropped : {X : Type 0} (xs : List X) (k : ℕ) (x : X) → slice_get xs k ≡ Some x → drop k xs ≡ x ∷ drop (k + 1) xs
dropped xs k x e = by_suc xs k e ∙ ap (λ (j : ℕ). x ∷ drop j xs) (let f : suc k ≡ k + 1 = omega arith in f)
  where
    by_suc : (ys : List _) (j : ℕ) → slice_get ys j ≡ Some x → drop j ys ≡ x ∷ drop (suc j) ys
    by_suc [] j h = absurd (none-some x h)
    by_suc (y ∷ ys) zero h = ap (λ z. z ∷ ys) (same_Some y x h)
    by_suc (y ∷ ys) (suc j) h = by_suc ys j h

pub taken_more : {X : Type 0} (xs : List X) (k : ℕ) (x : X) → slice_get xs k ≡ Some x → take k xs ++ x ∷ [] ≡ take (k + 1) xs
taken_more xs k x e = by_suc xs k e ∙ ap (λ (j : ℕ). take j xs) (let f : suc k ≡ k + 1 = omega arith in f)
  where
    by_suc : (ys : List _) (j : ℕ) → slice_get ys j ≡ Some x → take j ys ++ x ∷ [] ≡ take (suc j) ys
    by_suc [] j h = absurd (none-some x h)
    by_suc (y ∷ ys) zero h = ap (λ z. z ∷ []) (sym (same_Some y x h))
    by_suc (y ∷ ys) (suc j) h = ap (λ l. y ∷ l) (by_suc ys j h)

pub read_there : {X : Type 0} (xs : List X) (k : ℕ) (x : X) → k < length xs → x ≡ get_or xs k x → slice_get xs k ≡ Some x
read_there [] k x h e = absurd (omega arith)
read_there (y ∷ xs) zero x h e = ap Some (sym e)
read_there (y ∷ xs) (suc k) x h e = read_there xs k x (omega arith) e

pub past : {X : Type 0} (xs : List X) (k : ℕ) → length xs ≤ k → drop k xs ≡ []
past [] zero h = refl
past [] (suc k) h = refl
past (x ∷ xs) zero h = absurd (omega arith)
past (x ∷ xs) (suc k) h = past xs k (omega arith)

pub all_taken : {X : Type 0} (xs : List X) (k : ℕ) → length xs ≤ k → take k xs ≡ xs
all_taken [] zero h = refl
all_taken [] (suc k) h = refl
all_taken (x ∷ xs) zero h = absurd (omega arith)
all_taken (x ∷ xs) (suc k) h = ap (λ l. x ∷ l) (all_taken xs k (omega arith))

-- ---- the first clause that is too large

pub small_one : (entry : ℕ) (c : Clause) (cs : List Clause) → clause_symbols c ≤ 4096 → first_big entry (c ∷ cs) ≡ first_big entry cs
small_one entry c cs h = ap (λ b. if b then Some (Big entry (min (clause_symbols c) 1000000)) else first_big entry cs) (le-ltb 4096 (clause_symbols c) h)

pub big_one : (entry symbols : ℕ) (c : Clause) (cs : List Clause) → 4096 < clause_symbols c → symbols ≡ min (clause_symbols c) 1000000 → first_big entry (c ∷ cs) ≡ Some (Big entry symbols)
big_one entry symbols c cs h e =
    ap (λ b. if b then Some (Big entry (min (clause_symbols c) 1000000)) else first_big entry cs) (lt-ltb 4096 (clause_symbols c) h)
    ∙ ap (λ (n : ℕ). Some (Big entry n)) (sym e)

-- ---- the refusals of one formula

module _ (entry clauses symbols : ℕ) (f : Form) where
  abbrev at_tests : Bool → Bool → Option FormError
  at_tests many full = if many then Some (Many entry) else (if full then Some (Symbols entry) else first_big entry (clauses_of_form symbols f))

  pub too_many : 65536 < clauses + clause_count f → form_refusal entry clauses symbols f ≡ Some (Many entry)
  too_many h = ap (λ b. at_tests b (nat_lt 65536 (symbols + existentials f))) (lt-ltb 65536 (clauses + clause_count f) h)

  pub too_full : clauses + clause_count f ≤ 65536 → 65536 < symbols + existentials f → form_refusal entry clauses symbols f ≡ Some (Symbols entry)
  too_full h k = λ i. at_tests (le-ltb 65536 (clauses + clause_count f) h i) (lt-ltb 65536 (symbols + existentials f) k i)

  pub neither : clauses + clause_count f ≤ 65536 → symbols + existentials f ≤ 65536 → form_refusal entry clauses symbols f ≡ first_big entry (clauses_of_form symbols f)
  neither h k = λ i. at_tests (le-ltb 65536 (clauses + clause_count f) h i) (le-ltb 65536 (symbols + existentials f) k i)

-- ---- Skolem symbols, one list behind the other

pub joined : (a : List Declared) (n : ℕ) (xs : List ℕ) (b : List Declared) (m : ℕ) (ys : List ℕ) (c : List Declared) (k : ℕ) → HasSkolems a n xs b m → HasSkolems b m ys c k → HasSkolems a n (xs ++ ys) c k
joined a n [] b m ys c k h g = subst (λ d. HasSkolems d n ys c k) h.0 (subst (λ j. HasSkolems b j ys c k) h.1 g)
joined a n (x ∷ xs) b m ys c k h g = (h.0, h.1, joined (a ++ skolem_symbol x h.0 ∷ []) (h.0 + 1) xs b m ys c k h.2 g)

-- ---- one more formula

pub entry_form : (e : Entry) → form (entry_formula e) ≡ signed_form e.formula (stands e.role)
entry_form e = by_sign (stands e.role)
  where
    by_sign : (sign : Bool) → signed_form (with_sign sign e.formula) true ≡ signed_form e.formula sign
    by_sign true = refl
    by_sign false = form-Not e.formula true

module _ (old mid : Forming) (n : ℕ) (f : Tree) (fs : List Tree) (h : HasFormed old mid n (form f)) (more : length mid.signature ≡ length old.signature + existentials (form f)) where
  pub clauses_next : mid.clauses ++ normal_form (length mid.signature) fs ≡ old.clauses ++ normal_form (length old.signature) (f ∷ fs)
  clauses_next =
      (λ i. h.clauses i ++ normal_form (more i) fs)
      ∙ append_assoc old.clauses (clauses_of_form (length old.signature) (form f)) (normal_form (length old.signature + existentials (form f)) fs)

  pub origins_next : mid.origins ++ origins_from (n + 1) fs ≡ old.origins ++ origins_from n (f ∷ fs)
  origins_next =
      ap (λ l. l ++ origins_from (n + 1) fs) h.origins
      ∙ append_assoc old.origins (replicate (clause_count (form f)) n) (origins_from (n + 1) fs)

  pub symbols_next : (new : List Declared) (to : ℕ) → HasSkolems mid.signature mid.next_name (all_arities (length mid.signature) fs) new to → HasSkolems old.signature old.next_name (all_arities (length old.signature) (f ∷ fs)) new to
  symbols_next new to g =
      joined old.signature old.next_name (arities (form f) (start (length old.signature))) mid.signature mid.next_name (all_arities (length old.signature + existentials (form f)) fs) new to
      h.symbols (subst (λ k. HasSkolems mid.signature mid.next_name (all_arities k fs) new to) more g)

  more_clauses : length mid.clauses ≡ length old.clauses + clause_count (form f)
  more_clauses = ap length h.clauses ∙ length-append old.clauses (clauses_of_form (length old.signature) (form f)) ∙ ap (λ k. length old.clauses + k) (counted (length old.signature) (form f))

  pub refused_next : form_refusal n (length old.clauses) (length old.signature) (form f) ≡ None → first_refusal (n + 1) (length mid.clauses) (length mid.signature) fs ≡ first_refusal n (length old.clauses) (length old.signature) (f ∷ fs)
  refused_next none =
      (λ i. first_refusal (n + 1) (more_clauses i) (more i) fs)
      ∙ sym (ap (λ r. option_or r (first_refusal (n + 1) (length old.clauses + clause_count (form f)) (length old.signature + existentials (form f)) fs)) none)

-- a refusal of the next formula is the first one
pub refused_here : (n clauses symbols : ℕ) (f : Tree) (fs : List Tree) (e : FormError) → form_refusal n clauses symbols (form f) ≡ Some e → first_refusal n clauses symbols (f ∷ fs) ≡ Some e
refused_here n clauses symbols f fs e h = ap (λ r. option_or r (first_refusal (n + 1) (clauses + clause_count (form f)) (symbols + existentials (form f)) fs)) h

-- an error that is the one refusal is the other one, where a refusal is
pub refused_too : (e : FormError) (r s : Option FormError) → ((x : FormError) → r ≡ Some x → s ≡ Some x) → IsRefused {T = Unit {0}} r (Err e) → IsRefused {T = Unit {0}} s (Err e)
refused_too (Many entry) r s h k = h (Many entry) k
refused_too (Symbols entry) r s h k = h (Symbols entry) k
refused_too (Big entry symbols) r s h k = h (Big entry symbols) k
refused_too Memory r s h k = tt

-- ---- clauses in order

ordered_lists : (ls : List (List Literal)) → AllByRecursion IsInOrder (map clause_from ls)
ordered_lists [] = tt
ordered_lists (l ∷ ls) = (in_order-IsInOrder (record { constraint = atoms_where stands_in_constraint l; antecedent = atoms_where stands_left l; succedent = atoms_where stands_right l }), ordered_lists ls)

ordered_both : (cs ds : List Clause) → AllByRecursion IsInOrder cs → AllByRecursion IsInOrder ds → AllByRecursion IsInOrder (cs ++ ds)
ordered_both [] ds a b = b
ordered_both (c ∷ cs) ds a b = (a.0, ordered_both cs ds a.1 b)

pub all_in_order : (next : ℕ) (fs : List Tree) → AllByRecursion IsInOrder (normal_form next fs)
all_in_order next [] = tt
all_in_order next (f ∷ fs) = ordered_both (clauses_of_form next (form f)) (normal_form (next + existentials (form f)) fs) (ordered_lists (literal_lists (matrix (form f) (start next)))) (all_in_order (next + existentials (form f)) fs)

-- ---- without a refusal no clause is too large

abbrev pub IsSmall : Clause → Type 0
IsSmall c = clause_symbols c ≤ 4096

small_lists : (entry : ℕ) (cs : List Clause) → first_big entry cs ≡ None → AllByRecursion IsSmall cs
small_lists entry [] h = tt
small_lists entry (c ∷ cs) h = at (nat_lt 4096 (clause_symbols c)) refl h (small_lists entry cs)
  where
    at : (b : Bool) → nat_lt 4096 (clause_symbols c) ≡ b → (if b then Some (Big entry (min (clause_symbols c) 1000000)) else first_big entry cs) ≡ None → (first_big entry cs ≡ None → AllByRecursion IsSmall cs) → AllByRecursion IsSmall (c ∷ cs)
    at true t k more = absurd (none-some (Big entry (min (clause_symbols c) 1000000)) (sym k))
    at false t k more = (ltb-false 4096 (clause_symbols c) t, more k)

no_refusal : (entry clauses symbols : ℕ) (f : Form) → form_refusal entry clauses symbols f ≡ None → first_big entry (clauses_of_form symbols f) ≡ None
no_refusal entry clauses symbols f h = at (nat_lt 65536 (clauses + clause_count f)) (nat_lt 65536 (symbols + existentials f)) h
  where
    at : (many full : Bool) → at_tests entry clauses symbols f many full ≡ None → first_big entry (clauses_of_form symbols f) ≡ None
    at true full k = absurd (none-some (Many entry) (sym k))
    at false true k = absurd (none-some (Symbols entry) (sym k))
    at false false k = k

both_none : (r s : Option FormError) → option_or r s ≡ None → (r ≡ None) × (s ≡ None)
both_none None s h = (refl, h)
both_none (Some e) s h = absurd (none-some e (sym h))

small_both : (cs ds : List Clause) → AllByRecursion IsSmall cs → AllByRecursion IsSmall ds → AllByRecursion IsSmall (cs ++ ds)
small_both [] ds a b = b
small_both (c ∷ cs) ds a b = (a.0, small_both cs ds a.1 b)

pub all_small : (entry clauses symbols : ℕ) (fs : List Tree) → first_refusal entry clauses symbols fs ≡ None → AllByRecursion IsSmall (normal_form symbols fs)
all_small entry clauses symbols [] h = tt
all_small entry clauses symbols (f ∷ fs) h =
    let q = both_none (form_refusal entry clauses symbols (form f)) (first_refusal (entry + 1) (clauses + clause_count (form f)) (symbols + existentials (form f)) fs) h in
    small_both (clauses_of_form symbols (form f)) (normal_form (symbols + existentials (form f)) fs)
    (small_lists entry (clauses_of_form symbols (form f)) (no_refusal entry clauses symbols (form f) q.0))
    (all_small (entry + 1) (clauses + clause_count (form f)) (symbols + existentials (form f)) fs q.1)

pub each_small : (cs : List Clause) → AllByRecursion IsSmall cs → (k : ℕ) (c : Clause) → slice_get cs k ≡ Some c → clause_symbols c ≤ 4096
each_small [] h k c e = absurd (none-some c e)
each_small (d ∷ cs) h zero c e = subst IsSmall (same_Some d c e) h.0
each_small (d ∷ cs) h (suc k) c e = each_small cs h.1 k c e
