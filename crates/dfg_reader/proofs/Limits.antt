-- Clauses within the limits, one more at a time.
use Rattle.std.proofs.Common.{◌≡◌, ℕ, zero, suc, ◌+◌, ◌≤◌, ◌<◌, inl, inr, Bool, true, false, cond, ◌&&◌, nat_le, nat_lt, List, [], ◌∷◌, ◌++◌, length, drop, fold, get_or, slice_get, Some, Err, refl, sym, ap, ◌∙◌, length-append, arith}
use Rattle.std.proofs.lemmas.Bool.{and_from, and_parts, cases_Bool}
use Rattle.std.proofs.lemmas.List.{append-nil, at_drop_more, at_drop_all}
use Rattle.std.proofs.lemmas.List.Concat.{flat_map-append}
use Rattle.std.proofs.lemmas.List.Folds.{list_all-append}
use Rattle.std.proofs.lemmas.Bool.Decides.{nat_tests}
use Rattle.std.specs.List.{flat_map, list_any, list_all}
use Rattle.spl_terms.specs.declared.atom.Atom.{Atom}
use Rattle.spl_terms.specs.declared.clause.Part.{Part}
use Rattle.spl_terms.specs.declared.clause.Part.TheVariants.{Succedent}
use Rattle.spl_terms.specs.declared.clause.Clause.{Clause}
use Rattle.spl_terms.specs.declared.clause.PushError.{PushError}
use Rattle.spl_terms.specs.declared.clause.PushError.TheVariants.{Big, Memory}
use Rattle.spl_terms.specs.Clauses.{is_same, part_of, with_atom, clause_symbols, FitsOrBig, IsEmpty}
use Rattle.spl_terms.specs.SizeLaws.{with_atom-grows}
use Rattle.dfg_reader.specs.declared.formula.Formula.{Formula, Formula-F, out-Formula}
use Rattle.dfg_reader.specs.declared.formula.Formula.TheOpen as layer
use Rattle.dfg_reader.specs.declared.problem.Role.TheVariants as roles
use Rattle.dfg_reader.specs.declared.problem.Entry.{Entry}
use Rattle.dfg_reader.specs.GroundClauses.{is_true_literal, negated_part, with_negated, with_layer, with_literal, no_literals, literals, formula_clauses, entry_clauses, clauses, is_small, are_within_limits, HasLimits}

-- ---- clauses of entries

pub clauses-push : (es : List Entry) (e : Entry) → clauses (es ++ e ∷ []) ≡ clauses es ++ entry_clauses e
unfolding clauses
clauses-push es e = flat_map-append entry_clauses es (e ∷ []) ∙ ap (λ (cs : List Clause). flat_map entry_clauses es ++ cs) (append-nil (entry_clauses e))

pub clauses-next : (es : List Entry) (e : Entry) → clauses (e ∷ es) ≡ entry_clauses e ++ clauses es
unfolding clauses
clauses-next es e = refl

pub clauses-none : clauses [] ≡ []
unfolding clauses
clauses-none = refl

pub gives_none : (f : Formula) → list_any is_true_literal (literals f) ≡ true → formula_clauses f ≡ []
gives_none f e = rw e refl

pub gives_one : (f : Formula) → list_any is_true_literal (literals f) ≡ false → formula_clauses f ≡ fold with_literal no_literals (literals f) ∷ []
gives_one f e = rw e refl

-- ---- limits

pub both : (a b : Bool) → cond a b false ≡ true → (a ≡ true) × (b ≡ true)
both true b e = (refl, e)
both false b e = absurd cc

pub few : (cs : List Clause) → are_within_limits cs ≡ true → length cs ≤ 65536
unfolding are_within_limits
few cs e = let h = both (nat_le (length cs) 65536) (list_all is_small cs) e in grind (arith, nat_tests, h.0)

pub all_small : (cs : List Clause) → are_within_limits cs ≡ true → list_all is_small cs ≡ true
unfolding are_within_limits
all_small cs e = (both (nat_le (length cs) 65536) (list_all is_small cs) e).1

pub none_within : are_within_limits [] ≡ true
unfolding are_within_limits
none_within = refl

is_small-true : (c : Clause) → clause_symbols c ≤ 4096 → is_small c ≡ true
is_small-true c h = grind (arith, nat_tests)

is_small-false : (c : Clause) → 4096 < clause_symbols c → is_small c ≡ false
is_small-false c h = grind (arith, nat_tests)

counts : (n : ℕ) (b : Bool) → b ≡ true → nat_lt n 65536 ≡ cond (nat_le (n + 1) 65536) b false
counts n b e = rw e (grind (arith, nat_tests))

and_false : (a b : Bool) → b ≡ false → (a && (b && true)) ≡ false
and_false true b h = rw h refl
and_false false b h = refl

never : (b : Bool) → cond b false false ≡ false
never true = refl
never false = refl

pub may_follow : (cs : List Clause) (c : Clause) → are_within_limits cs ≡ true → clause_symbols c ≤ 4096 → nat_lt (length cs) 65536 ≡ are_within_limits (cs ++ c ∷ [])
unfolding are_within_limits
may_follow cs c e h =
    let small : list_all is_small (cs ++ c ∷ []) ≡ true = list_all-append is_small cs (c ∷ []) ∙ and_from (list_all is_small cs) (is_small c && true) (both (nat_le (length cs) 65536) (list_all is_small cs) e).1 (and_from (is_small c) true (is_small-true c h) refl) in
    counts (length cs) (list_all is_small (cs ++ c ∷ [])) small ∙ ap (λ n. cond (nat_le n 65536) (list_all is_small (cs ++ c ∷ [])) false) (sym (length-append cs (c ∷ [])))

pub too_large : (cs : List Clause) (c : Clause) → 4096 < clause_symbols c → are_within_limits (cs ++ c ∷ []) ≡ false
unfolding are_within_limits
too_large cs c h =
    let large : list_all is_small (cs ++ c ∷ []) ≡ false = list_all-append is_small cs (c ∷ []) ∙ and_false (list_all is_small cs) (is_small c) (is_small-false c h) in
    rw large (never (nat_le (length (cs ++ c ∷ [])) 65536))

-- ---- no literals yet

pub no_atoms_yet : (c : Clause) → IsEmpty c → c ≡ no_literals
no_atoms_yet c h = λ i. record { constraint = h.0 i; antecedent = h.1 i; succedent = h.2 i }

-- ---- literals only make a clause larger

with_negated-grows : (c : Clause) (l : Formula-F Formula) → clause_symbols c ≤ clause_symbols (with_negated c l)
with_negated-grows c (layer.Atom a) = with_atom-grows c (negated_part a) a
with_negated-grows c layer.True = omega arith
with_negated-grows c layer.False = omega arith
with_negated-grows c (layer.Not f) = omega arith
with_negated-grows c (layer.And fs) = omega arith
with_negated-grows c (layer.Or fs) = omega arith
with_negated-grows c (layer.Implies f g) = omega arith
with_negated-grows c (layer.Equiv f g) = omega arith
with_negated-grows c (layer.Forall n f) = omega arith
with_negated-grows c (layer.Exists n f) = omega arith

with_layer-grows : (c : Clause) (l : Formula-F Formula) → clause_symbols c ≤ clause_symbols (with_layer c l)
with_layer-grows c (layer.Atom a) = with_atom-grows c Succedent a
with_layer-grows c (layer.Not f) = with_negated-grows c (out-Formula f)
with_layer-grows c layer.True = omega arith
with_layer-grows c layer.False = omega arith
with_layer-grows c (layer.And fs) = omega arith
with_layer-grows c (layer.Or fs) = omega arith
with_layer-grows c (layer.Implies f g) = omega arith
with_layer-grows c (layer.Equiv f g) = omega arith
with_layer-grows c (layer.Forall n f) = omega arith
with_layer-grows c (layer.Exists n f) = omega arith

pub grows : (c : Clause) (fs : List Formula) → clause_symbols c ≤ clause_symbols (fold with_literal c fs)
grows c [] = omega arith
grows c (f ∷ fs) = omega (arith, with_layer-grows c (out-Formula f), grows (with_literal c f) fs)

pub fold-next : (c : Clause) (fs : List Formula) (i : ℕ) (f : Formula) → i < length fs → f ≡ get_or fs i f → fold with_literal c (drop i fs) ≡ fold with_literal (with_literal c f) (drop (i + 1) fs)
fold-next c fs i f h e = at_drop_more (fold with_literal c) fs i f h ∙ ap (λ g. fold with_literal (with_literal c g) (drop (i + 1) fs)) (sym e)

pub already_large : (c : Clause) (fs : List Formula) (i : ℕ) (f : Formula) (all : Clause) → i < length fs → f ≡ get_or fs i f → fold with_literal c (drop i fs) ≡ all → 4096 < clause_symbols (with_literal c f) → 4096 < clause_symbols all
already_large c fs i f all h e so_far large =
    omega (arith, grows (with_literal c f) (drop (i + 1) fs), ap clause_symbols (sym (fold-next c fs i f h e) ∙ so_far))

-- ---- the clauses of a part of the entries

pub entry-next : (es : List Entry) (i : ℕ) (e : Entry) → i < length es → e ≡ get_or es i e → clauses (drop i es) ≡ entry_clauses e ++ clauses (drop (i + 1) es)
entry-next es i e h is = at_drop_more clauses es i e h ∙ ap (λ d. clauses (d ∷ drop (i + 1) es)) (sym is) ∙ clauses-next (drop (i + 1) es) e

pub small-next : (es : List Entry) (i : ℕ) (e : Entry) → i < length es → e ≡ get_or es i e → list_all is_small (clauses (drop i es)) ≡ true → (list_all is_small (entry_clauses e) ≡ true) × (list_all is_small (clauses (drop (i + 1) es)) ≡ true)
small-next es i e h is so_far =
    and_parts (list_all is_small (entry_clauses e)) (list_all is_small (clauses (drop (i + 1) es))) (sym (list_all-append is_small (entry_clauses e) (clauses (drop (i + 1) es))) ∙ ap (list_all is_small) (sym (entry-next es i e h is)) ∙ so_far)

pub whole : (found : List Clause) (es : List Entry) (i : ℕ) (all : List Clause) → length es ≤ i → found ++ clauses (drop i es) ≡ all → found ≡ all
whole found es i all h so_far =
    sym (append-nil found) ∙ ap (λ (cs : List Clause). found ++ cs) (sym (at_drop_all clauses es i h ∙ clauses-none)) ∙ so_far

small_cases : (c : Clause) → is_small c ≡ true → clause_symbols c ≤ 4096
small_cases c e = grind (arith, nat_tests)

small_in : (cs : List Clause) (k : ℕ) (c : Clause) → list_all is_small cs ≡ true → slice_get cs k ≡ Some c → clause_symbols c ≤ 4096
small_in [] k c e h = absurd cc
small_in (d ∷ cs) zero c e h =
    let same : d ≡ c = cc in
    small_cases c (ap is_small (sym same) ∙ (and_parts (is_small d) (list_all is_small cs) e).0)
small_in (d ∷ cs) (suc k) c e h = small_in cs k c (and_parts (is_small d) (list_all is_small cs) e).1 h

pub small_at : (cs : List Clause) (k : ℕ) (c : Clause) → are_within_limits cs ≡ true → slice_get cs k ≡ Some c → clause_symbols c ≤ 4096
small_at cs k c e h = small_in cs k c (all_small cs e) h

pub is_large : (T : Type 0) (count : ℕ) (e : PushError) (symbols : ℕ) → e ≡ Big symbols → FitsOrBig {T = T} count (Err e) → 4096 < count
is_large T count (Big k) symbols is h = h.0
is_large T count Memory symbols is h = absurd cc

-- ---- one more entry

abbrev entry : Formula → ℕ → Entry
entry f at = record { role = roles.Clause; formula = f; at = at }

pub counted_one : (n : ℕ) (es es' : List Entry) (f : Formula) (at : ℕ) → es' ≡ es ++ entry f at ∷ [] → n ≡ length (clauses es) → list_any is_true_literal (literals f) ≡ false → n + 1 ≡ length (clauses es')
counted_one n es es' f at is count one =
    let all : clauses es' ≡ clauses es ++ fold with_literal no_literals (literals f) ∷ [] = ap clauses is ∙ clauses-push es (entry f at) ∙ ap (λ (cs : List Clause). clauses es ++ cs) (gives_one f one) in
    omega (arith, ap length all, length-append (clauses es) (fold with_literal no_literals (literals f) ∷ []))

pub counted_none : (n : ℕ) (es es' : List Entry) (f : Formula) (at : ℕ) → es' ≡ es ++ entry f at ∷ [] → n ≡ length (clauses es) → list_any is_true_literal (literals f) ≡ true → n ≡ length (clauses es')
counted_none n es es' f at is count none =
    let all : clauses es' ≡ clauses es = ap clauses is ∙ clauses-push es (entry f at) ∙ ap (λ (cs : List Clause). clauses es ++ cs) (gives_none f none) ∙ append-nil (clauses es) in
    omega (arith, ap length all)

pub limits-push : (old es es' : List Entry) (f : Formula) (at : ℕ) → es ≡ old → es' ≡ es ++ entry f at ∷ [] → are_within_limits (clauses old ++ formula_clauses f) ≡ true → HasLimits es'
limits-push old es es' f at was is fits = ap are_within_limits (ap clauses is ∙ clauses-push es (entry f at) ∙ ap (λ ds. clauses ds ++ formula_clauses f) was) ∙ fits

pub may_take_one : (n : ℕ) (es old : List Entry) (f : Formula) → es ≡ old → HasLimits es → n ≡ length (clauses es) → list_any is_true_literal (literals f) ≡ false → is_small (fold with_literal no_literals (literals f)) ≡ true → nat_lt n 65536 ≡ are_within_limits (clauses old ++ formula_clauses f)
may_take_one n es old f was fits count one small =
    ap (λ m. nat_lt m 65536) count ∙ may_follow (clauses es) (fold with_literal no_literals (literals f)) fits (small_cases (fold with_literal no_literals (literals f)) small) ∙ ap (λ ds. are_within_limits (clauses ds ++ fold with_literal no_literals (literals f) ∷ [])) was ∙ ap (λ cs. are_within_limits (clauses old ++ cs)) (sym (gives_one f one))

large_cases : (c : Clause) → is_small c ≡ false → 4096 < clause_symbols c
large_cases c e = grind (arith, nat_tests)

pub may_not_take : (old : List Entry) (f : Formula) → list_any is_true_literal (literals f) ≡ false → is_small (fold with_literal no_literals (literals f)) ≡ false → false ≡ are_within_limits (clauses old ++ formula_clauses f)
may_not_take old f one large =
    sym (ap (λ cs. are_within_limits (clauses old ++ cs)) (gives_one f one) ∙ too_large (clauses old) (fold with_literal no_literals (literals f)) (large_cases (fold with_literal no_literals (literals f)) large))
