-- Clauses that are filed one after another, lists that begin with others, and places that are below a count.
use Rattle.std.specs.Prelude.{Contains, MatchBool}
use Rattle.std.specs.List.{slice_get}
use Rattle.std.proofs.Common.{◌≡◌, ◌∙◌, inl, inr, ℕ, zero, suc, ◌+◌, ◌<◌, ◌≤◌, Bool, true, false, cond, List, [], ◌∷◌, ◌++◌, length, Option, Some, None, refl, sym, ap, subst, arith, eqb}
use Rattle.std.proofs.lemmas.Bool.{cases_lt}
use Rattle.std.proofs.lemmas.List.Elements.{Contains-append_left, Contains-append_right, Contains-append_cases}
use Rattle.spl_terms.specs.ListLaws.{get-there}
use Rattle.spl_terms.specs.declared.clause.Clause.{Clause}
use Rattle.proof_steps.specs.declared.step.Line.{Line}
use Rattle.clause_filing.specs.declared.filing.Entry.{Entry}
use Rattle.clause_filing.specs.Filings.{Keeps, IsFiledClause, IsFiledUnderAll}
use Rattle.case_journal.specs.declared.event.Event.{Event}
use Rattle.case_journal.specs.declared.event.Event.TheVariants.{Activate}
use Rattle.case_journal.specs.Journal.{lines_of}
use Rattle.case_journal.specs.ListLaws.{get_more}
use Rattle.case_view.specs.declared.kept.Kept.{Kept}
use Rattle.case_view.specs.declared.kept.Case.{Case}
use Rattle.case_view.specs.Views.{IsIn, and_more}
use Rattle.case_view.specs.Walks.{count_with, node_after, side_into, worked_with, with_event}
use Rattle.case_view.specs.Marks.{Begins, HasGrown}
use Rattle.case_view.specs.MarkLaws.{begins_self}
use Rattle.case_view.specs.PlaceLaws.{contains_at}
use Rattle.case_view.specs.Caches.{AreFiledClauses, AreFiledTo, AreUnderAll, AreUnderAllTo, IsSubsumedBy, IsOther}

-- ---- lists that begin with others

with_more : (list : List Kept) (o : Option Kept) → Begins list (and_more list o)
with_more list None = begins_self list
with_more list (Some k) = (k ∷ [], refl)

if_new : {A : Type 0} (b : Bool) (list new : List A) → Begins list new → Begins list (cond b new list)
if_new true list new h = h
if_new false list new h = begins_self list

if_old : {A : Type 0} (b : Bool) (list more : List A) → Begins list (cond b list (list ++ more))
if_old true list more = begins_self list
if_old false list more = (more, refl)

worked_begins : (ev : Event) (m : ℕ) (given : Option Kept) (list : List Kept) → Begins list (worked_with ev m given list)
worked_begins (Activate node) m given list = if_new (eqb node m) list (and_more list given) (with_more list given)
worked_begins _ m given list = begins_self list

pub noted_grows : (ledger : List Line) (ev : Event) (next : Option ℕ) (v new : Case) → new ≡ with_event ledger ev next v → HasGrown v new
noted_grows ledger ev next v new is = subst (HasGrown v) (sym is) (record {
  worker = refl;
  nodes = if_old (eqb (node_after ev (count_with v.splits) next v.node) v.node) v.nodes (node_after ev (count_with v.splits) next v.node ∷ []);
  path = if_old (eqb (node_after ev (count_with v.splits) next v.node) v.node) v.path (side_into (lines_of ev) (count_with v.splits) (node_after ev (count_with v.splits) next v.node) ∷ []);
  worked = worked_begins ev v.node v.given v.worked;
  listed = (_, refl);
})

-- what holds of each clause of the old list holds of the first ones of the new list
before : (P : ℕ → Kept → Type 0) (old new : List Kept) → Begins old new → ((i : ℕ) (k : Kept) → slice_get old i ≡ Some k → P i k) → (i : ℕ) (k : Kept) → i < length old → slice_get new i ≡ Some k → P i k
before P old new begins h i k low at =
    let t = get-there old i low in
    let same : t.0 ≡ k = (let e : Some t.0 ≡ Some k = sym (ap (λ xs. slice_get xs i) begins.1 ∙ get_more old begins.0 i t.0 t.1) ∙ at in cc) in
    subst (P i) same (h i t.0 t.1)

pub filed_before : (old new : List Kept) (entries : List Entry) (n : ℕ) → Begins old new → n ≡ length old → AreFiledClauses old entries → AreFiledTo n new entries
filed_before old new entries n begins is h i k low at = before (λ i k. IsFiledClause entries k.stated.clause i) old new begins h i k (omega (arith, low, is)) at

pub under_before : (old new : List Kept) (entries : List Entry) (n : ℕ) → Begins old new → n ≡ length old → AreUnderAll old entries → AreUnderAllTo n new entries
under_before old new entries n begins is h i k low at = before (λ i k. IsFiledUnderAll entries k.stated.clause i) old new begins h i k (omega (arith, low, is)) at

-- ---- one more clause is filed

still_filed : (old new : List Entry) (c : Clause) (n : ℕ) → Keeps old new → IsFiledClause old c n → IsFiledClause new c n
still_filed old new c n keeps h = (h.0, h.1, keeps h.0 h.1 h.2, h.3, h.4, h.5)

still_under : (old new : List Entry) (c : Clause) (n : ℕ) → Keeps old new → IsFiledUnderAll old c n → IsFiledUnderAll new c n
still_under old new c n keeps h = λ part k a at. let f = h part k a at in (f.0, f.1, keeps f.0 f.1 f.2, f.3, f.4, f.5)

one_more : (P Q : ℕ → Kept → Type 0) (list : List Kept) (n : ℕ) (x : Kept) → ((i : ℕ) (k : Kept) → P i k → Q i k) → slice_get list n ≡ Some x → Q n x → ((i : ℕ) (k : Kept) → i < n → slice_get list i ≡ Some k → P i k) → (i : ℕ) (k : Kept) → i < n + 1 → slice_get list i ≡ Some k → Q i k
one_more P Q list n x stays here now h i k low at = elim (cases_lt i n) [
  | inl less ↦ stays i k (h i k less at)
  | inr more ↦
      let same : n ≡ i = omega (arith, low, more) in
      let e : Some x ≡ Some k = sym here ∙ (ap (slice_get list) same ∙ at) in
      let is : x ≡ k = cc in
      subst (λ j. Q j k) same (subst (Q n) is now)
]

pub filed_more : (list : List Kept) (old new : List Entry) (n : ℕ) (x : Kept) → Keeps old new → slice_get list n ≡ Some x → IsFiledClause new x.stated.clause n → AreFiledTo n list old → AreFiledTo (n + 1) list new
filed_more list old new n x keeps here now h = one_more (λ i k. IsFiledClause old k.stated.clause i) (λ i k. IsFiledClause new k.stated.clause i) list n x (λ i k f. still_filed old new k.stated.clause i keeps f) here now h

pub under_more : (list : List Kept) (old new : List Entry) (n : ℕ) (x : Kept) → Keeps old new → slice_get list n ≡ Some x → IsFiledUnderAll new x.stated.clause n → AreUnderAllTo n list old → AreUnderAllTo (n + 1) list new
under_more list old new n x keeps here now h = one_more (λ i k. IsFiledUnderAll old k.stated.clause i) (λ i k. IsFiledUnderAll new k.stated.clause i) list n x (λ i k f. still_under old new k.stated.clause i keeps f) here now h

-- ---- places

pub one_of : (n m : ℕ) → Contains (n ∷ []) m → n ≡ m
one_of n m (zero, low, is) = is
one_of n m (suc k, low, is) = absurd (omega (arith, low))

-- of the first n places those below the count are kept
pub record IsBelow (places kept : List ℕ) (count n : ℕ) : Type 0 where
  pub below : (x : ℕ) → Contains kept x → x < count
  pub all : (i x : ℕ) → i < n → slice_get places i ≡ Some x → x < count → Contains kept x

pub below_none : (places kept : List ℕ) (count : ℕ) → kept ≡ [] → IsBelow places kept count 0
below_none places kept count is = record {
  below = λ x h. absurd (let c : Contains [] x = subst (λ xs. Contains xs x) is h in omega (arith, c.1));
  all = λ i x low at. absurd (omega (arith, low));
}

pub below_more : (places old new : List ℕ) (count n x : ℕ) → slice_get places n ≡ Some x → new ≡ old ++ x ∷ [] → x < count → IsBelow places old count n → IsBelow places new count (n + 1)
below_more places old new count n x here is fits h = subst (λ xs. IsBelow places xs count (n + 1)) (sym is) (record {
  below = λ y c. elim (Contains-append_cases old (x ∷ []) y c) [
    | inl before ↦ h.below y before
    | inr now ↦ omega (arith, fits, one_of x y now)
  ];
  all = λ i y low at small. elim (cases_lt i n) [
    | inl less ↦ Contains-append_left old (x ∷ []) y (h.all i y less at small)
    | inr more ↦
        let same : n ≡ i = omega (arith, low, more) in
        let e : Some x ≡ Some y = sym here ∙ (ap (slice_get places) same ∙ at) in
        let z : x ≡ y = cc in
        Contains-append_right old (x ∷ []) y (0, omega arith, z)
  ];
})

pub below_passed : (places kept : List ℕ) (count n x : ℕ) → slice_get places n ≡ Some x → count ≤ x → IsBelow places kept count n → IsBelow places kept count (n + 1)
below_passed places kept count n x here large h = record {
  below = h.below;
  all = λ i y low at small. elim (cases_lt i n) [
    | inl less ↦ h.all i y less at small
    | inr more ↦
        let same : n ≡ i = omega (arith, low, more) in
        let e : Some x ≡ Some y = sym here ∙ (ap (slice_get places) same ∙ at) in
        let z : x ≡ y = cc in
        absurd (omega (arith, large, small, z))
  ];
}

pub below_all : (places kept : List ℕ) (count n x : ℕ) → length places ≤ n → IsBelow places kept count n → Contains places x → x < count → Contains kept x
below_all places kept count n x long h c small = h.all c.0 x (omega (arith, c.1, long)) (contains_at places x c) small

-- ---- what was found

-- what the false side gives may stand in its place
pub where_false : (A B C : Type 0) (b : Bool) → (B → C) → MatchBool b A B → MatchBool b A C
where_false A B C true f m = m
where_false A B C false f m = f m

-- where none that is filed for this very clause is this one, none is
pub told : (list : List Kept) (entries : List Entry) (clause : Clause) (b : Bool) → AreFiledClauses list entries → MatchBool b (IsSubsumedBy list clause) ((n : ℕ) → IsFiledClause entries clause n → IsOther list clause n)
    → MatchBool b (IsSubsumedBy list clause) ((k : Kept) → IsIn list k → ¬ (k.stated.clause ≡ clause))
told list entries clause b filed m = where_false _ _ _ b (λ none k at same. none at.0 (subst (λ d. IsFiledClause entries d at.0) same (filed at.0 k at.1)) k at.1 same) m
