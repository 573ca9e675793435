-- Laws that carry proofs, and no definitions that a reader must believe: each symbol of the ledger is one of the input.
use Rattle.std.specs.Prelude.{remove, fold, take, drop}
use Rattle.std.proofs.Common.{◌≡◌, ℕ, zero, suc, ◌+◌, ◌-◌, inl, inr, Bool, true, false, cond, not, ◌&&◌, List, [], ◌∷◌, ◌++◌, length, map, Option, Some, None, option_map, option_and_then, refl, sym, ◌∙◌, ap, subst, arith}
use Rattle.std.proofs.lemmas.Bool.{and_parts, and_from, cases_lt}
use Rattle.std.proofs.lemmas.List.{length-map}
use Rattle.std.proofs.lemmas.List.Folds.{list_all-append, list_all-map}
use Rattle.std.proofs.lemmas.Option.{slice_get-map}
use Rattle.std.specs.List.{list_all, slice_get}
use Rattle.spl_terms.specs.declared.term.Symbol.{Symbol}
use Rattle.spl_terms.specs.declared.term.Term.{Term, Var, App}
use Rattle.spl_terms.specs.declared.atom.Atom.{Atom}
use Rattle.spl_terms.specs.declared.atom.Atom.TheVariants.{Holds, Equal}
use Rattle.spl_terms.specs.declared.clause.Part.{Part}
use Rattle.spl_terms.specs.declared.clause.Part.TheVariants.{Constraint, Antecedent, Succedent}
use Rattle.spl_terms.specs.declared.clause.Clause.{Clause}
use Rattle.spl_terms.specs.Terms.{replace}
use Rattle.spl_terms.specs.Clauses.{atoms_of, is_of_sort, replace_in_atom, replace_in, added, distinct, at_lists, number_in, in_order}
use Rattle.spl_terms.specs.TermLaws.{Each, term_induction, fold-Var, fold-App, replace-Var, replace-App}
use Rattle.spl_truth.specs.Truth.{entry, apply}
use Rattle.dep_sets.specs.declared.deps.Assumption.{Assumption}
use Rattle.dep_sets.specs.Assumptions.{united}
use Rattle.clause_parts.specs.Parts.{Parted, marked, part_by, constraint_marks, antecedent_marks, succedent_marks, left_marks, parted_by, parts_of, as_true, as_false, negated_atom}
use Rattle.proof_steps.specs.declared.step.Statement.{Statement}
use Rattle.proof_steps.specs.declared.step.Line.{Line}
use Rattle.proof_steps.specs.Steps.{numbered, when, has_entries, without, joined, resolvent, may_resolve, resolved, resolution, of_one, of_two, of_three, from_two, states, side_of, assumption_of, both_closed, conclude}
use Rattle.proof_steps.specs.SplitLaws.{assumed_of_two, assumption_of-two}
use Rattle.proof_steps.specs.Checked.{stated}
use Rattle.case_journal.specs.declared.event.Entry.{Entry}
use Rattle.case_journal.specs.declared.event.Event.{Event}
use Rattle.case_journal.specs.declared.event.Event.TheVariants.{Publish, Split}
use Rattle.case_journal.specs.Journal.{Setting, lines_of, ledger}
use Rattle.case_journal.specs.Legal.{IsAsked, IsLegalJournal, IsPublishable, IsSplittable}
use Rattle.case_journal.specs.Symbols.{SymbolTest, passes_step, term_passes, atom_passes, clause_passes, rule_terms, line_passes}
use Rattle.case_journal.specs.ListLaws.{get_left, get_right}
use Rattle.case_journal.specs.LedgerLaws.{IsAssume, steps_assume, input_line_at}

-- ---- lists of which each item passes

all_left : {A : Type 0} (q : A → Bool) (xs ys : List A) → list_all q (xs ++ ys) ≡ true → (list_all q xs ≡ true) × (list_all q ys ≡ true)
all_left q xs ys h = and_parts (list_all q xs) (list_all q ys) (sym (list_all-append q xs ys) ∙ h)

all_both : {A : Type 0} (q : A → Bool) (xs ys : List A) → list_all q xs ≡ true → list_all q ys ≡ true → list_all q (xs ++ ys) ≡ true
all_both q xs ys a b = list_all-append q xs ys ∙ and_from (list_all q xs) (list_all q ys) a b

all_at : {A : Type 0} (q : A → Bool) (xs : List A) (k : ℕ) (x : A) → list_all q xs ≡ true → slice_get xs k ≡ Some x → q x ≡ true
all_at q [] k x h e = cc
all_at q (y ∷ ys) zero x h e = let same : y ≡ x = cc in ap q (sym same) ∙ (and_parts (q y) (list_all q ys) h).0
all_at q (y ∷ ys) (suc k) x h e = all_at q ys k x (and_parts (q y) (list_all q ys) h).1 e

all_take : {A : Type 0} (q : A → Bool) (k : ℕ) (xs : List A) → list_all q xs ≡ true → list_all q (take k xs) ≡ true
all_take q zero xs h = refl
all_take q (suc k) [] h = refl
all_take q (suc k) (x ∷ xs) h = let parts = and_parts (q x) (list_all q xs) h in and_from (q x) (list_all q (take k xs)) parts.0 (all_take q k xs parts.1)

all_drop : {A : Type 0} (q : A → Bool) (k : ℕ) (xs : List A) → list_all q xs ≡ true → list_all q (drop k xs) ≡ true
all_drop q zero xs h = h
all_drop q (suc k) [] h = refl
all_drop q (suc k) (x ∷ xs) h = all_drop q k xs (and_parts (q x) (list_all q xs) h).1

all_remove : {A : Type 0} (q : A → Bool) (xs : List A) (i : ℕ) → list_all q xs ≡ true → list_all q (remove xs i) ≡ true
all_remove q xs i h = all_both q (take i xs) (drop (suc i) xs) (all_take q i xs h) (all_drop q (suc i) xs h)

all_marked : {A : Type 0} (q : A → Bool) (marks : List Bool) (xs : List A) → list_all q xs ≡ true → list_all q (marked marks xs) ≡ true
all_marked q [] xs h = refl
all_marked q (b ∷ bs) [] h = refl
all_marked q (true ∷ bs) (x ∷ xs) h = let parts = and_parts (q x) (list_all q xs) h in and_from (q x) (list_all q (marked bs xs)) parts.0 (all_marked q bs xs parts.1)
all_marked q (false ∷ bs) (x ∷ xs) h = all_marked q bs xs (and_parts (q x) (list_all q xs) h).1

added_step : (b : Bool) (q : Atom → Bool) (xs : List Atom) (a : Atom) → list_all q xs ≡ true → q a ≡ true → list_all q (cond b xs (xs ++ a ∷ [])) ≡ true
added_step true q xs a h e = h
added_step false q xs a h e = all_both q xs (a ∷ []) h (and_from (q a) true e refl)

all_folded : (q : Atom → Bool) (made xs : List Atom) → list_all q made ≡ true → list_all q xs ≡ true → list_all q (fold added made xs) ≡ true
all_folded q made [] h e = h
all_folded q made (a ∷ xs) h e =
    let parts = and_parts (q a) (list_all q xs) e in
    all_folded q (added made a) xs (added_step _ q made a h parts.0) parts.1

-- ---- terms and atoms

pub passes-Var : (test : SymbolTest) (v : ℕ) → term_passes test (Var v) ≡ true
passes-Var test v = fold-Var (passes_step test) v

pub passes-App : (test : SymbolTest) (f : Symbol) (ts : List Term) → term_passes test (App f ts) ≡ (test true f (length ts) && list_all (term_passes test) ts)
passes-App test f ts =
    let each = map (term_passes test) ts in
    fold-App (passes_step test) f ts
    ∙ (ap (λ n. test true f n && list_all (λ b. b) each) (length-map ts (term_passes test))
    ∙ ap (λ b. test true f (length ts) && b) (list_all-map (λ b. b) (term_passes test) ts))

-- h replaces each variable by a term that passes
abbrev ReplacesWell : SymbolTest → (ℕ → Term) → Type 0
ReplacesWell test h = (v : ℕ) → term_passes test (h v) ≡ true

each_replaced : (test : SymbolTest) (h : ℕ → Term) (ts : List Term) → Each (λ t. term_passes test t ≡ true → term_passes test (replace h t) ≡ true) ts → list_all (term_passes test) ts ≡ true → list_all (term_passes test) (map (replace h) ts) ≡ true
each_replaced test h [] each e = refl
each_replaced test h (t ∷ ts) each e =
    let parts = and_parts (term_passes test t) (list_all (term_passes test) ts) e in
    and_from (term_passes test (replace h t)) (list_all (term_passes test) (map (replace h) ts)) (each.0 parts.0) (each_replaced test h ts each.1 parts.1)

pub passes-replace : (test : SymbolTest) (h : ℕ → Term) → ReplacesWell test h → (t : Term) → term_passes test t ≡ true → term_passes test (replace h t) ≡ true
passes-replace test h well =
    term_induction (λ t. term_passes test t ≡ true → term_passes test (replace h t) ≡ true)
    (λ v e. ap (term_passes test) (replace-Var h v) ∙ well v)
    (λ f ts each e.
    let parts = and_parts (test true f (length ts)) (list_all (term_passes test) ts) (sym (passes-App test f ts) ∙ e) in
    ap (term_passes test) (replace-App h f ts)
    ∙ (passes-App test f (map (replace h) ts)
    ∙ and_from (test true f (length (map (replace h) ts))) (list_all (term_passes test) (map (replace h) ts)) (ap (test true f) (length-map ts (replace h)) ∙ parts.0) (each_replaced test h ts each parts.1)))

terms_replaced : (test : SymbolTest) (h : ℕ → Term) → ReplacesWell test h → (ts : List Term) → list_all (term_passes test) ts ≡ true → list_all (term_passes test) (map (replace h) ts) ≡ true
terms_replaced test h well [] e = refl
terms_replaced test h well (t ∷ ts) e =
    let parts = and_parts (term_passes test t) (list_all (term_passes test) ts) e in
    and_from (term_passes test (replace h t)) (list_all (term_passes test) (map (replace h) ts)) (passes-replace test h well t parts.0) (terms_replaced test h well ts parts.1)

atom_replaced : (test : SymbolTest) (h : ℕ → Term) → ReplacesWell test h → (a : Atom) → atom_passes test a ≡ true → atom_passes test (replace_in_atom h a) ≡ true
atom_replaced test h well (Holds p ts) e =
    let parts = and_parts (test false p (length ts)) (list_all (term_passes test) ts) e in
    and_from (test false p (length (map (replace h) ts))) (list_all (term_passes test) (map (replace h) ts)) (ap (test false p) (length-map ts (replace h)) ∙ parts.0) (terms_replaced test h well ts parts.1)
atom_replaced test h well (Equal s t) e =
    let parts = and_parts (term_passes test s) (term_passes test t) e in
    and_from (term_passes test (replace h s)) (term_passes test (replace h t)) (passes-replace test h well s parts.0) (passes-replace test h well t parts.1)

atoms_replaced : (test : SymbolTest) (h : ℕ → Term) → ReplacesWell test h → (xs : List Atom) → list_all (atom_passes test) xs ≡ true → list_all (atom_passes test) (map (replace_in_atom h) xs) ≡ true
atoms_replaced test h well [] e = refl
atoms_replaced test h well (a ∷ xs) e =
    let parts = and_parts (atom_passes test a) (list_all (atom_passes test) xs) e in
    and_from (atom_passes test (replace_in_atom h a)) (list_all (atom_passes test) (map (replace_in_atom h) xs)) (atom_replaced test h well a parts.0) (atoms_replaced test h well xs parts.1)

-- ---- clauses

-- each symbol of the clause passes, list by list
record Passes (test : SymbolTest) (c : Clause) : Type 0 where
  pub constraint : list_all (atom_passes test) c.constraint ≡ true
  pub antecedent : list_all (atom_passes test) c.antecedent ≡ true
  pub succedent : list_all (atom_passes test) c.succedent ≡ true

by_lists : (test : SymbolTest) (c : Clause) → clause_passes test c ≡ true → Passes test c
by_lists test c h =
    let both = all_left (atom_passes test) (c.constraint ++ c.antecedent) c.succedent h in
    let first = all_left (atom_passes test) c.constraint c.antecedent both.0 in
    record { constraint = first.0; antecedent = first.1; succedent = both.1 }

whole : (test : SymbolTest) (c : Clause) → Passes test c → clause_passes test c ≡ true
whole test c p = all_both (atom_passes test) (c.constraint ++ c.antecedent) c.succedent (all_both (atom_passes test) c.constraint c.antecedent p.constraint p.antecedent) p.succedent

replaced : (test : SymbolTest) (h : ℕ → Term) (c : Clause) → ReplacesWell test h → Passes test c → Passes test (replace_in h c)
replaced test h c well p = record {
  constraint = atoms_replaced test h well c.constraint p.constraint;
  antecedent = atoms_replaced test h well c.antecedent p.antecedent;
  succedent = atoms_replaced test h well c.succedent p.succedent;
}

ordered : (test : SymbolTest) (c : Clause) → Passes test c → clause_passes test (in_order c) ≡ true
ordered test c p =
    let q = atom_passes test in
    let d = at_lists distinct c in
    let each : Passes test d = record {
      constraint = all_folded q [] c.constraint refl p.constraint;
      antecedent = all_folded q [] c.antecedent refl p.antecedent;
      succedent = all_folded q [] c.succedent refl p.succedent;
    } in
    whole test (in_order c) (replaced test (λ v. Var (number_in d v)) d (λ v. passes-Var test (number_in d v)) each)

without_one : (test : SymbolTest) (part : Part) (i : ℕ) (c : Clause) → Passes test c → Passes test (without part i c)
without_one test Constraint i c p = record { constraint = all_remove (atom_passes test) c.constraint i p.constraint; antecedent = p.antecedent; succedent = p.succedent }
without_one test Antecedent i c p = record { constraint = p.constraint; antecedent = all_remove (atom_passes test) c.antecedent i p.antecedent; succedent = p.succedent }
without_one test Succedent i c p = record { constraint = p.constraint; antecedent = p.antecedent; succedent = all_remove (atom_passes test) c.succedent i p.succedent }

of_both : (test : SymbolTest) (c d : Clause) → Passes test c → Passes test d → Passes test (joined c d)
of_both test c d p q = record {
  constraint = all_both (atom_passes test) c.constraint d.constraint p.constraint q.constraint;
  antecedent = all_both (atom_passes test) c.antecedent d.antecedent p.antecedent q.antecedent;
  succedent = all_both (atom_passes test) c.succedent d.succedent p.succedent q.succedent;
}

of_marks : (test : SymbolTest) (c : Clause) (marks : List Bool) → Passes test c → Passes test (part_by c marks)
of_marks test c marks p = record {
  constraint = all_marked (atom_passes test) (constraint_marks c marks) c.constraint p.constraint;
  antecedent = all_marked (atom_passes test) (antecedent_marks c marks) c.antecedent p.antecedent;
  succedent = all_marked (atom_passes test) (succedent_marks c marks) c.succedent p.succedent;
}

-- ---- what rules conclude

if_some : {A : Type 0} (b : Bool) (o : Option A) (x : A) → cond b o None ≡ Some x → o ≡ Some x
if_some true o x h = h
if_some false o x h = cc

when_some : {A : Type 0} (b : Bool) (y x : A) → when b y ≡ Some x → y ≡ x
when_some true y x h = cc
when_some false y x h = cc

of_statement : (test : SymbolTest) (deps : List Assumption) (o : Option Clause) (st : Statement) → ((c : Clause) → o ≡ Some c → clause_passes test c ≡ true) → option_map (λ c. states c deps) o ≡ Some st → clause_passes test st.clause ≡ true
of_statement test deps None st each h = cc
of_statement test deps (Some c) st each h = let same : states c deps ≡ st = cc in ap (λ x. clause_passes test x.clause) (sym same) ∙ each c refl

resolution_passes : (test : SymbolTest) (i : ℕ) (part : Part) (j : ℕ) (p q c : Clause) → Passes test p → Passes test q → resolution i part j [] [] p q ≡ Some c → clause_passes test c ≡ true
resolution_passes test i part j p q c a b h =
    let x = apply [] p in
    let y = apply [] q in
    let got = if_some (has_entries [] p && has_entries [] q) (resolved i part j x y) c h in
    let same = when_some (may_resolve i part j x y) (in_order (resolvent i part j x y)) c got in
    let well : ReplacesWell test (entry []) = λ v. passes-Var test v in
    ap (clause_passes test) (sym same)
    ∙ ordered test (resolvent i part j x y)
    (of_both test (without Succedent i x) (without part j y) (without_one test Succedent i x (replaced test (entry []) p well a)) (without_one test part j y (replaced test (entry []) q well b)))

-- each statement of the list passes
abbrev AllPass : SymbolTest → List Statement → Type 0
AllPass test earlier = (n : ℕ) (st : Statement) → numbered earlier n ≡ Some st → clause_passes test st.clause ≡ true

resolve_passes : (test : SymbolTest) (i : ℕ) (part : Part) (j : ℕ) (o r : Option Statement) (st : Statement) → ((a : Statement) → o ≡ Some a → clause_passes test a.clause ≡ true) → ((a : Statement) → r ≡ Some a → clause_passes test a.clause ≡ true)
    → of_two (from_two (resolution i part j [] [])) o r ≡ Some st → clause_passes test st.clause ≡ true
resolve_passes test i part j None r st a b h = cc
resolve_passes test i part j (Some x) None st a b h = cc
resolve_passes test i part j (Some x) (Some y) st a b h =
    of_statement test (united x.deps y.deps) (resolution i part j [] [] x.clause y.clause) st
    (λ c e. resolution_passes test i part j x.clause y.clause c (by_lists test x.clause (a x refl)) (by_lists test y.clause (b y refl)) e) h

as_false_passes : (test : SymbolTest) (b : Bool) (a : Atom) → atom_passes test a ≡ true
    → Passes test (cond b (record { constraint = a ∷ []; antecedent = []; succedent = [] }) (record { constraint = []; antecedent = a ∷ []; succedent = [] }))
as_false_passes test true a h = record { constraint = and_from (atom_passes test a) true h refl; antecedent = refl; succedent = refl }
as_false_passes test false a h = record { constraint = refl; antecedent = and_from (atom_passes test a) true h refl; succedent = refl }

flipped_passes : (test : SymbolTest) (b : Bool) (o : Option Atom) (c : Clause) → ((a : Atom) → o ≡ Some a → atom_passes test a ≡ true) → option_map in_order (cond b (option_map as_true o) (option_map as_false o)) ≡ Some c → clause_passes test c ≡ true
flipped_passes test true None c each h = cc
flipped_passes test false None c each h = cc
flipped_passes test true (Some a) c each h =
    let same : in_order (as_true a) ≡ c = cc in
    ap (clause_passes test) (sym same) ∙ ordered test (as_true a) (record { constraint = refl; antecedent = refl; succedent = and_from (atom_passes test a) true (each a refl) refl })
flipped_passes test false (Some a) c each h =
    let same : in_order (as_false a) ≡ c = cc in
    ap (clause_passes test) (sym same) ∙ ordered test (as_false a) (as_false_passes test (is_of_sort a) a (each a refl))

part_passes : (test : SymbolTest) (one two : Bool) (parts : Parted) (c : Clause) → clause_passes test parts.left ≡ true → clause_passes test parts.right ≡ true → cond one (Some parts.left) (cond two (Some parts.right) None) ≡ Some c → clause_passes test c ≡ true
part_passes test true two parts c a b h = let same : parts.left ≡ c = cc in ap (clause_passes test) (sym same) ∙ a
part_passes test false true parts c a b h = let same : parts.right ≡ c = cc in ap (clause_passes test) (sym same) ∙ b
part_passes test false false parts c a b h = cc

assumed_passes : (test : SymbolTest) (side : ℕ) (negated : Option ℕ) (parts : Parted) (c : Clause) → clause_passes test parts.left ≡ true → clause_passes test parts.right ≡ true → assumed_of_two side negated parts ≡ Some c → clause_passes test c ≡ true
assumed_passes test side None parts c a b h = part_passes test _ _ parts c a b h
assumed_passes test side (Some k) parts c a b h =
    let got = if_some _ (negated_atom k parts.left) c h in
    flipped_passes test _ (slice_get (atoms_of parts.left) k) c (λ x e. all_at (atom_passes test) (atoms_of parts.left) k x a e) got

parted_passes : (test : SymbolTest) (side : ℕ) (negated : Option ℕ) (r c : Clause) (o : Option (List Bool)) → Passes test r → option_and_then (assumed_of_two side negated) (option_map (parted_by r) o) ≡ Some c → clause_passes test c ≡ true
parted_passes test side negated r c None p h = cc
parted_passes test side negated r c (Some marks) p h =
    assumed_passes test side negated (parted_by r marks) c (ordered test (part_by r marks) (of_marks test r marks p)) (ordered test (part_by r (map not marks)) (of_marks test r (map not marks) p)) h

assume_passes : (test : SymbolTest) (split side : ℕ) (negated : Option ℕ) (o : Option Statement) (st : Statement) → ((a : Statement) → o ≡ Some a → clause_passes test a.clause ≡ true) → of_one (assumption_of split side negated) o ≡ Some st → clause_passes test st.clause ≡ true
assume_passes test split side negated None st each h = cc
assume_passes test split side negated (Some r) st each h =
    of_statement test (side_of split side ∷ []) (option_and_then (assumed_of_two side negated) (parts_of r.clause)) st
    (λ c e. parted_passes test side negated r.clause c (left_marks r.clause) (by_lists test r.clause (each r refl)) e) (sym (assumption_of-two split side negated r) ∙ h)

both_passes : (test : SymbolTest) (split : ℕ) (o r t : Option Statement) (st : Statement) → of_three (both_closed split) o r t ≡ Some st → clause_passes test st.clause ≡ true
both_passes test split None r t st h = cc
both_passes test split (Some a) None t st h = cc
both_passes test split (Some a) (Some b) None st h = cc
both_passes test split (Some a) (Some b) (Some c) st h = let same = when_some _ _ st h in ap (λ x. clause_passes test x.clause) (sym same)

-- ---- the ledger

-- each of these lines passes
abbrev LinesPass : SymbolTest → List Line → Type 0
LinesPass test lines = (k : ℕ) (l : Line) → slice_get lines k ≡ Some l → line_passes test l ≡ true

stated_passes : (test : SymbolTest) (lines : List Line) → LinesPass test lines → AllPass test (stated lines)
stated_passes test lines each zero st h = cc
stated_passes test lines each (suc k) st h = at_line (slice_get lines k) refl (sym (slice_get-map (λ x. x.stated) lines k) ∙ h)
  where
    at_line : (o : Option Line) → slice_get lines k ≡ o → option_map (λ x. x.stated) o ≡ Some st → clause_passes test st.clause ≡ true
    at_line None e g = cc
    at_line (Some l) e g = let same : l.stated ≡ st = cc in ap (λ x. clause_passes test x.clause) (sym same) ∙ (and_parts (clause_passes test l.stated.clause) (list_all (term_passes test) (rule_terms l.step.rule)) (each k l e)).0

one_line_passes : (test : SymbolTest) (line : Line) → line_passes test line ≡ true → LinesPass test (line ∷ [])
one_line_passes test line h zero l e = let same : line ≡ l = cc in ap (line_passes test) (sym same) ∙ h
one_line_passes test line h (suc k) l e = cc

published_passes : (s : Setting) (past : List Entry) (w node : ℕ) (chain : List Line) (put_off : Bool) (test : SymbolTest) → LinesPass test (ledger s past) → IsPublishable s past w node chain put_off → LinesPass test chain
published_passes s past w node chain put_off test each p =
    let l = p.line in
    let earlier = stated (ledger s past) in
    let before = stated_passes test (ledger s past) each in
    let made = λ (t : conclude s.input earlier l.step ≡ Some l.stated → clause_passes test l.stated.clause ≡ true) (e : list_all (term_passes test) (rule_terms l.step.rule) ≡ true).
    and_from (clause_passes test l.stated.clause) (list_all (term_passes test) (rule_terms l.step.rule)) (t p.concluded.0) e in
    let passes : line_passes test l ≡ true = elim p.cause [
      | inl i ↦ made (λ h. resolve_passes test i.i i.part i.j (numbered earlier i.first) (numbered earlier i.second) l.stated (before i.first) (before i.second) (ap (conclude s.input earlier) (sym i.step) ∙ h)) (ap (λ t. list_all (term_passes test) (rule_terms t.rule)) i.step)
      | inr c ↦ made (λ h. both_passes test c.clause (numbered earlier c.clause) (numbered earlier c.left_empty) (numbered earlier c.right_empty) l.stated (ap (conclude s.input earlier) (sym c.step) ∙ h)) (ap (λ t. list_all (term_passes test) (rule_terms t.rule)) c.step)
    ] in
    subst (LinesPass test) (sym p.one) (one_line_passes test l passes)

split_passes : (s : Setting) (past : List Entry) (w node : ℕ) (lines : List Line) (put_off : List Bool) (test : SymbolTest) → LinesPass test (ledger s past) → IsSplittable s past w node lines put_off → LinesPass test lines
split_passes s past w node lines put_off test each p k l h =
    let earlier = stated (ledger s past) in
    let at = sym (slice_get-map (λ x. x.step) lines k ∙ ap (option_map (λ x. x.step)) h) ∙ ap (λ xs. slice_get xs k) p.steps in
    let a : IsAssume p.clause l.step = steps_assume p.clause p.parts k l.step (sym at) in
    and_from (clause_passes test l.stated.clause) (list_all (term_passes test) (rule_terms l.step.rule))
    (assume_passes test p.clause a.side a.negated (numbered earlier p.clause) l.stated (stated_passes test (ledger s past) each p.clause) (ap (conclude s.input earlier) (sym a.is) ∙ (p.concluded k l h).0))
    (ap (λ t. list_all (term_passes test) (rule_terms t.rule)) a.is)

event_passes : (s : Setting) (past : List Entry) (w : ℕ) (ev : Event) (test : SymbolTest) → LinesPass test (ledger s past) → IsAsked s past w ev → LinesPass test (lines_of ev)
event_passes s past w (Publish node chain put_off) test each p = published_passes s past w node chain put_off test each p.asked
event_passes s past w (Split node lines put_off) test each p = split_passes s past w node lines put_off test each p.asked
event_passes s past w _ test each p = λ k l h. cc

-- a test that each symbol of the input passes is passed by each symbol of the ledger
pub ledger_passes : (s : Setting) (past : List Entry) → IsLegalJournal s past → (test : SymbolTest) → list_all (clause_passes test) s.input ≡ true → (k : ℕ) (l : Line) → slice_get (ledger s past) k ≡ Some l → line_passes test l ≡ true
ledger_passes s [] legal test input k l h =
    let r = input_line_at 1 s.input k l h in
    ap (line_passes test) r.is ∙ and_from (clause_passes test (in_order r.clause)) true (ordered test r.clause (by_lists test r.clause (all_at (clause_passes test) s.input k r.clause input r.found))) refl
ledger_passes s (e ∷ past) legal test input k l h =
    let before = ledger_passes s past legal.1 test input in
    let lines = ledger s past in
    let more = lines_of e.event in
    elim (cases_lt k (length lines)) [
      | inl old ↦ before k l (sym (get_left lines more k old) ∙ h)
      | inr new ↦
          let j = k - length lines in
          let at : length lines + j ≡ k = omega arith in
          event_passes s past e.by e.event test before legal.0.asked j l (sym (get_right lines more j) ∙ (ap (slice_get (lines ++ more)) at ∙ h))
    ]

pub numbered_passes : (s : Setting) (past : List Entry) → IsLegalJournal s past → (test : SymbolTest) → list_all (clause_passes test) s.input ≡ true → (n : ℕ) (l : Line) → numbered (ledger s past) n ≡ Some l → line_passes test l ≡ true
numbered_passes s past legal test input zero l h = cc
numbered_passes s past legal test input (suc k) l h = ledger_passes s past legal test input k l h
