-- Laws that carry proofs, and no definitions that a reader must believe: where the root is dead, proving has ended; and it is dead where no live leaf is left in a settled tree.
use Rattle.std.specs.Prelude.{fold, is_some}
use Rattle.std.proofs.Common.{◌≡◌, ℕ, zero, suc, ◌+◌, ◌-◌, ◌<◌, ◌≤◌, inl, inr, Bool, true, false, cond, ◌&&◌, eqb, List, [], ◌∷◌, ◌++◌, length, map, Option, Some, None, refl, sym, ◌∙◌, ap, arith}
use Rattle.std.proofs.lemmas.Bool.{or_cases, and_parts, and_from, eqb-true, cases_Bool, false≢true, true_from_ne_false, or_left, or_right}
use Rattle.std.specs.List.{slice_get, list_any}
use Rattle.spl_terms.specs.declared.atom.Atom.{Atom}
use Rattle.spl_terms.specs.declared.clause.Clause.{Clause}
use Rattle.spl_terms.specs.Clauses.{is_empty, no_atoms, is_same, added, distinct, in_order}
use Rattle.dep_sets.specs.declared.deps.Assumption.{Assumption}
use Rattle.dep_sets.specs.Assumptions.{contains_assumption, is_same_assumption}
use Rattle.proof_steps.specs.declared.step.Line.{Line}
use Rattle.proof_steps.specs.Steps.{numbered}
use Rattle.case_journal.specs.declared.event.Entry.{Entry}
use Rattle.case_journal.specs.declared.event.Event.{Event}
use Rattle.case_journal.specs.declared.event.Event.TheVariants.{Publish, Split}
use Rattle.case_journal.specs.declared.event.End.{End}
use Rattle.case_journal.specs.declared.event.End.TheVariants as ends
use Rattle.case_journal.specs.Journal.{Setting, nodes, ledger, steps, lines_of, input_lines}
use Rattle.case_journal.specs.Paths.{on_path, is_leaf, branch, branch_to}
use Rattle.case_journal.specs.Facts.{lists, IsDead, IsLive, Holds}
use Rattle.case_journal.specs.Ending.{no_assumptions, is_contradiction, ends_contradictory, end_by, or_else, first_end, has_empty, reason}
use Rattle.case_journal.specs.Legal.{IsAsked, IsLegalJournal, IsSettled, IsClaimable}
use Rattle.case_journal.specs.Closing.{published}
use Rattle.case_journal.specs.ListLaws.{numbered_get}
use Rattle.case_journal.specs.PathLaws.{nodes_some, on_path_root}
use Rattle.case_journal.specs.BranchLaws.{branch_root, climbs}
use Rattle.case_journal.specs.LeafLaws.{claimer_within}
use Rattle.case_journal.specs.LedgerLaws.{input_line_at}
use Rattle.case_journal.specs.StandingLaws.{published_within, split_here}
use Rattle.dep_sets.specs.OrderLaws.{same_self}
use Rattle.case_journal.specs.DependenceLaws.{chain_line, numbered_old, child_some}
use Rattle.case_journal.specs.ClosedLaws.{dead_closed}

-- ---- an input clause without atoms

grown : (a : Atom) (xs : List Atom) → no_atoms (xs ++ a ∷ []) ≡ false
grown a [] = refl
grown a (x ∷ xs) = refl

added_some : (b : Bool) (x : Atom) (xs : List Atom) (a : Atom) → no_atoms (cond b (x ∷ xs) ((x ∷ xs) ++ a ∷ [])) ≡ false
added_some true x xs a = refl
added_some false x xs a = refl

fold_some : (atoms xs : List Atom) → no_atoms xs ≡ false → no_atoms (fold added xs atoms) ≡ false
fold_some [] xs h = h
fold_some (a ∷ atoms) [] h = absurd (false≢true (sym h))
fold_some (a ∷ atoms) (x ∷ xs) h = fold_some atoms (added (x ∷ xs) a) (added_some (list_any (λ b. is_same a b) (x ∷ xs)) x xs a)

distinct_none : (atoms : List Atom) → no_atoms (distinct atoms) ≡ true → no_atoms atoms ≡ true
distinct_none [] h = refl
distinct_none (a ∷ atoms) h = absurd (false≢true (sym (fold_some atoms (a ∷ []) refl) ∙ h))

mapped_none : (f : Atom → Atom) (atoms : List Atom) → no_atoms (map f atoms) ≡ true → no_atoms atoms ≡ true
mapped_none f [] h = refl
mapped_none f (a ∷ atoms) h = absurd (false≢true h)

in_order_empty : (c : Clause) → is_empty (in_order c) ≡ true → is_empty c ≡ true
in_order_empty c h =
    let d = in_order c in
    let p = and_parts (no_atoms d.constraint && no_atoms d.antecedent) (no_atoms d.succedent) h in
    let q = and_parts (no_atoms d.constraint) (no_atoms d.antecedent) p.0 in
    and_from (no_atoms c.constraint && no_atoms c.antecedent) (no_atoms c.succedent)
    (and_from (no_atoms c.constraint) (no_atoms c.antecedent)
    (distinct_none c.constraint (mapped_none _ (distinct c.constraint) q.0))
    (distinct_none c.antecedent (mapped_none _ (distinct c.antecedent) q.1)))
    (distinct_none c.succedent (mapped_none _ (distinct c.succedent) p.1))

any_at : (cs : List Clause) (k : ℕ) (c : Clause) → slice_get cs k ≡ Some c → is_empty c ≡ true → has_empty cs ≡ true
any_at [] k c h e = cc
any_at (x ∷ cs) zero c h e = let q : x ≡ c = cc in or_left (is_empty x) (has_empty cs) (ap is_empty q ∙ e)
any_at (x ∷ cs) (suc k) c h e = or_right (is_empty x) (has_empty cs) (any_at cs k c h e)

-- ---- what ends the journal

reason_some : (b : Bool) (o : Option End) → b ≡ true → is_some (cond b (Some ends.Proved) o) ≡ true
reason_some true o h = refl
reason_some false o h = absurd (false≢true h)

reason_end : (b : Bool) (o : Option End) → is_some o ≡ true → is_some (cond b (Some ends.Proved) o) ≡ true
reason_end true o h = refl
reason_end false o h = h

reason_after : (b : Bool) (o p : Option End) → is_some (cond b (Some ends.Proved) o) ≡ true → is_some (cond b (Some ends.Proved) (or_else o p)) ≡ true
reason_after true o p h = refl
reason_after false (Some end) p h = refl
reason_after false None p h = absurd (false≢true h)

or_else_some : (o p : Option End) → is_some p ≡ true → is_some (or_else o p) ≡ true
or_else_some (Some end) p h = refl
or_else_some None p h = h

chain_ends : (chain : List Line) (l : Line) → chain ≡ l ∷ [] → is_contradiction l.stated ≡ true → is_some (cond (ends_contradictory chain) (Some ends.Proved) None) ≡ true
chain_ends chain l one h =
    let e : ends_contradictory chain ≡ true = ap ends_contradictory one ∙ h in
    ap (λ b. is_some {T = End} (cond b (Some ends.Proved) None)) e

-- a contradiction that an event publishes at the root ends the journal
new_ends : (s : Setting) (past : List Entry) (w : ℕ) (ev : Event) (i : ℕ) (l : Line) → IsAsked s past w ev → lists ev (nodes past) (steps s past) (λ k. eqb k 0) 0 i ≡ true → numbered (ledger s past ++ lines_of ev) i ≡ Some l
    → is_contradiction l.stated ≡ true → is_some (end_by ev) ≡ true
new_ends s past w (Publish node chain put_off) i l p h found contra =
    let parts = and_parts (eqb node 0) _ h in
    let at = eqb-true i (steps s past + length chain) (and_parts _ (eqb i (steps s past + length chain)) parts.1).1 in
    let q = chain_line s past w node chain put_off p.asked i l at found in
    chain_ends chain p.asked.line p.asked.one (ap (λ x. is_contradiction x.stated) q ∙ contra)
new_ends s past w (Split node lines put_off) i l p h found contra = absurd (elim (split_here 0 (nodes past) i (steps s past) (length lines) h) [
  | inl q ↦ (let a = q.0 in let b = nodes_some past in omega arith)
  | inr q ↦ (let a = q.0 in omega arith)
])
new_ends s past w _ i l p h found contra = absurd (false≢true h)

contradiction_ends : (s : Setting) (past : List Entry) → IsLegalJournal s past → (i : ℕ) (l : Line) → published s past 0 i ≡ true → numbered (ledger s past) i ≡ Some l → is_contradiction l.stated ≡ true → is_some (reason s past) ≡ true
contradiction_ends s [] legal i l h found contra =
    let w = published_within s [] legal 0 i h in
    let r = input_line_at 1 s.input (i - 1) l (sym (numbered_get (input_lines 1 s.input) i w.0) ∙ found) in
    let e = (and_parts (is_empty l.stated.clause) (no_assumptions l.stated.deps) contra).0 in
    reason_some (has_empty s.input) None (any_at s.input (i - 1) r.clause r.found (in_order_empty r.clause (ap (λ x. is_empty x.stated.clause) (sym r.is) ∙ e)))
contradiction_ends s (e ∷ past) legal i l h found contra =
    elim (or_cases (lists e.event (nodes past) (steps s past) (λ k. eqb k 0) 0 i) (published s past 0 i) h) [
      | inl new ↦ reason_end (has_empty s.input) (or_else (first_end past) (end_by e.event)) (or_else_some (first_end past) (end_by e.event) (new_ends s past e.by e.event i l legal.0.asked new found contra))
      | inr old ↦
          let w = published_within s past legal.1 0 i old in
          let found_old = sym (numbered_old (ledger s past) (lines_of e.event) i w.0 w.1) ∙ found in
          reason_after (has_empty s.input) (first_end past) (end_by e.event) (contradiction_ends s past legal.1 i l old found_old contra)
    ]

-- ---- the root

none_assumed : (deps : List Assumption) → ((a : Assumption) → contains_assumption deps a ≡ true → ⊥) → no_assumptions deps ≡ true
none_assumed [] h = refl
none_assumed (a ∷ deps) h = absurd (h a (or_left (is_same_assumption a a) (contains_assumption deps a) (same_self a)))

root_path : (s : Setting) (past : List Entry) → IsLegalJournal s past → (n : ℕ) → on_path past 0 n ≡ true → n ≡ 0
root_path s past legal zero h = refl
root_path s past legal (suc n) h = let off = on_path_root s past legal (suc n) (λ q. omega arith) in absurd (false≢true (sym off ∙ h))

-- a dead root is closed by a contradiction
pub root_dead_ends : (s : Setting) (past : List Entry) → IsLegalJournal s past → IsDead s past 0 → is_some (reason s past) ≡ true
root_dead_ends s past legal dead =
    let c = dead_closed s past legal 0 (let b = nodes_some past in omega arith) dead in
    let z = root_path s past legal c.node c.on in
    let none = none_assumed c.closes.line.stated.deps (λ a has.
    let at = c.assumed a has in
    let y = root_path s past legal at.node (ap (λ x. on_path past x at.node) (sym z) ∙ at.on) in
    let bad : None ≡ Some at.up = sym (branch_root past) ∙ (ap (branch past) (sym y) ∙ at.hangs) in
    cc) in
    contradiction_ends s past legal c.number c.closes.line (ap (λ x. published s past x c.number) (sym z) ∙ c.closes.stands) c.closes.found
    (and_from (is_empty c.closes.line.stated.clause) (no_assumptions c.closes.line.stated.deps) c.closes.empty none)

-- ---- a settled tree

-- below each live node of a settled tree is a live leaf
no_live : (s : Setting) (past : List Entry) → IsLegalJournal s past → IsSettled s past → ((m : ℕ) → ¬ IsClaimable s past m) → ((w m : ℕ) → 1 ≤ w → w ≤ s.workers → ¬ Holds s past w m) → (fuel m : ℕ) → m < nodes past → nodes past ≤ m + fuel → IsLive s past m → ⊥
no_live s past legal settled none idle zero m there few live = absurd (omega arith)
no_live s past legal settled none idle (suc fuel) m there few live =
    elim (cases_Bool (is_leaf past m)) [
      | inl leaf ↦ none m (record {
        there = there;
        leaf = leaf;
        live = live;
        free = λ v h. (let r = claimer_within s past legal v m h.claims in idle v m r.0 r.1 h);
      })
      | inr inner ↦
          let c = settled m there inner live in
          let r = climbs s past legal c.child (child_some past m c.clause c.side c.child c.is) c.is.there in
          let same : Some r.up ≡ Some (branch_to m c.clause c.side) = sym r.hangs ∙ c.is.hangs in
          let q : r.up ≡ branch_to m c.clause c.side = cc in
          let low : m < c.child = (let b = r.below in omega (arith, ap (λ x. x.parent) q)) in
          no_live s past legal settled none idle fuel c.child c.is.there (omega arith) c.live
    ]

pub no_leaf_ends : (s : Setting) (past : List Entry) → IsLegalJournal s past → IsSettled s past → ((m : ℕ) → ¬ IsClaimable s past m) → ((w m : ℕ) → 1 ≤ w → w ≤ s.workers → ¬ Holds s past w m) → is_some (reason s past) ≡ true
no_leaf_ends s past legal settled none idle = true_from_ne_false (is_some (reason s past)) (λ unended.
    no_live s past legal settled none idle (nodes past) 0 (let b = nodes_some past in omega arith) (omega arith)
    (λ dead. false≢true (sym unended ∙ root_dead_ends s past legal dead)))
