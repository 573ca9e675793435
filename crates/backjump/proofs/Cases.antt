-- A case step is legal where a live node has two dead children.
use Rattle.std.proofs.Common.{◌≡◌, ℕ, zero, suc, ◌+◌, ◌<◌, ◌≤◌, ◌⊎◌, inl, inr, Bool, true, false, cond, ◌&&◌, eqb, ltb, List, [], ◌∷◌, map, Option, Some, None, option_map, refl, sym, ◌∙◌, ap, subst, arith, eq-eqb}
use Rattle.std.proofs.lemmas.Bool.{or_left, and_parts, and_from, lt-ltb, false≢true}
use Rattle.std.proofs.lemmas.Option.{slice_get-map}
use Rattle.spl_terms.specs.declared.atom.Atom.{Atom}
use Rattle.spl_terms.specs.declared.clause.Clause.{Clause}
use Rattle.spl_terms.specs.Clauses.{is_empty, no_atoms, renumbered, clause_symbols}
use Rattle.dep_sets.specs.declared.deps.Assumption.{Assumption}
use Rattle.dep_sets.specs.Assumptions.{contains_assumption}
use Rattle.proof_steps.specs.declared.step.Line.{Line}
use Rattle.proof_steps.specs.Steps.{numbered, side_of, when, closes, of_three, both_closed, conclude}
use Rattle.proof_steps.specs.Checked.{stated}
use Rattle.case_journal.specs.declared.event.Entry.{Entry}
use Rattle.case_journal.specs.declared.event.Event.TheVariants.{Publish}
use Rattle.case_journal.specs.declared.event.End.{End}
use Rattle.case_journal.specs.declared.event.End.TheVariants.{Proved}
use Rattle.case_journal.specs.Journal.{Setting, nodes, ledger, steps, counted, count_of}
use Rattle.case_journal.specs.Paths.{on_path, owner}
use Rattle.case_journal.specs.Facts.{IsEmptyAt, IsLive}
use Rattle.case_journal.specs.Ending.{no_assumptions, is_contradiction, first_end, or_else}
use Rattle.case_journal.specs.Legal.{IsLegal, IsLegalJournal, IsChild, case_step}
use Rattle.case_journal.specs.Closing.{published}
use Rattle.case_journal.specs.BoundLaws.{counted_bound}
use Rattle.case_journal.specs.BranchLaws.{climbs}
use Rattle.case_journal.specs.DependenceLaws.{numbered_new}
use Rattle.backjump.specs.Cases.{case_line, IsOpenOrProved, CanClose}
use Rattle.case_journal.specs.DeathLaws.{child_depends, dead_below, owner_on, own_assumption, with_line}

stated_found : (lines : List Line) (n : ℕ) (l : Line) → numbered lines n ≡ Some l → numbered (stated lines) n ≡ Some l.stated
stated_found lines zero l h = cc
stated_found lines (suc k) l h = slice_get-map (λ x. x.stated) lines k ∙ ap (option_map (λ x. x.stated)) h

-- an empty clause that is listed at a child closes that side
side_closes : (s : Setting) (past : List Entry) → IsLegalJournal s past → (m clause side child i : ℕ) (l : Line) → IsChild past m clause side child → IsLive s past m → IsEmptyAt s past child i → numbered (ledger s past) i ≡ Some l → closes (side_of clause side) l.stated ≡ true
side_closes s past legal m clause side child i l c live d found =
    let same : Some d.line ≡ Some l = sym d.found ∙ found in
    let q : d.line ≡ l = cc in
    ap (λ x. closes (side_of clause side) x.stated) (sym q) ∙ and_from (is_empty d.line.stated.clause) (contains_assumption d.line.stated.deps (side_of clause side)) d.empty (child_depends s past legal m clause side child i c live d)

case_concluded : (s : Setting) (past : List Entry) → IsLegalJournal s past → (inner clause left right i j : ℕ) → CanClose s past inner clause left right i j → (r e f : Line)
    → numbered (ledger s past) clause ≡ Some r → numbered (ledger s past) i ≡ Some e → numbered (ledger s past) j ≡ Some f
    → conclude s.input (stated (ledger s past)) (case_step clause i j) ≡ Some (case_line clause r.stated.deps i e.stated.deps j f.stated.deps).stated
case_concluded s past legal inner clause left right i j c r e f is_r is_e is_f =
    let xs = stated (ledger s past) in
    let a = stated_found (ledger s past) clause r is_r in
    let b = stated_found (ledger s past) i e is_e in
    let d = stated_found (ledger s past) j f is_f in
    let one = side_closes s past legal inner clause 1 left i e c.left_child c.live c.first_left.empty is_e in
    let two = side_closes s past legal inner clause 2 right j f c.right_child c.live c.first_right.empty is_f in
    ap (λ x. of_three (both_closed clause) x (numbered xs i) (numbered xs j)) a
    ∙ (ap (λ x. of_three (both_closed clause) (Some r.stated) x (numbered xs j)) b
    ∙ (ap (λ x. of_three (both_closed clause) (Some r.stated) (Some e.stated) x) d
    ∙ ap (λ x. when x (case_line clause r.stated.deps i e.stated.deps j f.stated.deps).stated) (and_from (closes (side_of clause 1) e.stated) (closes (side_of clause 2) f.stated) one two)))

mapped_none : (f : Atom → Atom) (atoms : List Atom) → no_atoms (map f atoms) ≡ true → no_atoms atoms ≡ true
mapped_none f [] h = refl
mapped_none f (a ∷ atoms) h = absurd (false≢true h)

abbrev no_clause : Clause
no_clause = record { constraint = []; antecedent = []; succedent = [] }

-- a variant of the empty clause is empty
variant_empty : (d : Clause) → renumbered d ≡ renumbered no_clause → is_empty d ≡ true
variant_empty d h =
    let e = renumbered d in
    let t : is_empty e ≡ true = ap is_empty h in
    let p = and_parts (no_atoms e.constraint && no_atoms e.antecedent) (no_atoms e.succedent) t in
    let q = and_parts (no_atoms e.constraint) (no_atoms e.antecedent) p.0 in
    and_from (no_atoms d.constraint && no_atoms d.antecedent) (no_atoms d.succedent)
    (and_from (no_atoms d.constraint) (no_atoms d.antecedent) (mapped_none _ d.constraint q.0) (mapped_none _ d.antecedent q.1))
    (mapped_none _ d.succedent p.1)

pub closing_legal : (s : Setting) (past : List Entry) → IsLegalJournal s past → (w : ℕ) → 1 ≤ w → w ≤ s.workers → first_end past ≡ None → (inner clause left right i j : ℕ) → CanClose s past inner clause left right i j → (r e f : Line)
    → numbered (ledger s past) clause ≡ Some r → numbered (ledger s past) i ≡ Some e → numbered (ledger s past) j ≡ Some f
    → (l : Line) → l ≡ case_line clause r.stated.deps i e.stated.deps j f.stated.deps → (node : ℕ) → node ≡ owner past l.stated.deps inner → IsLegal s past w (Publish node (l ∷ []) false)
closing_legal s past legal w some worker unended inner clause left right i j c r e f is_r is_e is_f l is node owner_is =
    let made = case_line clause r.stated.deps i e.stated.deps j f.stated.deps in
    let on : on_path past inner node ≡ true = ap (on_path past inner) owner_is ∙ owner_on s past legal l.stated.deps inner c.there in
    let live : IsLive s past node = λ dead. c.live (dead_below s past legal inner node c.there on dead) in
    let concluded = case_concluded s past legal inner clause left right i j c r e f is_r is_e is_f in
    let bound = counted_bound s past legal in
    record {
      some = some;
      worker = worker;
      unended = λ go. unended;
      asked = record {
        asked = record {
          line = l;
          one = refl;
          concluded = subst (λ x. (conclude s.input (stated (ledger s past)) x.step ≡ Some x.stated) × (clause_symbols x.stated.clause ≤ 4096)) (sym is) (concluded, omega arith);
          live = live;
          typed = refl;
          cause = inr (record {
            inner = inner;
            there = c.there;
            live = c.live;
            clause = clause;
            left = left;
            right = right;
            left_child = c.left_child;
            right_child = c.right_child;
            left_empty = i;
            right_empty = j;
            first_left = c.first_left;
            first_right = c.first_right;
            step = ap (λ x. x.step) is;
            owner = owner_is;
            new = λ d lists variant.
                let at = lists.1 in
                let void = variant_empty d (variant ∙ ap (λ x. renumbered x.stated.clause) is) in
                live (lists.0, record { lists = at.lists; line = at.line; found = at.found; empty = ap is_empty at.is ∙ void });
          });
        };
        few = subst (λ x. counted past + count_of (x ∷ []) ≤ s.limits.steps) (sym is) (omega (arith, bound));
      };
    }

-- ---- the end

abbrev pub end_of : Line → Option End
end_of l = cond (is_contradiction l.stated) (Some Proved) None

end_cases : (b : Bool) → (cond b (Some Proved) None ≡ None) ⊎ (cond b (Some Proved) None ≡ Some Proved)
end_cases true = inr refl
end_cases false = inl refl

pub open_or_proved : (w n : ℕ) (l : Line) (past : List Entry) → first_end past ≡ None → IsOpenOrProved (with_line w n l past)
open_or_proved w n l past h =
    let e : first_end (with_line w n l past) ≡ end_of l = ap (λ o. or_else o (end_of l)) h in
    elim (end_cases (is_contradiction l.stated)) [ inl q ↦ inl (e ∙ q) | inr q ↦ inr (e ∙ q) ]

has_some : (deps : List Assumption) (a : Assumption) → contains_assumption deps a ≡ true → no_assumptions deps ≡ false
has_some [] a h = absurd (false≢true h)
has_some (b ∷ deps) a h = refl

contra_off : (x y : Bool) → y ≡ false → (x && y) ≡ false
contra_off true y h = h
contra_off false y h = refl

-- what is published at another node than the root does not end the journal
pub still_open : (s : Setting) (past : List Entry) (w n : ℕ) (l : Line) → IsLegalJournal s (with_line w n l past) → 0 < n → n < nodes past → first_end past ≡ None → first_end (with_line w n l past) ≡ None
still_open s past w n l legal some there h =
    let size = steps s past in
    let v = with_line w n l past in
    let k = climbs s v legal n some (omega arith) in
    let stands : published s v n (size + 1) ≡ true = or_left (eqb n n && (ltb size (size + 1) && eqb (size + 1) (size + 1))) (published s past n (size + 1))
    (and_from (eqb n n) (ltb size (size + 1) && eqb (size + 1) (size + 1)) (eq-eqb n n refl) (and_from (ltb size (size + 1)) (eqb (size + 1) (size + 1)) (lt-ltb size (size + 1) (omega arith)) (eq-eqb (size + 1) (size + 1) refl))) in
    let has = own_assumption s v legal n (size + 1) l k.up stands (numbered_new (ledger s past) (l ∷ []) (size + 1) 0 (omega arith)) k.hangs in
    let off : is_contradiction l.stated ≡ false = contra_off (is_empty l.stated.clause) (no_assumptions l.stated.deps) (has_some l.stated.deps k.up.assumed has) in
    ap (λ o. or_else o (end_of l)) h ∙ ap (λ b. cond b (Some Proved) None) off
