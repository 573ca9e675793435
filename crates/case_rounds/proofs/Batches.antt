-- What was computed from a view is a batch over the journal for which it stands.
use Rattle.std.proofs.Common.{◌≡◌, ◌⊎◌, inl, inr, ℕ, zero, suc, ◌≤◌, false, true, List, [], ◌∷◌, ◌++◌, map, Option, Some, None, option_map, refl, sym, ◌∙◌, ap, subst, arith}
use Rattle.std.specs.List.{slice_get}
use Rattle.std.proofs.lemmas.List.{length-map}
use Rattle.std.proofs.lemmas.Option.{slice_get-map}
use Rattle.dep_sets.specs.declared.deps.Assumption.{Assumption}
use Rattle.spl_terms.specs.ListLaws.{numbered-within}
use Rattle.spl_terms.specs.declared.clause.Part.{Part}
use Rattle.spl_terms.specs.declared.clause.Clause.{Clause}
use Rattle.proof_steps.specs.declared.step.Statement.{Statement}
use Rattle.proof_steps.specs.declared.step.Line.{Line}
use Rattle.clause_parts.specs.Parts.{Parted, parts_of}
use Rattle.clause_splitting.specs.Splitting.{AreSplitLines}
use Rattle.proof_steps.specs.declared.step.Step.{Step}
use Rattle.case_journal.specs.declared.event.Event.{Event}
use Rattle.case_journal.specs.declared.event.Event.TheVariants.{Publish, Activate, Big}
use Rattle.case_journal.specs.Paths.{owner}
use Rattle.spl_terms.specs.Lists.{numbered}
use Rattle.proof_steps.specs.Steps.{of_two, from_two, resolution, conclude}
use Rattle.proof_steps.specs.Checked.{stated, resolution_of_lines}
use Rattle.proof_steps.specs.Covering.{IsVariant, IsCoveredBy}
use Rattle.case_journal.specs.declared.event.Entry.{Entry}
use Rattle.case_journal.specs.Journal.{Setting, ledger, lines_of, splits, steps}
use Rattle.case_journal.specs.Facts.{listed, worked, chosen, Holds, before_choice}
use Rattle.case_journal.specs.Legal.{IsLegalJournal, IsPremise, IsListed, IsTooLarge, IsLegalBig}
use Rattle.case_journal.specs.DependenceLaws.{before_listed, line_of_stated}
use Rattle.journal_laws.specs.Frame.{IsSinceChoice}
use Rattle.journal_laws.specs.Batches.{IsRoundLine, IsBatch, IsUnderWay, IsListedWith, IsWorkedOff}
use Rattle.case_view.specs.declared.kept.Kept.{Kept}
use Rattle.case_view.specs.declared.kept.Case.{Case}
use Rattle.case_rounds.specs.declared.round.Finish.{Finish}
use Rattle.case_rounds.specs.declared.round.Finish.TheVariants as finishes
use Rattle.case_view.specs.Views.{keep, kept_line, owner_on, path_nodes, path_sides, IsCaseOf, IsIn, conclusion_of, HasClauses}
use Rattle.case_rounds.specs.declared.round.Batch.{Batch}
use Rattle.case_rounds.specs.Rounds.{IsLarge, IsPremiseOf, IsPairOf, IsLineOf, AreLinesOf, IsCoveredIn, IsBigOf, IsWorkedOffOf, IsFinishOf}
use Rattle.case_rounds.specs.Events.{publication_of, AreLastOf, AreEventsOf, IsBatchOf, AreOver, AreAllOver}
use Rattle.case_rounds.specs.Appending.{IsFinishAt, publication_at, AreLastAt, IsBatchReady}
use Rattle.case_rounds.specs.InLaws.{in_either, in_one, in_mapped}

two_parents : (m n base : ℕ) → m ≤ base → n ≤ base → (j x : ℕ) → slice_get (m ∷ n ∷ []) j ≡ Some x → x ≤ base
two_parents m n base h k zero x e = let same : m ≡ x = cc in omega (arith, h, same)
two_parents m n base h k (suc zero) x e = let same : n ≡ x = cc in omega (arith, k, same)
two_parents m n base h k (suc (suc j)) x e = absurd (cc)

one_parent : (m base : ℕ) → m ≤ base → (j x : ℕ) → slice_get (m ∷ []) j ≡ Some x → x ≤ base
one_parent m base h zero x e = let same : m ≡ x = cc in omega (arith, h, same)
one_parent m base h (suc j) x e = absurd (cc)

none_over : (base : ℕ) → AreOver base []
none_over base k l e = absurd (cc)

stated_numbered : (lines : List Line) (n : ℕ) → numbered (stated lines) n ≡ option_map (λ l. l.stated) (numbered lines n)
stated_numbered lines zero = refl
stated_numbered lines (suc k) = slice_get-map (λ l. l.stated) lines k

line_stated : (lines : List Line) (k : Kept) → kept_line lines k.number ≡ Some k → numbered (stated lines) k.number ≡ Some k.stated
line_stated lines k h = stated_numbered lines k.number ∙ by_line (numbered lines k.number) h
  where
    by_line : (o : Option Line) → option_map (keep k.number) o ≡ Some k → option_map (λ l. l.stated) o ≡ Some k.stated
    by_line None e = absurd (cc)
    by_line (Some l) e = let same : keep k.number l ≡ k = cc in ap (λ x. Some x.stated) same

module _ (s : Setting) (past : List Entry) (v : Case) (given : Kept) (is_given : v.given ≡ Some given) (holds : Holds s past v.worker v.node) (splits_are : v.splits ≡ splits past) (has : HasClauses s past v) where
  -- ---- premises

  chosen_is : chosen past v.node ≡ Some given.number
  chosen_is = (has.given given is_given).1

  given_stated : numbered (stated (ledger s past)) given.number ≡ Some given.stated
  given_stated = line_stated (ledger s past) given (has.given given is_given).0

  same_given : (k : Kept) → v.given ≡ Some k → given ≡ k
  same_given k h = let e : Some given ≡ Some k = sym is_given ∙ h in cc

  premise_line : (k : Kept) → IsPremiseOf v k → numbered (stated (ledger s past)) k.number ≡ Some k.stated
  premise_line k (inl h) = subst (λ x. numbered (stated (ledger s past)) x.number ≡ Some x.stated) (same_given k h) given_stated
  premise_line k (inr at) = line_stated (ledger s past) k (has.are_worked k at).0

  -- what the ledger concludes from two premises
  same_conclusion : (i : ℕ) (part : Part) (j : ℕ) (p q : Kept) → IsPremiseOf v p → IsPremiseOf v q → resolution_of_lines i part j p.number q.number (ledger s past) ≡ conclusion_of i part j p q
  same_conclusion i part j p q a b =
      ap (λ o. of_two (from_two (resolution i part j [] [])) o (numbered (stated (ledger s past)) q.number)) (premise_line p a)
      ∙ ap (of_two (from_two (resolution i part j [] [])) (Some p.stated)) (premise_line q b)

  premise_then : IsSinceChoice s past v.worker v.node → (k : Kept) → IsPremiseOf v k → IsPremise s (before_choice past v.node) v.node given.number k.number
  premise_then since k (inl h) = inl (ap (λ x. x.number) (sym (same_given k h)))
  premise_then since k (inr at) = inr (since.partners k.number (has.are_worked k at).1)

  premise_now : ((n : ℕ) → worked past v.node n ≡ true → listed s past v.node n ≡ true) → (k : Kept) → IsPremiseOf v k → IsPremise s past v.node given.number k.number
  premise_now kept k (inl h) = inl (ap (λ x. x.number) (sym (same_given k h)))
  premise_now kept k (inr at) = (let w = (has.are_worked k at).1 in inr (record { worked = w; kept = kept k.number w }))

  premise_view : (n : ℕ) → IsPremise s past v.node given.number n → (k : Kept) × IsPremiseOf v k × (k.number ≡ n)
  premise_view n (inl q) = (given, inl is_given, sym q)
  premise_view n (inr p) = (let r = has.all_worked n p.worked in (r.0, inr r.1, r.2))

  one_of : (p : Kept) → v.given ≡ Some p → p.number ≡ given.number
  one_of p h = ap (λ x. x.number) (sym (same_given p h))

  -- ---- listed clauses

  listed_view : (c : Clause) → IsListed s past v.node c → (k : Kept) × IsIn v.listed k × (k.stated.clause ≡ c)
  listed_view c (n, at) =
      let r = has.all_listed n at.lists in
      let k = r.0 in
      let line = line_stated (ledger s past) k (has.are_listed k r.1).0 in
      let t = line_of_stated (ledger s past) k.number k.stated line in
      let same : Some t.0 ≡ Some at.line = sym t.1 ∙ (ap (numbered (ledger s past)) r.2 ∙ at.found) in
      let q : t.0 ≡ at.line = cc in
      (k, r.1, ap (λ (x : Statement). x.clause) (sym t.2) ∙ (ap (λ (x : Line). x.stated.clause) q ∙ at.is))

  view_listed : (c : Clause) (k : Kept) → IsIn v.listed k → k.stated.clause ≡ c → IsListed s past v.node c
  view_listed c k at is =
      let r = has.are_listed k at in
      let t = line_of_stated (ledger s past) k.number k.stated (line_stated (ledger s past) k r.0) in
      (k.number, record { lists = r.1; line = t.0; found = t.1; is = ap (λ (x : Statement). x.clause) t.2 ∙ is })

  -- ---- lines

  line_of_view : IsSinceChoice s past v.worker v.node → (lines : List Line) → AreLinesOf v lines → (l : Line) → IsIn lines l → IsRoundLine s past v.worker v.node l
  line_of_view since lines h l at =
      let own = h.each l at in
      let n = own.inference in
      let made = same_conclusion n.i n.part n.j own.first own.second own.pair.left own.pair.right ∙ n.concluded in
      let fresh = λ (d : Clause) (there : IsListed s past v.node d). (let r = listed_view d there in let x : ¬ IsVariant d l.stated.clause = subst (λ c. ¬ IsVariant c l.stated.clause) r.2 (h.new l r.0 at r.1) in x) in
      record {
        concluded = (ap (conclude s.input (stated (ledger s past))) n.step ∙ made, n.small);
        inferred = record {
          leaf = v.node;
          holds = holds;
          clause = given.number;
          chosen = chosen_is;
          first = own.first.number;
          second = own.second.number;
          pair = record {
            left = premise_then since own.first own.pair.left;
            right = premise_then since own.second own.pair.right;
            one = elim own.pair.one [ inl q ↦ inl (one_of own.first q) | inr q ↦ inr (one_of own.second q) ];
          };
          i = n.i;
          part = n.part;
          j = n.j;
          step = n.step;
          owner = refl;
          new = λ d there. fresh d (since.before d there);
          unpublished = λ d there. fresh d (since.since d there);
        };
      }

  pub batch_of_view : IsSinceChoice s past v.worker v.node → (lines : List Line) → AreLinesOf v lines → IsBatch s past v.worker v.node lines
  batch_of_view since lines h = record {
    holds = holds;
    each = λ k l at. line_of_view since lines h l (k, at);
    apart = h.apart;
    full = h.full;
  }

  -- ---- the end of the round

  covered_at : (lines : List Line) (c : Clause) → IsCoveredIn v lines c → IsCoveredBy (IsListedWith s past v.node lines) c
  covered_at lines c (inl t) = inl t
  covered_at lines c (inr h) = inr (record {
    by = h.by;
    among = elim h.among [ inl k ↦ inl (view_listed h.by k.0 k.1 k.2) | inr l ↦ inr l ];
    subsumes = h.subsumes;
  })

  given_line : (l : Line) × (numbered (ledger s past) given.number ≡ Some l) × (l.stated ≡ given.stated)
  given_line = line_of_stated (ledger s past) given.number given.stated given_stated

  pair_covered : (lines : List Line) → IsWorkedOffOf s.limits.splits v lines → (p q : Kept) → IsPairOf v p q → (i : ℕ) (part : Part) (j : ℕ) (st : Statement) → resolution_of_lines i part j p.number q.number (ledger s past) ≡ Some st
      → IsCoveredBy (IsListedWith s past v.node lines) st.clause
  pair_covered lines h p q pair i part j st e = covered_at lines st.clause (h.covers p q pair i part j st (sym (same_conclusion i part j p q pair.left pair.right) ∙ e))

  worked_off_at : (lines : List Line) → IsWorkedOffOf s.limits.splits v lines → IsWorkedOff s past v.worker v.node lines
  worked_off_at lines h =
      let g = given_line in
      record {
        clause = given.number;
        chosen = chosen_is;
        unsplit = record {
          line = g.0;
          found = g.1;
          unsplit = elim h.unsplit [
            | inl none ↦ inl (ap (λ (x : Statement). parts_of x.clause) g.2 ∙ (ap (λ (k : Kept). parts_of k.stated.clause) (same_given h.given h.is_given) ∙ none))
            | inr spent ↦ inr (omega (arith, spent, splits_are))
          ];
        };
        covered = λ first second pair i part j st e. elim pair.one [
          | inl own ↦ (let b = premise_view second pair.right in
              pair_covered lines h given b.0 (record { left = inl is_given; right = b.1; one = inl is_given }) i part j st
              (subst (λ x. resolution_of_lines i part j given.number x (ledger s past) ≡ Some st) (sym b.2) (subst (λ x. resolution_of_lines i part j x second (ledger s past) ≡ Some st) own e)))
          | inr own ↦ (let a = premise_view first pair.left in
              pair_covered lines h a.0 given (record { left = a.1; right = inl is_given; one = inr is_given }) i part j st
              (subst (λ x. resolution_of_lines i part j x given.number (ledger s past) ≡ Some st) (sym a.2) (subst (λ x. resolution_of_lines i part j first x (ledger s past) ≡ Some st) own e)))
        ];
      }

  too_large : (p q : Kept) (partner symbols : ℕ) → IsPremiseOf v p → IsPremiseOf v q → ((p.number ≡ given.number) × (q.number ≡ partner)) ⊎ ((p.number ≡ partner) × (q.number ≡ given.number)) → IsLarge p q symbols → IsTooLarge (ledger s past) given.number partner symbols
  too_large p q partner symbols a b pair l = record {
    first = p.number;
    second = q.number;
    pair = pair;
    i = l.i;
    part = l.part;
    j = l.j;
    conclusion = l.conclusion;
    concluded = same_conclusion l.i l.part l.j p q a b ∙ l.concluded;
    large = l.large;
    count = l.count;
  }

  big_at : ((n : ℕ) → worked past v.node n ≡ true → listed s past v.node n ≡ true) → (partner symbols : ℕ) → IsBigOf v partner symbols → IsLegalBig s past v.worker v.node partner symbols
  big_at kept partner symbols b = record {
    holds = holds;
    clause = given.number;
    chosen = chosen_is;
    involved = subst (IsPremise s past v.node given.number) (sym b.is) (premise_now kept b.other b.involved);
    large = elim b.large [
      | inl l ↦ too_large given b.other partner symbols (inl is_given) b.involved (inl (refl, sym b.is)) (subst (λ x. IsLarge x b.other symbols) (sym (same_given b.given b.is_given)) l)
      | inr l ↦ too_large b.other given partner symbols b.involved (inl is_given) (inr (sym b.is, refl)) (subst (λ x. IsLarge b.other x symbols) (sym (same_given b.given b.is_given)) l)
    ];
  }

  pub finish_of_view : ((n : ℕ) → worked past v.node n ≡ true → listed s past v.node n ≡ true) → (lines : List Line) (finish : Finish) → IsFinishOf s.limits.splits v lines finish → IsFinishAt s past v.worker v.node lines finish
  finish_of_view kept lines finishes.Closed h = h
  finish_of_view kept lines (finishes.Big partner symbols) h = big_at kept partner symbols h
  finish_of_view kept lines (finishes.Split parts) h =
      (let g = given_line in
      record { number = given.number; is = chosen_is; line = g.0; found = g.1; parted = ap (λ (x : Statement). parts_of x.clause) g.2 ∙ (ap (λ (k : Kept). parts_of k.stated.clause) (same_given h.given h.is_given) ∙ h.parted) })
  finish_of_view kept lines finishes.Activate h = worked_off_at lines h

  -- ---- the steps of the batch follow from those of the ledger

  premise_within : (k : Kept) → IsPremiseOf v k → k.number ≤ steps s past
  premise_within k h = omega (arith, (numbered-within (stated (ledger s past)) k.number k.stated (premise_line k h)).1, length-map (ledger s past) (λ (l : Line). l.stated))

  line_over : (l : Line) → IsLineOf v l → AreOver (steps s past) (l ∷ [])
  line_over l h zero x e j n at =
      (let same : l ≡ x = cc in
      two_parents h.first.number h.second.number (steps s past) (premise_within h.first h.pair.left) (premise_within h.second h.pair.right) j n
      (ap (λ (y : Step). slice_get y.parents j) (sym h.inference.step) ∙ (ap (λ (y : Line). slice_get y.step.parents j) same ∙ at)))
  line_over l h (suc k) x e j n at = absurd (cc)

  split_over : (parts : Parted) (lines : List Line) → AreSplitLines given.number parts lines → AreOver (steps s past) lines
  split_over parts lines h k l at j n e = one_parent given.number (steps s past) (premise_within given (inl is_given)) j n (ap (λ (x : Line). slice_get x.step.parents j) (sym (h.each k l at).is) ∙ e)

  last_over : (finish : Finish) (last : List Event) → AreLastOf v finish last → (ev : Event) → IsIn last ev → AreOver (steps s past) (lines_of ev)
  last_over finishes.Closed last h ev at = let none : None ≡ Some ev = ap (λ xs. slice_get xs at.0) (sym h) ∙ at.1 in absurd (cc)
  last_over (finishes.Big partner symbols) last h ev at = subst (λ x. AreOver (steps s past) (lines_of x)) (in_one (Big v.node partner symbols) ev (subst (λ xs. IsIn xs ev) h at)) (none_over (steps s past))
  last_over (finishes.Split parts) last h ev at =
      (let is = sym h.splits.is ∙ in_one h.event ev (subst (λ xs. IsIn xs ev) h.is at) in
      subst (λ x. AreOver (steps s past) (lines_of x)) is (split_over parts h.splits.lines (subst (λ (k : Kept). AreSplitLines k.number parts h.splits.lines) (sym (same_given h.given h.is_given)) h.splits.are)))
  last_over finishes.Activate last h ev at = subst (λ x. AreOver (steps s past) (lines_of x)) (in_one (Activate v.node) ev (subst (λ xs. IsIn xs ev) h at)) (none_over (steps s past))

  all_over : (lines : List Line) (finish : Finish) (events : List Event) → AreLinesOf v lines → AreEventsOf v lines finish events → AreAllOver (steps s past) events
  all_over lines finish events are h k ev at = elim (in_either (map (publication_of v) lines) h.last ev (k, ap (λ xs. slice_get xs k) (sym h.are) ∙ at)) [
    | inl published ↦ (let r = in_mapped (publication_of v) lines ev published in subst (λ x. AreOver (steps s past) (lines_of x)) r.2 (line_over r.0 (are.each r.0 r.1)))
    | inr last ↦ last_over finish h.last h.finishes ev last
  ]

  -- ---- the whole batch

  -- what is worked off was listed when the clause was chosen, and is listed still
  worked_kept : IsLegalJournal s past → IsSinceChoice s past v.worker v.node → (n : ℕ) → worked past v.node n ≡ true → listed s past v.node n ≡ true
  worked_kept legal since n on = before_listed s past legal v.node n (since.partners n on).kept

  last_at : (finish : Finish) (last : List Event) → AreLastOf v finish last → AreLastAt past v.node finish last
  last_at finishes.Closed last h = h
  last_at (finishes.Big partner symbols) last h = h
  last_at (finishes.Split parts) last h = record {
    clause = h.given.number;
    chosen = chosen_is ∙ ap (λ (k : Kept). Some k.number) (same_given h.given h.is_given);
    event = h.event;
    splits = h.splits;
    is = h.is;
  }
  last_at finishes.Activate last h = h

  publication_is : IsCaseOf s past v → ((deps : List Assumption) → owner past deps v.node ≡ owner_on (path_nodes past v.node) (path_sides past v.node) deps) → (l : Line) → publication_of v l ≡ publication_at past v.node l
  publication_is is owners l = ap (λ n. Publish n (l ∷ []) false) ((λ i. owner_on (is.nodes i) (is.path i) l.stated.deps) ∙ sym (owners l.stated.deps))

  pub ready : IsCaseOf s past v → ((deps : List Assumption) → owner past deps v.node ≡ owner_on (path_nodes past v.node) (path_sides past v.node) deps) → IsLegalJournal s past → IsSinceChoice s past v.worker v.node
      → ((lines : List Line) → IsBatch s past v.worker v.node lines → IsUnderWay s past past v.worker v.node lines 0) → (b : Batch) → IsBatchOf s.limits.splits v b → IsBatchReady s past v.worker v.node b
  ready is owners legal since starts b h = record {
    lines = h.lines;
    finish = h.finish;
    can = record { start = past; legal = legal; way = starts h.lines (batch_of_view since h.lines h.are); ends = finish_of_view (worked_kept legal since) h.lines h.finish h.ends };
    last = h.events.last;
    finishes = last_at h.finish h.events.last h.events.finishes;
    events = h.events.are ∙ (λ i. map (λ l. publication_is is owners l i) h.lines ++ h.events.last);
    base = omega (arith, h.base, is.base);
    over = subst (λ n. AreAllOver n b.events) (sym (h.base ∙ is.base)) (all_over h.lines h.finish b.events h.are h.events);
  }
