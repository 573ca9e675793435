-- In each legal journal, since the clause that is chosen at a held leaf was chosen.
use Rattle.std.proofs.Common.{◌≡◌, ◌⊎◌, inl, inr, ℕ, ◌<◌, Bool, true, false, not, cond, eqb, List, [], ◌∷◌, ◌++◌, Option, Some, None, refl, sym, ◌∙◌, ap, subst, eq-eqb, arith}
use Rattle.std.specs.Prelude.{Contains}
use Rattle.std.proofs.lemmas.Bool.{and_parts, eqb-true, cases_Bool, cond-true, cond-false, false≢true}
use Rattle.spl_terms.specs.declared.clause.Clause.{Clause}
use Rattle.proof_steps.specs.declared.step.Line.{Line}
use Rattle.case_journal.specs.declared.event.Entry.{Entry}
use Rattle.case_journal.specs.declared.event.Event.{Event}
use Rattle.case_journal.specs.declared.event.Event.TheVariants.{Claim, Choose, Publish, Split, Activate}
use Rattle.case_journal.specs.Journal.{Setting, nodes, last_line}
use Rattle.case_journal.specs.Paths.{on_path, is_leaf, splits_node}
use Rattle.case_journal.specs.Facts.{chosen, chosen_by, chooses_at, claimed, claimed_by, Holds, IsLive, is_case_rule, inferred, published_by}
use Rattle.case_journal.specs.Legal.{IsAsked, IsLegalJournal, IsListed, IsPublishable}
use Rattle.case_journal.specs.PlaceLaws.{claimed_within}
use Rattle.case_journal.specs.DependenceLaws.{chosen_listed}
use Rattle.journal_laws.specs.Frame.{StillHolds, IsSinceChoice, KeepsLeaf}
use Rattle.journal_laws.specs.Batches.{publication}
use Rattle.journal_laws.proofs.Holders.{live_before, one_holder}
use Rattle.case_journal.specs.DeathLaws.{owner_on}
use Rattle.journal_laws.proofs.Frame.{IsQuietAt, own_by, quiet_keeps, others_keep, none_of, one_of, still_self, nodes_grow, legal_tail, leaf_still, leaf_keeps, leaf_more}
use Rattle.journal_laws.proofs.Choice.{choice_begins, since_still}
use Rattle.journal_laws.proofs.Publishing.{listed_now}

-- ---- who holds a leaf where a clause is chosen

same_claim : (s : Setting) (past : List Entry) (v m : ℕ) (ev : Event) → IsAsked s past v ev → Holds s past v m → (o : Option ℕ) → claimed_by ev o ≡ o
same_claim s past v m (Claim node) p h o = absurd (p.idle m h)
same_claim s past v m _ p h o = refl

claims_after : (s : Setting) (past : List Entry) (e : Entry) (v m : ℕ) → IsAsked s past e.by e.event → Holds s past v m → claimed (e ∷ past) v ≡ claimed past v
claims_after s past e v m asked h = elim (cases_Bool (eqb e.by v)) [
  | inl own ↦
      let q = eqb-true e.by v own in
      cond-true (eqb e.by v) (claimed_by e.event (claimed past v)) (claimed past v) own ∙ same_claim s past v m e.event (subst (λ x. IsAsked s past x e.event) q asked) h (claimed past v)
  | inr other ↦ cond-false (eqb e.by v) (claimed_by e.event (claimed past v)) (claimed past v) other
]

holds_after : (s : Setting) (past : List Entry) (e : Entry) (v m : ℕ) → IsAsked s past e.by e.event → Holds s past v m → is_leaf (e ∷ past) m ≡ true → IsLive s (e ∷ past) m → Holds s (e ∷ past) v m
holds_after s past e v m asked h leaf live = record { claims = claims_after s past e v m asked h ∙ h.claims; leaf = leaf; live = live }

-- the event chooses at m, by a worker that holds it; or the clause was chosen before
chosen_how : (s : Setting) (past : List Entry) (by m c : ℕ) (ev : Event) (o : Option ℕ) → IsAsked s past by ev → chosen_by ev m o ≡ Some c → Holds s past by m ⊎ (o ≡ Some c)
chosen_how s past by m c (Choose node clause selected) o p h = elim (cases_Bool (eqb node m)) [
  | inl same ↦ inl (subst (Holds s past by) (eqb-true node m same) p.holds)
  | inr other ↦ inr (sym (cond-false (eqb node m) (Some clause) o other) ∙ h)
]
chosen_how s past by m c (Activate node) o p h = elim (cases_Bool (eqb node m)) [
  | inl same ↦ (let e : None ≡ Some c = sym (cond-true (eqb node m) None o same) ∙ h in absurd (cc))
  | inr other ↦ inr (sym (cond-false (eqb node m) None o other) ∙ h)
]
chosen_how s past by m c _ o p h = inr h

pub chosen_held : (s : Setting) (past : List Entry) → IsLegalJournal s past → (m c : ℕ) → chosen past m ≡ Some c → is_leaf past m ≡ true → IsLive s past m → (v : ℕ) × Holds s past v m
chosen_held s [] legal m c is leaf live = cc
chosen_held s (e ∷ past) legal m c is leaf live = elim (chosen_how s past e.by m c e.event (chosen past m) legal.0.asked is) [
  | inl h ↦ (e.by, holds_after s past e e.by m legal.0.asked h leaf live)
  | inr before ↦
      let low = (chosen_listed s past legal.1 m c before).0 in
      let r = chosen_held s past legal.1 m c before (and_parts (not (splits_node e.event m)) (is_leaf past m) leaf).1 (live_before s past e m low live) in
      (r.0, holds_after s past e r.0 m legal.0.asked r.1 leaf live)
]

-- ---- an event of the worker itself

earlier : (ev : Event) (m c : ℕ) (o : Option ℕ) → chooses_at ev m ≡ false → chosen_by ev m o ≡ Some c → o ≡ Some c
earlier (Choose node clause selected) m c o apart h = sym (cond-false (eqb node m) (Some clause) o apart) ∙ h
earlier (Activate node) m c o apart h = elim (cases_Bool (eqb node m)) [
  | inl same ↦ (let e : None ≡ Some c = sym (cond-true (eqb node m) None o same) ∙ h in absurd (cc))
  | inr other ↦ sym (cond-false (eqb node m) None o other) ∙ h
]
earlier _ m c o apart h = h

same_node : (s : Setting) (past : List Entry) (w m node : ℕ) → Holds s past w m → Holds s past w node → node ≡ m
same_node s past w m node a b = let e : Some node ≡ Some m = sym b.claims ∙ a.claims in cc

not_both : (b : Bool) → b ≡ true → not b ≡ true → ⊥
not_both true e h = false≢true h
not_both false e h = false≢true e

own_quiet : (s : Setting) (past : List Entry) (w m c : ℕ) (ev : Event) → IsAsked s past w ev → Holds s past w m → chooses_at ev m ≡ false → chosen_by ev m (chosen past m) ≡ Some c → not (splits_node ev m) ≡ true → IsQuietAt past ev m
own_quiet s past w m c (Choose node clause selected) p h apart is whole =
    let q = same_node s past w m node h p.holds in
    absurd (false≢true (sym apart ∙ eq-eqb node m q))
own_quiet s past w m c (Activate node) p h apart is whole =
    let q = same_node s past w m node h p.holds in
    let e : None ≡ Some c = sym (cond-true (eqb node m) None (chosen past m) (eq-eqb node m q)) ∙ is in
    absurd (cc)
own_quiet s past w m c (Split node lines put_off) p h apart is whole =
    let q = same_node s past w m node h p.asked.holds in
    absurd (not_both (eqb node m) (eq-eqb node m q) whole)
own_quiet s past w m c _ p h apart is whole = record { leaves = λ o. refl; chooses = refl; whole = refl; activates = λ n. refl; split = λ n. refl; choices = λ n. refl }

in_inferred : (b : Bool) (x c : Clause) → Contains (cond b [] (x ∷ [])) c → (b ≡ false) × (x ≡ c)
in_inferred true x c h = absurd (none_of c h)
in_inferred false x c h = elim (one_of x [] c h) [ inl is ↦ (refl, is) | inr none ↦ absurd (none_of c none) ]

-- what it publishes in its round is listed at its leaf
line_listed : (s : Setting) (past : List Entry) → IsLegalJournal s past → (w m node : ℕ) (chain : List Line) (put_off : Bool) → IsPublishable s past w node chain put_off → Holds s past w m → (c : Clause) → Contains (inferred (last_line chain)) c
    → IsListed s (record { by = w; event = Publish node chain put_off } ∷ past) m c
line_listed s past legal w m node chain put_off p h c there =
    let l = p.line in
    let r = in_inferred (is_case_rule l.step.rule) l.stated.clause c (subst (λ xs. Contains (inferred (last_line xs)) c) p.one there) in
    elim p.cause [
      | inl i ↦
          let q = same_node s past w m i.leaf h i.holds in
          let on : on_path past m node ≡ true = subst (λ n. on_path past n node ≡ true) q (ap (on_path past i.leaf) i.owner ∙ owner_on s past legal l.stated.deps i.leaf (claimed_within s past legal w i.leaf i.holds.claims)) in
          let at = subst (IsListed s (publication w node l ∷ past) m) r.1 (listed_now s past w m node l on) in
          subst (λ po. IsListed s (record { by = w; event = Publish node chain po } ∷ past) m c) (sym p.typed)
          (subst (λ xs. IsListed s (record { by = w; event = Publish node xs false } ∷ past) m c) (sym p.one) at)
      | inr k ↦ absurd (let e : true ≡ false = sym (ap (λ t. is_case_rule t.rule) k.step) ∙ r.0 in cc)
    ]

own_listed : (s : Setting) (past : List Entry) → IsLegalJournal s past → (w m : ℕ) (ev : Event) → IsAsked s past w ev → Holds s past w m → (c : Clause) → Contains (published_by ev) c → IsListed s (record { by = w; event = ev } ∷ past) m c
own_listed s past legal w m (Publish node chain put_off) p h c there = line_listed s past legal w m node chain put_off p.asked h c there
own_listed s past legal w m _ p h c there = absurd (none_of c there)

own_event : (s : Setting) (past : List Entry) (w m c : ℕ) (ev : Event) → IsLegalJournal s past → IsAsked s past w ev → Holds s past w m → Holds s (record { by = w; event = ev } ∷ past) w m → chooses_at ev m ≡ false → chosen_by ev m (chosen past m) ≡ Some c
    → StillHolds s past (record { by = w; event = ev } ∷ past) w m (own_by w (record { by = w; event = ev }))
own_event s past w m c ev legal asked h now apart is =
    let e : Entry = record { by = w; event = ev } in
    quiet_keeps s past e w m legal asked h
    (own_quiet s past w m c ev asked h apart is (and_parts (not (splits_node ev m)) (is_leaf past m) now.leaf).0)
    (claims_after s past e w m asked h) now.live
    (λ x there. own_listed s past legal w m ev asked h x (subst (λ cs. Contains cs x) (cond-true (eqb w w) (published_by ev) [] (eq-eqb w w refl)) there))

-- ---- since the choice

begins : (s : Setting) (past : List Entry) (by w m : ℕ) (ev : Event) → IsLegalJournal s past → m < nodes past → chooses_at ev m ≡ true → IsSinceChoice s (record { by = by; event = ev } ∷ past) w m
begins s past by w m (Choose node clause selected) legal there at =
    subst (λ n. IsSinceChoice s (record { by = by; event = Choose n clause selected } ∷ past) w m) (sym (eqb-true node m at)) (choice_begins s past by w m clause selected legal there)
begins s past by w m _ legal there at = absurd (false≢true at)

step_since : (s : Setting) (past : List Entry) (by w m c : ℕ) (ev : Event) → IsLegalJournal s (record { by = by; event = ev } ∷ past) → Holds s past w m → Holds s (record { by = by; event = ev } ∷ past) w m → chooses_at ev m ≡ false → chosen_by ev m (chosen past m) ≡ Some c
    → IsSinceChoice s past w m → IsSinceChoice s (record { by = by; event = ev } ∷ past) w m
step_since s past by w m c ev legal h now apart is f =
    let e : Entry = record { by = by; event = ev } in
    elim (cases_Bool (eqb by w)) [
      | inl own ↦
          let q = eqb-true by w own in
          subst (λ x. IsSinceChoice s (record { by = x; event = ev } ∷ past) w m) (sym q)
          (since_still s past (record { by = w; event = ev } ∷ past) w m (own_by w (record { by = w; event = ev }))
          (own_event s past w m c ev legal.1 (subst (λ x. IsAsked s past x ev) q legal.0.asked) h (subst (λ x. Holds s (record { by = x; event = ev } ∷ past) w m) q now) apart is) f)
      | inr other ↦ since_still s past (e ∷ past) w m [] (others_keep s past e w m legal h (λ q. false≢true (sym other ∙ eq-eqb by w q)) now.live) f
    ]

pub since_choice : (s : Setting) (past : List Entry) → IsLegalJournal s past → (w m c : ℕ) → Holds s past w m → chosen past m ≡ Some c → IsSinceChoice s past w m
since_choice s [] legal w m c h is = cc
since_choice s (e ∷ past) legal w m c h is = elim (cases_Bool (chooses_at e.event m)) [
  | inl at ↦
      elim (chosen_how s past e.by m c e.event (chosen past m) legal.0.asked is) [
        | inl k ↦ begins s past e.by w m e.event legal.1 (claimed_within s past legal.1 e.by m k.claims) at
        | inr before ↦ begins s past e.by w m e.event legal.1 (chosen_listed s past legal.1 m c before).0 at
      ]
  | inr apart ↦
      let before = earlier e.event m c (chosen past m) apart is in
      let low = (chosen_listed s past legal.1 m c before).0 in
      let r = chosen_held s past legal.1 m c before (and_parts (not (splits_node e.event m)) (is_leaf past m) h.leaf).1 (live_before s past e m low h.live) in
      let same = one_holder s (e ∷ past) legal r.0 w m (holds_after s past e r.0 m legal.0.asked r.1 h.leaf h.live) h in
      let k = subst (λ v. Holds s past v m) same r.1 in
      step_since s past e.by w m c e.event legal k h apart is (since_choice s past legal.1 w m c k before)
]

-- ---- whatever is appended while the leaf is held

pub leaf_whole : (s : Setting) (past later : List Entry) (w m : ℕ) → IsLegalJournal s (later ++ past) → Holds s past w m → m < nodes past → is_leaf (later ++ past) m ≡ true → IsLive s (later ++ past) m → KeepsLeaf s past (later ++ past) w m
leaf_whole s past [] w m legal h there leaf live = leaf_still s past past w m [] (still_self s past w m h)
leaf_whole s past (e ∷ later) w m legal h there leaf live =
    let before = live_before s (later ++ past) e m (omega (arith, there, nodes_grow later past)) live in
    let f = leaf_whole s past later w m legal.1 h there (and_parts (not (splits_node e.event m)) (is_leaf (later ++ past) m) leaf).1 before in
    let now = holds_after s (later ++ past) e w m legal.0.asked f.holds leaf live in
    leaf_more s past (later ++ past) (e ∷ later ++ past) w m f (leaf_keeps s (later ++ past) e w m legal.1 legal.0.asked f.holds now)

pub leaf_kept : (s : Setting) (past later : List Entry) (w m : ℕ) → IsLegalJournal s (later ++ past) → Holds s past w m → Holds s (later ++ past) w m → KeepsLeaf s past (later ++ past) w m
leaf_kept s past later w m legal h now = leaf_whole s past later w m legal h (claimed_within s past (legal_tail s later past legal) w m h.claims) now.leaf now.live
