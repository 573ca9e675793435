-- At most one worker holds a node, and what is live was live.
use Rattle.std.proofs.Common.{◌≡◌, ℕ, ◌<◌, ◌⊎◌, inl, inr, false, not, eqb, List, [], ◌∷◌, Option, Some, sym, ◌∙◌, ap, subst}
use Rattle.std.proofs.lemmas.Bool.{and_parts, cases_Bool, eqb-true, cond-true, cond-false, ne_eqb, false_from_ne_true}
use Rattle.case_journal.specs.declared.event.Entry.{Entry}
use Rattle.case_journal.specs.declared.event.Event.{Event}
use Rattle.case_journal.specs.declared.event.Event.TheVariants.{Claim}
use Rattle.case_journal.specs.Journal.{Setting, nodes, ledger, lines_of}
use Rattle.case_journal.specs.Paths.{on_path, is_leaf, splits_node}
use Rattle.case_journal.specs.Facts.{claimed, claimed_by, IsEmptyAt, IsLive, Holds}
use Rattle.case_journal.specs.Legal.{IsLegal, IsLegalJournal}
use Rattle.case_journal.specs.PlaceLaws.{claimed_within}
use Rattle.case_journal.specs.PathLaws.{leaf_path}
use Rattle.case_journal.specs.LedgerLaws.{numbered_more}
use Rattle.case_journal.specs.DependenceLaws.{listed_after}

-- ---- live before

pub empty_after : (s : Setting) (past : List Entry) (e : Entry) (m i : ℕ) → m < nodes past → IsEmptyAt s past m i → IsEmptyAt s (e ∷ past) m i
empty_after s past e m i low h = record { lists = listed_after s past e m i low h.lists; line = h.line; found = numbered_more (ledger s past) (lines_of e.event) i h.line h.found; empty = h.empty }

pub live_before : (s : Setting) (past : List Entry) (e : Entry) (m : ℕ) → m < nodes past → IsLive s (e ∷ past) m → IsLive s past m
live_before s past e m low live = λ d. live (d.0, empty_after s past e m d.0 low d.1)

-- ---- one holder

-- how a worker came to its node: by this event, or before it
came_by : (ev : Event) (by w m : ℕ) (o : Option ℕ) → by ≡ w → claimed_by ev o ≡ Some m → ((by ≡ w) × (ev ≡ Claim m)) ⊎ (o ≡ Some m)
came_by (Claim node) by w m o own h = let q : node ≡ m = cc in inl (own, ap Claim q)
came_by _ by w m o own h = inr h

came : (past : List Entry) (e : Entry) (w m : ℕ) → claimed (e ∷ past) w ≡ Some m → ((e.by ≡ w) × (e.event ≡ Claim m)) ⊎ (claimed past w ≡ Some m)
came past e w m h =
    let now = claimed_by e.event (claimed past w) in
    elim (cases_Bool (eqb e.by w)) [
      | inl own ↦ came_by e.event e.by w m (claimed past w) (eqb-true e.by w own) (sym (cond-true (eqb e.by w) now (claimed past w) own) ∙ h)
      | inr other ↦ inr (sym (cond-false (eqb e.by w) now (claimed past w) other) ∙ h)
    ]

pub holds_before : (s : Setting) (past : List Entry) (e : Entry) (w m : ℕ) → IsLegalJournal s past → Holds s (e ∷ past) w m → claimed past w ≡ Some m → Holds s past w m
holds_before s past e w m legal h c = record {
  claims = c;
  leaf = (and_parts (not (splits_node e.event m)) (is_leaf past m) h.leaf).1;
  live = live_before s past e m (claimed_within s past legal w m c) h.live;
}

-- two workers that hold the node are one
pub one_holder : (s : Setting) (past : List Entry) → IsLegalJournal s past → (v w m : ℕ) → Holds s past v m → Holds s past w m → v ≡ w
one_holder s [] legal v w m a b = let h = a.claims in cc
one_holder s (e ∷ past) legal v w m a b =
    elim (came past e v m a.claims) [
      | inl x ↦ elim (came past e w m b.claims) [
        | inl y ↦ sym x.0 ∙ y.0
        | inr old ↦
            let now : IsLegal s past e.by (Claim m) = subst (λ ev. IsLegal s past e.by ev) x.1 legal.0 in
            absurd (now.asked.claimable.free w (holds_before s past e w m legal.1 b old))
      ]
      | inr old ↦ elim (came past e w m b.claims) [
        | inl y ↦
            let now : IsLegal s past e.by (Claim m) = subst (λ ev. IsLegal s past e.by ev) y.1 legal.0 in
            absurd (now.asked.claimable.free v (holds_before s past e v m legal.1 a old))
        | inr older ↦ one_holder s past legal.1 v w m (holds_before s past e v m legal.1 a old) (holds_before s past e w m legal.1 b older)
      ]
    ]

-- ---- the node that another worker holds

pub held_apart : (s : Setting) (past : List Entry) → IsLegalJournal s past → (v w m node : ℕ) → Holds s past w m → Holds s past v node → ¬ (v ≡ w) → eqb node m ≡ false
held_apart s past legal v w m node h g other = ne_eqb node m (λ q. other (one_holder s past legal v w m (subst (Holds s past v) q g) h))

pub held_off_path : (s : Setting) (past : List Entry) → IsLegalJournal s past → (v w m node : ℕ) → Holds s past w m → Holds s past v node → ¬ (v ≡ w) → on_path past m node ≡ false
held_off_path s past legal v w m node h g other = false_from_ne_true (on_path past m node) (λ on.
    let q = leaf_path s past legal m node (claimed_within s past legal w m h.claims) g.leaf on in
    other (one_holder s past legal v w m (subst (Holds s past v) q g) h))
