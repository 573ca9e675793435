-- A view goes on to a leaf below its own.
use Rattle.std.proofs.Common.{◌≡◌, ℕ, ◌<◌, ◌++◌, ◌∷◌, [], List, true, eqb, inl, inr, sym, ◌∙◌, subst}
use Rattle.std.proofs.lemmas.Bool.{or_cases, eqb-true}
use Rattle.case_journal.specs.declared.event.Entry.{Entry}
use Rattle.case_journal.specs.Journal.{Setting, nodes}
use Rattle.case_journal.specs.Paths.{stem, on_path, is_leaf}
use Rattle.case_journal.specs.Legal.{IsLegalJournal}
use Rattle.case_journal.specs.PathLaws.{leaf_path}
use Rattle.case_journal.specs.PlaceLaws.{claimed_within, stem_there}
use Rattle.case_view.specs.declared.kept.Case.{Case}
use Rattle.case_view.specs.Views.{path_nodes, GoesOn}
use Rattle.case_view.specs.Walks.{hung, Reaches}
use Rattle.case_view.proofs.PathSteps.{hung_old}
use Rattle.case_view.proofs.CaseSteps.{legal_tail}

-- a node whose path has a former leaf hung there
hung_below : (s : Setting) (later start : List Entry) → IsLegalJournal s (later ++ start) → (m n : ℕ) → m < nodes (later ++ start) → n < nodes start → is_leaf start n ≡ true → on_path (later ++ start) m n ≡ true → n ≡ hung later start m
hung_below s [] start legal m n there low leaf on = leaf_path s start legal m n there leaf on
hung_below s (e ∷ later) start legal m n there low leaf on =
    let up = stem e.event (nodes (later ++ start)) m in
    elim (or_cases (eqb n m) (on_path (later ++ start) up n) on) [
      | inl own ↦
          let same : n ≡ m = eqb-true n m own in
          same ∙ sym (hung_old (e ∷ later) start m (subst (λ k. k < nodes start) same low))
      | inr above ↦ hung_below s later start legal.1 up n (stem_there s (later ++ start) legal.1 e.by e.event m legal.0.asked there) low leaf above
    ]

pub enters_below : (s : Setting) (past : List Entry) → IsLegalJournal s past → (v : Case) → GoesOn s past v → (m : ℕ) → m < nodes past → on_path past m v.node ≡ true → (way : List ℕ) → way ≡ path_nodes past m → Reaches s past m way v.events v
enters_below s past legal v h m there on way whole =
    let now = subst (IsLegalJournal s) h.more legal in
    let before = legal_tail s h.later h.start now in
    let low = claimed_within s h.start before v.worker v.node h.stands.holds.claims in
    record {
      start = h.start;
      later = h.later;
      more = h.more;
      count = sym h.stands.is.events;
      is = h.stands.is;
      node = hung_below s h.later h.start now m v.node (subst (λ p. m < nodes p) h.more there) low h.stands.holds.leaf (subst (λ p. on_path p m v.node ≡ true) h.more on);
      goes = inl whole;
    }
