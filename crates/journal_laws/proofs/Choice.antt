-- From the choice of a clause on.
use Rattle.std.proofs.Common.{◌≡◌, inl, inr, ℕ, ◌<◌, true, eqb, List, [], ◌∷◌, Option, Some, None, refl, sym, ◌∙◌, ap, subst, eq-eqb}
use Rattle.std.specs.Prelude.{Contains}
use Rattle.std.proofs.lemmas.Bool.{or_cases, or_right, and_parts, eqb-true, cond-true, false≢true}
use Rattle.std.proofs.lemmas.List.{append-nil}
use Rattle.spl_terms.specs.declared.clause.Clause.{Clause}
use Rattle.spl_terms.specs.Lists.{numbered}
use Rattle.case_journal.specs.declared.event.Entry.{Entry}
use Rattle.case_journal.specs.declared.event.Event.{Event}
use Rattle.case_journal.specs.declared.event.Event.TheVariants.{Choose, Activate}
use Rattle.case_journal.specs.Journal.{Setting, nodes, steps, ledger}
use Rattle.case_journal.specs.Paths.{stem, on_path}
use Rattle.case_journal.specs.Facts.{listed, lists, worked, chosen, is_number, activates, before_choice, published_since}
use Rattle.case_journal.specs.Legal.{IsLegalJournal, IsPartner, IsListed}
use Rattle.case_journal.specs.PlaceLaws.{stem_there}
use Rattle.case_journal.specs.DependenceLaws.{chosen_listed}
use Rattle.journal_laws.specs.Frame.{StillHolds, IsSinceChoice}
use Rattle.case_journal.specs.DeathLaws.{listed_below}
use Rattle.journal_laws.proofs.Frame.{none_of, some_of, listed_still}

-- ---- what was worked off on the path is listed

some_number : (o : Option ℕ) (n : ℕ) → is_number o n ≡ true → o ≡ Some n
some_number None n e = absurd (false≢true e)
some_number (Some x) n e = ap Some (eqb-true x n e)

activated_listed : (s : Setting) (past : List Entry) → IsLegalJournal s past → (ev : Event) (m n : ℕ) → m < nodes past → activates ev (chosen past) (on_path past m) n ≡ true → listed s past m n ≡ true
activated_listed s past legal (Activate node) m n there h =
    let p = and_parts (on_path past m node) (is_number (chosen past node) n) h in
    listed_below s past legal m node n there p.0 (chosen_listed s past legal node n (some_number (chosen past node) n p.1)).1
activated_listed s past legal _ m n there h = absurd (false≢true h)

pub worked_listed : (s : Setting) (past : List Entry) → IsLegalJournal s past → (m n : ℕ) → m < nodes past → worked past m n ≡ true → listed s past m n ≡ true
worked_listed s [] legal m n there h = absurd (false≢true h)
worked_listed s (e ∷ past) legal m n there h =
    let up = stem e.event (nodes past) m in
    let low : up < nodes past = stem_there s past legal.1 e.by e.event m legal.0.asked there in
    or_right (lists e.event (nodes past) (steps s past) (on_path past m) m n) (listed s past up n)
    (elim (or_cases (activates e.event (chosen past) (on_path past up) n) (worked past up n) h) [
      | inl now ↦ activated_listed s past legal.1 e.event up n low now
      | inr before ↦ worked_listed s past legal.1 up n low before
    ])

-- ---- when a clause has just been chosen

abbrev pub choice : ℕ → ℕ → ℕ → Option ℕ → Entry
choice w m clause selected = record { by = w; event = Choose m clause selected }

pub choice_begins : (s : Setting) (past : List Entry) (by w m clause : ℕ) (selected : Option ℕ) → IsLegalJournal s past → m < nodes past → IsSinceChoice s (choice by m clause selected ∷ past) w m
choice_begins s past by w m clause selected legal there =
    let e = choice by m clause selected in
    let here = cond-true (eqb m m) past (before_choice past m) (eq-eqb m m refl) in
    let none = cond-true (eqb m m) [] _ (eq-eqb m m refl) in
    record {
      partners = λ n on. subst (λ p. IsPartner s p m n) (sym here) (record { worked = on; kept = worked_listed s past legal m n there on });
      before = λ c at. (let h = subst (λ p. IsListed s p m c) here at in (h.0, record { lists = h.1.lists; line = h.1.line; found = ap (λ ls. numbered ls h.0) (append-nil (ledger s past)) ∙ h.1.found; is = h.1.is }));
      since = λ c at. absurd (none_of c (subst (λ cs. Contains cs c) none at));
    }

-- and while w holds m
pub since_still : (s : Setting) (old new : List Entry) (w m : ℕ) (own : List Clause) → StillHolds s old new w m own → IsSinceChoice s old w m → IsSinceChoice s new w m
since_still s old new w m own h f = record {
  partners = λ n on. subst (λ p. IsPartner s p m n) (sym h.before) (f.partners n (sym (h.worked n) ∙ on));
  before = λ c at. listed_still s old new w m own c h (f.before c (subst (λ p. IsListed s p m c) h.before at));
  since = λ c at. elim (some_of own (published_since old w m) c (subst (λ cs. Contains cs c) h.since at)) [
    | inl now ↦ h.published c now
    | inr before ↦ listed_still s old new w m own c h (f.since c before)
  ];
}
