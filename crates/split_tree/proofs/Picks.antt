-- What is picked is passive, so what is chosen is a clause of the ledger; where clauses were activated or split.
use Rattle.std.proofs.Common.{◌≡◌, ℕ, zero, suc, ◌+◌, ◌≤◌, List, [], ◌∷◌, ◌++◌, length, replicate, reverse, Option, Some, None, option_map, refl, sym, ◌∙◌, ap, arith, subst}
use Rattle.std.proofs.lemmas.List.{reverse-append}
use Rattle.spl_terms.specs.Clauses.{clause_symbols}
use Rattle.proof_steps.specs.declared.step.Line.{Line}
use Rattle.case_journal.specs.declared.event.Entry.{Entry}
use Rattle.case_journal.specs.declared.event.Event.{Event}
use Rattle.case_journal.specs.declared.event.Event.TheVariants.{Publish, Split, Activate}
use Rattle.case_journal.specs.PickLaws.{IsClause, chosen_within, subject_is}
use Rattle.split_tree.specs.declared.caches.Retired.{Retired}
use Rattle.case_journal.specs.Journal.{Setting, steps, lines_of, AreSmall}
use Rattle.case_journal.specs.Facts.{cost_of, chosen}
use Rattle.case_journal.specs.Legal.{IsAsked, IsLegalJournal}
use Rattle.split_tree.specs.Caches.{retired, retired_at, retired_by, pushed, with_newest, IsNumbered, with_retired, newest_upto}
use Rattle.split_tree.proofs.Lists.{AreNumbered, newest-note, newest-more}
use Rattle.case_journal.specs.PlaceLaws.{steps_more}

-- ---- what is chosen

activated_clause : (s : Setting) (past : List Entry) (rs : List Retired) (node : ℕ) (o : Option ℕ) → ((i : ℕ) → o ≡ Some i → IsClause s past i) → IsNumbered (option_map (λ i. retired_at i node rs) o) (steps s past)
activated_clause s past rs node None h = tt
activated_clause s past rs node (Some i) h = h i refl

-- what an event activates or splits is a clause
pub retired_clause : (s : Setting) (past : List Entry) → IsLegalJournal s past → (w : ℕ) (ev : Event) (rs : List Retired) → IsAsked s past w ev → IsNumbered (retired_by ev (chosen past) rs) (steps s past)
retired_clause s past legal w (Activate node) rs p = activated_clause s past rs node (chosen past node) (λ i e. chosen_within s past legal node i e)
retired_clause s past legal w (Split node lines put_off) rs p =
    subst (IsClause s past) (sym (subject_is s past w node lines put_off p.asked)) (chosen_within s past legal node p.asked.clause p.asked.chosen)
retired_clause s past legal w _ rs p = tt

-- ---- all that was activated or split

numbered_more : (n m : ℕ) (rs : List Retired) → n ≤ m → AreNumbered n rs → AreNumbered m rs
numbered_more n m [] le each = tt
numbered_more n m (r ∷ rs) le each = let b = each.0.1 in ((each.0.0, omega arith), numbered_more n m rs le each.1)

numbered_newest : (n : ℕ) (rs : List Retired) (o : Option Retired) → AreNumbered n rs → IsNumbered o n → AreNumbered n (with_newest o rs)
numbered_newest n rs None each h = each
numbered_newest n rs (Some r) each h = (h, each)

pub retired_numbered : (s : Setting) (past : List Entry) → IsLegalJournal s past → AreNumbered (steps s past) (retired past)
unfolding retired
retired_numbered s [] legal = tt
retired_numbered s (e ∷ past) legal =
    let o = retired_by e.event (chosen past) (retired past) in
    numbered_more (steps s past) (steps s (e ∷ past)) (with_newest o (retired past)) (omega (arith, steps_more s past e))
    (numbered_newest (steps s past) (retired past) o (retired_numbered s past legal.1) (retired_clause s past legal.1 e.by e.event (retired past) legal.0.asked))

reverse_newest : (o : Option Retired) (rs : List Retired) → reverse (with_newest o rs) ≡ pushed (reverse rs) o
reverse_newest None rs = refl
reverse_newest (Some r) rs = reverse-append (r ∷ []) rs

pub retired-push : (e : Entry) (past : List Entry) → reverse (retired (e ∷ past)) ≡ pushed (reverse (retired past)) (retired_by e.event (chosen past) (retired past))
unfolding retired
retired-push e past = reverse_newest (retired_by e.event (chosen past) (retired past)) (retired past)

-- ---- small clauses

pub small_lines : (s : Setting) (past : List Entry) (w : ℕ) (ev : Event) → IsAsked s past w ev → AreSmall (lines_of ev)
small_lines s past w (Publish node chain put_off) p = subst AreSmall (sym p.asked.one) (one_small p.asked.line p.asked.concluded.1)
  where
    one_small : (l : Line) → clause_symbols l.stated.clause ≤ 4096 → AreSmall (l ∷ [])
    one_small l h zero m e = let q : l ≡ m = cc in subst (λ x. clause_symbols x.stated.clause ≤ 4096) q h
    one_small l h (suc k) m e = cc
small_lines s past w (Split node lines put_off) p = λ k l h. (p.asked.concluded k l h).1
small_lines s past w _ p = λ k l h. cc

activated_cost : (node : ℕ) (rs : List Retired) (o : Option ℕ) → length (pushed [] (option_map (λ i. retired_at i node rs) o)) ≤ 1
activated_cost node rs None = omega arith
activated_cost node rs (Some i) = omega arith

pub retired_cost : (past : List Entry) (w : ℕ) (ev : Event) (at : ℕ → Option ℕ) (rs : List Retired) → length (pushed [] (retired_by ev at rs)) ≤ cost_of past w ev
retired_cost past w (Activate node) at rs = activated_cost node rs (at node)
retired_cost past w (Split node lines put_off) at rs = omega arith
retired_cost past w _ at rs = omega arith

newest_noted : (n m : ℕ) (rs : List Retired) (o : Option Retired) → AreNumbered n rs → IsNumbered o n → with_retired o (length rs) (newest_upto n rs) ++ replicate m None ≡ newest_upto (n + m) (with_newest o rs)
newest_noted n m rs None each h = sym (newest-more n m rs each)
newest_noted n m rs (Some r) each h =
    ap (λ xs. xs ++ replicate {A = Option ℕ} m None) (newest-note n rs r h.0) ∙ sym (newest-more n m (r ∷ rs) (h, each))

-- the places of the last records after an event
pub newest_after : (s : Setting) (past : List Entry) → IsLegalJournal s past → (e : Entry) → IsAsked s past e.by e.event
    → with_retired (retired_by e.event (chosen past) (retired past)) (length (retired past)) (newest_upto (steps s past) (retired past)) ++ replicate (length (lines_of e.event)) None ≡ newest_upto (steps s (e ∷ past)) (retired (e ∷ past))
unfolding retired
newest_after s past legal e asked =
    let rs = retired past in
    let o = retired_by e.event (chosen past) rs in
    newest_noted (steps s past) (length (lines_of e.event)) rs o (retired_numbered s past legal) (retired_clause s past legal e.by e.event rs asked)
    ∙ ap (λ n. newest_upto n (with_newest o rs)) (sym (steps_more s past e))
