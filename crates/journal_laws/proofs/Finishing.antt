-- The event that finishes a round may be appended once its lines are published, whatever others append meanwhile.
use Rattle.std.proofs.Common.{◌≡◌, ℕ, zero, suc, ◌≤◌, inl, inr, true, List, [], ◌∷◌, Some, None, option_map, refl, sym, ◌∙◌, ap, subst, arith}
use Rattle.std.specs.Prelude.{Contains}
use Rattle.std.specs.List.{slice_get}
use Rattle.std.proofs.lemmas.Option.{slice_get-map}
use Rattle.spl_terms.specs.declared.clause.Part.{Part}
use Rattle.spl_terms.specs.declared.clause.Clause.{Clause}
use Rattle.proof_steps.specs.declared.step.Line.{Line}
use Rattle.spl_terms.specs.Lists.{numbered}
use Rattle.proof_steps.specs.Steps.{of_two, from_two, resolution}
use Rattle.proof_steps.specs.Checked.{resolution_of_lines, stated}
use Rattle.proof_steps.specs.Covering.{IsCoveredBy}
use Rattle.case_journal.specs.declared.event.Entry.{Entry}
use Rattle.case_journal.specs.declared.event.Event.TheVariants.{Activate, Big}
use Rattle.case_journal.specs.Journal.{Setting, ledger, steps}
use Rattle.case_journal.specs.Facts.{listed, chosen, worked}
use Rattle.case_journal.specs.Ending.{first_end}
use Rattle.case_journal.specs.Legal.{IsLegal, IsLegalJournal, IsLegalBig, IsPremise, IsListed, IsUnsplit}
use Rattle.case_journal.specs.ListedLaws.{listed_within}
use Rattle.case_journal.specs.LeafLaws.{claimer_within}
use Rattle.case_journal.specs.LedgerLaws.{numbered_more}
use Rattle.case_journal.specs.DependenceLaws.{numbered_old, chosen_listed}
use Rattle.journal_laws.specs.Frame.{StillHolds}
use Rattle.journal_laws.specs.Batches.{newest_first, IsListedWith, IsWorkedOff}
use Rattle.journal_laws.proofs.Frame.{listed_still}

-- ---- what the lines state is listed once they are published

kept_first : (lines : List Line) (own : List Clause) (c : Clause) → Contains own c → Contains (newest_first lines own) c
kept_first [] own c h = h
kept_first (x ∷ xs) own c h = kept_first xs (x.stated.clause ∷ own) c (suc h.0, omega (arith, h.1), h.2)

stated_first : (lines : List Line) (own : List Clause) (k : ℕ) (l : Line) → slice_get lines k ≡ Some l → Contains (newest_first lines own) l.stated.clause
stated_first [] own k l h = absurd (cc)
stated_first (x ∷ xs) own zero l h =
    let q : x ≡ l = cc in
    kept_first xs (x.stated.clause ∷ own) l.stated.clause (0, omega arith, ap (λ y. y.stated.clause) q)
stated_first (x ∷ xs) own (suc k) l h = stated_first xs (x.stated.clause ∷ own) k l h

pub listed_with : (s : Setting) (old new : List Entry) (w m : ℕ) (lines : List Line) (c : Clause) → StillHolds s old new w m (newest_first lines []) → IsListedWith s old m lines c → IsListed s new m c
listed_with s old new w m lines c h (inl at) = listed_still s old new w m (newest_first lines []) c h at
listed_with s old new w m lines c h (inr at) = subst (IsListed s new m) at.is (h.published at.line.stated.clause (stated_first lines [] at.place at.line at.found))

covered_by : (These Those : Clause → Type 0) (c : Clause) → ((d : Clause) → These d → Those d) → IsCoveredBy These c → IsCoveredBy Those c
covered_by These Those c more (inl t) = inl t
covered_by These Those c more (inr h) = inr (record { by = h.by; among = more h.by h.among; subsumes = h.subsumes })

-- ---- premises

pub stated_numbered : (lines : List Line) (n : ℕ) → numbered (stated lines) n ≡ option_map (λ l. l.stated) (numbered lines n)
stated_numbered lines zero = refl
stated_numbered lines (suc k) = slice_get-map (λ l. l.stated) lines k

stated_old : (s : Setting) (old new : List Entry) (w m : ℕ) (own : List Clause) (n : ℕ) → StillHolds s old new w m own → 1 ≤ n → n ≤ steps s old → numbered (stated (ledger s new)) n ≡ numbered (stated (ledger s old)) n
stated_old s old new w m own n h some few =
    stated_numbered (ledger s new) n
    ∙ (ap (option_map (λ l. l.stated)) (ap (λ ls. numbered ls n) h.ledger ∙ numbered_old (ledger s old) h.lines n some few)
    ∙ sym (stated_numbered (ledger s old) n))

premise_old : (s : Setting) (old new : List Entry) (w m : ℕ) (own : List Clause) (clause n : ℕ) → StillHolds s old new w m own → (worked old m n ≡ true → listed s old m n ≡ true) → IsPremise s new m clause n → IsPremise s old m clause n
premise_old s old new w m own clause n h kept (inl q) = inl q
premise_old s old new w m own clause n h kept (inr p) =
    let on = sym (h.worked n) ∙ p.worked in
    inr (record { worked = on; kept = kept on })

premise_new : (s : Setting) (old new : List Entry) (w m : ℕ) (own : List Clause) (clause n : ℕ) → StillHolds s old new w m own → IsPremise s old m clause n → IsPremise s new m clause n
premise_new s old new w m own clause n h (inl q) = inl q
premise_new s old new w m own clause n h (inr p) = inr (record { worked = h.worked n ∙ p.worked; kept = h.lists n p.kept })

premise_within : (s : Setting) (past : List Entry) (m clause n : ℕ) → IsLegalJournal s past → chosen past m ≡ Some clause → IsPremise s past m clause n → (1 ≤ n) × (n ≤ steps s past)
premise_within s past m clause n legal is (inl q) = subst (λ x. (1 ≤ x) × (x ≤ steps s past)) (sym q) (listed_within s past legal m clause (chosen_listed s past legal m clause is).1)
premise_within s past m clause n legal is (inr p) = listed_within s past legal m n p.kept

resolution_old : (s : Setting) (old new : List Entry) (w m : ℕ) (own : List Clause) (i : ℕ) (part : Part) (j first second : ℕ) → StillHolds s old new w m own → (1 ≤ first) × (first ≤ steps s old) → (1 ≤ second) × (second ≤ steps s old)
    → resolution_of_lines i part j first second (ledger s new) ≡ resolution_of_lines i part j first second (ledger s old)
resolution_old s old new w m own i part j first second h a b =
    ap (λ o. of_two (from_two (resolution i part j [] [])) o (numbered (stated (ledger s new)) second)) (stated_old s old new w m own first h a.0 a.1)
    ∙ ap (of_two (from_two (resolution i part j [] [])) (numbered (stated (ledger s old)) first)) (stated_old s old new w m own second h b.0 b.1)

-- ---- activating

same_clause : (past : List Entry) (m a b : ℕ) → chosen past m ≡ Some a → chosen past m ≡ Some b → b ≡ a
same_clause past m a b p q = let e : Some b ≡ Some a = sym q ∙ p in cc

unsplit_still : (s : Setting) (old new : List Entry) (w m : ℕ) (own : List Clause) (clause : ℕ) → StillHolds s old new w m own → IsUnsplit s old clause → IsUnsplit s new clause
unsplit_still s old new w m own clause h u = record {
  line = u.line;
  found = ap (λ ls. numbered ls clause) h.ledger ∙ numbered_more (ledger s old) h.lines clause u.line u.found;
  unsplit = elim u.unsplit [ inl none ↦ inl none | inr spent ↦ inr (omega (arith, spent, h.splits)) ];
}

pub activate_stays_legal : (s : Setting) (old new : List Entry) (w m : ℕ) (lines : List Line) → IsLegalJournal s old → ((n : ℕ) → worked old m n ≡ true → listed s old m n ≡ true) → IsWorkedOff s old w m lines → first_end new ≡ None → IsLegalJournal s new → StillHolds s old new w m (newest_first lines [])
    → IsLegal s new w (Activate m)
activate_stays_legal s old new w m lines legal kept off unended now h =
    let own = newest_first lines [] in
    let by = claimer_within s new now w m h.holds.claims in
    let c = off.clause in
    record {
      some = by.0;
      worker = by.1;
      unended = λ e. unended;
      asked = record {
        holds = h.holds;
        clause = c;
        chosen = h.chosen ∙ off.chosen;
        unsplit = unsplit_still s old new w m own c h off.unsplit;
        covered = λ first second pair i part j st made.
            let a = premise_old s old new w m own c first h (kept first) pair.left in
            let b = premise_old s old new w m own c second h (kept second) pair.right in
            let there = resolution_old s old new w m own i part j first second h (premise_within s old m c first legal off.chosen a) (premise_within s old m c second legal off.chosen b) in
            covered_by (IsListedWith s old m lines) (IsListed s new m) st.clause (λ d at. listed_with s old new w m lines d h at)
            (off.covered first second (record { left = a; right = b; one = pair.one }) i part j st (sym there ∙ made));
      };
    }

-- ---- a conclusion that is too large

pub big_stays_legal : (s : Setting) (old new : List Entry) (w m partner symbols : ℕ) (own : List Clause) → IsLegalJournal s old → IsLegalBig s old w m partner symbols → first_end new ≡ None → IsLegalJournal s new → StillHolds s old new w m own → IsLegal s new w (Big m partner symbols)
big_stays_legal s old new w m partner symbols own legal big unended now h =
    let by = claimer_within s new now w m h.holds.claims in
    let c = big.clause in
    let l = big.large in
    let own_in = premise_within s old m c c legal big.chosen (inl refl) in
    let other_in = premise_within s old m c partner legal big.chosen big.involved in
    let both : ((1 ≤ l.first) × (l.first ≤ steps s old)) × ((1 ≤ l.second) × (l.second ≤ steps s old)) = elim l.pair [
      | inl p ↦ (subst (λ n. (1 ≤ n) × (n ≤ steps s old)) (sym p.0) own_in, subst (λ n. (1 ≤ n) × (n ≤ steps s old)) (sym p.1) other_in)
      | inr p ↦ (subst (λ n. (1 ≤ n) × (n ≤ steps s old)) (sym p.0) other_in, subst (λ n. (1 ≤ n) × (n ≤ steps s old)) (sym p.1) own_in)
    ] in
    record {
      some = by.0;
      worker = by.1;
      unended = λ e. unended;
      asked = record {
        holds = h.holds;
        clause = c;
        chosen = h.chosen ∙ big.chosen;
        involved = premise_new s old new w m own c partner h big.involved;
        large = record {
          first = l.first;
          second = l.second;
          pair = l.pair;
          i = l.i;
          part = l.part;
          j = l.j;
          conclusion = l.conclusion;
          concluded = resolution_old s old new w m own l.i l.part l.j l.first l.second h both.0 both.1 ∙ l.concluded;
          large = l.large;
          count = l.count;
        };
      };
    }
