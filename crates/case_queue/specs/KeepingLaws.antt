-- Laws that carry proofs, and no definitions that a reader must believe: a queue stays one of the node where the journal goes on and no clause becomes passive.
use Rattle.std.proofs.Common.{◌≡◌, ◌∙◌, ℕ, ◌<◌, ◌≤◌, inl, inr, true, false, List, sym, arith}
use Rattle.std.proofs.lemmas.Bool.{cases_Bool}
use Rattle.std.proofs.lemmas.List.Elements.{All-weaker}
use Rattle.std.specs.List.{slice_get}
use Rattle.case_journal.specs.declared.event.Entry.{Entry}
use Rattle.case_journal.specs.Journal.{Setting, ledger, steps}
use Rattle.case_journal.specs.Picking.{is_passive}
use Rattle.case_queue.specs.declared.queue.CaseQueue.{CaseQueue}
use Rattle.case_queue.specs.Queues.{HasFirst, IsEntry, entries}
use Rattle.case_queue.specs.LineLaws.{numbered_some, numbered_within, numbered_same}

entry_keeps : (s : Setting) (old new : List Entry) → ((k : ℕ) → k < steps s old → slice_get (ledger s new) k ≡ slice_get (ledger s old) k) → (e : ℕ × ℕ) → IsEntry s old e → IsEntry s new e
entry_keeps s old new same e h = record {
  line = h.line;
  found = numbered_same (steps s old) (ledger s old) (ledger s new) same e.1 (numbered_within (ledger s old) e.1 h.line h.found) ∙ h.found;
  symbols = h.symbols;
}

-- of the first clauses none becomes passive, and the ledger goes on
pub first_keeps : (s : Setting) (old new : List Entry) (m count : ℕ) (q : CaseQueue) → HasFirst s old m count q → count ≤ steps s old
    → ((i : ℕ) → 1 ≤ i → i ≤ count → is_passive s new m i ≡ true → is_passive s old m i ≡ true)
    → steps s old ≤ steps s new → ((k : ℕ) → k < steps s old → slice_get (ledger s new) k ≡ slice_get (ledger s old) k)
    → HasFirst s new m count q
first_keeps s old new m count q h few stays more same = record {
  complete = λ i l within passes found. h.complete i l within (stays i (numbered_some (ledger s new) i l found) within passes) (sym (numbered_same (steps s old) (ledger s old) (ledger s new) same i (omega (arith, within, few))) ∙ found);
  sized = All-weaker (IsEntry s old) (IsEntry s new) (λ e. entry_keeps s old new same e) (entries q) h.sized;
  ordered = h.ordered;
  some = h.some;
  within = h.within;
  older = λ i one less. elim (cases_Bool (is_passive s new m i)) [
    | inl passes ↦ let w = h.within in let bad : true ≡ false = sym (stays i one (omega (arith, less, w)) passes) ∙ h.older i one less in absurd (cc)
    | inr other ↦ other
  ];
}
