use Rattle.std.proofs.Common.{◌≡◌, ◌∙◌, ℕ, ◌∷◌, ◌-◌, IsPermutation, heap_items, sym, subst, arith}
use Rattle.std.specs.declared.cmp.Reverse.{Reverse}
use Rattle.std.proofs.lemmas.List.Sorted.{IsPermutation-map}
use Rattle.spl_terms.specs.Clauses.{clause_symbols}
use Rattle.case_journal.specs.Journal.{ledger}
use Rattle.case_journal.specs.ListLaws.{numbered_get}
use Rattle.case_queue.specs.Queues.{entries}
use Rattle.case_queue.proofs.queue.CaseQueue.put.Goals as goal

pub returns : goal.returns
returns c =
    let s = c.args.table.now.setting in
    let p = c.args.table.now.past in
    let n = c.args.number in
    let l = c.line.result.now in
    let found = c.line.ensures in
    let old = c.args.self.now in
    let new = c.push.new.self in
    let small = (c.laws.ensures.concluded (n - 1) l (sym (numbered_get (ledger s p) n c.requires.some) ∙ found)).1 in
    let e : c.symbols_of-symbols.result ≡ clause_symbols l.stated.clause = omega (arith, small, c.symbols_of-symbols.ensures) in
    let moves = IsPermutation-map (λ (y : Reverse (ℕ × ℕ)). y.0) (_ ∷ heap_items old.lightest) (heap_items new) c.in_ok-push.ensures.permutation in
    record {
      line = l;
      found = found;
      added = subst (λ (w : ℕ). IsPermutation ((w, n) ∷ entries old) (entries (record { lightest = new; oldest = c.min-self.result }))) e moves;
      ordered = c.in_ok-push.ensures.heap_order;
      oldest = c.min-self.ensures;
    }
