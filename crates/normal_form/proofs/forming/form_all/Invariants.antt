use Rattle.std.proofs.Common.{◌≡◌, ℕ, ◌+◌, ◌++◌, List, length, drop, map}
use Rattle.spl_symbols.specs.Symbols.{Declared}
use Rattle.spl_symbols.specs.Skolems.{HasSkolems}
use Rattle.formulas.specs.Entries.{entry_formula}
use Rattle.normal_form.specs.NormalForm.{normal_form}
use Rattle.normal_form.specs.ClauseSets.{all_arities, origins_from, first_refusal, IsWithinLimits}
use Rattle.normal_form.proofs.forming.form_all.Given as goal

abbrev pub invariant-loop-entry : goal.invariant-loop-entry
invariant-loop-entry l = record {
  number : l.number ≡ l.entry-index;
  limits : IsWithinLimits l.forming;
  symbols : (new : List Declared) (to : ℕ) → HasSkolems l.forming.signature l.forming.next_name (all_arities (length l.forming.signature) (map entry_formula (drop l.entry-index l.entries))) new to
      → HasSkolems l.fn.forming.signature l.fn.forming.next_name (all_arities (length l.fn.forming.signature) (map entry_formula l.entries)) new to;
  clauses : l.forming.clauses ++ normal_form (length l.forming.signature) (map entry_formula (drop l.entry-index l.entries)) ≡ l.fn.forming.clauses ++ normal_form (length l.fn.forming.signature) (map entry_formula l.entries);
  origins : l.forming.origins ++ origins_from (l.number + 1) (map entry_formula (drop l.entry-index l.entries)) ≡ l.fn.forming.origins ++ origins_from 1 (map entry_formula l.entries);
  refused : first_refusal (l.number + 1) (length l.forming.clauses) (length l.forming.signature) (map entry_formula (drop l.entry-index l.entries)) ≡ first_refusal 1 (length l.fn.forming.clauses) (length l.fn.forming.signature) (map entry_formula l.entries);
}
