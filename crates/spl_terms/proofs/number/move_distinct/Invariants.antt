use Rattle.std.proofs.Common.{◌≡◌, ◌≤◌, fold, take, drop, length}
use Rattle.spl_terms.specs.Clauses.{added, distinct}
use Rattle.spl_terms.proofs.number.move_distinct.Given as goal

-- what was kept, with what is left added, makes the distinct atoms
abbrev pub invariant-loop-i : goal.invariant-loop-i
invariant-loop-i l = record {
  within : l.kept ≤ l.i;
  length : length l.atoms ≡ length l.initial.atoms;
  kept : fold added (take l.kept l.atoms) (drop l.i l.atoms) ≡ distinct l.initial.atoms;
}
