-- What makes the two events legal.
use Rattle.std.proofs.Common.{◌≡◌, inr, ℕ, ◌+◌, ◌<◌, ◌≤◌, Bool, List, length, arith}
use Rattle.proof_steps.specs.declared.step.Line.{Line}
use Rattle.proof_steps.specs.Checked.{AreConclusions}
use Rattle.case_journal.specs.declared.event.Entry.{Entry}
use Rattle.case_journal.specs.declared.event.Event.TheVariants.{Split, Full}
use Rattle.case_journal.specs.Journal.{Setting, ledger, splits, counted}
use Rattle.case_journal.specs.Facts.{Holds}
use Rattle.case_journal.specs.Ending.{first_end}
use Rattle.case_journal.specs.Legal.{IsLegal, IsSettled, IsSplittable}
use Rattle.clause_splitting.specs.Splitting.{IsSplitAt}
use Rattle.clause_splitting.proofs.Lines.{counted_lines}
use Rattle.clause_splitting.proofs.Sizes.{assumed_concluded}
use Rattle.std.specs.Prelude.{None}

-- the worker may split the clause at the node by these steps, but for the limit of steps
pub record MaySplit (s : Setting) (past : List Entry) (w node : ℕ) (lines : List Line) (put_off : List Bool) : Type 0 where
  pub concluded : AreConclusions s.input (ledger s past)
  pub some : 1 ≤ w
  pub worker : w ≤ s.workers
  pub unended : first_end past ≡ None
  pub holds : Holds s past w node
  pub free : splits past < s.limits.splits
  pub settled : IsSettled s past
  pub is : IsSplitAt s past node lines put_off

pub splittable : (s : Setting) (past : List Entry) (w node : ℕ) (lines : List Line) (put_off : List Bool) → MaySplit s past w node lines put_off → IsSplittable s past w node lines put_off
splittable s past w node lines put_off h = record {
  holds = h.holds;
  clause = h.is.clause;
  chosen = h.is.chosen;
  kept = h.is.kept;
  split = h.is.line;
  found = h.is.found;
  parts = h.is.parts;
  parted = h.is.parted;
  free = h.free;
  steps = h.is.are.steps;
  concluded = λ k l at. assumed_concluded s past h.is.clause h.is.line h.is.parts l h.concluded h.is.found h.is.parted (h.is.are.each k l at);
  typed = h.is.typed;
  settled = h.settled;
}

pub legal_split : (s : Setting) (past : List Entry) (w node : ℕ) (lines : List Line) (put_off : List Bool) → MaySplit s past w node lines put_off → counted past + length lines ≤ s.limits.steps → IsLegal s past w (Split node lines put_off)
legal_split s past w node lines put_off h few = record {
  some = h.some;
  worker = h.worker;
  unended = λ go. h.unended;
  asked = record { asked = splittable s past w node lines put_off h; few = omega (arith, few, counted_lines lines h.is.clause h.is.parts h.is.are.steps) };
}

pub legal_full : (s : Setting) (past : List Entry) (w node : ℕ) (lines : List Line) (put_off : List Bool) → MaySplit s past w node lines put_off → s.limits.steps < counted past + length lines → IsLegal s past w (Full node lines)
legal_full s past w node lines put_off h many = record {
  some = h.some;
  worker = h.worker;
  unended = λ go. h.unended;
  asked = record {
    holds = h.holds;
    wanted = inr (put_off, splittable s past w node lines put_off h);
    many = omega (arith, many, counted_lines lines h.is.clause h.is.parts h.is.are.steps);
  };
}
