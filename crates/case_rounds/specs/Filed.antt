-- How the lines of a round are filed.
use Rattle.std.specs.Prelude.{◌≡◌, ℕ, List, Some, slice_get}
use Rattle.proof_steps.specs.declared.step.Line.{Line}
use Rattle.clause_filing.specs.declared.filing.Entry.{Entry}
use Rattle.clause_filing.specs.Filings.{IsFiledClause}

-- each line is filed with its place, under the first atom of its clause
abbrev pub AreFiledLines : List Line → List Entry → Type 0
AreFiledLines lines entries = (i : ℕ) (l : Line) → slice_get lines i ≡ Some l → IsFiledClause entries l.stated.clause i
