-- The greatest number after one more entry.
use Rattle.std.proofs.Common.{◌≡◌, List, [], ◌∷◌, ◌++◌, ap, ◌∙◌, arith}
use Rattle.std.specs.Prelude.{max}
use Rattle.turn_tally.specs.declared.entry.Entry.{Entry}
use Rattle.turn_tally.specs.Tallies.{greatest_of}

pub greatest_of-append : (es : List Entry) (e : Entry) → greatest_of (es ++ e ∷ []) ≡ max (greatest_of es) e.number
greatest_of-append [] e = omega arith
greatest_of-append (x ∷ xs) e = ap (max x.number) (greatest_of-append xs e) ∙ omega arith
