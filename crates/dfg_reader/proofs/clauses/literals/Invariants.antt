use Rattle.std.proofs.Common.{◌≡◌, ◌-◌, length}
use Rattle.dfg_reader.specs.Reading.{adding, commas}
use Rattle.dfg_reader.specs.Clauses.{literal_at, literals_at}
use Rattle.dfg_reader.proofs.clauses.literals.Given as goal

abbrev pub invariant-loop : goal.invariant-loop
invariant-loop l = commas (adding (literal_at l.bytes l.symbols l.depth)) (length l.tokens - l.counter) l.literals l.rest ≡ literals_at l.bytes l.symbols l.depth l.tokens
