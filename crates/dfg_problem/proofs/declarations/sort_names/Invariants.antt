use Rattle.std.proofs.Common.{◌≡◌, ◌-◌, [], length}
use Rattle.dfg_terms.specs.Reading.{adding, commas}
use Rattle.dfg_problem.specs.Declarations.{sort_name_at}
use Rattle.dfg_problem.proofs.declarations.sort_names.Given as goal

abbrev pub invariant-loop : goal.invariant-loop
invariant-loop l =
    commas (adding (sort_name_at l.text.bytes.now l.text.symbols.now)) (length l.text.bytes.now - l.counter) l.sorts l.tokens
    ≡ commas (adding (sort_name_at l.text.bytes.now l.text.symbols.now)) (length l.text.bytes.now) [] l.fn.tokens
