use Rattle.std.proofs.Common.{◌≡◌, ◌++◌, map}
use Rattle.case_rounds.specs.Events.{publication_of}
use Rattle.case_rounds.proofs.round.publications.Given as goal

abbrev pub invariant-loop-line : goal.invariant-loop-line
invariant-loop-line l = record {
  made : l.events ≡ map (publication_of l.view) l.yielded;
  joined : l.fn.lines ≡ l.yielded ++ l.line-iterator.rest.items;
}
