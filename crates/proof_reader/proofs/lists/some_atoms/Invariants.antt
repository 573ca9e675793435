use Rattle.std.proofs.Common.{◌≡◌, ◌-◌, [], length}
use Rattle.dfg_terms.specs.Reading.{adding, commas}
use Rattle.proof_reader.specs.ProofLists.{atom_of}
use Rattle.proof_reader.proofs.lists.some_atoms.Given as goal

abbrev pub invariant-loop : goal.invariant-loop
invariant-loop l =
    commas (adding (atom_of l.text.bytes.now l.text.symbols.now l.place)) (length l.text.bytes.now - l.counter) l.items l.tokens
    ≡ commas (adding (atom_of l.text.bytes.now l.text.symbols.now l.place)) (length l.text.bytes.now) [] l.fn.tokens
