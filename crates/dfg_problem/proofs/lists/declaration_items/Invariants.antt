use Rattle.std.proofs.Common.{◌≡◌, ◌-◌, length}
use Rattle.dfg_tokens.specs.declared.word.Word.TheVariants.{EndOfList}
use Rattle.dfg_terms.specs.Reading.{items}
use Rattle.dfg_problem.specs.Lists.{declaration_item_at}
use Rattle.dfg_problem.proofs.lists.declaration_items.Given as goal

abbrev pub invariant-loop : goal.invariant-loop
invariant-loop l =
    items EndOfList (declaration_item_at l.text.bytes.now l.text.symbols.now) (length l.text.bytes.now - l.counter) l.entries l.tokens
    ≡ items EndOfList (declaration_item_at l.text.bytes.now l.text.symbols.now) (length l.text.bytes.now) l.fn.entries l.fn.tokens
