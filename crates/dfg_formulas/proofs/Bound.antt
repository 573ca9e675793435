-- Bindings that are added stand behind those before.
use Rattle.std.proofs.Common.{◌≡◌, ℕ, ◌+◌, ◌-◌, ◌≤◌, ◌<◌, true, Ok, List, [], ◌∷◌, ◌++◌, length, take, Option, ap, sym, ◌∙◌, length-append, arith}
use Rattle.std.proofs.lemmas.List.{take-append-le}
use Rattle.spl_terms.specs.declared.term.Symbol.{Symbol}
use Rattle.formulas.specs.declared.tree.Tree.{Tree}
use Rattle.dfg_tokens.specs.declared.token.Token.{Token}
use Rattle.dfg_tokens.specs.declared.piece.Mark.TheVariants.{Comma}
use Rattle.dfg_tokens.specs.Cursors.{tail}
use Rattle.spl_symbols.specs.Symbols.{Declared}
use Rattle.dfg_terms.specs.Reading.{next_mark, commas}
use Rattle.dfg_terms.specs.ResultLaws.{then_ok, when_true}
use Rattle.dfg_terms.specs.RoundLaws.{commas_round}
use Rattle.dfg_terms.specs.Scopes.{Binding}
use Rattle.dfg_formulas.specs.Formulas.{ItemsRead, item_at, with_item, AddsItem, adding_item}

pub still_bound : (before : List Binding) (now : List Binding) (b : Binding) (next : List Binding) → next ≡ now ++ b ∷ [] → take (length before) now ≡ before → length before ≤ length now
    → (take (length before) next ≡ before) × (length before ≤ length next)
still_bound before now b next is e le = (ap (take (length before)) is ∙ take-append-le (length before) now (b ∷ []) le ∙ e, omega (arith, ap length is, length-append now (b ∷ []), le))

pub added_item : (bytes : List ℕ) (first count : ℕ) (sort : Option Symbol) (name : Token) (scope next : List Binding) (sorts more : List Tree) → AddsItem bytes first count sort name scope next sorts more → with_item bytes first ((scope, count), sorts) sort name ≡ ((next, count + 1), more)
added_item bytes first count sort name scope next sorts more adds = λ i. ((sym adds.0 i, count + 1), sym adds.1 i)

-- one round of reading variables
pub next_item : (bytes : List ℕ) (symbols : List Declared) (first count i : ℕ) (scope next : List Binding) (sorts more : List Tree) (ts us vs : List Token) (item : Option Symbol × Token) → i < count
    → item_at bytes symbols ts ≡ Ok (item, us) → AddsItem bytes first i item.0 item.1 scope next sorts more → next_mark Comma us ≡ true → vs ≡ tail us
    → commas (adding_item bytes symbols first) (count - (i + 1)) ((next, i + 1), more) vs ≡ commas (adding_item bytes symbols first) (count - i) ((scope, i), sorts) ts
next_item bytes symbols first count i scope next sorts more ts us vs item lt is adds comma after =
    let read = adding_item bytes symbols first in
    let added : read ((scope, i), sorts) ts ≡ Ok (((next, i + 1), more), us) = then_ok (item_at bytes symbols ts) (item, us) (λ x. Ok (with_item bytes first ((scope, i), sorts) x.0.0 x.0.1, x.1)) (Ok (((next, i + 1), more), us)) is (ap (λ (s : ItemsRead). Ok (s, us)) (added_item bytes first i item.0 item.1 scope next sorts more adds)) in
    sym (commas_round read count i ((scope, i), sorts) ts lt
    ∙ then_ok _ _ _ _ added (when_true _ _ _ _ comma (ap (commas read (count - (i + 1)) ((next, i + 1), more)) (sym after))))
