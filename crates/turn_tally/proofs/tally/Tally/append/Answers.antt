use Rattle.std.proofs.Common.{◌≡◌, ◌≤◌, [], ◌∷◌, ◌++◌, refl, ap, ◌∙◌, sym, arith}
use Rattle.std.proofs.lemmas.List.Elements.{All-cons, All-nil}
use Rattle.std.specs.Prelude.{max}
use Rattle.turn_tally.specs.Tallies.{tally_entry, greatest_of}
use Rattle.turn_tally.proofs.Greatest.{greatest_of-append}
use Rattle.turn_tally.proofs.tally.Tally.append.Goals as goal

pub invariant_of-self-2 : goal.invariant_of-self-2
invariant_of-self-2 c =
    let more = greatest_of-append c.self.inside.entries.items (tally_entry c.args.seat c.args.number) in
    let low : c.args.number ≤ c.self.inside.limit = (let l : c.args.number ≤ c.args.self.now.limit = c.requires.limit in let is = ap (λ t. t.limit) c.self.view_is in omega arith) in (
      c.max-self-inside.ensures ∙ ap (λ n. max n c.args.number) c.self.invariant.0 ∙ sym more ∙ ap greatest_of (sym c.in_ok-push.ensures.items),
      omega arith,
    )

pub returns-clause-list : goal.returns-clause-list
returns-clause-list c =
    let x = tally_entry c.args.seat c.args.number in
    (x ∷ [], c.in_ok-push.ensures.items ∙ ap (λ t. t.entries ++ x ∷ []) c.self.view_is, All-cons (λ e. e.seat ≡ c.args.seat) x [] refl (All-nil (λ e. e.seat ≡ c.args.seat)))
