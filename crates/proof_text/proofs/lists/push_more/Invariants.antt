use Rattle.std.proofs.Common.{◌≡◌, ◌∷◌, ◌++◌, take}
use Rattle.std.specs.List.{flat_map}
use Rattle.proof_text.proofs.lists.push_more.Given as goal

abbrev pub invariant-loop-item : goal.invariant-loop-item
invariant-loop-item g l = l.out.items ≡ l.fn.out.items ++ flat_map (λ t. 44 ∷ g.T.Printed.text l.signature t) (take l.item-index l.items)
