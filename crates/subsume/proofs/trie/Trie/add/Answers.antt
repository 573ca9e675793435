use Rattle.std.proofs.Common.{rules, ◌∙◌, ◌++◌, ◌∷◌, [], ◌<◌, ap, subst, length, arith}
use Rattle.std.proofs.Common.{List}
use Rattle.subsume.specs.declared.trie.Node.{Node}
use Rattle.subsume.specs.Tries.{IsChildFor, Grows}
use Rattle.subsume.proofs.Paths.{node_added, node_is_child, nodes_grow, read_at}
use Rattle.subsume.proofs.trie.Trie.add.Goals as goal

pub invariant_of-self-2 : goal.invariant_of-self-2
invariant_of-self-2 c =
    let low : c.args.n < length c.self.inside.nodes.items = omega (arith, c.requires.there, ap length c.self.view_is) in
    node_added c.self.inside.nodes.items c.push_reserved.new.self.items c.self.inside.firsts.items c.args.n c.args.count c.len-place.result c.index-sibling.result.now c.self.invariant low
    (λ m h. c.requires.none m (subst (λ l. IsChildFor l c.args.n c.args.count m) c.self.view_is h))
    (search rules)
    (read_at c.self.inside.firsts.items c.args.n c.index-sibling.result.now (omega (arith, low, c.self.invariant.as_many)) c.index-sibling.ensures)
    (c.push_reserved.ensures.items ∙ ap (λ (l : List Node). l ++ record { parent = c.args.n; count = c.args.count; sibling = c.index-sibling.result.now } ∷ []) c.in_ok-reserve.ensures.items)
    c.push_reserved-2.new.self.items
    (c.push_reserved-2.ensures.items ∙ ap (λ l. l ++ 0 ∷ []) c.in_ok-reserve-2.ensures.items)

pub returns-clause-grown : goal.returns-clause-grown
returns-clause-grown c =
    let low : c.args.n < length c.self.inside.nodes.items = omega (arith, c.requires.there, ap length c.self.view_is) in
    subst (λ l. Grows l c.push_reserved.new.self.items) c.self.view_is
    (nodes_grow c.self.inside.nodes.items c.push_reserved.new.self.items c.self.inside.firsts.items c.args.n c.args.count c.len-place.result c.index-sibling.result.now c.self.invariant low
    (λ m h. c.requires.none m (subst (λ l. IsChildFor l c.args.n c.args.count m) c.self.view_is h))
    (search rules)
    (read_at c.self.inside.firsts.items c.args.n c.index-sibling.result.now (omega (arith, low, c.self.invariant.as_many)) c.index-sibling.ensures)
    (c.push_reserved.ensures.items ∙ ap (λ (l : List Node). l ++ record { parent = c.args.n; count = c.args.count; sibling = c.index-sibling.result.now } ∷ []) c.in_ok-reserve.ensures.items))

pub returns-clause-child : goal.returns-clause-child
returns-clause-child c =
    let low : c.args.n < length c.self.inside.nodes.items = omega (arith, c.requires.there, ap length c.self.view_is) in
    node_is_child c.self.inside.nodes.items c.push_reserved.new.self.items c.self.inside.firsts.items c.args.n c.args.count c.len-place.result c.index-sibling.result.now c.self.invariant low
    (λ m h. c.requires.none m (subst (λ l. IsChildFor l c.args.n c.args.count m) c.self.view_is h))
    (search rules)
    (read_at c.self.inside.firsts.items c.args.n c.index-sibling.result.now (omega (arith, low, c.self.invariant.as_many)) c.index-sibling.ensures)
    (c.push_reserved.ensures.items ∙ ap (λ (l : List Node). l ++ record { parent = c.args.n; count = c.args.count; sibling = c.index-sibling.result.now } ∷ []) c.in_ok-reserve.ensures.items)
