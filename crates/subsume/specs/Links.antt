-- How a tree of number lists is kept.
use Rattle.subsume.specs.declared.trie.Trie.TheInside.{Inside}
use Rattle.subsume.specs.Tries.{AreLinked}

abbrev pub IsTrie : Inside → Type 0
IsTrie t = AreLinked t.nodes.items t.firsts.items
