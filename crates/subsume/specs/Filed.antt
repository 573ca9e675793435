-- How an index of clauses is kept.
use Rattle.subsume.specs.declared.index.FeatureIndex.TheInside.{Inside}
use Rattle.subsume.specs.Held.{AreFound}

abbrev pub IsFeatureIndex : Inside → Type 0
IsFeatureIndex i = AreFound i.trie i.slots.items
