use Rattle.subsume.proofs.Pairs.{emptied_found, answers_not, answers_removed}
use Rattle.subsume.proofs.index.FeatureIndex.remove.Goals as goal

pub invariant_of-self : goal.invariant_of-self
invariant_of-self c = emptied_found c.self.inside.slots.items c.in-Some.slot c.self.inside.trie c.self.invariant

pub returns-in-None : goal.returns-in-None
returns-in-None c = answers_not c.self.inside.slots.items _ c.args.self.now c.args.clause.now c.args.key c.as_slice.ensures.value c.self.view_is c.in-None.ensures

pub returns-in-Some : goal.returns-in-Some
returns-in-Some c = answers_removed c.self.inside.slots.items _ c.args.self.now c.args.clause.now c.args.key c.as_slice.ensures.value c.self.view_is c.self.inside.trie c.in-Some.slot c.self.invariant c.in-Some.ensures
