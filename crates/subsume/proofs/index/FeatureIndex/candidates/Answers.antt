use Rattle.std.proofs.Common.{sym, subst}
use Rattle.std.specs.Prelude.{Contains}
use Rattle.subsume.specs.Held.{IsInSlot}
use Rattle.subsume.proofs.Pairs.{subsuming_keys, held_keys}
use Rattle.subsume.proofs.index.FeatureIndex.candidates.Goals as goal

pub returns-clause-subsuming : goal.returns-clause-subsuming
returns-clause-subsuming c = λ d k h s.
    subsuming_keys c.self.inside.trie c.self.inside.slots.items c.in_ok-keys.keys.items c.features-limits.result c.args.clause.now c.self.invariant c.features-limits.ensures
    (λ fs slot x j most under is. c.in_ok-keys.ensures.all fs slot x j most under (subst (λ l. IsInSlot l slot x j) (sym c.as_slice.ensures.value) is))
    d k (subst (λ l. Contains l (d, k)) (sym c.self.view_is) h) s

pub returns-clause-held : goal.returns-clause-held
returns-clause-held c = λ k h.
    let r = held_keys c.self.inside.slots.items c.in_ok-keys.keys.items (λ j i. let q = c.in_ok-keys.ensures.held j i in (q.0, q.1, subst (λ l. IsInSlot l q.0 q.1 j) c.as_slice.ensures.value q.2)) k h in
    (r.0, subst (λ l. Contains l (r.0, k)) c.self.view_is r.1)
