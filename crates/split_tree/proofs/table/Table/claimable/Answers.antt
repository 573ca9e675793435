use Rattle.std.specs.Prelude.{MatchBool}
use Rattle.std.proofs.Common.{◌≡◌, ◌≤◌, ◌∙◌, ℕ, Bool, true, false, Some, sym}
use Rattle.case_journal.specs.Paths.{is_leaf}
use Rattle.case_journal.specs.Facts.{claimed, IsLive}
use Rattle.case_journal.specs.Legal.{IsClaimable}
use Rattle.case_journal.specs.LeafLaws.{claimer_within}
use Rattle.split_tree.proofs.table.Table.claimable.Goals as goal

matched : (b : Bool) (P Q R S : Type 0) → MatchBool b P Q → (P → R) → (Q → S) → MatchBool b R S
matched true P Q R S h f g = f h
matched false P Q R S h f g = g h

pub returns : goal.returns
returns c =
    let s = c.args.self.now.setting in
    let p = c.args.self.now.past in
    let node = c.args.node in
    let leaf : is_leaf p node ≡ true = sym c.leaf.ensures ∙ c.if-not-leaf.false in
    let live : IsLive s p node = c.if-not-live.ensures in
    matched c.unclaimed.result ((w : ℕ) → 1 ≤ w → w ≤ s.workers → ¬ (claimed p w ≡ Some node)) ((w : ℕ) × (claimed p w ≡ Some node)) (IsClaimable s p node) (¬ IsClaimable s p node) c.unclaimed.ensures
    (λ none. record {
      there = c.requires;
      leaf = leaf;
      live = live;
      free = λ v h. let r = claimer_within s p c.journal_is_legal.ensures v node h.claims in none v r.0 r.1 h.claims;
    })
    (λ one k. k.free one.0 (record { claims = one.1; leaf = leaf; live = live }))
