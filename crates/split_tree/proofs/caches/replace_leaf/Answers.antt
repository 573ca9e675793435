use Rattle.std.proofs.Common.{◌≡◌, ◌+◌, ◌∙◌, suc, length, refl, sym, ap, arith, inl, inr}
use Rattle.std.specs.Prelude.{insert, slice_set}
use Rattle.std.specs.List.{slice_get}
use Rattle.std.proofs.lemmas.Bool.{cases_lt}
use Rattle.std.proofs.lemmas.Option.{slice_get_read}
use Rattle.case_journal.specs.Paths.{replaced}
use Rattle.split_tree.proofs.Lists.{replaced_at, replaced_none}
use Rattle.split_tree.proofs.caches.replace_leaf.Goals as goal

pub returns-then-index-leaf-clause-items : goal.returns-then-index-leaf-clause-items
returns-then-index-leaf-clause-items c =
    let i = c.loop-place.invariant in
    let xs = c.loop-place.leaves.items in
    let at = c.loop-place.place in
    let got = slice_get_read xs (length xs) at c.index.result.now refl (omega (arith, c.loop-place.leaves.ok.0, c.loop-place-test.true, c.len-place-end.ensures, i.len)) c.index.ensures in
    let e : at + 1 ≡ suc at = omega arith in
    c.insert_reserved.ensures.items
    ∙ (ap (λ j. insert (slice_set xs at c.args.count) j (c.args.count + 1)) e
    ∙ (replaced_at c.args.leaf c.args.count at xs c.index.result.now got c.if-index-leaf.true i.none
    ∙ ap (replaced c.args.leaf c.args.count) i.items))

pub loop-place-preserved : goal.loop-place-preserved
loop-place-preserved c =
    let i = c.loop-place.invariant in
    let xs = c.loop-place.leaves.items in
    let at = c.loop-place.place in
    let got = slice_get_read xs (length xs) at c.index.result.now refl (omega (arith, c.loop-place.leaves.ok.0, c.loop-place-test.true, c.len-place-end.ensures, i.len)) c.index.ensures in
    record {
      items = i.items;
      capacity = i.capacity;
      len = i.len;
      none = λ k x low g e. elim (cases_lt k at) [
        | inl l ↦ i.none k x l g e
        | inr r ↦
            let q : k ≡ at = omega arith in
            let same = ap (slice_get xs) q in
            c.if-index-leaf.false (cc)
      ];
    }

pub returns-clause-items : goal.returns-clause-items
returns-clause-items c =
    let i = c.loop-place.invariant in
    let xs = c.loop-place.leaves.items in
    sym (replaced_none c.args.leaf c.args.count xs (λ k x low g. i.none k x (omega (arith, c.loop-place.leaves.ok.0, c.loop-place-test.false, c.len-place-end.ensures, i.len)) g))
    ∙ ap (replaced c.args.leaf c.args.count) i.items
