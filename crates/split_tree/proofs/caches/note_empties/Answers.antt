use Rattle.std.proofs.Common.{◌≡◌, ◌+◌, ◌∙◌, None, suc, ap, sym, get_or, take, length, refl, arith}
use Rattle.std.proofs.lemmas.Option.{slice_get_read, slice_get-get_or}
use Rattle.split_tree.specs.Caches.{noted_empty, noted_empties}
use Rattle.split_tree.proofs.Empties.{noted-more}
use Rattle.split_tree.proofs.caches.note_empties.Goals as goal

pub loop-k-preserved : goal.loop-k-preserved
loop-k-preserved c =
    let i = c.loop-k.invariant in
    let k = c.loop-k.k in
    let homes = c.args.homes.now in
    let lines = c.args.lines.now in
    let line = c.index-lines-k.result in
    let home = get_or homes k None in
    let old = c.args.empties.now.items in
    let at = slice_get-get_or homes k None (omega (arith, c.requires.each, c.loop-k-test.true)) in
    let got = slice_get_read lines (length lines) k line refl c.loop-k-test.true c.index-lines-k.is in
    let e : suc k ≡ k + 1 = omega arith in
    record {
      items = c.note_empty.ensures.items ∙ (ap (noted_empty home line (c.args.first + k)) i.items ∙ (sym (noted-more c.args.first k homes lines old home line at got) ∙ ap (λ j. noted_empties (take j homes) (take j lines) c.args.first old) e));
      len = c.note_empty.ensures.len ∙ i.len;
      capacity = c.note_empty.ensures.capacity ∙ i.capacity;
    }
