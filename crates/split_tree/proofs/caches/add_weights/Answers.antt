use Rattle.std.specs.Prelude.{min}
use Rattle.std.proofs.Common.{◌≡◌, ◌+◌, ◌∙◌, ◌++◌, ◌∷◌, [], suc, ap, sym, take, length, append_assoc, arith, refl}
use Rattle.std.proofs.lemmas.Option.{slice_get_read}
use Rattle.spl_terms.specs.Clauses.{clause_symbols}
use Rattle.split_tree.specs.Caches.{weights}
use Rattle.split_tree.proofs.Lists.{weights-more}
use Rattle.split_tree.proofs.caches.add_weights.Goals as goal

pub loop-k-preserved : goal.loop-k-preserved
loop-k-preserved c =
    let i = c.loop-k.invariant in
    let k = c.loop-k.k in
    let lines = c.args.lines.now in
    let line = c.index-lines-k.result in
    let base = c.args.list.now.items in
    let got = slice_get_read lines (length lines) k line refl c.loop-k-test.true c.index-lines-k.is in
    let small = c.requires.small k line got in
    let w : c.symbols_of.result ≡ clause_symbols line.stated.clause = c.symbols_of.ensures ∙ (ap (λ x. min (clause_symbols x.stated.clause) 18446744073709551615) (sym c.index-lines-k.is) ∙ omega (arith, small)) in
    let e : suc k ≡ k + 1 = omega arith in
    let more : weights (take (k + 1) lines) ≡ weights (take k lines) ++ clause_symbols line.stated.clause ∷ [] =
    ap (λ j. weights (take j lines)) (sym e) ∙ weights-more k lines line got in
    record {
      items = c.push_reserved.ensures.items ∙ (ap (λ ys. ys ++ c.symbols_of.result ∷ []) i.items ∙ (ap (λ x. (base ++ weights (take k lines)) ++ x ∷ []) w ∙ (append_assoc base (weights (take k lines)) (clause_symbols line.stated.clause ∷ []) ∙ ap (λ ys. base ++ ys) (sym more))));
      len = omega (arith, c.push_reserved.ensures.len, i.len);
      capacity = c.push_reserved.ensures.capacity ∙ i.capacity;
    }
