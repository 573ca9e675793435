use Rattle.std.proofs.Common.{◌≡◌, ◌+◌, ◌≤◌, ◌∙◌, ◌++◌, ◌∷◌, [], zero, suc, subst, ap, sym, take, length, arith, refl}
use Rattle.std.proofs.lemmas.Option.{slice_get_read}
use Rattle.spl_terms.specs.Clauses.{clause_symbols}
use Rattle.proof_steps.specs.declared.step.Line.{Line}
use Rattle.case_journal.specs.Journal.{AreSmall, input_line, input_lines}
use Rattle.case_journal.specs.ListLaws.{input_lines-more, AreSmall-append}
use Rattle.split_tree.proofs.table.input_lines.Goals as goal

one_small : (l : Line) → clause_symbols l.stated.clause ≤ 4096 → AreSmall (l ∷ [])
one_small l h zero m e = let q : l ≡ m = cc in subst (λ x. clause_symbols x.stated.clause ≤ 4096) q h
one_small l h (suc k) m e = cc

pub loop-k-preserved : goal.loop-k-preserved
loop-k-preserved c =
    let k = c.loop-k.k in
    let cs = c.args.input.now in
    let x = c.index-input-k.result in
    let got = slice_get_read cs (length cs) k x refl c.loop-k-test.true c.index-input-k.is in
    let e : suc k ≡ k + 1 = omega arith in
    let f : 1 + k ≡ k + 1 = omega arith in
    let more = input_lines-more 1 k cs x got ∙ ap (λ j. input_lines 1 (take k cs) ++ input_line j x ∷ []) f in
    let old = c.loop-k.invariant in
    record {
      is = rw (c.in_ok-push.ensures.ok, c.in_ok-line.ensures.is, c.loop-k.invariant.is) (sym (ap (λ j. input_lines 1 (take j cs)) (sym e) ∙ more));
      small = rw c.in_ok-push.ensures.ok (AreSmall-append c.loop-k.lines (c.in_ok-line.line ∷ []) old.small (one_small c.in_ok-line.line c.in_ok-line.ensures.small));
    }
