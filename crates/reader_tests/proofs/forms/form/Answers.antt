use Rattle.std.proofs.Common.{◌≡◌, ◌∷◌, [], zero, suc, length, true, subst, ap, arith}
use Rattle.std.specs.Prelude.{Contains}
use Rattle.formulas.specs.declared.entry.Entry.{Entry}
use Rattle.formulas.specs.Bindings.{bindings, all_distinct}
use Rattle.reader_tests.proofs.forms.form.Goals as goal

only_one : (x e : Entry) → Contains (x ∷ []) e → x ≡ e
only_one x e (zero, h, is) = is
only_one x e (suc k, h, is) = absurd (omega (arith, h))

pub clauses_of-requires-clause-numbered : goal.clauses_of-requires-clause-numbered
clauses_of-requires-clause-numbered c = omega (arith, ap length c.in-Ok.ensures)

pub clauses_of-requires-clause-different : goal.clauses_of-requires-clause-different
clauses_of-requires-clause-different c = λ e among.
    let same = only_one _ e (subst (λ es. Contains es e) c.in-Ok.ensures among) in
    subst (λ (f : Entry). all_distinct (bindings f.formula) ≡ true) same (c.bindings_ascend.ensures (c.if-not-bindings_ascend.false))
