use Rattle.std.proofs.Common.{◌≡◌, ◌+◌, ◌∷◌, ◌++◌, ℕ, List, length, map, drop, None, sym, subst, ap, ◌∙◌, arith}
use Rattle.spl_symbols.specs.Skolems.{HasSkolems}
use Rattle.formulas.specs.declared.tree.Tree.{Tree}
use Rattle.formulas.specs.declared.entry.Entry.{Entry}
use Rattle.formulas.specs.Entries.{entry_formula}
use Rattle.formulas.specs.Negations.{form}
use Rattle.formulas.specs.Counts.{existentials}
use Rattle.normal_form.specs.declared.forming.Forming.{Forming}
use Rattle.normal_form.specs.NormalForm.{normal_form}
use Rattle.normal_form.specs.ClauseSets.{all_arities, origins_from, form_refusal, first_refusal, HasFormed}
use Rattle.normal_form.proofs.Formed.{dropped, read_there, entry_form, clauses_next, origins_next, symbols_next, refused_next, refused_here, refused_too}
use Rattle.normal_form.proofs.forming.form_all.Goals as goal

pub returns-in-Err-clause-refused : goal.returns-in-Err-clause-refused
returns-in-Err-clause-refused c =
    (let old : Forming = c.loop-entry.forming in
    let e : Entry = c.entry-item.result in
    let n : ℕ = c.loop-entry.number + 1 in
    let fs : List Tree = map entry_formula (drop (c.loop-entry.entry-index + 1) c.args.entries.now) in
    let left : map entry_formula (drop c.loop-entry.entry-index c.args.entries.now) ≡ entry_formula e ∷ fs =
    ap (map entry_formula) (dropped c.args.entries.now c.loop-entry.entry-index e (read_there c.args.entries.now c.loop-entry.entry-index e c.loop-entry-test.true c.entry-item.is)) in
    refused_too c.in-Err.error _ _
    (λ x h. sym c.loop-entry.invariant.refused ∙ ap (first_refusal n (length old.clauses) (length old.signature)) left
    ∙ refused_here n (length old.clauses) (length old.signature) (entry_formula e) fs x (ap (form_refusal n (length old.clauses) (length old.signature)) (entry_form e) ∙ h))
    c.in-Err.ensures.refused)

pub loop-entry-preserved : goal.loop-entry-preserved
loop-entry-preserved c =
    (let old : Forming = c.loop-entry.forming in
    let mid : Forming = c.form_entry.new.forming in
    let e : Entry = c.entry-item.result in
    let n : ℕ = c.loop-entry.number + 1 in
    let f : Tree = entry_formula e in
    let fs : List Tree = map entry_formula (drop (c.loop-entry.entry-index + 1) c.args.entries.now) in
    let left : map entry_formula (drop c.loop-entry.entry-index c.args.entries.now) ≡ f ∷ fs =
    ap (map entry_formula) (dropped c.args.entries.now c.loop-entry.entry-index e (read_there c.args.entries.now c.loop-entry.entry-index e c.loop-entry-test.true c.entry-item.is)) in
    let formed : HasFormed old mid n (form f) = subst (HasFormed old mid n) (sym (entry_form e)) c.in-Ok.ensures.formed in
    let more : length mid.signature ≡ length old.signature + existentials (form f) = c.in-Ok.ensures.more ∙ ap (λ g. length old.signature + existentials g) (sym (entry_form e)) in
    let none : form_refusal n (length old.clauses) (length old.signature) (form f) ≡ None = ap (form_refusal n (length old.clauses) (length old.signature)) (entry_form e) ∙ c.in-Ok.ensures.refused in
    record {
      number = omega (arith, c.loop-entry.invariant.number);
      limits = c.in-Ok.ensures.limits;
      symbols = λ new to g. c.loop-entry.invariant.symbols new to (subst (λ l. HasSkolems old.signature old.next_name (all_arities (length old.signature) l) new to) (sym left) (symbols_next old mid n f fs formed more new to g));
      clauses = clauses_next old mid n f fs formed more ∙ ap (λ l. old.clauses ++ normal_form (length old.signature) l) (sym left) ∙ c.loop-entry.invariant.clauses;
      origins = origins_next old mid n f fs formed more ∙ ap (λ l. old.origins ++ origins_from n l) (sym left) ∙ c.loop-entry.invariant.origins;
      refused = refused_next old mid n f fs formed more none ∙ ap (first_refusal n (length old.clauses) (length old.signature)) (sym left) ∙ c.loop-entry.invariant.refused;
    })
