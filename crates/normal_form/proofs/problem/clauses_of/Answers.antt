use Rattle.std.proofs.Common.{◌≡◌, ◌≤◌, ℕ, List, ◌++◌, None, Some, slice_get, length, map, sym, subst, ◌∙◌}
use Rattle.std.specs.List.{AllByRecursion}
use Rattle.spl_terms.specs.declared.clause.Clause.{Clause}
use Rattle.spl_terms.specs.Clauses.{clause_symbols}
use Rattle.spl_terms.specs.InOrder.{IsInOrder}
use Rattle.spl_symbols.specs.Symbols.{Declared}
use Rattle.spl_symbols.specs.Skolems.{HasSkolems}
use Rattle.formulas.specs.Entries.{entry_formula}
use Rattle.normal_form.specs.NormalForm.{normal_form}
use Rattle.normal_form.specs.Structures.{StandFor}
use Rattle.normal_form.specs.ClauseSets.{all_arities, first_refusal}
use Rattle.normal_form.specs.OfSignature.{AreClausesOf}
use Rattle.normal_form.proofs.Formed.{all_in_order, all_small, each_small}
use Rattle.normal_form.proofs.OfSymbols.{entries_of, has_grown, has_arities}
use Rattle.normal_form.proofs.problem.clauses_of.Goals as goal

pub returns-clause-ordered : goal.returns-clause-ordered
returns-clause-ordered c =
    (let made : c.form_all.new.forming.clauses ≡ normal_form (length c.args.signature) (map entry_formula c.args.entries) =
    c.in-Ok.ensures.formed.clauses ∙ (λ i. c.new.ensures i ++ normal_form (length c.args.signature) (map entry_formula (c.as_slice.ensures i))) in
    subst (AllByRecursion IsInOrder) (sym made) (all_in_order (length c.args.signature) (map entry_formula c.args.entries)))

pub returns-clause-stand : goal.returns-clause-stand
returns-clause-stand c = λ all.
    (let made : c.form_all.new.forming.clauses ≡ normal_form (length c.args.signature) (map entry_formula c.args.entries) =
    c.in-Ok.ensures.formed.clauses ∙ (λ i. c.new.ensures i ++ normal_form (length c.args.signature) (map entry_formula (c.as_slice.ensures i))) in
    subst (λ cs. StandFor (length c.args.signature) cs (map entry_formula c.args.entries)) (sym made) (c.clauses_stand.ensures (length c.args.signature) (map entry_formula c.args.entries) all))

pub returns-clause-of_signature : goal.returns-clause-of_signature
returns-clause-of_signature c = λ all.
    (let made : c.form_all.new.forming.clauses ≡ normal_form (length c.args.signature) (map entry_formula c.args.entries) =
    c.in-Ok.ensures.formed.clauses ∙ (λ i. c.new.ensures i ++ normal_form (length c.args.signature) (map entry_formula (c.as_slice.ensures i))) in
    let old : List Declared = c.args.signature in
    let new : List Declared = c.form_all.new.forming.signature in
    let as' : List ℕ = all_arities (length old) (map entry_formula c.args.entries) in
    let grown : HasSkolems old 1 as' new c.form_all.new.forming.next_name = subst (λ es. HasSkolems old 1 (all_arities (length old) (map entry_formula es)) new c.form_all.new.forming.next_name) c.as_slice.ensures c.in-Ok.ensures.formed.symbols in
    subst (AreClausesOf new) (sym made)
    (entries_of old new (has_grown old 1 as' new c.form_all.new.forming.next_name grown) (length old) c.args.entries all (has_arities old 1 as' new c.form_all.new.forming.next_name grown)))

pub returns-clause-small : goal.returns-clause-small
returns-clause-small c =
    (let made : c.form_all.new.forming.clauses ≡ normal_form (length c.args.signature) (map entry_formula c.args.entries) =
    c.in-Ok.ensures.formed.clauses ∙ (λ i. c.new.ensures i ++ normal_form (length c.args.signature) (map entry_formula (c.as_slice.ensures i))) in
    let none : first_refusal 1 0 (length c.args.signature) (map entry_formula c.args.entries) ≡ None =
    (λ i. first_refusal 1 (length (sym c.new.ensures i)) (length c.args.signature) (map entry_formula (sym c.as_slice.ensures i))) ∙ c.in-Ok.ensures.refused in
    subst (λ cs. (k : ℕ) (d : Clause) → slice_get cs k ≡ Some d → clause_symbols d ≤ 4096) (sym made)
    (each_small (normal_form (length c.args.signature) (map entry_formula c.args.entries)) (all_small 1 0 (length c.args.signature) (map entry_formula c.args.entries) none)))
