use Rattle.std.proofs.Common.{◌≡◌, ◌<◌, Some, Err, sym, subst, ap, ◌∙◌, arith}
use Rattle.std.proofs.lemmas.Option.{same_Some}
use Rattle.std.proofs.lemmas.Result.{IfOk-weaker}
use Rattle.spl_terms.specs.Clauses.{clause_symbols, in_order, FitsOrBig}
use Rattle.formulas.specs.Negations.{Form, signed_form}
use Rattle.formulas.specs.Bindings.{bindings}
use Rattle.normal_form.specs.Skolem.{start}
use Rattle.normal_form.specs.Choices.{literals_chosen}
use Rattle.normal_form.specs.Clausal.{clause_from}
use Rattle.normal_form.specs.Blocks.{place_below}
use Rattle.normal_form.specs.Gathering.{gathered, nothing_gathered, IsGathered}
use Rattle.normal_form.specs.Walking.{AreFresh}
use Rattle.normal_form.proofs.Freshness.{fresh_outside}
use Rattle.normal_form.proofs.Gathered.{in_order-gathered, symbols-gathered}
use Rattle.normal_form.proofs.Choosing.{clause-get}
use Rattle.normal_form.proofs.clause.clause_at.Goals as goal

pub add-requires : goal.add-requires
add-requires c = record {
  can = c.requires.can;
  fresh = subst (λ bs. AreFresh bs (bindings c.args.formula.now)) (sym c.new-walk.ensures.scopes) (fresh_outside (bindings c.args.formula.now) c.requires.different);
}

pub returns-in-Ok-clause-clause : goal.returns-in-Ok-clause-clause
returns-in-Ok-clause-clause c =
    (let f : Form = signed_form c.args.formula.now c.args.sign in
    let none = c.new-walk.ensures.clause in
    let empty : c.new-walk.result.clause ≡ nothing_gathered = λ i. record { constraint = none.0 i; antecedent = none.1 i; succedent = none.2 i } in
    let made = c.in-Ok.ensures.added ∙ (λ i. gathered (empty i) (literals_chosen f (place_below (c.new-walk.ensures.scopes i) c.args.next) c.args.place)) in
    IfOk-weaker c.finished.result _ _ (λ d e. clause-get f c.args.next c.args.place c.requires.can.within
    ∙ ap Some (sym (e ∙ ap in_order made ∙ in_order-gathered (literals_chosen f (start c.args.next) c.args.place)))) c.finished.ensures.clause)

pub returns-in-Ok-clause-big : goal.returns-in-Ok-clause-big
returns-in-Ok-clause-big c = λ d is.
    (let f : Form = signed_form c.args.formula.now c.args.sign in
    let none = c.new-walk.ensures.clause in
    let empty : c.new-walk.result.clause ≡ nothing_gathered = λ i. record { constraint = none.0 i; antecedent = none.1 i; succedent = none.2 i } in
    let made = c.in-Ok.ensures.added ∙ (λ i. gathered (empty i) (literals_chosen f (place_below (c.new-walk.ensures.scopes i) c.args.next) c.args.place)) in
    let same : clause_from (literals_chosen f (start c.args.next) c.args.place) ≡ d = same_Some _ _ (sym (clause-get f c.args.next c.args.place c.requires.can.within) ∙ is) in
    subst (λ n. FitsOrBig n c.finished.result) (ap clause_symbols made ∙ sym (symbols-gathered (literals_chosen f (start c.args.next) c.args.place)) ∙ ap clause_symbols same) c.finished.ensures.big)

pub returns-in-Err-Huge-clause-big : goal.returns-in-Err-Huge-clause-big
returns-in-Err-Huge-clause-big c = λ d is.
    (let f : Form = signed_form c.args.formula.now c.args.sign in
    let none = c.new-walk.ensures.clause in
    let empty : c.new-walk.result.clause ≡ nothing_gathered = λ i. record { constraint = none.0 i; antecedent = none.1 i; succedent = none.2 i } in
    let whole : gathered c.new-walk.result.clause (literals_chosen f (place_below c.new-walk.result.scopes c.args.next) c.args.place) ≡ gathered nothing_gathered (literals_chosen f (start c.args.next) c.args.place) = λ i. gathered (empty i) (literals_chosen f (place_below (c.new-walk.ensures.scopes i) c.args.next) c.args.place) in
    let same : clause_from (literals_chosen f (start c.args.next) c.args.place) ≡ d = same_Some _ _ (sym (clause-get f c.args.next c.args.place c.requires.can.within) ∙ is) in
    let count : clause_symbols (gathered c.new-walk.result.clause (literals_chosen f (place_below c.new-walk.result.scopes c.args.next) c.args.place)) ≡ clause_symbols d = ap clause_symbols whole ∙ sym (symbols-gathered (literals_chosen f (start c.args.next) c.args.place)) ∙ ap clause_symbols same in
    let more : 1000000 < clause_symbols d = subst (λ n. 1000000 < n) count (subst (λ s. IsGathered {T = Unit {0}} (gathered c.new-walk.result.clause (literals_chosen f (place_below c.new-walk.result.scopes c.args.next) c.args.place)) c.add.new.walk.clause (Err s)) c.in-Err-Huge.field-0-is c.in-Err-Huge.ensures.added) in
    (omega arith, omega arith))
